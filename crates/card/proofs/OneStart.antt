-- Document 02, E7: "For each mode the new call gives what the old one gave, in every state": the number, the record's bytes and both buffers, for any bytes of
-- a record and any lent bytes. "The ground machine has no downstream mode": there mode dsc answers 2 where the old call answered 3, and nothing else is otherwise. Since document 02's E9 a
-- start brings a dialogue number v. Where it is above the one that the record holds, the call does what it did; a mode that the machine has not is refused for any v.
-- Assumes nothing.
use mathlib.Core.Path.{◌≡◌, refl, ap, sym, ◌∙◌}
use mathlib.Core.Bool.{Bool, true, false, not, cond, ◌&&◌}
use mathlib.Core.List.{List}
use Prim.Native.Nat.{ℕ, ◌≤◌}
use borrow.Author.Tests.{le-ltb}
use lib.Dec.{eqb, ltb}
use lib.ListN.{length}
use Rattle.words.specs.Limits.{room, shape}
use Rattle.apdu.specs.Sizes.{buffer_least}
use Rattle.apdu.specs.Pdus.{lent}
use Rattle.codec.specs.Codec.{given_fits}
use Rattle.apdu.specs.declared.Data.{Data}
use Rattle.control.specs.Control.{is_idle}
use Rattle.control.specs.declared.Side.{Side}
use Rattle.control.specs.declared.Side.TheVariants.{Air, Ground}
use Rattle.machine.specs.Codes.{dsc_mode, modes}
use Rattle.machine.specs.Event.{has_mode, user_fits, event_fits}
use Rattle.machine.specs.Outcome.{is_none, refused, refusal_number}
use Rattle.machine.specs.Calls.{call_of, unsent}
use Rattle.machine.specs.Calls as clause
use Rattle.machine.specs.Step.{permitted, message_refusal, refusal_of, acts, step}
use Rattle.clauses.proofs.Clauses.{cpdlc_mode}
use Rattle.machine.specs.declared.record.Record.{Record}
use Rattle.machine.specs.declared.event.UserPrimitive.TheVariants.{StartServiceRequest}
use Rattle.machine.specs.declared.event.Event.{Event}
use Rattle.machine.specs.declared.event.Event.TheVariants.{User}
use Rattle.machine.specs.declared.outcome.StepRefusal.TheVariants.{Shape, Prohibited}
use Rattle.machine.specs.declared.outcome.Outcome.{Outcome}
use Rattle.numbered.specs.Numbers.{user_starts, is_start, is_stale, held_after, numbered_step}
use Rattle.numbered.proofs.Laws.{shape_first, then_step}
use Rattle.stored.specs.Stored.{load_at, is_stored}
use Rattle.step.specs.Call.{Called, called, carries_data, pdus_of, concluded, with_record, entering, user_step, user_by}
use Rattle.step.proofs.Taken.{never}
use Rattle.card.specs.Face.{given_data, numbered_call}
use Rattle.card.proofs.Before.{codes_before, step_before, user_step_before, cpdlc_start_before, dsc_start_before}
use Rattle.std.specs.Prelude.{None, Some, Option}
use Rattle.stored.specs.declared.Stored.{Stored}

-- ---- the step of either machine

cpdlc_step : (sd : Side) (x : Record) (k s : ℕ) → step sd x (User (StartServiceRequest cpdlc_mode k s)) ≡ step_before sd x false k s
unfolding step refusal_of event_fits user_fits has_mode permitted call_of message_refusal unsent acts clause.called
cpdlc_step Air x k s = refl
cpdlc_step Ground x k s = refl

dsc_step : (x : Record) (k s : ℕ) → step Air x (User (StartServiceRequest dsc_mode k s)) ≡ step_before Air x true k s
unfolding step refusal_of event_fits user_fits has_mode permitted call_of message_refusal unsent acts clause.called
dsc_step x k s = refl

-- the old DSC-start request had no action at the ground machine
ground_step : (x : Record) (k s : ℕ) → step_before Ground x true k s ≡ refused (cond (codes_before k s) (Some Prohibited) (Some Shape)) x
ground_step x k s = go (codes_before k s) (is_idle x.control)
  where
    go : (t i : Bool)
        → cond (is_none (cond (not t) (Some Shape) (cond (not (i && false)) (Some Prohibited) None))) (clause.start_request x true k s) (refused (cond (not t) (Some Shape) (cond (not (i && false)) (Some Prohibited) None)) x) ≡ refused (cond t (Some Prohibited) (Some Shape)) x
    go true true = refl
    go true false = refl
    go false i = refl

-- ---- what stands around it: ROOM, and bytes that are no record

-- the record that the bytes say, if they say one, decides
entering_same : (r a b : List ℕ) (k l : Side → Record → ℕ → Called)
    → ((sd : Side) (x : Record) (n : ℕ) → load_at r ≡ is_stored sd x n → k sd x n ≡ l sd x n)
    → entering r a b k ≡ entering r a b l
unfolding entering with_record
entering_same r a b k l h =
    ap (λ (z : Called). cond (ltb (length a) buffer_least) (called room r a b)
    (cond (ltb (length b) buffer_least) (called room r a b) z)) (same (load_at r) refl)
  where
    same : (v : Option Stored) → load_at r ≡ v → with_record r a b v k ≡ with_record r a b v l
    same (Some z) e = h z.side z.machine z.number e
    same None e = refl

-- the bytes are those of a ground machine's record
abbrev is_ground : Side → Bool
is_ground Air = false
is_ground Ground = true

abbrev ground_in : Option Stored → Bool
ground_in (Some z) = is_ground z.side
ground_in None = false

abbrev pub at_ground : List ℕ → Bool
at_ground r = ground_in (load_at r)

-- the number is above the one that the record holds, if the bytes are a record
abbrev below_in : Option Stored → ℕ → Bool
below_in (Some z) v = ltb z.number v
below_in None v = true

abbrev pub is_above : List ℕ → ℕ → Bool
is_above r v = below_in (load_at r) v

-- 2 where a call answered 3; the rest is the same
abbrev pub shape_for_prohibited : Called → Called
shape_for_prohibited x = called (cond (eqb x.number (refusal_number (Some Prohibited))) shape x.number) x.kept x.first x.second

shape_entering : (r a b : List ℕ) (k : Side → Record → ℕ → Called)
    → shape_for_prohibited (entering r a b k) ≡ entering r a b (λ (sd : Side) (x : Record) (n : ℕ). shape_for_prohibited (k sd x n))
unfolding entering with_record
shape_entering r a b k = go (ltb (length a) buffer_least) (ltb (length b) buffer_least) (load_at r)
  where
    go : (f g : Bool) (v : Option Stored)
        → shape_for_prohibited (cond f (called room r a b) (cond g (called room r a b) (with_record r a b v k))) ≡ cond f (called room r a b) (cond g (called room r a b) (with_record r a b v (λ (sd : Side) (x : Record) (n : ℕ). shape_for_prohibited (k sd x n))))
    go true g v = refl
    go false true v = refl
    go false false (Some z) = refl
    go false false None = refl

-- ROOM, or else SHAPE, whatever the record is
abbrev pub room_or_shape : List ℕ → List ℕ → List ℕ → Called
room_or_shape r a b = cond (ltb (length a) buffer_least) (called room r a b)
    (cond (ltb (length b) buffer_least) (called room r a b) (called shape r a b))

entering_shape : (r a b : List ℕ) → entering r a b (λ (sd : Side) (x : Record) (n : ℕ). called shape r a b) ≡ room_or_shape r a b
unfolding entering with_record
entering_shape r a b =
    ap (λ (z : Called). cond (ltb (length a) buffer_least) (called room r a b)
    (cond (ltb (length b) buffer_least) (called room r a b) z)) (either (load_at r))
  where
    either : (v : Option Stored) → with_record r a b v (λ (sd : Side) (x : Record) (n : ℕ). called shape r a b) ≡ called shape r a b
    either (Some z) = refl
    either None = refl

-- ---- the exported call. v: the dialogue number that the start brings

module _ (r a b : List ℕ) (v k s : ℕ) (ids msgs : List ℕ) (n : ℕ) (checks : List ℕ) (c : ℕ) where
  abbrev given : Data
  given = given_data (length ids) n c

  abbrev placed_fits : Side → Record → Bool
  placed_fits sd x = given_fits x.edition (pdus_of sd) (lent ids) (lent msgs) (lent checks) given

  -- what the message data and an outcome make of a call
  abbrev with_data : Side → Record → Outcome → Called
  with_data sd x o = cond (placed_fits sd x)
      (concluded r a b x.edition sd v o (lent ids) (lent msgs) (lent checks) (carries_data given))
      (called shape r a b)

  abbrev start : ℕ → Event
  start m = User (StartServiceRequest m k s)

  abbrev now_step : ℕ → Side → Record → ℕ → Called
  now_step m = user_step numbered_step r a b (start m) v (lent ids) (lent msgs) (lent checks) given

  abbrev old_step : Bool → Side → Record → ℕ → Called
  old_step m = user_step_before r a b v m k s (lent ids) (lent msgs) (lent checks) given

  -- a start leaves its number
  now_is : (m : ℕ) (sd : Side) (x : Record) (h : ℕ) → now_step m sd x h ≡ with_data sd x (numbered_step sd x h (start m) v)
  unfolding user_step held_after is_start user_starts
  now_is m sd x h = refl

  -- one that is not stale is the machine's
  above_step : (m : ℕ) (sd : Side) (x : Record) (h : ℕ) → ltb h v ≡ true → numbered_step sd x h (start m) v ≡ step sd x (start m)
  unfolding is_stale is_start user_starts
  above_step m sd x h u = then_step sd x h (start m) v (rw u)

  above_at : (sd : Side) (x : Record) (h : ℕ) → is_above r v ≡ true → load_at r ≡ is_stored sd x h → ltb h v ≡ true
  above_at sd x h u e = sym (ap (λ (z : Option Stored). below_in z v) e) ∙ u

  -- mode cpdlc, at both machines
  pub cpdlc_as_before : is_above r v ≡ true
      → numbered_call r a b (StartServiceRequest cpdlc_mode k s) v ids msgs n checks c ≡ cpdlc_start_before r a b v k s ids msgs n checks c
  unfolding user_by
  cpdlc_as_before u = entering_same r a b (now_step cpdlc_mode) (old_step false) (λ sd x h e. now_is cpdlc_mode sd x h ∙
      ap (with_data sd x) (above_step cpdlc_mode sd x h (above_at sd x h u e) ∙ cpdlc_step sd x k s))

  -- mode dsc, but for a record of the ground machine
  pub dsc_as_before : is_above r v ≡ true → at_ground r ≡ false
      → numbered_call r a b (StartServiceRequest dsc_mode k s) v ids msgs n checks c ≡ dsc_start_before r a b v k s ids msgs n checks c
  unfolding user_by
  dsc_as_before u g = entering_same r a b (now_step dsc_mode) (old_step true) same
    where
      same : (sd : Side) (x : Record) (h : ℕ) → load_at r ≡ is_stored sd x h → now_step dsc_mode sd x h ≡ old_step true sd x h
      same Air x h e = now_is dsc_mode Air x h ∙ ap (with_data Air x) (above_step dsc_mode Air x h (above_at Air x h u e) ∙ dsc_step x k s)
      same Ground x h e = never (sym g ∙ ap ground_in e)

  -- a mode that the machine has not is SHAPE, before STALE
  shape_at : (m : ℕ) (sd : Side) (x : Record) (h : ℕ) → event_fits sd x.edition (start m) ≡ false
      → now_step m sd x h ≡ with_data sd x (refused (Some Shape) x)
  shape_at m sd x h e = now_is m sd x h ∙ ap (with_data sd x) (shape_first sd x h (start m) v e)

  ground_shape : (x : Record) → event_fits Ground x.edition (start dsc_mode) ≡ false
  unfolding event_fits user_fits has_mode
  ground_shape x = refl

  mode_shape : (sd : Side) (x : Record) (m : ℕ) → modes ≤ m → event_fits sd x.edition (start m) ≡ false
  unfolding event_fits user_fits has_mode
  mode_shape sd x m l = rw (le-ltb m modes l)

  -- mode dsc at the ground machine
  pub dsc_at_the_ground : at_ground r ≡ true
      → numbered_call r a b (StartServiceRequest dsc_mode k s) v ids msgs n checks c ≡ shape_for_prohibited (dsc_start_before r a b v k s ids msgs n checks c)
  unfolding user_by concluded
  dsc_at_the_ground g = entering_same r a b (now_step dsc_mode)
      (λ (sd : Side) (x : Record) (h : ℕ). shape_for_prohibited (old_step true sd x h)) moved ∙ sym
      (shape_entering r a b (old_step true))
    where
      refuses : (d t : Bool) (x : Record)
          → cond d (concluded r a b x.edition Ground v (refused (Some Shape) x) (lent ids) (lent msgs) (lent checks) (carries_data given)) (called shape r a b) ≡ shape_for_prohibited (cond d (concluded r a b x.edition Ground v (refused (cond t (Some Prohibited) (Some Shape)) x) (lent ids) (lent msgs) (lent checks) (carries_data given)) (called shape r a b))
      refuses true true x = refl
      refuses true false x = refl
      refuses false t x = refl

      moved : (sd : Side) (x : Record) (h : ℕ) → load_at r ≡ is_stored sd x h → now_step dsc_mode sd x h ≡ shape_for_prohibited (old_step true sd x h)
      moved Air x h e = never (sym (ap ground_in e) ∙ g)
      moved Ground x h e =
          shape_at dsc_mode Ground x h (ground_shape x) ∙ refuses (placed_fits Ground x) (codes_before k s) x ∙ ap
          (λ (o : Outcome). shape_for_prohibited (with_data Ground x o)) (sym (ground_step x k s))

  -- so it is refused there in every state, after ROOM
  pub dsc_refused_at_the_ground : at_ground r ≡ true
      → numbered_call r a b (StartServiceRequest dsc_mode k s) v ids msgs n checks c ≡ room_or_shape r a b
  unfolding user_by concluded
  dsc_refused_at_the_ground g = entering_same r a b (now_step dsc_mode)
      (λ (sd : Side) (x : Record) (h : ℕ). called shape r a b) refuses ∙ entering_shape r a b
    where
      either : (d : Bool) (x : Record)
          → cond d (concluded r a b x.edition Ground v (refused (Some Shape) x) (lent ids) (lent msgs) (lent checks) (carries_data given)) (called shape r a b) ≡ called shape r a b
      either true x = refl
      either false x = refl

      refuses : (sd : Side) (x : Record) (h : ℕ) → load_at r ≡ is_stored sd x h → now_step dsc_mode sd x h ≡ called shape r a b
      refuses Air x h e = never (sym (ap ground_in e) ∙ g)
      refuses Ground x h e = shape_at dsc_mode Ground x h (ground_shape x) ∙ either (placed_fits Ground x) x

  -- a code that is no mode: refused for any record, of either machine, after ROOM
  pub no_other_mode : (m : ℕ) → modes ≤ m → numbered_call r a b (StartServiceRequest m k s) v ids msgs n checks c ≡ room_or_shape r a b
  unfolding user_by concluded
  no_other_mode m l = entering_same r a b (now_step m) (λ (sd : Side) (x : Record) (h : ℕ). called shape r a b)
      (λ sd x h e. shape_at m sd x h (mode_shape sd x m l) ∙ either sd (placed_fits sd x) x) ∙ entering_shape r a b
    where
      either : (sd : Side) (d : Bool) (x : Record)
          → cond d (concluded r a b x.edition sd v (refused (Some Shape) x) (lent ids) (lent msgs) (lent checks) (carries_data given)) (called shape r a b) ≡ called shape r a b
      either sd true x = refl
      either sd false x = refl
