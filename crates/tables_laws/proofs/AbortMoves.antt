-- An abort of the user, t-start, a system error: where the tables answer 0, they follow the model.
-- Assumes nothing.
use mathlib.Core.Path.{◌≡◌, refl, ap, sym, subst, fun_ext, ◌∙◌}
use mathlib.Core.Bool.{Bool, true, false, not, cond, ◌||◌}
use mathlib.Core.List.{List, [], ◌∷◌}
use Prim.Native.Nat.{ℕ, suc}
use native.Mathlib.Omega.{arith}
use lib.Dec.{eqb}
use lib.ListN.{get_or}
use Rattle.pair.specs.Names.{Side, other, Call, UserAbort, TimerExpiry, SystemError, DAbort, closed, takes}
use Rattle.pair.specs.Carrier.{Body, user_call, timer_expires_of, error_reported}
use Rattle.pair.specs.Numbered.{Numbered, mark, starter, n_cut}
use Rattle.pair.proofs.ControlMachine.{Held, ent, Ask, ask}
use Rattle.duties.specs.Memory.{Decision, tells, told_broken}
use Rattle.duties.specs.Host.{up, Act, happens}
use Rattle.moves.specs.declared.Held.{Held as Holds}
use Rattle.moves.specs.declared.Done.TheVariants.{Aborts}
use Rattle.moves.specs.Machine.{called_of, holding as record_of}
use Rattle.moves_laws.specs.Pages.{Beside}
use Rattle.moves_laws.proofs.Steps.{M, Page, page}
use Rattle.moves_laws.proofs.Events.{abort_lands, expiry_lands, error_lands}
use Rattle.tables.specs.Tables.{held_in}
use Rattle.tables.specs.Steps.{Two, two, is_up_of, is_down, ready_rule, aborted, call_done, made_call, reported}
use Rattle.tables.specs.Steps as steps
use Rattle.tables_laws.proofs.Reading.{line_of, notes_of, page_of, broken_of, Sound, Counted}
use Rattle.tables_laws.proofs.Follow.{past, first_rule_is, page_path, move_of, Lands1, one_act, no_act, as_pages, Follows}
use Rattle.tables_laws.proofs.HostMoves.{up_power}
use Rattle.tables_laws.proofs.Lines.{ready_is}
use Rattle.tables_laws.proofs.JobMoves.{ready_page}
use Rattle.tables_laws.proofs.Cuts.{aborts_one}
use Rattle.std.specs.Prelude.{None, Some}

abbrev rule2 : Two → ℕ
rule2 o = o.rule

module _ (text : Side → ℕ → Body) (fresh : Side → Numbered Held) (from : Side) (sd : Side) (d e : ℕ → Decision) (l z b : List ℕ) (s : Sound d l) (t : Sound e z) (k : Counted b) where
  abbrev far₀ : Page
  far₀ = page_of text (other sd) e z

  abbrev before₀ : Page
  before₀ = page (held_in l) (line_of text sd l) (notes_of text d l) (get_or l 6 0) false up

  -- the record that an abort leaves
  abbrev after₀ : Holds
  after₀ = record_of closed (held_in l).number (held_in l).highest

  abbrev left₀ : ℕ → Page
  left₀ most = page after₀ (n_cut M most (line_of text sd l) (mark (held_in l).number (ent DAbort [])))
      (tells told_broken (notes_of text d l)) (suc (get_or l 6 0)) false up

  abbrev broke_too : ℕ → Bool
  broke_too j = eqb (held_in l).number j || broken_of b j

  aborts_follow : (a : Act (Numbered Ask)) (most : ℕ) → ready_rule l ≡ 0
      → Lands1 text fresh from sd before₀ far₀ (broken_of b) a (left₀ most) far₀ broke_too
      → (aborted l b after₀ most).rule ≡ 0 → Follows text fresh from sd d e l z b (aborted l b after₀ most).here z
      (aborted l b after₀ most).broken
  aborts_follow a most ready w h =
      let o = aborts_one text sd d l b after₀ most s k h in
      let v = ready_is l ready in
      let m : List ℕ = (aborted l b after₀ most).here in
      let c : List ℕ = (aborted l b after₀ most).broken in
      record {
        moves = move_of text fresh from sd a ∷ [];
        then = d;
        near = o.sound;
        far = t;
        counted = o.breaks.counted;
        makes =
            as_pages text fresh from sd (move_of text fresh from sd a ∷ []) (page_of text sd d l) before₀ far₀ far₀
            (page_of text sd d m) (left₀ most) far₀ far₀ (broken_of b) (broken_of c) broke_too
            (ready_page text fresh from sd d e l z b s t k ready) refl
            (o.page_is ∙ page_path refl refl refl refl (ap not v.shown) (up_power l v.is_up)) refl
            (fun_ext (λ (j : ℕ). o.breaks.broken j))
            (one_act text fresh from sd a before₀ far₀ (left₀ most) far₀ (broken_of b) broke_too w);
      }

  abort_done : (u : Call) (a : Act (Numbered Ask)) (most : ℕ) (c : Bool) → ready_rule l ≡ 0
      → (c ≡ true → Lands1 text fresh from sd before₀ far₀ (broken_of b) a (left₀ most) far₀ broke_too)
      → (call_done l b u most (cond c (Some (Aborts after₀)) None)).rule ≡ 0
      → Follows text fresh from sd d e l z b (call_done l b u most (cond c (Some (Aborts after₀)) None)).here z
      (call_done l b u most (cond c (Some (Aborts after₀)) None)).broken
  unfolding call_done
  abort_done u a most true ready w h = aborts_follow a most ready (w refl) h
  abort_done u a most false ready w h = absurd (omega (arith, h))

  aborting_follows : (u : Call) (a : Act (Numbered Ask)) (most : ℕ) (c : Bool)
      → called_of sd (held_in l) u 0 0 ≡ cond c (Some (Aborts after₀)) None
      → (c ≡ true → Lands1 text fresh from sd before₀ far₀ (broken_of b) a (left₀ most) far₀ broke_too)
      → (made_call l b sd u most).rule ≡ 0 → Follows text fresh from sd d e l z b (made_call l b sd u most).here z
      (made_call l b sd u most).broken
  unfolding made_call
  aborting_follows u a most c called w h =
      let a1 = first_rule_is rule2 (ready_rule l) (call_done l b u most (called_of sd (held_in l) u 0 0)) (two (ready_rule l) l b) refl h in
      let all = a1.1 ∙ ap (call_done l b u most) called in
      subst (λ (o : Two). Follows text fresh from sd d e l z b o.here z o.broken) (sym all)
      (abort_done u a most c a1.0 w (ap rule2 (sym all) ∙ h))

  pub abort_follows : (most : ℕ) → (made_call l b sd UserAbort most).rule ≡ 0
      → Follows text fresh from sd d e l z b (made_call l b sd UserAbort most).here z (made_call l b sd UserAbort most).broken
  abort_follows most h =
      aborting_follows UserAbort (happens (user_call (mark 0 (ask UserAbort [] 0)) most)) most (takes sd (held_in l).control UserAbort) refl
      (λ (c : takes sd (held_in l).control UserAbort ≡ true) (g i : Beside).
      abort_lands text fresh (starter from sd) sd (held_in l) (line_of text sd l) (notes_of text d l) (get_or l 6 0) far₀
      (broken_of b) g i UserAbort closed most refl (ap (λ (v : Bool). cond v (Some (Aborts after₀)) None) c)) h

  pub expiry_follows : (most : ℕ) → (made_call l b sd TimerExpiry most).rule ≡ 0
      → Follows text fresh from sd d e l z b (made_call l b sd TimerExpiry most).here z (made_call l b sd TimerExpiry most).broken
  expiry_follows most h =
      aborting_follows TimerExpiry (happens (timer_expires_of most)) most (takes sd (held_in l).control TimerExpiry) refl
      (λ (c : takes sd (held_in l).control TimerExpiry ≡ true) (g i : Beside).
      expiry_lands text fresh (starter from sd) sd (held_in l) (line_of text sd l) (notes_of text d l) (get_or l 6 0) far₀
      (broken_of b) g i closed most (ap (λ (v : Bool). cond v (Some (Aborts after₀)) None) c)) h

  error_up : (most : ℕ) → (made_call l b sd SystemError most).rule ≡ 0
      → Follows text fresh from sd d e l z b (made_call l b sd SystemError most).here z (made_call l b sd SystemError most).broken
  error_up most h =
      aborting_follows SystemError (happens (error_reported most)) most (takes sd (held_in l).control SystemError) refl
      (λ (c : takes sd (held_in l).control SystemError ≡ true) (g i : Beside).
      error_lands text fresh (starter from sd) sd (held_in l) (line_of text sd l) (notes_of text d l) (get_or l 6 0) far₀
      (broken_of b) g i closed most (ap (λ (v : Bool). cond v (Some (Aborts after₀)) None) c)) h

  pub stays_follows : Follows text fresh from sd d e l z b l z b
  stays_follows = record { moves = []; then = d; near = s; far = t; counted = k; makes = no_act text fresh from sd (page_of text sd d l) far₀ (broken_of b) }

  -- at an IDLE end, or at one without the carrier, it does nothing
  pub error_follows : (most : ℕ) → (reported l b sd most).rule ≡ 0
      → Follows text fresh from sd d e l z b (reported l b sd most).here z (reported l b sd most).broken
  unfolding reported
  error_follows most h =
      let a1 = past rule2 (is_down l) (two 3 l b)
      (cond (steps.is_idle l) (two 0 l b) (cond (is_up_of l) (made_call l b sd SystemError most) (two 0 l b)))
      (λ (v : 3 ≡ 0). omega (arith, v)) h in
      subst (λ (o : Two). Follows text fresh from sd d e l z b o.here z o.broken) (sym a1.1)
      (go (steps.is_idle l) (is_up_of l) (ap rule2 (sym a1.1) ∙ h))
    where
      go : (i u : Bool) → (cond i (two 0 l b) (cond u (made_call l b sd SystemError most) (two 0 l b))).rule ≡ 0
          → Follows text fresh from sd d e l z b
          (cond i (two 0 l b) (cond u (made_call l b sd SystemError most) (two 0 l b))).here z
          (cond i (two 0 l b) (cond u (made_call l b sd SystemError most) (two 0 l b))).broken
      go true u w = stays_follows
      go false true w = error_up most w
      go false false w = stays_follows
