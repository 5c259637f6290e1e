-- A primitive is handed over: where the tables answer 0, they follow the model.
-- Assumes nothing.
use mathlib.Core.Path.{◌≡◌, refl, ap, sym, subst, fun_ext, ◌∙◌}
use mathlib.Core.Bool.{Bool, true, false, not, cond, ◌&&◌, ◌||◌}
use mathlib.Core.List.{List, [], ◌∷◌, ◌++◌}
use Prim.Native.Nat.{ℕ, zero, suc, ◌≤◌, ◌<◌}
use native.Mathlib.Omega.{arith}
use borrow.Author.Tests.{eqb-true, ltb-true, leb-false, lt-ltb, eq-eqb}
use lib.Dec.{eqb, leb, ltb}
use lib.ListN.{length, get_or, set, length-set}
use Rattle.control.specs.Control.{ender}
use Rattle.pair.specs.Names.{State, Idle, StartReq, StartInd, Dialogue, End, Forward, is, Side, other, Control, Accepted, Primitive, DStart, DStartCnf, DTurnedAway, DData, DEnd, DEndCnf, DAbort, DPAbort, is_idle, closed, expects, after}
use Rattle.pair.specs.Carrier.{Body, nothing, acts, begins?, hand_over}
use Rattle.pair.specs.Numbered.{Numbered, mark, starter, n_cut}
use Rattle.pair.proofs.ControlMachine.{Held, Ent, ent, Ask, sort_of}
use Rattle.pair.proofs.NumberedLines.{self, differ}
use Rattle.duties.specs.Memory.{Decision, Notes, Notice, tells, told_broken, told_ended}
use Rattle.duties.specs.Host.{up, Act, happens, end_confirmed_of, release, give_up, breaks?}
use Rattle.moves.specs.declared.Held.{Held as Holds}
use Rattle.moves.specs.declared.Done.{Done}
use Rattle.moves.specs.declared.Done.TheVariants.{Quiet, Shows, Aborts}
use Rattle.moves.specs.Machine.{is_opening, is_data, met_by, received_of, holding as record_of}
use Rattle.moves_laws.specs.Pages.{Beside}
use Rattle.moves_laws.proofs.Machine.{rec_of, arrival_done, receive_is}
use Rattle.moves_laws.proofs.Steps.{M, Page, page, sends_lands, gives_up_lands}
use Rattle.moves_laws.proofs.Events.{told_by, discard_lands, stale_lands, quiet_lands, message_lands, answer_lands}
use Rattle.moves_laws.proofs.Failures.{confirmed_lands}
use Rattle.tables.specs.Tables.{held_in, holding, entry_in, removed, told}
use Rattle.tables.specs.Steps.{One, Two, All, one, two, all, beside, facing, as_rule, room, ready_rule, primitive_of, aborted, is_kind, is_job, first_rule, quieted, showed, met_done, is_deaf, meeting, fate_of, heard, heard_end}
use Rattle.tables.specs.Steps as steps
use Rattle.tables.proofs.Tables.{get_same, held_back}
use Rattle.tables_laws.proofs.Reading.{fate_in, power_of, entry_at, line_of, notes_of, page_of, broken_of, Sound, Counted}
use Rattle.tables_laws.proofs.Places.{Same, same_below, same_above}
use Rattle.tables_laws.proofs.Effects.{never, held_same, hold_same, length_hold}
use Rattle.tables_laws.proofs.Follow.{past, upon, first_rule_is, roomy, page_path, low_sound, low_line, low_notes, tells_all, move_of, Lands1, one_act, more_acts, as_pages, Follows}
use Rattle.tables_laws.proofs.HostMoves.{up_power, idle_is, number_is}
use Rattle.tables_laws.proofs.Lines.{ready_is, held_sound}
use Rattle.tables_laws.proofs.JobMoves.{ready_page}
use Rattle.tables_laws.proofs.Cuts.{aborts_one}
use Rattle.tables_laws.proofs.Removes.{TakenOff, takes_off, length_line}
use Rattle.std.specs.Prelude.{None, Option, Some}

abbrev rule1 : One → ℕ
rule1 o = o.rule

abbrev rule2 : Two → ℕ
rule2 o = o.rule

abbrev rule3 : All → ℕ
rule3 o = o.rule

-- ---- small facts

pub begins_is : (p : Primitive) → begins? (sort_of p) ≡ is_opening p
begins_is (DStart m) = refl
begins_is (DStartCnf a) = refl
begins_is DTurnedAway = refl
begins_is DData = refl
begins_is DEnd = refl
begins_is (DEndCnf a) = refl
begins_is DAbort = refl
begins_is DPAbort = refl

data_plain : (p : Primitive) → is_data p ≡ true → (breaks? (sort_of p) ≡ false) × (is_opening p ≡ false)
data_plain (DStart m) h = never h
data_plain (DStartCnf a) h = never h
data_plain DTurnedAway h = never h
data_plain DData h = (refl, refl)
data_plain DEnd h = never h
data_plain (DEndCnf a) h = never h
data_plain DAbort h = never h
data_plain DPAbort h = never h

pub and_cond : (a b : Bool) → (a && b) ≡ cond a b false
and_cond true b = refl
and_cond false b = refl

-- of the kinds up to 8: which is a D-ABORT, which a start
pub record Kind (x : ℕ) : Type 0 where
  pub breaks_is : eqb x 8 ≡ breaks? (sort_of (primitive_of x))
  pub opens_is : ltb x 2 ≡ is_opening (primitive_of x)

kind_is : (x : ℕ) → x ≤ 8 → Kind x
kind_is zero h = record { breaks_is = refl; opens_is = refl }
kind_is (suc zero) h = record { breaks_is = refl; opens_is = refl }
kind_is (suc (suc zero)) h = record { breaks_is = refl; opens_is = refl }
kind_is (suc (suc (suc zero))) h = record { breaks_is = refl; opens_is = refl }
kind_is (suc (suc (suc (suc zero)))) h = record { breaks_is = refl; opens_is = refl }
kind_is (suc (suc (suc (suc (suc zero))))) h = record { breaks_is = refl; opens_is = refl }
kind_is (suc (suc (suc (suc (suc (suc zero)))))) h = record { breaks_is = refl; opens_is = refl }
kind_is (suc (suc (suc (suc (suc (suc (suc zero))))))) h = record { breaks_is = refl; opens_is = refl }
kind_is (suc (suc (suc (suc (suc (suc (suc (suc zero)))))))) h = record { breaks_is = refl; opens_is = refl }
kind_is (suc (suc (suc (suc (suc (suc (suc (suc (suc n))))))))) h = absurd (omega (arith, h))

-- the notes, by the fate that the tables tell
fate_notes : (a b : Bool) (n : Notes)
    → cond (eqb (cond a 3 (cond b 3 0)) 0) n (tells (fate_in (cond a 3 (cond b 3 0))) n) ≡ cond (a || b) (tells told_broken n) n
fate_notes true b n = refl
fate_notes false true n = refl
fate_notes false false n = refl

app_nil : {X : Type 0} (l : List X) → l ++ [] ≡ l
app_nil [] = refl
app_nil (x ∷ l) = ap (λ (t : List _). x ∷ t) (app_nil l)

tells_twice : (b : Bool) (n : Notes) → tells told_broken (cond b (tells told_broken n) n) ≡ tells told_broken n
tells_twice true n = ap (λ (t : List Notice). record { decision = n.decision; opened = []; notices = t }) (app_nil (tells told_broken n).notices)
tells_twice false n = refl

-- ---- quiet, and a message

-- c: no fate is told
pub record QuietsOne (text : Side → ℕ → Body) (sd : Side) (d : ℕ → Decision) (l m : List ℕ) (f : Holds) (fate : ℕ) (c : Bool) : Type 0 where
  pub page_is : page_of text sd d m ≡ page f (line_of text sd l)
      (cond c (notes_of text d l) (tells (fate_in fate) (notes_of text d l))) (get_or l 6 0) (not (eqb (get_or l 5 0) 0))
      (power_of (get_or l 4 0))
  pub sound : Sound d m

module _ (text : Side → ℕ → Body) (sd : Side) (d : ℕ → Decision) (l : List ℕ) (f : Holds) (s : Sound d l) where
  abbrev x₀ : List ℕ
  x₀ = holding l f

  high₀ : Same l x₀ 4 53264
  high₀ = hold_same l f 53264

  lists₀ : Same l x₀ 7 53264
  lists₀ i u v = high₀ i (omega (arith, u)) v

  held_page : page_of text sd d x₀ ≡ page f (line_of text sd l) (notes_of text d l) (get_or l 6 0) (not (eqb (get_or l 5 0) 0))
      (power_of (get_or l 4 0))
  held_page =
      page_path (held_back l f (omega (arith, s.full))) (low_line d l x₀ s text sd lists₀)
      (low_notes d l x₀ s text lists₀) (high₀ 6 (omega arith) (omega arith))
      (ap (λ (v : ℕ). not (eqb v 0)) (high₀ 5 (omega arith) (omega arith))) (ap power_of (high₀ 4 (omega arith) (omega arith)))

  pub quiet_by : (fate : ℕ) (c : Bool) → (cond c (one 0 x₀) (as_rule (told x₀ fate))).rule ≡ 0
      → QuietsOne text sd d l (cond c (one 0 x₀) (as_rule (told x₀ fate))).here f fate c
  quiet_by fate true h = record { page_is = held_page; sound = held_sound d l f s }
  quiet_by fate false h =
      let a = tells_all text sd d x₀ fate (held_sound d l f s) (roomy (told x₀ fate).answer h) in
      record {
        page_is =
            page_path (held_same x₀ (told x₀ fate).page
            (λ (i : ℕ) (u : 0 ≤ i) (v : i < 4). a.low i u (omega (arith, v))) ∙ held_back l f
            (omega (arith, s.full)))
            (a.line ∙ low_line d l x₀ s text sd lists₀) (a.notes ∙ ap (tells (fate_in fate)) (low_notes d l x₀ s text lists₀))
            (a.low 6 (omega arith) (omega arith) ∙ high₀ 6 (omega arith) (omega arith))
            (ap (λ (v : ℕ). not (eqb v 0)) (a.low 5 (omega arith) (omega arith) ∙ high₀ 5 (omega arith) (omega arith)))
            (ap power_of (a.low 4 (omega arith) (omega arith) ∙ high₀ 4 (omega arith) (omega arith)));
        sound = a.sound;
      }

  pub quiets_one : (fate : ℕ) → (quieted l f fate).rule ≡ 0 → QuietsOne text sd d l (quieted l f fate).here f fate (eqb fate 0)
  unfolding quieted
  quiets_one fate h = quiet_by fate (eqb fate 0) h

  -- the page of a message that was handed out
  pub record ShowsOne (m : List ℕ) : Type 0 where
    pub page_is : page_of text sd d m ≡ page f (line_of text sd l) (notes_of text d l) (get_or l 6 0) true (power_of (get_or l 4 0))
    pub sound : Sound d m

  pub shows_one : steps.is_up_of l ≡ true → ShowsOne (showed l f).here
  unfolding showed
  shows_one h =
      let m : List ℕ = set x₀ 5 1 in
      let n = held_sound d l f s in
      let e = length_hold l f in
      let low : Same x₀ m 0 5 = same_below x₀ 5 1 0 in
      let high : Same x₀ m 6 53264 = same_above x₀ 5 1 6 53264 (omega arith) in
      let lists : Same x₀ m 7 53264 = same_above x₀ 5 1 7 53264 (omega arith) in
      let g4 : get_or m 4 0 ≡ get_or l 4 0 = low 4 (omega arith) (omega arith) ∙ high₀ 4 (omega arith) (omega arith) in
      let z4 : get_or l 4 0 ≡ 0 = eqb-true (get_or l 4 0) 0 h in
      let g5 : get_or m 5 0 ≡ 1 = get_same x₀ 5 1 (omega (arith, s.full, e)) in
      record {
        page_is =
            page_path (held_same x₀ m (λ (i : ℕ) (u : 0 ≤ i) (v : i < 4). low i u (omega (arith, v))) ∙ held_back l f
            (omega (arith, s.full)))
            (low_line d x₀ m n text sd lists ∙ low_line d l x₀ s text sd lists₀)
            (low_notes d x₀ m n text lists ∙ low_notes d l x₀ s text lists₀)
            (high 6 (omega arith) (omega arith) ∙ high₀ 6 (omega arith) (omega arith)) (ap (λ (v : ℕ). not (eqb v 0)) g5) (ap power_of g4);
        sound = low_sound d x₀ m n lists (length-set x₀ 5 1) (omega (arith, g4, z4))
            (λ (w : get_or m 4 0 ≡ 2). absurd (omega (arith, w, g4, z4)));
      }

-- ---- what a primitive does to a record, case by case

pub met_cases : (sd : Side) (r : Holds) (p : Primitive) (P : Option Done → Type 0)
    → ((c : Control) → P (Some (Quiet (record_of c r.number r.highest))))
    → ((c : Control) → is_data p ≡ true → P (Some (Shows (record_of c r.number r.highest))))
    → ((c : Control) → P (Some (Aborts (record_of c r.number r.highest)))) → P (Some (met_by sd r p))
unfolding met_by
met_cases sd r p P q w a = go (expects sd r.control p) (is_data p) (is_idle r.control && not (is_opening p)) refl
  where
    go : (x y i : Bool) → is_data p ≡ y
        → P (Some (cond x (cond y (Shows (record_of (after r.control p) r.number r.highest))
        (Quiet (record_of (after r.control p) r.number r.highest))) (cond i
        (Quiet (record_of closed r.number r.highest))
        (Aborts (record_of closed r.number r.highest)))))
    go true true i e = w (after r.control p) e
    go true false i e = q (after r.control p)
    go false y true e = q closed
    go false y false e = a closed

-- ---- the first of the other line

pub record First (z : List ℕ) (kind number : ℕ) : Type 0 where
  pub departed : get_or z 6 0 < get_or z 7 0
  pub kind_fits : is_kind (entry_in z 0 0) kind ≡ true
  pub number_fits : entry_in z 0 1 ≡ number

first_is : (z : List ℕ) (kind number job : ℕ) → first_rule z kind number job ≡ 0 → First z kind number
unfolding first_rule
first_is z kind number job h =
    let o4 : ℕ = cond (is_job z kind job) 0 7 in
    let o3 : ℕ = cond (eqb (entry_in z 0 1) number) o4 12 in
    let o2 : ℕ = cond (is_kind (entry_in z 0 0) kind) o3 7 in
    let a1 = past (λ (v : ℕ). v) (leb (get_or z 7 0) (get_or z 6 0)) 7 o2 (λ (v : 7 ≡ 0). omega (arith, v)) h in
    let a2 = upon (λ (v : ℕ). v) (is_kind (entry_in z 0 0) kind) o3 7 (λ (v : 7 ≡ 0). omega (arith, v)) (sym a1.1 ∙ h) in
    let a3 = upon (λ (v : ℕ). v) (eqb (entry_in z 0 1) number) o4 12 (λ (v : 12 ≡ 0). omega (arith, v)) (sym (a1.1 ∙ a2.1) ∙ h) in
    record { departed = leb-false (get_or z 7 0) (get_or z 6 0) a1.0; kind_fits = a2.0; number_fits = eqb-true (entry_in z 0 1) number a3.0 }

kind_low : (x kind : ℕ) → kind ≤ 8 → is_kind x kind ≡ true → x ≤ 8
kind_low x kind h e = go (eqb x kind) (eqb kind 0) refl e
  where
    go : (a b : Bool) → eqb x kind ≡ a → cond a true (cond b (eqb x 1) false) ≡ true → x ≤ 8
    go true b a w = omega (arith, h, eqb-true x kind a)
    go false true a w = omega (arith, eqb-true x 1 w)
    go false false a w = never w

module _ (text : Side → ℕ → Body) (fresh : Side → Numbered Held) (from : Side) (sd : Side) (d e : ℕ → Decision) (l z b : List ℕ) (s : Sound d l) (t : Sound e z) (k : Counted b) (ready : ready_rule l ≡ 0) (gone : get_or z 6 0 < get_or z 7 0) where
  -- the first entry of the other line: its kind, its number, and itself; what is left of that line
  abbrev kd : ℕ
  kd = entry_in z 0 0

  abbrev no : ℕ
  no = entry_in z 0 1

  abbrev first : Numbered Ent
  first = entry_at text (other sd) z 0

  abbrev y₀ : List ℕ
  y₀ = removed z 0

  off : TakenOff text (other sd) e z y₀
  off = takes_off text (other sd) e z t (omega (arith, gone))

  abbrev rest : List (Numbered Ent)
  rest = line_of text (other sd) y₀

  abbrev far₁ : Page
  far₁ = page (held_in z) (first ∷ rest) (notes_of text e z) (get_or z 6 0) (not (eqb (get_or z 5 0) 0)) (power_of (get_or z 4 0))

  abbrev far₂ : Page
  far₂ = page (held_in z) rest (notes_of text e z) (get_or z 6 0) (not (eqb (get_or z 5 0) 0)) (power_of (get_or z 4 0))

  abbrev before₁ : Page
  before₁ = page (held_in l) (line_of text sd l) (notes_of text d l) (get_or l 6 0) false up

  abbrev broken_by : Bool
  broken_by = breaks? (sort_of (primitive_of kd)) && eqb no (held_in l).number

  came : ltb (get_or z 6 0) (length (first ∷ rest)) ≡ true
  came =
      let c : length (first ∷ rest) ≡ get_or z 7 0 = ap suc (length_line text (other sd) y₀ (get_or y₀ 7 0) 0) ∙ sym off.count in
      ap (ltb (get_or z 6 0)) c ∙ lt-ltb (get_or z 6 0) (get_or z 7 0) gone

  -- two acts at this end, the first of which takes the entry
  two_follow : (a a' : Act (Numbered Ask)) (p q : Page) (cr : ℕ → Bool) (m c : List ℕ) → Sound d m → Counted c
      → page_of text sd d m ≡ q → broken_of c ≡ cr
      → Lands1 text fresh from sd before₁ far₁ (broken_of b) a p far₂ cr → Lands1 text fresh from sd p far₂ cr a' q far₂
      cr → Follows text fresh from sd d e l z b m y₀ c
  two_follow a a' p q cr m c n counts g w h h' =
      record {
        moves = move_of text fresh from sd a ∷ (move_of text fresh from sd a' ∷ []);
        then = d;
        near = n;
        far = off.sound;
        counted = counts;
        makes =
            as_pages text fresh from sd (move_of text fresh from sd a ∷ (move_of text fresh from sd a' ∷ []))
            (page_of text sd d l) before₁ (page_of text (other sd) e z) far₁ (page_of text sd d m) q
            (page_of text (other sd) e y₀) far₂ (broken_of b) (broken_of c) cr
            (ready_page text fresh from sd d e l z b s t k ready) (page_path refl off.line refl refl refl refl) g off.page_is w
            (more_acts text fresh from sd a (move_of text fresh from sd a' ∷ []) before₁ far₁ p far₂ q far₂ (broken_of b) cr cr h
            (one_act text fresh from sd a' p far₂ q far₂ cr cr h'));
      }

  waits_not : not (eqb (get_or l 5 0) 0) ≡ false
  waits_not = ap not (ready_is l ready).shown

  is_up : power_of (get_or l 4 0) ≡ up
  is_up = up_power l (ready_is l ready).is_up

  -- ---- by what it does

  leaves : (f : Holds) (n : Notes) (w : Bool)
      → Lands1 text fresh from sd (page f (line_of text sd l) n (suc (get_or l 6 0)) w up) far₂ (broken_of b) release (page f (line_of text sd l) n (get_or l 6 0) w up) far₂ (broken_of b)
  leaves f n w g j = sends_lands text fresh (starter from sd) sd f (line_of text sd l) n (get_or l 6 0) w far₂ (broken_of b) g j

  -- the notes that the model leaves are those that the tables leave
  abbrev SameFate : Holds → Type 0
  SameFate f = ((eqb kd 8 && eqb no (get_or l 2 0)) || (ltb kd 2 && ltb (get_or l 2 0) no)) ≡
      (broken_by || not (eqb (held_in l).number f.number))

  fated : (f : Holds) → SameFate f
      → cond (eqb (fate_of kd no (get_or l 2 0)) 0) (notes_of text d l) (tells (fate_in (fate_of kd no (get_or l 2 0))) (notes_of text d l)) ≡ told_by broken_by (held_in l) f (notes_of text d l)
  fated f h = fate_notes (eqb kd 8 && eqb no (get_or l 2 0)) (ltb kd 2 && ltb (get_or l 2 0) no) (notes_of text d l) ∙ ap
      (λ (v : Bool). cond v (tells told_broken (notes_of text d l)) (notes_of text d l)) h

  quiet_follows : (f : Holds) (most : ℕ) → SameFate f
      → Lands1 text fresh from sd before₁ far₁ (broken_of b) (happens (hand_over most)) (page f (line_of text sd l) (told_by broken_by (held_in l) f (notes_of text d l)) (suc (get_or l 6 0)) false up) far₂ (broken_of b)
      → (quieted l f (fate_of kd no (get_or l 2 0))).rule ≡ 0 → Follows text fresh from sd d e l z b
      (quieted l f (fate_of kd no (get_or l 2 0))).here y₀ b
  quiet_follows f most same w h =
      let fate : ℕ = fate_of kd no (get_or l 2 0) in
      let o = quiets_one text sd d l f s fate h in
      let n : Notes = told_by broken_by (held_in l) f (notes_of text d l) in
      two_follow (happens (hand_over most)) release (page f (line_of text sd l) n (suc (get_or l 6 0)) false up)
      (page f (line_of text sd l) n (get_or l 6 0) false up) (broken_of b) (quieted l f fate).here b o.sound k
      (o.page_is ∙ page_path refl refl (fated f same) refl waits_not is_up) refl w (leaves f n false)

  shows_follows : (f : Holds) (most : ℕ) → (broken_by || not (eqb (held_in l).number f.number)) ≡ false
      → Lands1 text fresh from sd before₁ far₁ (broken_of b) (happens (hand_over most)) (page f (line_of text sd l) (told_by broken_by (held_in l) f (notes_of text d l)) (suc (get_or l 6 0)) true up) far₂ (broken_of b)
      → Follows text fresh from sd d e l z b (showed l f).here y₀ b
  shows_follows f most same w =
      let o = shows_one text sd d l f s (ready_is l ready).is_up in
      let n : Notes = told_by broken_by (held_in l) f (notes_of text d l) in
      let q : notes_of text d l ≡ n = ap (λ (v : Bool). cond v (tells told_broken (notes_of text d l)) (notes_of text d l)) (sym same) in
      two_follow (happens (hand_over most)) release (page f (line_of text sd l) n (suc (get_or l 6 0)) true up)
      (page f (line_of text sd l) n (get_or l 6 0) true up) (broken_of b) (showed l f).here b o.sound k
      (o.page_is ∙ page_path refl refl q refl refl is_up) refl w (leaves f n true)

  stale_follows : (most : ℕ) → (broken_by || not (eqb (held_in l).number (held_in l).number)) ≡ false
      → Lands1 text fresh from sd before₁ far₁ (broken_of b) (happens (hand_over most)) (page (held_in l) (line_of text sd l) (told_by broken_by (held_in l) (held_in l) (notes_of text d l)) (suc (get_or l 6 0)) false up) far₂ (broken_of b)
      → Follows text fresh from sd d e l z b l y₀ b
  stale_follows most same w =
      let n : Notes = told_by broken_by (held_in l) (held_in l) (notes_of text d l) in
      let q : notes_of text d l ≡ n = ap (λ (v : Bool). cond v (tells told_broken (notes_of text d l)) (notes_of text d l)) (sym same) in
      two_follow (happens (hand_over most)) release (page (held_in l) (line_of text sd l) n (suc (get_or l 6 0)) false up)
      (page (held_in l) (line_of text sd l) n (get_or l 6 0) false up) (broken_of b) l b s k
      (page_path refl refl q refl waits_not is_up) refl w (leaves (held_in l) n false)

  -- it is answered by a D-ABORT: this host also says of its open jobs that nobody knows
  answer_follows : (f : Holds) (most : ℕ)
      → Lands1 text fresh from sd before₁ far₁ (broken_of b) (happens (hand_over most)) (page f (n_cut M most (line_of text sd l) (mark f.number (ent DAbort []))) (told_by broken_by (held_in l) f (notes_of text d l)) (suc (get_or l 6 0)) false up) far₂ (λ (j : ℕ). eqb f.number j || broken_of b j)
      → (aborted l b f most).rule ≡ 0 → Follows text fresh from sd d e l z b (aborted l b f most).here y₀ (aborted l b f most).broken
  answer_follows f most w h =
      let o = aborts_one text sd d l b f most s k h in
      let n : Notes = told_by broken_by (held_in l) f (notes_of text d l) in
      let cut : List (Numbered Ent) = n_cut M most (line_of text sd l) (mark f.number (ent DAbort [])) in
      let cr : ℕ → Bool = λ (j : ℕ). eqb f.number j || broken_of b j in
      two_follow (happens (hand_over most)) give_up (page f cut n (suc (get_or l 6 0)) false up)
      (page f cut (tells told_broken n) (suc (get_or l 6 0)) false up) cr (aborted l b f most).here
      (aborted l b f most).broken o.sound o.breaks.counted
      (o.page_is ∙ page_path refl refl
      (sym (tells_twice (broken_by || not (eqb (held_in l).number f.number)) (notes_of text d l))) refl
      waits_not is_up) (fun_ext (λ (j : ℕ). o.breaks.broken j)) w
      (λ (g j : Beside). gives_up_lands text fresh (starter from sd) sd f cut n (suc (get_or l 6 0)) false far₂ cr g j)

  -- ---- the end that this host asked for is confirmed, "accepted"

  busy : (c : Control) → expects sd c (DEndCnf Accepted) ≡ true → is_idle c ≡ false
  busy c h = go c.state (ender sd c.dsc) h
    where
      go : (x : State) (y : Bool) → (is x End && y) ≡ true → is x Idle ≡ false
      go Idle y w = never w
      go StartReq y w = refl
      go StartInd y w = refl
      go Dialogue y w = refl
      go End y w = refl
      go Forward y w = refl

  abbrev ended₁ : Holds
  ended₁ = record_of (after (held_in l).control (DEndCnf Accepted)) (held_in l).number (held_in l).highest

  met_end : expects sd (held_in l).control (DEndCnf Accepted) ≡ true → Some (met_by sd (held_in l) (DEndCnf Accepted)) ≡ Some (Quiet ended₁)
  unfolding met_by
  met_end h = ap (λ (v : Bool). Some (cond v (Quiet ended₁) (cond (is_idle (held_in l).control && true)
      (Quiet (record_of closed (held_in l).number (held_in l).highest))
      (Aborts (record_of closed (held_in l).number (held_in l).highest))))) h

  met_ended : (x : Option Done) → x ≡ Some (Quiet ended₁) → met_done l b 0 2 x ≡ beside (quieted l ended₁ 2) b
  unfolding met_done
  met_ended x h = ap (met_done l b 0 2) h

  end_met : no ≡ (held_in l).number → expects sd (held_in l).control (DEndCnf Accepted) ≡ true
      → meeting l b sd (DEndCnf Accepted) no 0 2 ≡ beside (quieted l ended₁ 2) b
  unfolding meeting
  end_met q h =
      let i : steps.is_idle l ≡ false = sym (idle_is l) ∙ busy (held_in l).control h in
      let r : received_of sd (held_in l) (DEndCnf Accepted) no ≡ Some (Quiet ended₁) = ap
      (λ (v : Bool). cond v (Some (met_by sd (held_in l) (DEndCnf Accepted))) None) (eq-eqb no (held_in l).number q) ∙
      met_end h in
      ap (λ (v : Bool). cond (cond v true false) (beside (quieted l (held_in l) 2) b)
      (met_done l b 0 2 (received_of sd (held_in l) (DEndCnf Accepted) no))) i
      ∙ met_ended (received_of sd (held_in l) (DEndCnf Accepted) no) r

  end_follows : kd ≡ 6 → no ≡ (held_in l).number → expects sd (held_in l).control (DEndCnf Accepted) ≡ true
      → (meeting l b sd (DEndCnf Accepted) no 0 2).rule ≡ 0
      → Follows text fresh from sd d e l z b (meeting l b sd (DEndCnf Accepted) no 0 2).here y₀
      (meeting l b sd (DEndCnf Accepted) no 0 2).broken
  end_follows six q x h =
      let m = end_met q x in
      let o = quiets_one text sd d l ended₁ s 2 (ap rule2 (sym m) ∙ h) in
      let n : Notes = tells told_ended (notes_of text d l) in
      let one₁ : Numbered Ent = mark no (ent (DEndCnf Accepted) []) in
      let f : first ≡ one₁ = ap (λ (v : ℕ). mark no (ent (primitive_of v) (cond (eqb v 4) (text (other sd) (entry_in z 0 2)) []))) six in
      let r : M.at.receive sd (rec_of (held_in l)) one₁ ≡ acts (rec_of ended₁) [] nothing = receive_is sd (held_in l) (DEndCnf Accepted) no []
      ∙ ap (λ (v : Bool). arrival_done [] (cond v (Some (met_by sd (held_in l) (DEndCnf Accepted))) None))
      (eq-eqb no (held_in l).number q) ∙ ap (arrival_done []) (met_end x) in
      let a : (ltb (get_or z 6 0) (length (one₁ ∷ rest)) &&
      (eqb no (held_in l).number && expects sd (held_in l).control (DEndCnf Accepted))) ≡ true =
      ap (λ (v : Bool). v && (eqb no (held_in l).number && expects sd (held_in l).control (DEndCnf Accepted))) came ∙
      ap (λ (v : Bool). v && expects sd (held_in l).control (DEndCnf Accepted)) (eq-eqb no (held_in l).number q) ∙
      x in
      subst (λ (v : Two). Follows text fresh from sd d e l z b v.here y₀ v.broken) (sym m)
      (two_follow end_confirmed_of release (page ended₁ (line_of text sd l) n (suc (get_or l 6 0)) false up) (page ended₁ (line_of text sd l) n (get_or l 6 0) false up) (broken_of b) (quieted l ended₁ 2).here b o.sound k
      (o.page_is ∙ page_path refl refl refl refl waits_not is_up) refl
      (subst (λ (v : Numbered Ent). Lands1 text fresh from sd before₁ (page (held_in z) (v ∷ rest) (notes_of text e z) (get_or z 6 0) (not (eqb (get_or z 5 0) 0)) (power_of (get_or z 4 0))) (broken_of b) end_confirmed_of (page ended₁ (line_of text sd l) n (suc (get_or l 6 0)) false up) far₂ (broken_of b)) (sym f)
      (λ (g j : Beside). confirmed_lands text fresh (starter from sd) sd (held_in l) (line_of text sd l)
      (notes_of text d l) (get_or l 6 0) (held_in z) no [] rest (notes_of text e z) (get_or z 6 0)
      (not (eqb (get_or z 5 0) 0)) (power_of (get_or z 4 0)) (broken_of b) g j ended₁ a (busy (held_in l).control x) r)
      )
      (leaves ended₁ n false))

  -- ---- the model's step, by the machine's answer

  module _ (low : kd ≤ 8) (most : ℕ) where
    abbrev p₁ : Primitive
    p₁ = primitive_of kd

    abbrev body : Body
    body = first.it.body

    deaf_is : (is_idle (held_in l).control && not (begins? (sort_of p₁))) ≡ is_deaf l p₁
    deaf_is =
        ap (λ (v : Bool). v && not (begins? (sort_of p₁))) (idle_is l)
        ∙ ap (λ (v : Bool). steps.is_idle l && not v) (begins_is p₁)
        ∙ and_cond (steps.is_idle l) (not (is_opening p₁))

    and_none : (c : Bool) → (c && false) ≡ false
    and_none true = refl
    and_none false = refl

    broke_is : (eqb kd 8 && eqb no (get_or l 2 0)) ≡ broken_by
    broke_is =
        ap (λ (v : Bool). v && eqb no (get_or l 2 0)) (kind_is kd low).breaks_is
        ∙ ap (λ (v : ℕ). breaks? (sort_of p₁) && eqb no v) (sym (number_is l))

    -- no start, and the record keeps its number
    same_plain : (f : Holds) → is_opening p₁ ≡ false → f.number ≡ (held_in l).number → SameFate f
    same_plain f o q =
        ap (λ (v : Bool). v || (ltb kd 2 && ltb (get_or l 2 0) no)) broke_is
        ∙ ap (λ (v : Bool). broken_by || (v && ltb (get_or l 2 0) no)) ((kind_is kd low).opens_is ∙ o)
        ∙ sym (ap (λ (v : ℕ). broken_by || not (eqb (held_in l).number v)) q ∙ ap (λ (v : Bool). broken_by || not v)
        (self (held_in l).number))

    -- a start, with a number above the record's
    same_start : (f : Holds) → is_opening p₁ ≡ true → ltb (held_in l).number no ≡ true → f.number ≡ no → SameFate f
    same_start f o q n =
        ap (λ (v : Bool). v || (ltb kd 2 && ltb (get_or l 2 0) no)) broke_is
        ∙ ap (λ (v : Bool). broken_by || (v && ltb (get_or l 2 0) no)) ((kind_is kd low).opens_is ∙ o)
        ∙ ap (λ (v : Bool). broken_by || v) (ap (λ (v : ℕ). ltb v no) (sym (number_is l)) ∙ q)
        ∙ sym (ap (λ (v : ℕ). broken_by || not (eqb (held_in l).number v)) n ∙ ap (λ (v : Bool). broken_by || not v)
        (differ (held_in l).number no (λ (w : (held_in l).number ≡ no). omega (arith, w, ltb-true (held_in l).number no q))))

    -- what the tables do with an answer of the machine
    abbrev Meets : Option Done → Type 0
    Meets x = M.at.receive sd (rec_of (held_in l)) first ≡ arrival_done body x → (met_done l b most (fate_of kd no (get_or l 2 0)) x).rule ≡ 0
        → Follows text fresh from sd d e l z b (met_done l b most (fate_of kd no (get_or l 2 0)) x).here y₀
        (met_done l b most (fate_of kd no (get_or l 2 0)) x).broken

    module _ (heeds : (is_idle (held_in l).control && not (begins? (sort_of p₁))) ≡ false) where
      meets_quiet : (f : Holds) → SameFate f → Meets (Some (Quiet f))
      unfolding met_done
      meets_quiet f same r h =
          quiet_follows f most same
          (λ (g j : Beside). quiet_lands text fresh (starter from sd) sd (held_in l) (line_of text sd l)
          (notes_of text d l) (get_or l 6 0) (held_in z) first rest (notes_of text e z) (get_or z 6 0)
          (not (eqb (get_or z 5 0) 0)) (power_of (get_or z 4 0)) (broken_of b) g j most came heeds f r) h

      meets_shows : (f : Holds) → (broken_by || not (eqb (held_in l).number f.number)) ≡ false → Meets (Some (Shows f))
      unfolding met_done
      meets_shows f same r h =
          shows_follows f most same
          (λ (g j : Beside). message_lands text fresh (starter from sd) sd (held_in l) (line_of text sd l)
          (notes_of text d l) (get_or l 6 0) (held_in z) first rest (notes_of text e z) (get_or z 6 0)
          (not (eqb (get_or z 5 0) 0)) (power_of (get_or z 4 0)) (broken_of b) g j most came heeds f body r)

      meets_aborts : (f : Holds) → Meets (Some (Aborts f))
      unfolding met_done
      meets_aborts f r h =
          answer_follows f most
          (λ (g j : Beside). answer_lands text fresh (starter from sd) sd (held_in l) (line_of text sd l)
          (notes_of text d l) (get_or l 6 0) (held_in z) first rest (notes_of text e z) (get_or z 6 0)
          (not (eqb (get_or z 5 0) 0)) (power_of (get_or z 4 0)) (broken_of b) g j most came heeds f r) h

      meets_refused : (broken_by || not (eqb (held_in l).number (held_in l).number)) ≡ false → Meets None
      unfolding met_done
      meets_refused same r h =
          stale_follows most same
          (λ (g j : Beside). stale_lands text fresh (starter from sd) sd (held_in l) (line_of text sd l)
          (notes_of text d l) (get_or l 6 0) (held_in z) first rest (notes_of text e z) (get_or z 6 0)
          (not (eqb (get_or z 5 0) 0)) (power_of (get_or z 4 0)) (broken_of b) g j most came heeds r)

      own_number : (x : Bool) → x ≡ false → (x || not (eqb (held_in l).number (held_in l).number)) ≡ false
      own_number x h = ap (λ (v : Bool). v || not (eqb (held_in l).number (held_in l).number)) h ∙ ap not (self (held_in l).number)

      -- a start breaks nothing by itself
      start_plain : (p : Primitive) → is_opening p ≡ true → breaks? (sort_of p) ≡ false
      start_plain (DStart m) h = refl
      start_plain (DStartCnf a) h = never h
      start_plain DTurnedAway h = never h
      start_plain DData h = never h
      start_plain DEnd h = never h
      start_plain (DEndCnf a) h = never h
      start_plain DAbort h = never h
      start_plain DPAbort h = never h

      shows_none : is_data p₁ ≡ true → (breaks? (sort_of p₁) && eqb no (held_in l).number) ≡ false
      shows_none h = ap (λ (v : Bool). v && eqb no (held_in l).number) (data_plain p₁ h).0

      clash : {X : Type 0} (a : Bool) → a ≡ true → a ≡ false → X
      clash a h g = never (sym g ∙ h)

      -- a start
      starts : is_opening p₁ ≡ true → (c : Bool) → ltb (held_in l).number no ≡ c
          → Meets (cond c (Some (met_by sd (record_of (held_in l).control no (held_in l).highest) p₁)) None)
      starts o true c =
          met_cases sd (record_of (held_in l).control no (held_in l).highest) p₁ Meets
          (λ (f : Control). meets_quiet (record_of f no (held_in l).highest) (same_start (record_of f no (held_in l).highest) o c refl))
          (λ (f : Control) (h : is_data p₁ ≡ true). clash (is_opening p₁) o (data_plain p₁ h).1)
          (λ (f : Control). meets_aborts (record_of f no (held_in l).highest))
      starts o false c = meets_refused (own_number broken_by (ap (λ (v : Bool). v && eqb no (held_in l).number) (start_plain p₁ o)))

      -- another primitive
      others : is_opening p₁ ≡ false → (c : Bool) → eqb no (held_in l).number ≡ c → Meets (cond c (Some (met_by sd (held_in l) p₁)) None)
      others o true c =
          met_cases sd (held_in l) p₁ Meets
          (λ (f : Control). meets_quiet (record_of f (held_in l).number (held_in l).highest)
          (same_plain (record_of f (held_in l).number (held_in l).highest) o refl))
          (λ (f : Control) (h : is_data p₁ ≡ true). meets_shows (record_of f (held_in l).number (held_in l).highest)
          (own_number broken_by (shows_none h)))
          (λ (f : Control). meets_aborts (record_of f (held_in l).number (held_in l).highest))
      others o false c = meets_refused
          (own_number broken_by (ap (λ (v : Bool). breaks? (sort_of p₁) && v) c ∙ and_none (breaks? (sort_of p₁))))

      received : (c : Bool) → is_opening p₁ ≡ c
          → Meets (cond c (cond (ltb (held_in l).number no)
          (Some (met_by sd (record_of (held_in l).control no (held_in l).highest) p₁)) None)
          (cond (eqb no (held_in l).number) (Some (met_by sd (held_in l) p₁)) None))
      received true c = starts c (ltb (held_in l).number no) refl
      received false c = others c (eqb no (held_in l).number) refl

      meets_all : Meets (received_of sd (held_in l) p₁ no)
      meets_all = received (is_opening p₁) refl

    -- an IDLE end discards it
    deaf_follows : is_deaf l p₁ ≡ true → (quieted l (held_in l) (fate_of kd no (get_or l 2 0))).rule ≡ 0
        → Follows text fresh from sd d e l z b (quieted l (held_in l) (fate_of kd no (get_or l 2 0))).here y₀ b
    deaf_follows h w =
        quiet_follows (held_in l) most (same_plain (held_in l) (unheard (steps.is_idle l) h) refl)
        (λ (g j : Beside). discard_lands text fresh (starter from sd) sd (held_in l) (line_of text sd l)
        (notes_of text d l) (get_or l 6 0) (held_in z) first rest (notes_of text e z) (get_or z 6 0)
        (not (eqb (get_or z 5 0) 0)) (power_of (get_or z 4 0)) (broken_of b) g j most came (deaf_is ∙ h)) w
      where
        un_not : (v : Bool) → not v ≡ true → v ≡ false
        un_not true h = never h
        un_not false h = refl

        unheard : (c : Bool) → cond c (not (is_opening p₁)) false ≡ true → is_opening p₁ ≡ false
        unheard true h = un_not (is_opening p₁) h
        unheard false h = never h

    meeting_follows : (meeting l b sd p₁ no most (fate_of kd no (get_or l 2 0))).rule ≡ 0
        → Follows text fresh from sd d e l z b (meeting l b sd p₁ no most (fate_of kd no (get_or l 2 0))).here y₀
        (meeting l b sd p₁ no most (fate_of kd no (get_or l 2 0))).broken
    unfolding meeting
    meeting_follows h = go (is_deaf l p₁) refl h
      where
        fate₀ : ℕ
        fate₀ = fate_of kd no (get_or l 2 0)

        go : (c : Bool) → is_deaf l p₁ ≡ c
            → (cond c (beside (quieted l (held_in l) fate₀) b) (met_done l b most fate₀ (received_of sd (held_in l) p₁ no))).rule ≡ 0
            → Follows text fresh from sd d e l z b (cond c (beside (quieted l (held_in l) fate₀) b)
            (met_done l b most fate₀ (received_of sd (held_in l) p₁ no))).here y₀ (cond c
            (beside (quieted l (held_in l) fate₀) b)
            (met_done l b most fate₀ (received_of sd (held_in l) p₁ no))).broken
        go true c w = deaf_follows c w
        go false c w = meets_all (deaf_is ∙ c) (receive_is sd (held_in l) p₁ no body) w

-- kind: 0 to 8, as a line has it
pub heard_follows : (text : Side → ℕ → Body) (fresh : Side → Numbered Held) (from : Side) (sd : Side) (d e : ℕ → Decision) (l z b : List ℕ)
    → Sound d l → Sound e z → Counted b
    → (kind number most job : ℕ) → kind ≤ 8 → (heard l z b sd kind number most job).rule ≡ 0
    → Follows text fresh from sd d e l z b (heard l z b sd kind number most job).here
    (heard l z b sd kind number most job).there (heard l z b sd kind number most job).broken
unfolding heard
heard_follows text fresh from sd d e l z b s t k kind number most job low h =
    let kd : ℕ = entry_in z 0 0 in
    let m : ℕ → All = λ (v : ℕ). facing (meeting l b sd (primitive_of kd) v most (fate_of kd v (get_or l 2 0))) (removed z 0) in
    let o2 : All = cond (eqb (first_rule z kind number job) 0) (m number) (all (first_rule z kind number job) l z b) in
    let a1 = first_rule_is rule3 (ready_rule l) o2 (all (ready_rule l) l z b) refl h in
    let a2 = first_rule_is rule3 (first_rule z kind number job) (m number) (all (first_rule z kind number job) l z b) refl
    (ap rule3 (sym a1.1) ∙ h) in
    let f = first_is z kind number job a2.0 in
    let q = a1.1 ∙ a2.1 ∙ ap m (sym f.number_fits) in
    subst (λ (o : All). Follows text fresh from sd d e l z b o.here o.there o.broken) (sym q)
    (meeting_follows text fresh from sd d e l z b s t k a1.0 f.departed (kind_low kd kind low f.kind_fits) most
    (ap rule3 (sym q) ∙ h))

pub heard_end_follows : (text : Side → ℕ → Body) (fresh : Side → Numbered Held) (from : Side) (sd : Side) (d e : ℕ → Decision) (l z b : List ℕ)
    → Sound d l → Sound e z → Counted b
    → (number : ℕ) → (heard_end l z b sd number).rule ≡ 0
    → Follows text fresh from sd d e l z b (heard_end l z b sd number).here (heard_end l z b sd number).there
    (heard_end l z b sd number).broken
unfolding heard_end
heard_end_follows text fresh from sd d e l z b s t k number h =
    let r : Holds = held_in l in
    let m : ℕ → All = λ (v : ℕ). facing (meeting l b sd (DEndCnf Accepted) v 0 2) (removed z 0) in
    let o4 : All = cond (expects sd r.control (DEndCnf Accepted)) (m number) (all 4 l z b) in
    let o3 : All = cond (eqb number r.number) o4 (all 4 l z b) in
    let o2 : All = cond (eqb (first_rule z 6 number 0) 0) o3 (all (first_rule z 6 number 0) l z b) in
    let a1 = first_rule_is rule3 (ready_rule l) o2 (all (ready_rule l) l z b) refl h in
    let a2 = first_rule_is rule3 (first_rule z 6 number 0) o3 (all (first_rule z 6 number 0) l z b) refl (ap rule3 (sym a1.1) ∙ h) in
    let a3 = upon rule3 (eqb number r.number) o4 (all 4 l z b) (λ (v : 4 ≡ 0). omega (arith, v)) (ap rule3 (sym (a1.1 ∙ a2.1)) ∙ h) in
    let a4 = upon rule3 (expects sd r.control (DEndCnf Accepted)) (m number) (all 4 l z b)
    (λ (v : 4 ≡ 0). omega (arith, v)) (ap rule3 (sym (a1.1 ∙ a2.1 ∙ a3.1)) ∙ h) in
    let f = first_is z 6 number 0 a2.0 in
    let q = a1.1 ∙ a2.1 ∙ a3.1 ∙ a4.1 ∙ ap m (sym f.number_fits) in
    subst (λ (o : All). Follows text fresh from sd d e l z b o.here o.there o.broken) (sym q)
    (end_follows text fresh from sd d e l z b s t k a1.0 f.departed (six (entry_in z 0 0) f.kind_fits)
    (f.number_fits ∙ eqb-true number r.number a3.0) a4.0 (ap rule3 (sym q) ∙ h))
  where
    six : (x : ℕ) → is_kind x 6 ≡ true → x ≡ 6
    six x w = go (eqb x 6) refl w
      where
        go : (c : Bool) → eqb x 6 ≡ c → cond c true false ≡ true → x ≡ 6
        go true c v = eqb-true x 6 c
        go false c v = never v
