-- A D-ABORT is sent: the entries of its dialogue that are lost, the number of the dialogue among those that broke, and what the page says after it.
-- Assumes nothing.
use mathlib.Core.Path.{◌≡◌, refl, ap, sym, subst, ◌∙◌}
use mathlib.Core.Bool.{Bool, true, false, not, cond, ◌||◌}
use mathlib.Core.List.{List, [], ◌∷◌, ◌++◌}
use Prim.Native.Nat.{ℕ, zero, suc, ◌+◌, ◌-◌, ◌*◌, ◌≤◌, ◌<◌}
use native.Mathlib.Omega.{arith}
use borrow.Author.Tests.{eqb-true, le-ltb, ltb-true, ltb-false}
use lib.Dec.{eqb, ltb}
use lib.ListN.{length, get_or, set, length-set}
use Rattle.pair.specs.Names.{Side}
use Rattle.pair.specs.Carrier.{Body}
use Rattle.pair.specs.Numbered.{Numbered, mark, trim, n_cut}
use Rattle.pair.proofs.ControlMachine.{Ent, ent}
use Rattle.pair.specs.Names.{DAbort}
use Rattle.duties.specs.Memory.{Decision, tells, told_broken}
use Rattle.moves.specs.declared.Held.{Held as Holds}
use Rattle.moves_laws.proofs.Steps.{M, page}
use Rattle.tables.specs.Tables.{Leaves, left, holding, member, among, pushed, entry_in, set_entry, counted_if, settled, is_of, trim_on, trimmed, put_on_line, mark_broken, told}
use Rattle.tables.specs.Steps.{Two, two, room, on_told, on_mark, aborted}
use Rattle.tables.proofs.Tables.{get_same, get_other, size, entry_there, held_back}
use Rattle.tables_laws.proofs.Reading.{power_of, entry_at, line_from, line_of, notes_of, page_of, broken_of, Sound, Counted}
use Rattle.tables_laws.proofs.Places.{app_assoc, Same, same_below, same_above, among_same, entry_path, line_last}
use Rattle.tables_laws.proofs.Effects.{held_same, hold_same, entry_before, entry_behind, length_entry, line_within, put_pushed, pushed_on}
use Rattle.tables_laws.proofs.Follow.{upon, roomy, page_path, notes_stay, decided_stays, low_line, low_notes, tells_all}
use Rattle.tables_laws.proofs.Lines.{held_sound, puts_one}

-- ---- the model's trim, an entry at a time

trim_nil : (n k : ℕ) → trim M n k [] ≡ []
trim_nil n zero = refl
trim_nil n (suc k) = refl

trim_other : (n k : ℕ) (x : Numbered Ent) (t : List (Numbered Ent)) → eqb x.no n ≡ false → trim M n k (x ∷ t) ≡ x ∷ trim M n k t
trim_other n zero x t e = ap (λ (b : Bool). cond b (trim M n zero t) (x ∷ trim M n zero t)) e
trim_other n (suc k) x t e = ap (λ (b : Bool). cond b (x ∷ trim M n k t) (x ∷ trim M n (suc k) t)) e

trim_kept : (n k j : ℕ) (x : Numbered Ent) (t : List (Numbered Ent)) → k ≡ suc j → eqb x.no n ≡ true
    → trim M n k (x ∷ t) ≡ x ∷ trim M n j t
trim_kept n k j x t h e = ap (λ (i : ℕ). trim M n i (x ∷ t)) h ∙ ap (λ (b : Bool). cond b (x ∷ trim M n j t) (x ∷ trim M n (suc j) t)) e

trim_lost : (n k j : ℕ) (x : Numbered Ent) (t : List (Numbered Ent)) → k ≡ 0 → j ≡ 0 → eqb x.no n ≡ true
    → trim M n k (x ∷ t) ≡ trim M n j t
trim_lost n k j x t h g e = ap (λ (i : ℕ). trim M n i (x ∷ t)) h ∙ ap
    (λ (b : Bool). cond b (trim M n zero t) (x ∷ trim M n zero t)) e ∙ ap (λ (i : ℕ). trim M n i t) (sym g)

app_nil : {X : Type 0} (l : List X) → l ++ [] ≡ l
app_nil [] = refl
app_nil (x ∷ l) = ap (λ (t : List _). x ∷ t) (app_nil l)

-- ---- in the tables

module _ (text : Side → ℕ → Body) (sd : Side) (number most : ℕ) where
  pub record Trims (l m : List ℕ) (k i kept met : ℕ) : Type 0 where
    pub count : get_or m 7 0 ≤ 1024
    pub line : line_of text sd m ≡ line_from text sd l kept 0 ++ trim M number (most - met) (line_from text sd l k i)
    pub below : Same l m 0 7
    pub between : Same l m 8 16
    pub above : (b : ℕ) → Same l m 3088 b
    pub size_same : length m ≡ length l

  trims_none : (l : List ℕ) (i kept met : ℕ) → size ≤ length l → kept ≤ 1024 → Trims l (set l 7 kept) 0 i kept met
  trims_none l i kept met full h =
      let m : List ℕ = set l 7 kept in
      let c : get_or m 7 0 ≡ kept = get_same l 7 kept (omega (arith, full)) in
      record {
        count = omega (arith, c, h);
        line =
            ap (λ (n : ℕ). line_from text sd m n 0) c
            ∙ line_within text sd l m 8 3088 (same_above l 7 kept 8 3088 (omega arith)) kept 0 (omega arith)
            (omega (arith, h)) (omega (arith, h))
            ∙ sym (ap (λ (t : List (Numbered Ent)). line_from text sd l kept 0 ++ t) (trim_nil number (most - met)) ∙
            app_nil (line_from text sd l kept 0));
        below = same_below l 7 kept 0;
        between = same_above l 7 kept 8 16 (omega arith);
        above = λ (b : ℕ). same_above l 7 kept 3088 b (omega arith);
        size_same = length-set l 7 kept;
      }

  -- an entry stays
  stays_on : (l m : List ℕ) (k i kept met kept' met' : ℕ) → size ≤ length l → i + suc k ≤ 1024 → kept ≤ i → kept' ≡ kept + 1
      → trim M number (most - met) (entry_at text sd l i ∷ line_from text sd l k (suc i)) ≡ entry_at text sd l i ∷ trim M
      number (most - met') (line_from text sd l k (suc i))
      → Trims (set_entry l kept (entry_in l i 0) (entry_in l i 1) (entry_in l i 2)) m k (i + 1) kept' met' → Trims l m (suc k) i kept met
  stays_on l m k i kept met kept' met' full h g c q a =
      let x : List ℕ = set_entry l kept (entry_in l i 0) (entry_in l i 1) (entry_in l i 2) in
      let e = entry_there l kept (entry_in l i 0) (entry_in l i 1) (entry_in l i 2) full (omega (arith, h, g)) in
      let j : i + 1 ≡ suc i = omega arith in
      let c' : kept' ≡ suc kept = c ∙ omega arith in
      let front : line_from text sd x kept' 0 ≡ line_from text sd l kept 0 ++ (entry_at text sd l i ∷ []) =
      ap (λ (n : ℕ). line_from text sd x n 0) c'
      ∙ line_last text sd x kept
      ∙ ap (λ (t : List (Numbered Ent)). t ++ (entry_at text sd x kept ∷ []))
      (line_within text sd l x 0 (16 + 3 * kept)
      (entry_before l kept (entry_in l i 0) (entry_in l i 1) (entry_in l i 2) 0 (16 + 3 * kept) (omega arith)) kept
      0 (omega arith) (omega arith) (omega (arith, h, g)))
      ∙ ap (λ (t : Numbered Ent). line_from text sd l kept 0 ++ (t ∷ []))
      (entry_path text sd e.kind_there e.number_there e.entry_job_there) in
      let rest : line_from text sd x k (i + 1) ≡ line_from text sd l k (suc i) =
      line_within text sd l x (16 + 3 * kept + 3) 3088
      (entry_behind l kept (entry_in l i 0) (entry_in l i 1) (entry_in l i 2) (16 + 3 * kept + 3) 3088 (omega arith)) k
      (i + 1) (omega (arith, g)) (omega (arith, h)) (omega (arith, h))
      ∙ ap (line_from text sd l k) j in
      record {
        count = a.count;
        line =
            a.line
            ∙ ap (λ (t : List (Numbered Ent)). t ++ trim M number (most - met') (line_from text sd x k (i + 1))) front
            ∙ ap (λ (t : List (Numbered Ent)). (line_from text sd l kept 0 ++ (entry_at text sd l i ∷ [])) ++ trim M
            number (most - met') t) rest
            ∙ app_assoc (line_from text sd l kept 0) (entry_at text sd l i ∷ []) (trim M number (most - met') (line_from text sd l k (suc i)))
            ∙ ap (λ (t : List (Numbered Ent)). line_from text sd l kept 0 ++ t) (sym q);
        below = λ (n : ℕ) (u : 0 ≤ n) (v : n < 7). a.below n u v ∙ entry_before l kept (entry_in l i 0) (entry_in l i 1)
            (entry_in l i 2) 0 7 (omega arith) n u v;
        between = λ (n : ℕ) (u : 8 ≤ n) (v : n < 16). a.between n u v ∙ entry_before l kept (entry_in l i 0)
            (entry_in l i 1) (entry_in l i 2) 8 16 (omega arith) n u v;
        above = λ (b n : ℕ) (u : 3088 ≤ n) (v : n < b). a.above b n u v ∙ entry_behind l kept (entry_in l i 0)
            (entry_in l i 1) (entry_in l i 2) 3088 b (omega (arith, h, g)) n u v;
        size_same = a.size_same ∙ length_entry l kept (entry_in l i 0) (entry_in l i 1) (entry_in l i 2);
      }

  -- or goes
  goes_off : (l m : List ℕ) (k i kept met met' : ℕ)
      → trim M number (most - met) (entry_at text sd l i ∷ line_from text sd l k (suc i)) ≡ trim M number (most - met')
      (line_from text sd l k (suc i))
      → Trims l m k (i + 1) kept met' → Trims l m (suc k) i kept met
  goes_off l m k i kept met met' q a =
      let j : i + 1 ≡ suc i = omega arith in
      record {
        count = a.count;
        line = a.line ∙ ap
            (λ (n : ℕ). line_from text sd l kept 0 ++ trim M number (most - met') (line_from text sd l k n)) j ∙ ap
            (λ (t : List (Numbered Ent)). line_from text sd l kept 0 ++ t) (sym q);
        below = a.below;
        between = a.between;
        above = a.above;
        size_same = a.size_same;
      }

  more_counted : (n : ℕ) → n ≤ 1024 → counted_if n true ≡ n + 1
  more_counted n h = ap (λ (b : Bool). cond b n (n + 1)) (le-ltb 4294967296 n (omega (arith, h)))

  settled_here : (l : List ℕ) (i to : ℕ) → settled l i to true ≡ set_entry l to (entry_in l i 0) (entry_in l i 1) (entry_in l i 2)
  unfolding settled
  settled_here l i to = refl

  settled_gone : (l : List ℕ) (i to : ℕ) → settled l i to false ≡ l
  unfolding settled
  settled_gone l i to = refl

  abbrev Turns : ℕ → Type 0
  Turns k = (l : List ℕ) (i kept met : ℕ) → size ≤ length l → i + k ≤ 1024 → kept ≤ i → met ≤ i → Trims l
      (trim_on k l number most i kept met) k i kept met

  -- a turn, by whether the entry is of the dialogue, and whether so many stood before it
  turn : (k : ℕ) → Turns k → (l : List ℕ) (i kept met : ℕ) → size ≤ length l → i + suc k ≤ 1024 → kept ≤ i → met ≤ i
      → (of fits : Bool) → is_of l i number ≡ of → ltb met most ≡ fits
      → Trims l (trim_on k (settled l i kept (cond of fits true)) number most (i + 1)
      (counted_if kept (cond of fits true)) (counted_if met of)) (suc k) i kept met
  turn k f l i kept met full h g p false fits a b =
      let c = more_counted kept (omega (arith, h, g)) in
      let x : List ℕ = set_entry l kept (entry_in l i 0) (entry_in l i 1) (entry_in l i 2) in
      subst (λ (y : List ℕ). Trims l (trim_on k y number most (i + 1) (counted_if kept true) met) (suc k) i kept met)
      (sym (settled_here l i kept))
      (stays_on l (trim_on k x number most (i + 1) (counted_if kept true) met) k i kept met (counted_if kept true) met full h g c
      (trim_other number (most - met) (entry_at text sd l i) (line_from text sd l k (suc i)) a)
      (f x (i + 1) (counted_if kept true) met
      (omega (arith, full, length_entry l kept (entry_in l i 0) (entry_in l i 1) (entry_in l i 2)))
      (omega (arith, h)) (omega (arith, c, g)) (omega (arith, p))))
  turn k f l i kept met full h g p true true a b =
      let c = more_counted kept (omega (arith, h, g)) in
      let w = more_counted met (omega (arith, h, p)) in
      let j : most - met ≡ suc (most - counted_if met true) = omega (arith, w, ltb-true met most b) in
      let x : List ℕ = set_entry l kept (entry_in l i 0) (entry_in l i 1) (entry_in l i 2) in
      subst (λ (y : List ℕ). Trims l (trim_on k y number most (i + 1) (counted_if kept true) (counted_if met true))
      (suc k) i kept met) (sym (settled_here l i kept))
      (stays_on l (trim_on k x number most (i + 1) (counted_if kept true) (counted_if met true)) k i kept met (counted_if kept true) (counted_if met true) full h g c
      (trim_kept number (most - met) (most - counted_if met true) (entry_at text sd l i) (line_from text sd l k (suc i)) j a)
      (f x (i + 1) (counted_if kept true) (counted_if met true)
      (omega (arith, full, length_entry l kept (entry_in l i 0) (entry_in l i 1) (entry_in l i 2)))
      (omega (arith, h)) (omega (arith, c, g)) (omega (arith, w, p))))
  turn k f l i kept met full h g p true false a b =
      let w = more_counted met (omega (arith, h, p)) in
      let y : most - met ≡ 0 = omega (arith, ltb-false met most b) in
      let j : most - counted_if met true ≡ 0 = omega (arith, w, ltb-false met most b) in
      subst (λ (y : List ℕ). Trims l (trim_on k y number most (i + 1) kept (counted_if met true)) (suc k) i kept met)
      (sym (settled_gone l i kept))
      (goes_off l (trim_on k l number most (i + 1) kept (counted_if met true)) k i kept met (counted_if met true)
      (trim_lost number (most - met) (most - counted_if met true) (entry_at text sd l i) (line_from text sd l k (suc i)) y j a)
      (f l (i + 1) kept (counted_if met true) full (omega (arith, h)) (omega (arith, g)) (omega (arith, w, p))))

  trims_turns : (k : ℕ) → Turns k
  unfolding trim_on
  trims_turns zero l i kept met full h g p = trims_none l i kept met full (omega (arith, h, g))
  trims_turns (suc k) l i kept met full h g p = turn k (trims_turns k) l i kept met full h g p (is_of l i number) (ltb met most) refl refl

  pub trims_line : (l : List ℕ) → size ≤ length l → get_or l 7 0 ≤ 1024 → Trims l (trimmed l number most) (get_or l 7 0) 0 0 0
  unfolding trimmed
  trims_line l full h = trims_turns (get_or l 7 0) l 0 0 0 full (omega (arith, h)) (omega arith) (omega arith)

-- ---- a dialogue is broken

or_true : (a : Bool) → (a || true) ≡ true
or_true true = refl
or_true false = refl

or_swap : (a b : Bool) → (a || b) ≡ (b || a)
or_swap true true = refl
or_swap true false = refl
or_swap false true = refl
or_swap false false = refl

pub record Breaks (b m : List ℕ) (v : ℕ) : Type 0 where
  pub counted : Counted m
  pub broken : (j : ℕ) → broken_of m j ≡ (eqb v j || broken_of b j)

module _ (b : List ℕ) (v : ℕ) (c : Counted b) where
  broken_before : among b 1 (get_or b 0 0) v ≡ true → Breaks b b v
  broken_before h = record { counted = c; broken = λ (j : ℕ). go j (eqb v j) refl }
    where
      go : (j : ℕ) (e : Bool) → eqb v j ≡ e → broken_of b j ≡ (e || broken_of b j)
      go j true e = ap (broken_of b) (sym (eqb-true v j e)) ∙ h
      go j false e = refl

  broken_now : get_or b 0 0 < 4096 → Breaks b (pushed_on b 0 1 v) v
  broken_now room =
      let n : ℕ = get_or b 0 0 in
      let x : List ℕ = set b (1 + n) v in
      let m : List ℕ = set x 0 (n + 1) in
      let p = length-set b (1 + n) v in
      let q : get_or m 0 0 ≡ n + 1 = get_same x 0 (n + 1) (omega (arith, c.full, p)) in
      let q' : get_or m 0 0 ≡ suc n = q ∙ omega arith in
      let g : get_or m (1 + n) 0 ≡ v = get_other x 0 (1 + n) (n + 1) (λ (e : 1 + n ≡ 0). omega (arith, e)) ∙ get_same b
      (1 + n) v (omega (arith, c.full, room)) in
      let there : member m 1 n ≡ v = ap (λ (w : Bool). cond (ltb 4294967296 1) 0 (cond w 0 (get_or m (1 + n) 0)))
      (le-ltb 4294967296 n (omega (arith, room))) ∙ g in
      record {
        counted = record { full = omega (arith, c.full, p, length-set x 0 (n + 1)); count = omega (arith, q, room) };
        broken = λ (j : ℕ). ap (λ (k : ℕ). among m 1 k j) q'
            ∙ ap (λ (w : Bool). w || eqb (member m 1 n) j) (among_same b m 1 j n (λ (i : ℕ) (u : 1 ≤ i)
            (w : i < 1 + n). same_above x 0 (n + 1) 1 (1 + n) (omega arith) i u w ∙ same_below b (1 + n) v
            1 i u w))
            ∙ ap (λ (w : ℕ). among b 1 n j || eqb w j) there
            ∙ or_swap (among b 1 n j) (eqb v j);
      }

pub breaks_one : (b : List ℕ) (v : ℕ) → Counted b → (mark_broken b v).answer ≡ true → Breaks b (mark_broken b v).page v
unfolding mark_broken
breaks_one b v c h = go (among b 1 (get_or b 0 0) v) refl h
  where
    go : (e : Bool) → among b 1 (get_or b 0 0) v ≡ e → (cond e (left true b) (pushed b 0 1 4096 v)).answer ≡ true
        → Breaks b (cond e (left true b) (pushed b 0 1 4096 v)).page v
    go true e w = broken_before b v c e
    go false e w =
        let a = put_pushed b 0 1 4096 v w in
        subst (λ (m : List ℕ). Breaks b m v) (sym a.page_is) (broken_now b v c a.room)

-- ---- a D-ABORT

pub trims_sound : (text : Side → ℕ → Body) (sd : Side) (d : ℕ → Decision) (l : List ℕ) (number most : ℕ) → Sound d l
    → Sound d (trimmed l number most)
trims_sound text sd d l number most s =
    let a = trims_line text sd number most l s.full s.entries in
    let m : List ℕ = trimmed l number most in
    let g4 = a.below 4 (omega arith) (omega arith) in
    let g5 = a.below 5 (omega arith) (omega arith) in
    let g8 = a.between 8 (omega arith) (omega arith) in
    let g9 = a.between 9 (omega arith) (omega arith) in
    let g10 = a.between 10 (omega arith) (omega arith) in
    record {
      full = omega (arith, a.size_same, s.full);
      entries = a.count;
      decided = omega (arith, g8, s.decided);
      opened = omega (arith, g9, s.opened);
      notices = omega (arith, g10, s.notices);
      known = λ (j : ℕ). s.known j ∙ sym (decided_stays d l m s
          (λ (i : ℕ) (u : 8 ≤ i) (v : i < 9). a.between i u (omega (arith, v)))
          (λ (i : ℕ) (u : 3088 ≤ i) (v : i < 19472). a.above 19472 i u v) j);
      powered = omega (arith, g4, s.powered);
      rests = λ (e : get_or m 4 0 ≡ 2). g5 ∙ s.rests (sym g4 ∙ e);
    }

pub record AbortsOne (text : Side → ℕ → Body) (sd : Side) (d : ℕ → Decision) (l b m c : List ℕ) (r : Holds) (most : ℕ) : Type 0 where
  pub page_is : page_of text sd d m ≡ page r (n_cut M most (line_of text sd l) (mark r.number (ent DAbort [])))
      (tells told_broken (notes_of text d l)) (suc (get_or l 6 0)) (not (eqb (get_or l 5 0) 0)) (power_of (get_or l 4 0))
  pub sound : Sound d m
  pub breaks : Breaks b c r.number

abbrev rule2 : Two → ℕ
rule2 o = o.rule

pub aborts_one : (text : Side → ℕ → Body) (sd : Side) (d : ℕ → Decision) (l b : List ℕ) (r : Holds) (most : ℕ)
    → Sound d l → Counted b → (aborted l b r most).rule ≡ 0
    → AbortsOne text sd d l b (aborted l b r most).here (aborted l b r most).broken r most
unfolding aborted
aborts_one text sd d l b r most s k h =
    let n : ℕ = r.number in
    let w : List ℕ = holding l r in
    let x : List ℕ = trimmed w n most in
    let p : Leaves = put_on_line x 8 n 0 in
    let y : List ℕ = p.page in
    let q : Leaves = mark_broken b n in
    let c : List ℕ = q.page in
    let t : Leaves = told y 3 in
    let o2 : Two = on_mark q y in
    let a1 = upon rule2 p.answer o2 (two 23 y b) (λ (v : 23 ≡ 0). omega (arith, v)) h in
    let a2 = upon rule2 q.answer (on_told t c) (two 23 y c) (λ (v : 23 ≡ 0). omega (arith, v)) (ap rule2 (sym a1.1) ∙ h) in
    let all = a1.1 ∙ a2.1 in
    let sw = held_sound d l r s in
    let sx = trims_sound text sd d w n most sw in
    let ax = trims_line text sd n most w sw.full sw.entries in
    let ay = puts_one text sd d x 8 n 0 sx a1.0 in
    let am = tells_all text sd d y 3 ay.sound (roomy t.answer (ap rule2 (sym all) ∙ h)) in
    let high : Same l w 4 53264 = hold_same l r 53264 in
    let lists : Same l w 7 53264 = λ (i : ℕ) (u : 7 ≤ i) (v : i < 53264). high i (omega (arith, u)) v in
    let m0 : most - 0 ≡ most = omega arith in
    let cut : line_of text sd x ≡ trim M n most (line_of text sd l) = ax.line ∙ ap
    (λ (i : ℕ). trim M n i (line_of text sd w)) m0 ∙ ap (trim M n most) (low_line d l w s text sd lists) in
    subst (λ (o : Two). AbortsOne text sd d l b o.here o.broken r most) (sym all)
    record {
      page_is =
          page_path
          (held_same y t.page (λ (i : ℕ) (u : 0 ≤ i) (v : i < 4). am.low i u (omega (arith, v))) ∙ held_same x y (λ (i : ℕ) (u : 0 ≤ i) (v : i < 4). ay.low i u (omega (arith, v)))
          ∙ held_same w x (λ (i : ℕ) (u : 0 ≤ i) (v : i < 4). ax.below i u (omega (arith, v))) ∙ held_back l r (omega (arith, s.full)))
          (am.line ∙ ay.line ∙ ap (λ (i : List (Numbered Ent)). i ++ (mark n (ent DAbort []) ∷ [])) cut)
          (am.notes ∙ ap (tells told_broken) (ay.notes
          ∙ notes_stay d w x sw text
          (λ (i : ℕ) (u : 9 ≤ i) (v : i < 11). ax.between i (omega (arith, u)) (omega (arith, v)))
          (λ (i : ℕ) (u : 19472 ≤ i) (v : i < 53264). ax.above 53264 i (omega (arith, u)) v)
          ∙ low_notes d l w s text lists))
          (am.low 6 (omega arith) (omega arith) ∙ ay.unsent ∙ ap suc
          (ax.below 6 (omega arith) (omega arith) ∙ high 6 (omega arith) (omega arith)))
          (ap (λ (v : ℕ). not (eqb v 0)) (am.low 5 (omega arith) (omega arith) ∙ ay.low 5 (omega arith) (omega arith)
          ∙ ax.below 5 (omega arith) (omega arith) ∙ high 5 (omega arith) (omega arith)))
          (ap power_of (am.low 4 (omega arith) (omega arith) ∙ ay.low 4 (omega arith) (omega arith) ∙ ax.below 4
          (omega arith) (omega arith) ∙ high 4 (omega arith) (omega arith)));
      sound = am.sound;
      breaks = breaks_one b n k a2.0;
    }
