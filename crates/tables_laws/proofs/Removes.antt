-- The first entry of a line is handed over: what the page says after it is gone.
-- Assumes nothing.
use mathlib.Core.Path.{◌≡◌, refl, ap, sym, subst, ◌∙◌}
use mathlib.Core.Bool.{Bool, true, false, not, cond}
use mathlib.Core.List.{List, ◌∷◌}
use Prim.Native.Nat.{ℕ, zero, suc, ◌+◌, ◌-◌, ◌*◌, ◌≤◌, ◌<◌}
use native.Mathlib.Omega.{arith}
use borrow.Author.Tests.{eqb-true, eqb-false, lt-leb, le-leb, leb-true, leb-false}
use lib.Dec.{eqb, leb}
use lib.ListN.{length, get_or, set, length-set}
use Rattle.pair.specs.Names.{Side}
use Rattle.pair.specs.Carrier.{Body}
use Rattle.pair.specs.Numbered.{Numbered}
use Rattle.pair.proofs.ControlMachine.{Ent}
use Rattle.duties.specs.Memory.{Decision}
use Rattle.moves_laws.proofs.Steps.{page}
use Rattle.tables.specs.Tables.{held_in, entry_in, set_entry, drawn, draw_on, removed}
use Rattle.tables.proofs.Tables.{get_same, size, Entry, entry_there}
use Rattle.tables_laws.proofs.Reading.{power_of, entry_at, line_from, line_of, notes_of, page_of, Sound}
use Rattle.tables_laws.proofs.Places.{Same, same_below, same_above, entry_is, line_fields}
use Rattle.tables_laws.proofs.Effects.{held_same, entry_before, entry_behind, length_entry, line_within}
use Rattle.tables_laws.proofs.Follow.{page_path, notes_stay, decided_stays}

-- ---- entries

entry_out : (l : List ℕ) (i f : ℕ) → 1024 ≤ i → entry_in l i f ≡ 0
unfolding entry_in
entry_out l i f h = rw (le-leb 1024 i h)

entry_within : (l m : List ℕ) (a b : ℕ) → Same l m a b → (i f : ℕ) → a ≤ 16 + 3 * i → 16 + 3 * i + 3 ≤ b → i < 1024
    → f ≤ 2 → entry_in m i f ≡ entry_in l i f
entry_within l m a b s i f p q h g =
    entry_is m i f h g ∙ s (16 + 3 * i + f) (omega (arith, p)) (omega (arith, q, g)) ∙ sym (entry_is l i f h g)

entry_later : (l : List ℕ) (i x y z j f : ℕ) → i < j → f ≤ 2 → entry_in (set_entry l i x y z) j f ≡ entry_in l j f
entry_later l i x y z j f h g = go (leb 1024 j) refl
  where
    go : (c : Bool) → leb 1024 j ≡ c → entry_in (set_entry l i x y z) j f ≡ entry_in l j f
    go true c = entry_out (set_entry l i x y z) j f (leb-true 1024 j c) ∙ sym (entry_out l j f (leb-true 1024 j c))
    go false c =
        entry_within l (set_entry l i x y z) (16 + 3 * i + 3) 3088
        (entry_behind l i x y z (16 + 3 * i + 3) 3088 (omega arith)) j f (omega (arith, h))
        (omega (arith, leb-false 1024 j c)) (leb-false 1024 j c) g

field_there : (l x : List ℕ) (i : ℕ) → Entry x i (entry_in l (i + 1) 0) (entry_in l (i + 1) 1) (entry_in l (i + 1) 2)
    → (f : ℕ) → f ≤ 2 → entry_in x i f ≡ entry_in l (i + 1) f
field_there l x i e zero g = e.kind_there
field_there l x i e (suc zero) g = e.number_there
field_there l x i e (suc (suc zero)) g = e.entry_job_there
field_there l x i e (suc (suc (suc n))) g = absurd (omega (arith, g))

-- ---- the entries behind a place come one forward

pub record Drawn (l m : List ℕ) (k i : ℕ) : Type 0 where
  pub moved : (n f : ℕ) → i ≤ n → n < i + k → f ≤ 2 → entry_in m n f ≡ entry_in l (n + 1) f
  pub before : Same l m 0 (16 + 3 * i)
  pub above : (b : ℕ) → Same l m 3088 b
  pub size_same : length m ≡ length l

draw_next : (l m : List ℕ) (k i : ℕ) → size ≤ length l → i + suc k ≤ 1024
    → Drawn (set_entry l i (entry_in l (i + 1) 0) (entry_in l (i + 1) 1) (entry_in l (i + 1) 2)) m k (i + 1) → Drawn l m (suc k) i
draw_next l m k i full h a =
    record {
      moved = λ (n f : ℕ) (p : i ≤ n) (q : n < i + suc k) (g : f ≤ 2). go n f p q g (eqb n i) refl;
      before = λ (n : ℕ) (u : 0 ≤ n) (v : n < 16 + 3 * i). a.before n u (omega (arith, v)) ∙ entry_before l i
          (entry_in l (i + 1) 0) (entry_in l (i + 1) 1) (entry_in l (i + 1) 2) 0 (16 + 3 * i) (omega arith) n u v;
      above = λ (b n : ℕ) (u : 3088 ≤ n) (v : n < b). a.above b n u v ∙ entry_behind l i (entry_in l (i + 1) 0)
          (entry_in l (i + 1) 1) (entry_in l (i + 1) 2) 3088 b (omega (arith, h)) n u v;
      size_same = a.size_same ∙ length_entry l i (entry_in l (i + 1) 0) (entry_in l (i + 1) 1) (entry_in l (i + 1) 2);
    }
  where
    x : List ℕ
    x = set_entry l i (entry_in l (i + 1) 0) (entry_in l (i + 1) 1) (entry_in l (i + 1) 2)

    go : (n f : ℕ) → i ≤ n → n < i + suc k → f ≤ 2 → (c : Bool) → eqb n i ≡ c → entry_in m n f ≡ entry_in l (n + 1) f
    go n f p q g true c =
        let e : n ≡ i = eqb-true n i c in
        ap (λ (j : ℕ). entry_in m j f) e
        ∙ entry_within x m 0 (16 + 3 * (i + 1)) a.before i f (omega arith) (omega arith) (omega (arith, h)) g
        ∙ field_there l x i (entry_there l i (entry_in l (i + 1) 0) (entry_in l (i + 1) 1) (entry_in l (i + 1) 2) full (omega (arith, h))) f g
        ∙ ap (λ (j : ℕ). entry_in l (j + 1) f) (sym e)
    go n f p q g false c =
        let e : i < n = omega (arith, p, eqb-false n i c) in
        a.moved n f (omega (arith, e)) (omega (arith, q)) g
        ∙ entry_later l i (entry_in l (i + 1) 0) (entry_in l (i + 1) 1) (entry_in l (i + 1) 2) (n + 1) f (omega (arith, e)) g

drawn_is : (l : List ℕ) (i : ℕ) → i < 1024 → drawn l i ≡ set_entry l i (entry_in l (i + 1) 0) (entry_in l (i + 1) 1) (entry_in l (i + 1) 2)
unfolding drawn
drawn_is l i h = rw (lt-leb 1024 i h)

pub draws : (k : ℕ) (l : List ℕ) (i : ℕ) → size ≤ length l → i + k ≤ 1024 → Drawn l (draw_on k l i) k i
unfolding draw_on
draws zero l i full h =
    record {
      moved = λ (n f : ℕ) (p : i ≤ n) (q : n < i + 0) (g : f ≤ 2). absurd (omega (arith, p, q));
      before = λ (n : ℕ) (u : 0 ≤ n) (v : n < 16 + 3 * i). refl;
      above = λ (b n : ℕ) (u : 3088 ≤ n) (v : n < b). refl;
      size_same = refl;
    }
draws (suc k) l i full h =
    let x : List ℕ = set_entry l i (entry_in l (i + 1) 0) (entry_in l (i + 1) 1) (entry_in l (i + 1) 2) in
    let e = length_entry l i (entry_in l (i + 1) 0) (entry_in l (i + 1) 1) (entry_in l (i + 1) 2) in
    subst (λ (y : List ℕ). Drawn l (draw_on k y (i + 1)) (suc k) i) (sym (drawn_is l i (omega (arith, h))))
    (draw_next l (draw_on k x (i + 1)) k i full h (draws k x (i + 1) (omega (arith, full, e)) (omega (arith, h))))

-- ---- the first is gone

pub record TakenOff (text : Side → ℕ → Body) (sd : Side) (d : ℕ → Decision) (l m : List ℕ) : Type 0 where
  pub line : line_of text sd l ≡ entry_at text sd l 0 ∷ line_of text sd m
  pub page_is : page_of text sd d m ≡ page (held_in l) (line_of text sd m) (notes_of text d l) (get_or l 6 0)
      (not (eqb (get_or l 5 0) 0)) (power_of (get_or l 4 0))
  pub count : get_or l 7 0 ≡ suc (get_or m 7 0)
  pub sound : Sound d m

module _ (text : Side → ℕ → Body) (sd : Side) (d : ℕ → Decision) (l : List ℕ) (s : Sound d l) (h : 0 < get_or l 7 0) where
  off_first : TakenOff text sd d l (set (draw_on (get_or l 7 0 - 0) l 0) 7 (get_or l 7 0 - 1))
  off_first =
      let n : ℕ = get_or l 7 0 in
      let x : List ℕ = draw_on (n - 0) l 0 in
      let m : List ℕ = set x 7 (n - 1) in
      let a = draws (n - 0) l 0 s.full (omega (arith, s.entries)) in
      let c : get_or m 7 0 ≡ n - 1 = get_same x 7 (n - 1) (omega (arith, s.full, a.size_same)) in
      let q : n ≡ suc (n - 1) = omega (arith, h) in
      let top : (b : ℕ) → Same l m 3088 b = λ (b i : ℕ) (u : 3088 ≤ i) (v : i < b). same_above x 7 (n - 1) 3088 b
      (omega arith) i u v ∙ a.above b i u v in
      let mid : Same l m 8 16 = λ (i : ℕ) (u : 8 ≤ i) (v : i < 16). same_above x 7 (n - 1) 8 16 (omega arith) i u v ∙
      a.before i (omega arith) (omega (arith, v)) in
      let low : Same l m 0 7 = λ (i : ℕ) (u : 0 ≤ i) (v : i < 7). same_below x 7 (n - 1) 0 i u v ∙ a.before i u (omega (arith, v)) in
      let g4 = low 4 (omega arith) (omega arith) in
      let g5 = low 5 (omega arith) (omega arith) in
      let g8 = mid 8 (omega arith) (omega arith) in
      let g9 = mid 9 (omega arith) (omega arith) in
      let g10 = mid 10 (omega arith) (omega arith) in
      record {
        line =
            ap (λ (k : ℕ). line_from text sd l k 0) q
            ∙ ap (λ (t : List (Numbered Ent)). entry_at text sd l 0 ∷ t)
            (sym (ap (λ (k : ℕ). line_from text sd m k 0) c
            ∙ line_within text sd x m 8 3088 (same_above x 7 (n - 1) 8 3088 (omega arith)) (n - 1) 0 (omega arith)
            (omega (arith, s.entries)) (omega (arith, s.entries))
            ∙ line_fields text sd l x (n - 1) 0 1 (shifted x a)));
        page_is =
            page_path (held_same l m (λ (i : ℕ) (u : 0 ≤ i) (v : i < 4). low i u (omega (arith, v)))) refl
            (notes_stay d l m s text (λ (i : ℕ) (u : 9 ≤ i) (v : i < 11). mid i (omega (arith, u)) (omega (arith, v)))
            (λ (i : ℕ) (u : 19472 ≤ i) (v : i < 53264). top 53264 i (omega (arith, u)) v))
            (low 6 (omega arith) (omega arith)) (ap (λ (v : ℕ). not (eqb v 0)) g5) (ap power_of g4);
        count = q ∙ ap suc (sym c);
        sound =
            record {
              full = omega (arith, s.full, a.size_same, length-set x 7 (n - 1));
              entries = omega (arith, c, s.entries);
              decided = omega (arith, g8, s.decided);
              opened = omega (arith, g9, s.opened);
              notices = omega (arith, g10, s.notices);
              known = λ (j : ℕ). s.known j ∙ sym (decided_stays d l m s
                  (λ (i : ℕ) (u : 8 ≤ i) (v : i < 9). mid i u (omega (arith, v)))
                  (λ (i : ℕ) (u : 3088 ≤ i) (v : i < 19472). top 19472 i u v) j);
              powered = omega (arith, g4, s.powered);
              rests = λ (w : get_or m 4 0 ≡ 2). g5 ∙ s.rests (sym g4 ∙ w);
            };
      }
    where
      shifted : (x : List ℕ) → Drawn l x (get_or l 7 0 - 0) 0 → (n f : ℕ) → n < get_or l 7 0 - 1 → f ≤ 2
          → entry_in x (0 + n) f ≡ entry_in l (1 + n) f
      shifted x a n f p g =
          let e : 0 + n ≡ n = omega arith in
          let r : n + 1 ≡ 1 + n = omega arith in
          ap (λ (i : ℕ). entry_in x i f) e ∙ a.moved n f (omega arith) (omega (arith, p)) g ∙ ap (λ (i : ℕ). entry_in l i f) r

pub takes_off : (text : Side → ℕ → Body) (sd : Side) (d : ℕ → Decision) (l : List ℕ) → Sound d l → 0 < get_or l 7 0
    → TakenOff text sd d l (removed l 0)
unfolding removed
takes_off text sd d l s h =
    subst (λ (b : Bool). TakenOff text sd d l (cond b l (set (draw_on (get_or l 7 0 - 0) l 0) 7 (get_or l 7 0 - 1))))
    (sym (lt-leb (get_or l 7 0) 0 h)) (off_first text sd d l s h)

pub length_line : (text : Side → ℕ → Body) (sd : Side) (l : List ℕ) (k i : ℕ) → length (line_from text sd l k i) ≡ k
length_line text sd l zero i = refl
length_line text sd l (suc k) i = ap suc (length_line text sd l k (suc i))
