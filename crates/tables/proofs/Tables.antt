-- What a page gives back of what was put into it.
-- Assumes nothing.
use mathlib.Core.Path.{◌≡◌, refl, ap, sym, subst, ◌∙◌}
use mathlib.Core.Bool.{Bool, true, false, cond, ◌||◌}
use mathlib.Core.List.{List, [], ◌∷◌}
use Prim.Native.Nat.{ℕ, zero, suc, ◌+◌, ◌-◌, ◌*◌, ◌≤◌, ◌<◌}
use native.Mathlib.Omega.{arith}
use borrow.Author.Tests.{eq-eqb, eqb-true, eqb-false, ne_eqb, lt-leb, lt-ltb, le-ltb}
use lib.Dec.{eqb}
use lib.ListN.{length, get_or, set, length-set}
use Rattle.control.specs.declared.State.{State}
use Rattle.control.specs.declared.State.TheVariants.{Idle, StartReq, StartInd, Dialogue, End, Forward}
use Rattle.control.specs.Control.{number, entered}
use Rattle.moves.specs.declared.Held.{Held}
use Rattle.moves.specs.Machine.{holding as record_of}
use Rattle.tables.specs.Tables.{left, state_of, flag_of, held_in, holding, member, among, pushed, noted, is_noted, entry_in, set_entry}

-- what stands outside the page is not put
pub set_out : (l : List ℕ) (n v : ℕ) → length l ≤ n → set l n v ≡ l
set_out [] n v h = refl
set_out (x ∷ l) zero v h = absurd (omega (arith, h))
set_out (x ∷ l) (suc n) v h = ap (λ (k : List ℕ). x ∷ k) (set_out l n v (omega (arith, h)))

-- what was put is there
pub get_same : (l : List ℕ) (n v : ℕ) → n < length l → get_or (set l n v) n 0 ≡ v
get_same [] n v h = absurd (omega (arith, h))
get_same (x ∷ l) zero v h = refl
get_same (x ∷ l) (suc n) v h = get_same l n v (omega (arith, h))

-- and every other place is as it was
pub get_other : (l : List ℕ) (n i v : ℕ) → (i ≡ n → ⊥) → get_or (set l n v) i 0 ≡ get_or l i 0
get_other [] n i v h = refl
get_other (x ∷ l) zero zero v h = absurd (h refl)
get_other (x ∷ l) zero (suc i) v h = refl
get_other (x ∷ l) (suc n) zero v h = refl
get_other (x ∷ l) (suc n) (suc i) v h = get_other l n i v (λ (e : i ≡ n). h (ap suc e))

-- ---- the record

state_back : (s : State) → state_of (number s) ≡ s
state_back Idle = refl
state_back StartReq = refl
state_back StartInd = refl
state_back Dialogue = refl
state_back End = refl
state_back Forward = refl

flag_back : (b : Bool) → eqb (flag_of b) 1 ≡ b
flag_back true = refl
flag_back false = refl

-- what was held is what is held
pub held_back : (l : List ℕ) (r : Held) → 4 ≤ length l → held_in (holding l r) ≡ r
unfolding held_in holding
held_back l r h =
    let w : List ℕ = set l 0 (number r.control.state) in
    let x : List ℕ = set w 1 (flag_of r.control.dsc) in
    let y : List ℕ = set x 2 r.number in
    let z : List ℕ = set y 3 r.highest in
    let p = length-set l 0 (number r.control.state) in
    let q = length-set w 1 (flag_of r.control.dsc) in
    let t = length-set x 2 r.number in
    let a : get_or z 0 0 ≡ number r.control.state = get_other y 3 0 r.highest (λ (e : 0 ≡ 3). omega (arith, e))
    ∙ get_other x 2 0 r.number (λ (e : 0 ≡ 2). omega (arith, e)) ∙ get_other w 1 0 (flag_of r.control.dsc)
    (λ (e : 0 ≡ 1). omega (arith, e))
    ∙ get_same l 0 (number r.control.state) (omega (arith, h)) in
    let b : get_or z 1 0 ≡ flag_of r.control.dsc = get_other y 3 1 r.highest (λ (e : 1 ≡ 3). omega (arith, e))
    ∙ get_other x 2 1 r.number (λ (e : 1 ≡ 2). omega (arith, e)) ∙ get_same w 1 (flag_of r.control.dsc) (omega (arith, h, p)) in
    let c : get_or z 2 0 ≡ r.number = get_other y 3 2 r.highest (λ (e : 2 ≡ 3). omega (arith, e))
    ∙ get_same x 2 r.number (omega (arith, h, p, q)) in
    let d : get_or z 3 0 ≡ r.highest = get_same y 3 r.highest (omega (arith, h, p, q, t)) in
    ap (λ (v : ℕ). record_of (entered (state_of v) (eqb (get_or z 1 0) 1)) (get_or z 2 0) (get_or z 3 0)) a
    ∙ ap (λ (v : State). record_of (entered v (eqb (get_or z 1 0) 1)) (get_or z 2 0) (get_or z 3 0)) (state_back r.control.state)
    ∙ ap (λ (v : ℕ). record_of (entered r.control.state (eqb v 1)) (get_or z 2 0) (get_or z 3 0)) b
    ∙ ap (λ (v : Bool). record_of (entered r.control.state v) (get_or z 2 0) (get_or z 3 0)) (flag_back r.control.dsc)
    ∙ ap (λ (v : ℕ). record_of r.control v (get_or z 3 0)) c
    ∙ ap (λ (v : ℕ). record_of r.control r.number v) d

-- ---- lists

or_true : (a : Bool) → (a || true) ≡ true
or_true true = refl
or_true false = refl

-- a member that is x is found
pub among_here : (l : List ℕ) (from n i x : ℕ) → i < n → eqb (member l from i) x ≡ true → among l from n x ≡ true
among_here l from zero i x h e = absurd (omega (arith, h))
among_here l from (suc n) i x h e = go (among_here l from n i x) (eqb i n) refl
  where
    go : (i < n → eqb (member l from i) x ≡ true → among l from n x ≡ true) → (b : Bool) → eqb i n ≡ b
        → (among l from n x || eqb (member l from n) x) ≡ true
    go f true q = subst (λ (j : ℕ). (among l from n x || eqb (member l from j) x) ≡ true) (eqb-true i n q)
        (ap (λ (b : Bool). among l from n x || b) e ∙ or_true (among l from n x))
    go f false q = ap (λ (b : Bool). b || eqb (member l from n) x) (f (omega (arith, h, eqb-false i n q)) e)

-- one that is not leaves it to the others
pub among_next : (l : List ℕ) (from i x : ℕ) → among l from i x ≡ false → eqb (member l from i) x ≡ false → among l from (suc i) x ≡ false
among_next l from i x h e = rw (h, e)

pub among_turn : (l : List ℕ) (from i x v : ℕ) → v ≡ member l from i → (v ≡ x → ⊥) → among l from i x ≡ false
    → among l from (i + 1) x ≡ false
among_turn l from i x v e n h =
    let q : suc i ≡ i + 1 = omega arith in
    subst (λ (k : ℕ). among l from k x ≡ false) q
    (among_next l from i x h (ne_eqb (member l from i) x (λ (r : member l from i ≡ x). n (e ∙ r))))

pub among_end : (l : List ℕ) (from i n x : ℕ) → i ≤ n → n ≤ i → among l from i x ≡ false → among l from n x ≡ false
among_end l from i n x a b h =
    let q : i ≡ n = omega (arith, a, b) in
    subst (λ (k : ℕ). among l from k x ≡ false) q h

-- ---- what was put in is given back

-- a page of full size
abbrev pub size : ℕ
size = 53264

module _ (l : List ℕ) (n job fate : ℕ) (full : size ≤ length l) (room : n < 16384) where
  abbrev noticed : List ℕ
  noticed = set (set (set l (20496 + 2 * n) job) (20496 + 2 * n + 1) fate) 10 (n + 1)

  count_there : get_or noticed 10 0 ≡ n + 1
  count_there = get_same (set (set l (20496 + 2 * n) job) (20496 + 2 * n + 1) fate) 10 (n + 1) (omega (
    arith,
    full,
    length-set (set l (20496 + 2 * n) job) (20496 + 2 * n + 1) fate,
    length-set l (20496 + 2 * n) job,
  ))

  job_there : get_or noticed (20496 + 2 * n) 0 ≡ job
  job_there =
      get_other (set (set l (20496 + 2 * n) job) (20496 + 2 * n + 1) fate) 10 (20496 + 2 * n) (n + 1)
      (λ (e : 20496 + 2 * n ≡ 10). omega (arith, e))
      ∙ (get_other (set l (20496 + 2 * n) job) (20496 + 2 * n + 1) (20496 + 2 * n) fate
      (λ (e : 20496 + 2 * n ≡ 20496 + 2 * n + 1). omega (arith, e)) ∙ get_same l (20496 + 2 * n) job
      (omega (arith, full, room)))

  fate_there : get_or noticed (20496 + 2 * n + 1) 0 ≡ fate
  fate_there =
      get_other (set (set l (20496 + 2 * n) job) (20496 + 2 * n + 1) fate) 10 (20496 + 2 * n + 1) (n + 1)
      (λ (e : 20496 + 2 * n + 1 ≡ 10). omega (arith, e))
      ∙ get_same (set l (20496 + 2 * n) job) (20496 + 2 * n + 1) fate (omega (arith, full, room, length-set l (20496 + 2 * n) job))

  -- a notice is the one of its number
  notice_there : is_noted noticed (n + 1) job fate ≡ true
  unfolding is_noted
  notice_there =
      let a : n + 1 - 1 ≡ n = omega arith in
      rw (
        ne_eqb (n + 1) 0 (λ (e : n + 1 ≡ 0). omega (arith, e)),
        count_there,
        le-ltb (n + 1) (n + 1) (omega arith),
        le-ltb 16384 (n + 1) (omega (arith, room)),
        a,
        job_there,
        fate_there,
        eq-eqb job job refl,
        eq-eqb fate
            fate refl,
      )

pub noted_there : (l : List ℕ) (job fate : ℕ) → size ≤ length l → get_or l 10 0 < 16384
    → is_noted (noted l job fate).page (get_or l 10 0 + 1) job fate ≡ true
unfolding noted
noted_there l job fate full room = subst (λ (b : Bool). is_noted (cond b (left true (set
    (set (set l (20496 + 2 * get_or l 10 0) job) (20496 + 2 * get_or l 10 0 + 1) fate) 10 (get_or l 10 0 + 1)))
    (left false l)).page (get_or l 10 0 + 1) job fate ≡ true) (sym (lt-ltb (get_or l 10 0) 16384 room))
    (notice_there l (get_or l 10 0) job fate full room)

-- one that was put behind the others is among them; the count stands before the list
pub pushed_there : (l : List ℕ) (counter from most x : ℕ) → from ≤ 4294967296 → most ≤ 4294967296
    → from + most ≤ length l → counter < from → get_or l counter 0 < most
    → among (pushed l counter from most x).page from (get_or (pushed l counter from most x).page counter 0) x ≡ true
unfolding pushed
pushed_there l counter from most x a b c e r =
    let n : ℕ = get_or l counter 0 in
    let q : List ℕ = set (set l (from + get_or l counter 0) x) counter (get_or l counter 0 + 1) in
    let z = length-set l (from + get_or l counter 0) x in
    let k : get_or q counter 0 ≡ n + 1 = get_same (set l (from + get_or l counter 0) x) counter (n + 1) (omega (arith, c, e, z)) in
    let v : get_or q (from + n) 0 ≡ x = get_other (set l (from + n) x) counter (from + n) (n + 1)
    (λ (y : from + n ≡ counter). omega (arith, y, e)) ∙ get_same l (from + n) x (omega (arith, c, r)) in
    let u : member q from n ≡ x = rw (le-ltb 4294967296 from a, le-ltb 4294967296 n (omega (arith, b, r)), v) in
    let w : among q from (n + 1) x ≡ true = among_here q from (n + 1) n x (omega arith) (eq-eqb (member q from n) x u) in
    let y : among q from (get_or q counter 0) x ≡ true = subst (λ (i : ℕ). among q from i x ≡ true) (sym k) w in
    rw (lt-leb most (get_or l counter 0) r, le-ltb 4294967296 from a, le-ltb 4294967296 (get_or l counter 0) (omega (arith, b, r)), y)

-- an entry of the line has the kind, the number and the job that it was given
pub record Entry (l : List ℕ) (i kind number job : ℕ) : Type 0 where
  pub kind_there : entry_in l i 0 ≡ kind
  pub number_there : entry_in l i 1 ≡ number
  pub entry_job_there : entry_in l i 2 ≡ job

pub entry_there : (l : List ℕ) (i kind number job : ℕ) → size ≤ length l → i < 1024 → Entry (set_entry l i kind number job) i kind number job
unfolding set_entry entry_in
entry_there l i kind number job full room =
    let x : List ℕ = set l (16 + 3 * i) kind in
    let y : List ℕ = set x (16 + 3 * i + 1) number in
    let z : List ℕ = set y (16 + 3 * i + 2) job in
    let s = length-set l (16 + 3 * i) kind in
    let t = length-set x (16 + 3 * i + 1) number in
    let f : 16 + 3 * i + 0 ≡ 16 + 3 * i = omega arith in
    let a : get_or z (16 + 3 * i) 0 ≡ kind = get_other y (16 + 3 * i + 2) (16 + 3 * i) job
    (λ (e : 16 + 3 * i ≡ 16 + 3 * i + 2). omega (arith, e)) ∙ (get_other x (16 + 3 * i + 1) (16 + 3 * i) number
    (λ (e : 16 + 3 * i ≡ 16 + 3 * i + 1). omega (arith, e)) ∙ get_same l (16 + 3 * i) kind
    (omega (arith, full, room))) in
    let b : get_or z (16 + 3 * i + 1) 0 ≡ number = get_other y (16 + 3 * i + 2) (16 + 3 * i + 1) job
    (λ (e : 16 + 3 * i + 1 ≡ 16 + 3 * i + 2). omega (arith, e)) ∙ get_same x (16 + 3 * i + 1) number
    (omega (arith, full, room, s)) in
    let d : get_or z (16 + 3 * i + 2) 0 ≡ job = get_same y (16 + 3 * i + 2) job (omega (arith, full, room, s, t)) in
    record {
      kind_there = rw (lt-ltb i 1024 room, lt-leb 1024 i room, f, a);
      number_there = rw (lt-ltb i 1024 room, lt-leb 1024 i room, b);
      entry_job_there = rw (lt-ltb i 1024 room, lt-leb 1024 i room, d);
    }
