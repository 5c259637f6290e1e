-- What each change of a page does to what the page says: the record, a list with one more, the open jobs told.
-- Assumes nothing.
use mathlib.Core.Path.{◌≡◌, refl, ap, sym, subst, ◌∙◌}
use mathlib.Core.Bool.{Bool, true, false, cond}
use mathlib.Core.List.{List, [], ◌∷◌, ◌++◌}
use Prim.Native.Nat.{ℕ, zero, suc, ◌+◌, ◌*◌, ◌≤◌, ◌<◌}
use native.Mathlib.Omega.{arith}
use borrow.Author.Tests.{ltb-true, leb-false}
use lib.Dec.{T, eqb, leb, ltb}
use lib.ListN.{length, get_or, set, length-set}
use Rattle.control.specs.Control.{number, entered}
use Rattle.moves.specs.declared.Held.{Held}
use Rattle.moves.specs.Machine.{holding as record_of}
use Rattle.pair.specs.Names.{Side}
use Rattle.pair.specs.Carrier.{Body}
use Rattle.pair.specs.Numbered.{Numbered}
use Rattle.pair.proofs.ControlMachine.{Ent}
use Rattle.duties.specs.Memory.{Notice, Fate, note, each}
use Rattle.tables.specs.Tables.{Leaves, left, state_of, flag_of, held_in, holding, pushed, noted, tell_on, told, entry_in, set_entry, put_on_line}
use Rattle.tables.proofs.Tables.{get_same, get_other, size, entry_there}
use Rattle.tables_laws.proofs.Reading.{jobs_from, fate_in, notice_at, notices_from, entry_of, entry_at, line_from}
use Rattle.tables_laws.proofs.Places.{app_assoc, Same, same_then, same_below, same_above, jobs_same, notices_same, notices_more, notice_path, entry_is, entry_same, entry_path, line_fields, line_last}

pub never : {X : Type 0} → false ≡ true → X
never e = absurd (subst T (sym e) tt)

-- ---- the record

pub held_same : (l m : List ℕ) → Same l m 0 4 → held_in m ≡ held_in l
unfolding held_in
held_same l m s =
    ap (λ (v : ℕ). record_of (entered (state_of v) (eqb (get_or m 1 0) 1)) (get_or m 2 0) (get_or m 3 0)) (s 0 (omega arith) (omega arith))
    ∙ ap (λ (v : ℕ). record_of (entered (state_of (get_or l 0 0)) (eqb v 1)) (get_or m 2 0) (get_or m 3 0)) (s 1 (omega arith) (omega arith))
    ∙ ap (λ (v : ℕ). record_of (entered (state_of (get_or l 0 0)) (eqb (get_or l 1 0) 1)) v (get_or m 3 0)) (s 2 (omega arith) (omega arith))
    ∙ ap (λ (v : ℕ). record_of (entered (state_of (get_or l 0 0)) (eqb (get_or l 1 0) 1)) (get_or l 2 0) v) (s 3 (omega arith) (omega arith))

pub hold_same : (l : List ℕ) (r : Held) (b : ℕ) → Same l (holding l r) 4 b
unfolding holding
hold_same l r b =
    let w : List ℕ = set l 0 (number r.control.state) in
    let x : List ℕ = set w 1 (flag_of r.control.dsc) in
    let y : List ℕ = set x 2 r.number in
    let z : List ℕ = set y 3 r.highest in
    same_then l y z 4 b
    (same_then l x y 4 b
    (same_then l w x 4 b (same_above l 0 (number r.control.state) 4 b (omega arith))
    (same_above w 1 (flag_of r.control.dsc) 4 b (omega arith)))
    (same_above x 2 r.number 4 b (omega arith)))
    (same_above y 3 r.highest 4 b (omega arith))

pub length_hold : (l : List ℕ) (r : Held) → length (holding l r) ≡ length l
unfolding holding
length_hold l r =
    let w : List ℕ = set l 0 (number r.control.state) in
    let x : List ℕ = set w 1 (flag_of r.control.dsc) in
    let y : List ℕ = set x 2 r.number in
    length-set y 3 r.highest ∙ length-set x 2 r.number ∙ length-set w 1 (flag_of r.control.dsc) ∙ length-set l
    0 (number r.control.state)

-- ---- an entry

kept_if : (b : Bool) (x l : List ℕ) (p : ℕ) → get_or x p 0 ≡ get_or l p 0 → get_or (cond b x l) p 0 ≡ get_or l p 0
kept_if true x l p e = e
kept_if false x l p e = refl

pub entry_apart : (l : List ℕ) (i kind number job p : ℕ) → ((f : ℕ) → f ≤ 2 → p ≡ 16 + 3 * i + f → ⊥)
    → get_or (set_entry l i kind number job) p 0 ≡ get_or l p 0
unfolding set_entry
entry_apart l i kind number job p h =
    let x : List ℕ = set l (16 + 3 * i) kind in
    let y : List ℕ = set x (16 + 3 * i + 1) number in
    kept_if (ltb i 1024) (set y (16 + 3 * i + 2) job) l p
    (get_other y (16 + 3 * i + 2) p job (λ (e : p ≡ 16 + 3 * i + 2). h 2 (omega arith) e)
    ∙ get_other x (16 + 3 * i + 1) p number (λ (e : p ≡ 16 + 3 * i + 1). h 1 (omega arith) e)
    ∙ get_other l (16 + 3 * i) p kind (λ (e : p ≡ 16 + 3 * i). h 0 (omega arith) (omega (arith, e))))

pub entry_before : (l : List ℕ) (i kind number job a b : ℕ) → b ≤ 16 + 3 * i → Same l (set_entry l i kind number job) a b
entry_before l i kind number job a b h p u v =
    entry_apart l i kind number job p (λ (f : ℕ) (g : f ≤ 2) (e : p ≡ 16 + 3 * i + f). omega (arith, h, v, e))

pub entry_behind : (l : List ℕ) (i kind number job a b : ℕ) → 16 + 3 * i + 3 ≤ a → Same l (set_entry l i kind number job) a b
entry_behind l i kind number job a b h p u v =
    entry_apart l i kind number job p (λ (f : ℕ) (g : f ≤ 2) (e : p ≡ 16 + 3 * i + f). omega (arith, h, u, e, g))

length_if : (b : Bool) (x l : List ℕ) → length x ≡ length l → length (cond b x l) ≡ length l
length_if true x l e = e
length_if false x l e = refl

pub length_entry : (l : List ℕ) (i kind number job : ℕ) → length (set_entry l i kind number job) ≡ length l
unfolding set_entry
length_entry l i kind number job =
    let x : List ℕ = set l (16 + 3 * i) kind in
    let y : List ℕ = set x (16 + 3 * i + 1) number in
    length_if (ltb i 1024) (set y (16 + 3 * i + 2) job) l
    (length-set y (16 + 3 * i + 2) job ∙ length-set x (16 + 3 * i + 1) number ∙ length-set l (16 + 3 * i) kind)

-- the line that a page has, as far as these places reach
pub line_within : (text : Side → ℕ → Body) (sd : Side) (l m : List ℕ) (a b : ℕ) → Same l m a b → (k i : ℕ) → a ≤ 16 + 3 * i
    → 16 + 3 * (i + k) ≤ b → i + k ≤ 1024 → line_from text sd m k i ≡ line_from text sd l k i
line_within text sd l m a b s k i p q r =
    line_fields text sd l m k i i (λ (n f : ℕ) (h : n < k) (g : f ≤ 2).
    entry_is m (i + n) f (omega (arith, h, r)) g
    ∙ s (16 + 3 * (i + n) + f) (omega (arith, p)) (omega (arith, h, g, q))
    ∙ sym (entry_is l (i + n) f (omega (arith, h, r)) g))

-- ---- an entry goes behind the others

abbrev pub lined : List ℕ → ℕ → ℕ → ℕ → List ℕ
lined l kind number job = set (set (set_entry l (get_or l 7 0) kind number job) 7 (get_or l 7 0 + 1)) 6 (get_or l 6 0 + 1)

pub record Lined (text : Side → ℕ → Body) (sd : Side) (l m : List ℕ) (kind number job : ℕ) : Type 0 where
  pub room : get_or l 7 0 < 1024
  pub count : get_or m 7 0 ≡ get_or l 7 0 + 1
  pub unsent : get_or m 6 0 ≡ get_or l 6 0 + 1
  pub line : line_from text sd m (get_or m 7 0) 0 ≡ line_from text sd l (get_or l 7 0) 0 ++ (entry_of text sd kind number job ∷ [])
  pub below : Same l m 0 6
  pub between : Same l m 8 16
  pub above : (b : ℕ) → Same l m 3088 b
  pub size_same : length m ≡ length l

module _ (text : Side → ℕ → Body) (sd : Side) (l : List ℕ) (kind number job : ℕ) (full : size ≤ length l) (room : get_or l 7 0 < 1024) where
  put_entry : Lined text sd l (lined l kind number job) kind number job
  put_entry =
      let n : ℕ = get_or l 7 0 in
      let x : List ℕ = set_entry l n kind number job in
      let y : List ℕ = set x 7 (n + 1) in
      let z : List ℕ = set y 6 (get_or l 6 0 + 1) in
      let p = length_entry l n kind number job in
      let q = length-set x 7 (n + 1) in
      let t = entry_there l n kind number job full room in
      let c : get_or z 7 0 ≡ n + 1 = get_other y 6 7 (get_or l 6 0 + 1) (λ (e : 7 ≡ 6). omega (arith, e)) ∙ get_same x 7
      (n + 1) (omega (arith, full, p)) in
      let above16 : (b : ℕ) → Same x z 8 b = λ (b : ℕ). same_then x y z 8 b (same_above x 7 (n + 1) 8 b (omega arith))
      (same_above y 6 (get_or l 6 0 + 1) 8 b (omega arith)) in
      let field : (i f : ℕ) → i < 1024 → f ≤ 2 → entry_in z i f ≡ entry_in x i f = λ (i f : ℕ) (h : i < 1024) (g : f ≤ 2).
      entry_same x z (λ (i : ℕ) (u : 16 ≤ i) (v : i < 3088). above16 3088 i (omega (arith, u)) v) i f h g in
      let s : Same l z 16 (16 + 3 * n) = λ (i : ℕ) (u : 16 ≤ i) (v : i < 16 + 3 * n). above16 (16 + 3 * n) i
      (omega (arith, u)) v ∙ entry_before l n kind number job 16 (16 + 3 * n) (omega arith) i u v in
      let e : n + 1 ≡ suc n = omega arith in
      record {
        room = room;
        count = c;
        unsent = get_same y 6 (get_or l 6 0 + 1) (omega (arith, full, p, q));
        line =
            ap (λ (k : ℕ). line_from text sd z k 0) (c ∙ e)
            ∙ line_last text sd z n
            ∙ ap (λ (w : List (Numbered Ent)). w ++ (entry_at text sd z n ∷ []))
            (line_within text sd l z 16 (16 + 3 * n) s n 0 (omega arith) (omega arith) (omega (arith, room)))
            ∙ ap (λ (w : Numbered Ent). line_from text sd l n 0 ++ (w ∷ [])) (entry_path text sd
            (field n 0 room (omega arith) ∙ t.kind_there) (field n 1 room (omega arith) ∙ t.number_there)
            (field n 2 room (omega arith) ∙ t.entry_job_there));
        below = λ (i : ℕ) (u : 0 ≤ i) (v : i < 6).
            same_below y 6 (get_or l 6 0 + 1) 0 i u v ∙ same_below x 7 (n + 1) 0 i u (omega (arith, v)) ∙ entry_before l n
            kind number job 0 16 (omega arith) i u (omega (arith, v));
        between = λ (i : ℕ) (u : 8 ≤ i) (v : i < 16). above16 16 i u v ∙ entry_before l n kind number job 8 16 (omega arith) i u v;
        above = λ (b i : ℕ) (u : 3088 ≤ i) (v : i < b). above16 b i (omega (arith, u)) v ∙ entry_behind l n kind number
            job 3088 b (omega (arith, room)) i u v;
        size_same = length-set y 6 (get_or l 6 0 + 1) ∙ q ∙ p;
      }

pub put_lined : (text : Side → ℕ → Body) (sd : Side) (l : List ℕ) (kind number job : ℕ) → size ≤ length l
    → (put_on_line l kind number job).answer ≡ true → Lined text sd l (put_on_line l kind number job).page kind number job
unfolding put_on_line
put_lined text sd l kind number job full h = go (leb 1024 (get_or l 7 0)) (leb 1024 (get_or l 6 0)) refl h
  where
    go : (a b : Bool) → leb 1024 (get_or l 7 0) ≡ a
        → (cond a (left false l) (cond b (left false l) (left true (lined l kind number job)))).answer ≡ true
        → Lined text sd l (cond a (left false l) (cond b (left false l) (left true (lined l kind number job)))).page kind number job
    go true b e w = never w
    go false true e w = never w
    go false false e w = put_entry text sd l kind number job full (leb-false 1024 (get_or l 7 0) e)

-- ---- a notice

abbrev pub noticed : List ℕ → ℕ → ℕ → List ℕ
noticed l job fate = set (set (set l (20496 + 2 * get_or l 10 0) job) (20496 + 2 * get_or l 10 0 + 1) fate) 10 (get_or l 10 0 + 1)

pub record Noted (l m : List ℕ) (job fate : ℕ) : Type 0 where
  pub room : get_or l 10 0 < 16384
  pub count : get_or m 10 0 ≡ get_or l 10 0 + 1
  pub notices : notices_from m (get_or m 10 0) 20496 ≡ notices_from l (get_or l 10 0) 20496 ++ (note job (fate_in fate) ∷ [])
  pub below : Same l m 0 10
  pub between : Same l m 11 20496
  pub size_same : length m ≡ length l

module _ (l : List ℕ) (job fate : ℕ) (full : size ≤ length l) (room : get_or l 10 0 < 16384) where
  put_notice : Noted l (noticed l job fate) job fate
  put_notice =
      let n : ℕ = get_or l 10 0 in
      let x : List ℕ = set l (20496 + 2 * n) job in
      let y : List ℕ = set x (20496 + 2 * n + 1) fate in
      let z : List ℕ = set y 10 (n + 1) in
      let p = length-set l (20496 + 2 * n) job in
      let q = length-set x (20496 + 2 * n + 1) fate in
      let c : get_or z 10 0 ≡ n + 1 = get_same y 10 (n + 1) (omega (arith, full, p, q)) in
      let s : Same l z 11 (20496 + 2 * n) = λ (i : ℕ) (u : 11 ≤ i) (v : i < 20496 + 2 * n).
      same_above y 10 (n + 1) 11 (20496 + 2 * n) (omega arith) i u v ∙ same_below x (20496 + 2 * n + 1) fate 11 i u
      (omega (arith, v)) ∙ same_below l (20496 + 2 * n) job 11 i u v in
      let j : get_or z (20496 + 2 * n) 0 ≡ job = get_other y 10 (20496 + 2 * n) (n + 1) (λ (e : 20496 + 2 * n ≡ 10). omega (arith, e))
      ∙ get_other x (20496 + 2 * n + 1) (20496 + 2 * n) fate
      (λ (e : 20496 + 2 * n ≡ 20496 + 2 * n + 1). omega (arith, e)) ∙ get_same l (20496 + 2 * n) job
      (omega (arith, full, room)) in
      let f : get_or z (20496 + 2 * n + 1) 0 ≡ fate = get_other y 10 (20496 + 2 * n + 1) (n + 1)
      (λ (e : 20496 + 2 * n + 1 ≡ 10). omega (arith, e))
      ∙ get_same x (20496 + 2 * n + 1) fate (omega (arith, full, room, p)) in
      let e : n + 1 ≡ suc n = omega arith in
      record {
        room = room;
        count = c;
        notices =
            ap (λ (k : ℕ). notices_from z k 20496) (c ∙ e)
            ∙ notices_more z n 20496
            ∙ ap (λ (w : List Notice). w ++ (notice_at z (20496 + 2 * n) ∷ []))
            (notices_same l z 11 (20496 + 2 * n) s n 20496 (omega arith) (omega arith))
            ∙ ap (λ (w : Notice). notices_from l n 20496 ++ (w ∷ [])) (notice_path j f);
        below = λ (i : ℕ) (u : 0 ≤ i) (v : i < 10).
            same_below y 10 (n + 1) 0 i u v ∙ same_below x (20496 + 2 * n + 1) fate 0 i u (omega (arith, v)) ∙
            same_below l (20496 + 2 * n) job 0 i u (omega (arith, v));
        between = λ (i : ℕ) (u : 11 ≤ i) (v : i < 20496). s i u (omega (arith, v));
        size_same = length-set y 10 (n + 1) ∙ q ∙ p;
      }

pub put_noted : (l : List ℕ) (job fate : ℕ) → size ≤ length l → (noted l job fate).answer ≡ true → Noted l (noted l job fate).page job fate
unfolding noted
put_noted l job fate full h = go (ltb (get_or l 10 0) 16384) refl h
  where
    go : (a : Bool) → ltb (get_or l 10 0) 16384 ≡ a → (cond a (left true (noticed l job fate)) (left false l)).answer ≡ true
        → Noted l (cond a (left true (noticed l job fate)) (left false l)).page job fate
    go true e w = put_notice l job fate full (ltb-true (get_or l 10 0) 16384 e)
    go false e w = never w

-- ---- every open job gets its fate

pub record Told (l m : List ℕ) (k i fate : ℕ) : Type 0 where
  pub none_open : get_or m 9 0 ≡ 0
  pub room : get_or m 10 0 ≤ 16384
  pub notices : notices_from m (get_or m 10 0) 20496 ≡ notices_from l (get_or l 10 0) 20496 ++ each (fate_in fate) (jobs_from l k (19472 + i))
  pub below : Same l m 0 9
  pub between : Same l m 11 20496
  pub size_same : length m ≡ length l

app_nil : {X : Type 0} (l : List X) → l ++ [] ≡ l
app_nil [] = refl
app_nil (x ∷ l) = ap (λ (t : List _). x ∷ t) (app_nil l)

tell_none : (l : List ℕ) (i fate : ℕ) → size ≤ length l → get_or l 10 0 ≤ 16384 → Told l (set l 9 0) 0 i fate
tell_none l i fate full room =
    let m : List ℕ = set l 9 0 in
    let c : get_or m 10 0 ≡ get_or l 10 0 = get_other l 9 10 0 (λ (e : 10 ≡ 9). omega (arith, e)) in
    record {
      none_open = get_same l 9 0 (omega (arith, full));
      room = omega (arith, room, c);
      notices =
          ap (λ (k : ℕ). notices_from m k 20496) c
          ∙ notices_same l m 10 53264 (same_above l 9 0 10 53264 (omega arith)) (get_or l 10 0) 20496 (omega arith) (omega (arith, room))
          ∙ sym (app_nil (notices_from l (get_or l 10 0) 20496));
      below = λ (n : ℕ) (u : 0 ≤ n) (v : n < 9). same_below l 9 0 0 n u v;
      between = same_above l 9 0 11 20496 (omega arith);
      size_same = length-set l 9 0;
    }

tell_next : (l x m : List ℕ) (k i fate : ℕ) → i + suc k ≤ 1024 → Noted l x (get_or l (19472 + i) 0) fate
    → Told x m k (i + 1) fate → Told l m (suc k) i fate
tell_next l x m k i fate h a b =
    let f : Fate = fate_in fate in
    let e : 19472 + (i + 1) ≡ suc (19472 + i) = omega arith in
    let j : jobs_from x k (19472 + (i + 1)) ≡ jobs_from l k (suc (19472 + i)) =
    jobs_same l x 11 20496 a.between k (19472 + (i + 1)) (omega arith) (omega (arith, h)) ∙ ap (jobs_from l k) e in
    record {
      none_open = b.none_open;
      room = b.room;
      notices =
          b.notices
          ∙ ap (λ (w : List Notice). w ++ each f (jobs_from x k (19472 + (i + 1)))) a.notices
          ∙ ap (λ (w : List ℕ). (notices_from l (get_or l 10 0) 20496 ++ (note (get_or l (19472 + i) 0) f ∷ [])) ++ each f w) j
          ∙ app_assoc (notices_from l (get_or l 10 0) 20496) (note (get_or l (19472 + i) 0) f ∷ []) (each f (jobs_from l k (suc (19472 + i))));
      below = λ (n : ℕ) (u : 0 ≤ n) (v : n < 9). b.below n u v ∙ a.below n u (omega (arith, v));
      between = same_then l x m 11 20496 a.between b.between;
      size_same = b.size_same ∙ a.size_same;
    }

tell_turns : (k : ℕ) (l : List ℕ) (i fate : ℕ) → size ≤ length l → get_or l 10 0 ≤ 16384 → i + k ≤ 1024 → (tell_on k l i fate).answer ≡ true
    → Told l (tell_on k l i fate).page k i fate
unfolding tell_on
tell_turns zero l i fate full room h w = tell_none l i fate full room
tell_turns (suc k) l i fate full room h w =
    go (leb 1024 i) (noted l (get_or l (19472 + i) 0) fate).answer refl
    (tell_turns k (noted l (get_or l (19472 + i) 0) fate).page (i + 1) fate) w
  where
    x : Leaves
    x = noted l (get_or l (19472 + i) 0) fate

    go : (a b : Bool) → x.answer ≡ b
        → (size ≤ length x.page → get_or x.page 10 0 ≤ 16384 → i + 1 + k ≤ 1024 → (tell_on k x.page (i + 1)
        fate).answer ≡ true → Told x.page (tell_on k x.page (i + 1) fate).page k (i + 1) fate)
        → (cond a (left false l) (cond b (tell_on k x.page (i + 1) fate) (left false x.page))).answer ≡ true
        → Told l (cond a (left false l) (cond b (tell_on k x.page (i + 1) fate) (left false x.page))).page (suc k) i fate
    go true b e f v = never v
    go false false e f v = never v
    go false true e f v =
        let a = put_noted l (get_or l (19472 + i) 0) fate full e in
        tell_next l x.page (tell_on k x.page (i + 1) fate).page k i fate h a
        (f (omega (arith, full, a.size_same)) (omega (arith, a.count, a.room)) (omega (arith, h)) v)

pub tell_all : (l : List ℕ) (fate : ℕ) → size ≤ length l → get_or l 9 0 ≤ 1024 → get_or l 10 0 ≤ 16384 → (told l fate).answer ≡ true
    → Told l (told l fate).page (get_or l 9 0) 0 fate
unfolding told
tell_all l fate full h room w = tell_turns (get_or l 9 0) l 0 fate full room (omega (arith, h)) w

-- ---- one behind the others

abbrev pub pushed_on : List ℕ → ℕ → ℕ → ℕ → List ℕ
pushed_on l counter from x = set (set l (from + get_or l counter 0) x) counter (get_or l counter 0 + 1)

pub record Pushed (l m : List ℕ) (counter from most x : ℕ) : Type 0 where
  pub room : get_or l counter 0 < most
  pub page_is : m ≡ pushed_on l counter from x

pub put_pushed : (l : List ℕ) (counter from most x : ℕ) → (pushed l counter from most x).answer ≡ true
    → Pushed l (pushed l counter from most x).page counter from most x
unfolding pushed
put_pushed l counter from most x h =
    go (leb most (get_or l counter 0)) (ltb 4294967296 from) (ltb 4294967296 (get_or l counter 0)) refl h
  where
    m : List ℕ
    m = pushed_on l counter from x

    go : (a b c : Bool) → leb most (get_or l counter 0) ≡ a
        → (cond a (left false l) (cond b (left false l) (cond c (left false l) (left true m)))).answer ≡ true
        → Pushed l (cond a (left false l) (cond b (left false l) (cond c (left false l) (left true m)))).page counter from most x
    go true b c e w = never w
    go false true c e w = never w
    go false false true e w = never w
    go false false false e w = record { room = leb-false most (get_or l counter 0) e; page_is = refl }
