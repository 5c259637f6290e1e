-- The turns of the loops over a page: how each begins, goes on and ends, in the words of the code.
-- Assumes nothing.
use mathlib.Core.Path.{◌≡◌, refl, ap, sym, ◌∙◌}
use mathlib.Core.Bool.{Bool, true, false, cond}
use mathlib.Core.List.{List}
use Prim.Native.Nat.{ℕ, zero, suc, ◌+◌, ◌-◌, ◌≤◌, ◌<◌}
use native.Mathlib.Omega.{arith}
use borrow.Author.Tests.{le-leb, lt-leb}
use lib.Dec.{eqb, leb}
use lib.ListN.{length, get_or, set}
use Rattle.tables.specs.Tables.{Leaves, left, and_then, noted, tell_on, told, entry_in, counted_if, settled, stays_of, is_of, trim_on, trimmed, is_start_of, start_on, start_in, drawn, draw_on, removed, mark_broken, mark_on, marked_line}

-- ---- every open job gets its fate

tell_suc : (k : ℕ) (l : List ℕ) (i fate : ℕ)
    → tell_on (suc k) l i fate ≡ cond (leb 1024 i) (left false l)
    (and_then (noted l (get_or l (19472 + i) 0) fate) (λ (m : List ℕ). tell_on k m (i + 1) fate))
unfolding tell_on
tell_suc k l i fate = refl

tell_zero : (l : List ℕ) (i fate : ℕ) → tell_on 0 l i fate ≡ left true (set l 9 0)
unfolding tell_on
tell_zero l i fate = refl

tell_more : (l : List ℕ) (n i fate : ℕ) → i < n
    → tell_on (n - i) l i fate ≡ cond (leb 1024 i) (left false l)
    (and_then (noted l (get_or l (19472 + i) 0) fate) (λ (m : List ℕ). tell_on (n - (i + 1)) m (i + 1) fate))
tell_more l n i fate h =
    let e : n - i ≡ suc (n - (i + 1)) = omega (arith, h) in
    ap (λ (k : ℕ). tell_on k l i fate) e ∙ tell_suc (n - (i + 1)) l i fate

pub tell_begins : (l : List ℕ) (n fate : ℕ) → n ≡ get_or l 9 0 → tell_on (n - 0) l 0 fate ≡ told l fate
unfolding told
tell_begins l n fate h =
    let e : n - 0 ≡ get_or l 9 0 = omega (arith, h) in
    ap (λ (k : ℕ). tell_on k l 0 fate) e

pub tell_full : (l : List ℕ) (n i fate : ℕ) (z : Leaves) → i < n → 1024 ≤ i → tell_on (n - i) l i fate ≡ z → left false l ≡ z
tell_full l n i fate z h f w = sym (rw (tell_more l n i fate h, le-leb 1024 i f)) ∙ w

pub tell_refused : (l m : List ℕ) (n i fate job : ℕ) (t : Bool) (z : Leaves) → i < n → i < 1024
    → job ≡ get_or l (19472 + i) 0 → left t m ≡ noted l job fate → t ≡ false → tell_on (n - i) l i fate ≡ z → left false m ≡ z
tell_refused l m n i fate job t z h f j a b w =
    sym (rw (tell_more l n i fate h, lt-leb 1024 i f, ← j, ← a, b)) ∙ w

pub tell_turn : (l m : List ℕ) (n i fate job : ℕ) (t : Bool) (z : Leaves) → i < n → i < 1024
    → job ≡ get_or l (19472 + i) 0 → left t m ≡ noted l job fate → t ≡ true → tell_on (n - i) l i fate ≡ z
    → tell_on (n - (i + 1)) m (i + 1) fate ≡ z
tell_turn l m n i fate job t z h f j a b w =
    sym (rw (tell_more l n i fate h, lt-leb 1024 i f, ← j, ← a, b)) ∙ w

pub tell_ends : (l m : List ℕ) (n i fate : ℕ) (z : Leaves) → n ≤ i → m ≡ set l 9 0 → tell_on (n - i) l i fate ≡ z → left true m ≡ z
tell_ends l m n i fate z h e w =
    let k : n - i ≡ 0 = omega (arith, h) in
    ap (left true) e ∙ sym (tell_zero l i fate) ∙ ap (λ (x : ℕ). tell_on x l i fate) (sym k) ∙ w

-- ---- of the entries of a dialogue the first so many stay

trim_suc : (k : ℕ) (l : List ℕ) (number most i kept met : ℕ)
    → trim_on (suc k) l number most i kept met ≡ trim_on k (settled l i kept (stays_of (is_of l i number) met most)) number
    most (i + 1) (counted_if kept (stays_of (is_of l i number) met most)) (counted_if met (is_of l i number))
unfolding trim_on
trim_suc k l number most i kept met = refl

trim_zero : (l : List ℕ) (number most i kept met : ℕ) → trim_on 0 l number most i kept met ≡ set l 7 kept
unfolding trim_on
trim_zero l number most i kept met = refl

pub trim_begins : (l : List ℕ) (n number most : ℕ) → n ≡ get_or l 7 0 → trim_on (n - 0) l number most 0 0 0 ≡ trimmed l number most
unfolding trimmed
trim_begins l n number most h =
    let e : n - 0 ≡ get_or l 7 0 = omega (arith, h) in
    ap (λ (k : ℕ). trim_on k l number most 0 0 0) e

pub trim_turn : (l m : List ℕ) (n number most i kept met v kept' met' : ℕ) (s : Bool) (z : List ℕ) → i < n
    → v ≡ entry_in l i 1 → s ≡ stays_of (eqb v number) met most → m ≡ settled l i kept s → kept' ≡ counted_if kept s
    → met' ≡ counted_if met (eqb v number) → trim_on (n - i) l number most i kept met ≡ z
    → trim_on (n - (i + 1)) m number most (i + 1) kept' met' ≡ z
trim_turn l m n number most i kept met v kept' met' s z h e a b c d w =
    let k : n - i ≡ suc (n - (i + 1)) = omega (arith, h) in
    let f : stays_of (is_of l i number) met most ≡ s = ap (λ (x : ℕ). stays_of (eqb x number) met most) (sym e) ∙ sym a in
    let g : is_of l i number ≡ eqb v number = ap (λ (x : ℕ). eqb x number) (sym e) in
    sym (ap (λ (x : ℕ). trim_on x l number most i kept met) k
    ∙ trim_suc (n - (i + 1)) l number most i kept met
    ∙ ap (λ (x : Bool). trim_on (n - (i + 1)) (settled l i kept x) number most (i + 1) (counted_if kept x)
    (counted_if met (is_of l i number))) f
    ∙ ap (λ (x : Bool). trim_on (n - (i + 1)) (settled l i kept s) number most (i + 1) (counted_if kept s) (counted_if met x)) g
    ∙ ap (λ (x : List ℕ). trim_on (n - (i + 1)) x number most (i + 1) (counted_if kept s) (counted_if met (eqb v number))) (sym b)
    ∙ ap (λ (x : ℕ). trim_on (n - (i + 1)) m number most (i + 1) x (counted_if met (eqb v number))) (sym c)
    ∙ ap (λ (x : ℕ). trim_on (n - (i + 1)) m number most (i + 1) kept' x) (sym d))
    ∙ w

pub trim_ends : (l m : List ℕ) (n number most i kept met : ℕ) (z : List ℕ) → n ≤ i → m ≡ set l 7 kept
    → trim_on (n - i) l number most i kept met ≡ z → m ≡ z
trim_ends l m n number most i kept met z h e w =
    let k : n - i ≡ 0 = omega (arith, h) in
    e ∙ sym (trim_zero l number most i kept met) ∙ ap (λ (x : ℕ). trim_on x l number most i kept met) (sym k) ∙ w

-- ---- where the start of a dialogue is

start_suc : (k : ℕ) (l : List ℕ) (number i : ℕ)
    → start_on (suc k) l number i ≡ cond (is_start_of l i number) i (start_on k l number (i + 1))
unfolding start_on
start_suc k l number i = refl

start_zero : (l : List ℕ) (number i : ℕ) → start_on 0 l number i ≡ i
unfolding start_on
start_zero l number i = refl

start_more : (l : List ℕ) (n number i : ℕ) → i < n
    → start_on (n - i) l number i ≡ cond (is_start_of l i number) i (start_on (n - (i + 1)) l number (i + 1))
start_more l n number i h =
    let e : n - i ≡ suc (n - (i + 1)) = omega (arith, h) in
    ap (λ (k : ℕ). start_on k l number i) e ∙ start_suc (n - (i + 1)) l number i

pub start_begins : (l : List ℕ) (n number : ℕ) → n ≡ get_or l 7 0 → start_on (n - 0) l number 0 ≡ start_in l number
unfolding start_in
start_begins l n number h =
    let e : n - 0 ≡ get_or l 7 0 = omega (arith, h) in
    ap (λ (k : ℕ). start_on k l number 0) e

pub start_found : (l : List ℕ) (n number i : ℕ) (t : Bool) (z : ℕ) → i < n → t ≡ is_start_of l i number → t ≡ true
    → start_on (n - i) l number i ≡ z → i ≡ z
start_found l n number i t z h a b w =
    sym (start_more l n number i h
    ∙ ap (λ (x : Bool). cond x i (start_on (n - (i + 1)) l number (i + 1))) (sym a ∙ b))
    ∙ w

pub start_turn : (l : List ℕ) (n number i : ℕ) (t : Bool) (z : ℕ) → i < n → t ≡ is_start_of l i number → t ≡ false
    → start_on (n - i) l number i ≡ z → start_on (n - (i + 1)) l number (i + 1) ≡ z
start_turn l n number i t z h a b w =
    sym (start_more l n number i h
    ∙ ap (λ (x : Bool). cond x i (start_on (n - (i + 1)) l number (i + 1))) (sym a ∙ b))
    ∙ w

pub start_ends : (l : List ℕ) (n number i : ℕ) (z : ℕ) → i ≤ n → n ≤ i → start_on (n - i) l number i ≡ z → n ≡ z
start_ends l n number i z g h w =
    let k : n - i ≡ 0 = omega (arith, h) in
    let e : n ≡ i = omega (arith, g, h) in
    e ∙ sym (start_zero l number i) ∙ ap (λ (x : ℕ). start_on x l number i) (sym k) ∙ w

-- ---- the entry at a place is gone

draw_suc : (k : ℕ) (l : List ℕ) (i : ℕ) → draw_on (suc k) l i ≡ draw_on k (drawn l i) (i + 1)
unfolding draw_on
draw_suc k l i = refl

draw_zero : (l : List ℕ) (i : ℕ) → draw_on 0 l i ≡ l
unfolding draw_on
draw_zero l i = refl

pub draw_turn : (l m : List ℕ) (n i : ℕ) (z : List ℕ) → i < n → m ≡ drawn l i → draw_on (n - i) l i ≡ z → draw_on (n - (i + 1)) m (i + 1) ≡ z
draw_turn l m n i z h e w =
    let k : n - i ≡ suc (n - (i + 1)) = omega (arith, h) in
    sym (ap (λ (x : ℕ). draw_on x l i) k
    ∙ draw_suc (n - (i + 1)) l i
    ∙ ap (λ (x : List ℕ). draw_on (n - (i + 1)) x (i + 1)) (sym e))
    ∙ w

pub removed_none : (l : List ℕ) (n at : ℕ) → n ≡ get_or l 7 0 → n ≤ at → l ≡ removed l at
unfolding removed
removed_none l n at e h =
    let g : get_or l 7 0 ≤ at = omega (arith, e, h) in
    rw (le-leb (get_or l 7 0) at g)

pub removed_ends : (l q m : List ℕ) (n at i : ℕ) → n ≡ get_or l 7 0 → at < n → n ≤ i → draw_on (n - i) q i ≡ draw_on (n - at) l at
    → m ≡ set q 7 (n - 1) → m ≡ removed l at
unfolding removed
removed_ends l q m n at i e h g w b =
    let k : n - i ≡ 0 = omega (arith, g) in
    let u : at < get_or l 7 0 = omega (arith, e, h) in
    let p : q ≡ draw_on (n - at) l at = sym (draw_zero q i) ∙ ap (λ (x : ℕ). draw_on x q i) (sym k) ∙ w in
    b ∙ ap (λ (x : List ℕ). set x 7 (n - 1)) p
    ∙ ap (λ (x : ℕ). set (draw_on (x - at) l at) 7 (x - 1)) e
    ∙ ap (λ (x : Bool). cond x l (set (draw_on (get_or l 7 0 - at) l at) 7 (get_or l 7 0 - 1))) (sym (lt-leb (get_or l 7 0) at u))

-- ---- each dialogue that has an entry on the line is broken

mark_suc : (k : ℕ) (b l : List ℕ) (i : ℕ)
    → mark_on (suc k) b l i ≡ and_then (mark_broken b (entry_in l i 1)) (λ (c : List ℕ). mark_on k c l (i + 1))
unfolding mark_on
mark_suc k b l i = refl

mark_zero : (b l : List ℕ) (i : ℕ) → mark_on 0 b l i ≡ left true b
unfolding mark_on
mark_zero b l i = refl

pub mark_begins : (b l : List ℕ) (n : ℕ) → n ≡ get_or l 7 0 → mark_on (n - 0) b l 0 ≡ marked_line b l
unfolding marked_line
mark_begins b l n h =
    let e : n - 0 ≡ get_or l 7 0 = omega (arith, h) in
    ap (λ (k : ℕ). mark_on k b l 0) e

mark_next : (b c l : List ℕ) (n i v : ℕ) (t : Bool) → i < n → v ≡ entry_in l i 1 → left t c ≡ mark_broken b v
    → mark_on (n - i) b l i ≡ cond t (mark_on (n - (i + 1)) c l (i + 1)) (left false c)
mark_next b c l n i v t h e a =
    let k : n - i ≡ suc (n - (i + 1)) = omega (arith, h) in
    ap (λ (x : ℕ). mark_on x b l i) k
    ∙ mark_suc (n - (i + 1)) b l i
    ∙ ap (λ (x : Leaves). and_then x (λ (d : List ℕ). mark_on (n - (i + 1)) d l (i + 1))) (ap (mark_broken b) (sym e) ∙ sym a)

pub mark_refused : (b c l : List ℕ) (n i v : ℕ) (t : Bool) (z : Leaves) → i < n → v ≡ entry_in l i 1 → left t c ≡ mark_broken b v
    → t ≡ false → mark_on (n - i) b l i ≡ z → left false c ≡ z
mark_refused b c l n i v t z h e a r w =
    sym (mark_next b c l n i v t h e a
    ∙ ap (λ (x : Bool). cond x (mark_on (n - (i + 1)) c l (i + 1)) (left false c)) r)
    ∙ w

pub mark_turn : (b c l : List ℕ) (n i v : ℕ) (t : Bool) (z : Leaves) → i < n → v ≡ entry_in l i 1 → left t c ≡ mark_broken b v
    → t ≡ true → mark_on (n - i) b l i ≡ z → mark_on (n - (i + 1)) c l (i + 1) ≡ z
mark_turn b c l n i v t z h e a r w =
    sym (mark_next b c l n i v t h e a
    ∙ ap (λ (x : Bool). cond x (mark_on (n - (i + 1)) c l (i + 1)) (left false c)) r)
    ∙ w

pub mark_ends : (b l : List ℕ) (n i : ℕ) (z : Leaves) → n ≤ i → mark_on (n - i) b l i ≡ z → left true b ≡ z
mark_ends b l n i z h w =
    let k : n - i ≡ 0 = omega (arith, h) in
    sym (mark_zero b l i) ∙ ap (λ (x : ℕ). mark_on x b l i) (sym k) ∙ w
