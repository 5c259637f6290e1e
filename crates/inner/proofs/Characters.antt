-- A message and nothing after it, as it was read; and how many characters elements have: by their types at most 256 each.
-- Assumes nothing.
use mathlib.Core.Path.{◌≡◌, refl, ap}
use mathlib.Core.Bool.{Bool, true, false, cond}
use mathlib.Core.List.{List, [], ◌∷◌}
use Prim.Native.Nat.{ℕ, ◌+◌, ◌*◌, ◌≤◌}
use native.Mathlib.Omega.{arith}
use lib.ListN.{length, take, drop, length-append, take-append-drop}
use lib.Dec.{leb}
use borrow.Author.Tests.{eqb-true, leb-false}
use Rattle.words.proofs.Laws.{both_left, both_right, ok_place, ok_value}
use Rattle.fields.specs.Fields.{Reading, refused_at}
use Rattle.fields.specs.declared.Fault.TheVariants as fault
use Rattle.kinds.specs.declared.Direction.{Direction}
use Rattle.elements.specs.declared.values.Element.{Element}
use Rattle.elements.specs.OneElement.{element_fits}
use Rattle.elements.proofs.Measured.{few_characters}
use Rattle.elements.proofs.Steps.{never, then_is}
use Rattle.inner.specs.declared.values.Message.{Message}
use Rattle.inner.specs.Places.{row_fits}
use Rattle.inner.specs.Messages.{message_at, exactly}
use Rattle.std.specs.Prelude.{Ok}

-- ---- a message and nothing after it was read

pub record ReadIs (d : Direction) (l : List ℕ) (m : Message) (next : ℕ) : Type 0 where
  pub there : message_at d l 0 ≡ Ok (m, next)
  pub ends : length l ≤ next

pub exactly_is : (d : Direction) (l : List ℕ) (m : Message) (next : ℕ) → exactly d l ≡ Ok (m, next) → ReadIs d l m next
unfolding exactly
exactly_is d l m next h = then_is (message_at d l 0) _ (m, next)
    (λ (x : Message) (k : ℕ) (p : message_at d l 0 ≡ Ok (x, k)) (e : _). ended x k p (leb (k + 1) (length l)) refl e) h
  where
    ended : (x : Message) (k : ℕ) → message_at d l 0 ≡ Ok (x, k) → (b : Bool) → leb (k + 1) (length l) ≡ b
        → cond {A = Reading Message} b (refused_at k fault.Tail) (Ok (x, k)) ≡ Ok (m, next) → ReadIs d l m next
    ended x k p true q e = never (cc)
    ended x k p false q e =
        let j : k ≡ next = ok_place e in
        let i : x ≡ m = ok_value e in
        record { there = rw (← i, ← j) p; ends = let o = leb-false (k + 1) (length l) q in omega arith }

-- ---- how many characters there are

abbrev pub characters_most : ℕ
characters_most = 5 * 256

pub row_few : (d : Direction) (es : List Element) (t : List ℕ) → row_fits d es t ≡ true → length t ≤ 256 * length es
unfolding row_fits
row_few d [] t h = omega (arith, eqb-true (length t) 0 h)
row_few d (e ∷ es) t h =
    let c : ℕ = e.characters in
    let a = few_characters d e (take c t) (both_left (element_fits d e (take c t)) (row_fits d es (drop c t)) h) in
    let b = row_few d es (drop c t) (both_right (element_fits d e (take c t)) (row_fits d es (drop c t)) h) in
    let n = length-append (take c t) (drop c t) in
    let w = ap length (take-append-drop c t) in
    omega arith
