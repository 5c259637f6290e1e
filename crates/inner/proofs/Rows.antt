-- Elements one after another: what is written is read back, and what is read stands there.
-- Assumes nothing.
use mathlib.Core.Path.{◌≡◌, refl, sym, ap, ◌∙◌}
use mathlib.Core.Bool.{Bool, true, ◌&&◌}
use mathlib.Core.List.{List, [], ◌∷◌, ◌++◌}
use Prim.Native.Nat.{ℕ, zero, suc, ◌+◌, ◌-◌, ◌*◌}
use native.Mathlib.Nat.{add-zero}
use lib.ListN.{length, take, drop, take-append-drop}
use lib.Seq.{take_at, drop_at}
use Rattle.words.proofs.Laws.{ok_place, ok_value}
use Rattle.bits.proofs.Numbers.{Bits}
use Rattle.kinds.specs.declared.Direction.{Direction}
use Rattle.elements.specs.declared.values.Element.{Element}
use Rattle.elements.specs.OneElement.{element_at, element_fits, element_bits, no_text_of, text_of}
use Rattle.inner.specs.Places.{row_at, text_at, row_fits, row_bits}
use Rattle.elements.proofs.Standing.{Stands, stands_join, stands_split, stands_nothing}
use Rattle.elements.proofs.Steps.{then_is}
use Rattle.elements.proofs.Texts.{length_characters}
use Rattle.elements.proofs.Unused.{no_text}
use Rattle.elements.proofs.Placed.{element_reads, element_text, element_stands}
use Rattle.std.specs.Prelude.{Ok}

pub row_reads : (d : Direction) (l : List ℕ) (es : List Element) (t : List ℕ) (at next : ℕ)
    → Stands l at (row_fits d es t) (row_bits d es t) next → row_at d l at (length es) ≡ Ok (es, next)
unfolding row_fits row_bits row_at
row_reads d l [] t at next s = rw (s.place ∙ add-zero at)
row_reads d l (e ∷ es) t at next s =
    let c : ℕ = e.characters in
    let p = stands_split l at next (element_fits d e (take c t)) (row_fits d es (drop c t)) (element_bits d e (take c t))
    (row_bits d es (drop c t)) s in
    rw (element_reads d l at _ e (take c t) p.0, row_reads d l es (drop c t) _ next p.1)

pub row_text : (d : Direction) (l : List ℕ) (es : List Element) (t : List ℕ) (at next : ℕ)
    → Stands l at (row_fits d es t) (row_bits d es t) next → text_at d l at (length es) ≡ t
unfolding row_fits row_bits text_at
row_text d l [] t at next s = sym (no_text t s.fits)
row_text d l (e ∷ es) t at next s =
    let c : ℕ = e.characters in
    let p = stands_split l at next (element_fits d e (take c t)) (row_fits d es (drop c t)) (element_bits d e (take c t))
    (row_bits d es (drop c t)) s in
    rw (
      element_reads d l at _ e (take c t) p.0,
      element_text d l at _ e (take c t) p.0,
      row_text d l es
          (drop c t) _ next p.1,
    ) (take-append-drop c t)

-- ---- what was read

pub record RowIs (d : Direction) (l : List ℕ) (at n : ℕ) (es : List Element) (next : ℕ) : Type 0 where
  pub count : length es ≡ n
  pub stands : Stands l at (row_fits d es (text_at d l at n)) (row_bits d es (text_at d l at n)) next

no_row : (d : Direction) (l : List ℕ) (at : ℕ) → RowIs d l at 0 [] at
unfolding row_fits row_bits text_at
no_row d l at = record { count = refl; stands = stands_nothing l at true refl }

-- an element before those that follow
row_more : (d : Direction) (l : List ℕ) (at m k next : ℕ) (e : Element) (ys : List Element) → Bits l
    → element_at d l at ≡ Ok (e, m) → RowIs d l m k ys next → RowIs d l at (suc k) (e ∷ ys) next
unfolding row_fits row_bits text_at
row_more d l at m k next e ys b p r =
    let t : List ℕ = text_of l e m in
    let n : length t ≡ e.characters = length_characters l (m - 7 * e.characters) e.characters in
    let s = element_stands d l at m e b p in
    let a = take_at t (text_at d l m k) e.characters n in
    let z = drop_at t (text_at d l m k) e.characters n in
    record {
      count = ap suc r.count;
      stands = rw (p, a, z) (stands_join l at m next _ _ _ _ s r.stands);
    }

pub row_is : (d : Direction) (l : List ℕ) (n at next : ℕ) (es : List Element) → Bits l → row_at d l at n ≡ Ok (es, next)
    → RowIs d l at n es next
unfolding row_at
row_is d l zero at next es b h =
    let i : [] ≡ es = ok_value h in
    let j : at ≡ next = ok_place h in
    rw (← i, ← j) (no_row d l at)
row_is d l (suc k) at next es b h =
    then_is (element_at d l at) _ (es, next)
    (λ (e : Element) (m : ℕ) (p : element_at d l at ≡ Ok (e, m)) (z : _). then_is (row_at d l m k) _ (es, next)
    (λ (ys : List Element) (n : ℕ) (q : row_at d l m k ≡ Ok (ys, n)) (w : Ok (e ∷ ys, n) ≡ Ok (es, next)).
    let i : e ∷ ys ≡ es = ok_value w in
    let j : n ≡ next = ok_place w in
    rw (← i, ← j) (row_more d l at m k n e ys b p (row_is d l k m n ys b q)))
    z)
    h
