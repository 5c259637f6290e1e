-- An element, and elements one after another: what is written is read back, and what is read stands there.
-- Assumes nothing.
use mathlib.Core.Path.{◌≡◌, refl, sym, ap, ◌∙◌}
use mathlib.Core.Bool.{Bool, true, false, ◌&&◌}
use mathlib.Core.List.{List, [], ◌∷◌, ◌++◌}
use Prim.Native.Nat.{ℕ, zero, suc, ◌+◌, ◌-◌, ◌*◌}
use native.Mathlib.Omega.{arith}
use lib.ListN.{length, take, drop}
use lib.Dec.{eqb}
use borrow.Author.Tests.{eqb-true, eq-eqb}
use Rattle.words.proofs.Laws.{both_left, both_right}
use Rattle.bits.proofs.Numbers.{Bits}
use Rattle.fields.specs.Fields.{extensible_index}
use Rattle.fields.specs.Encodings.{index_bits, whole_fits}
use Rattle.kinds.specs.declared.Direction.{Direction}
use Rattle.elements.specs.declared.values.Element.{Element}
use Rattle.kinds.specs.Elements.{kind_of}
use Rattle.elements.specs.Arguments.{characters_in}
use Rattle.elements.specs.OneElement.{argument_at, argument_fits, argument_bits, last_of, element_at, element_fits, element_bits, text_of}
use Rattle.elements.proofs.Standing.{Stands, stands_join, stands_split, stands_as, both_hold}
use Rattle.elements.proofs.Steps.{then_is}
use Rattle.elements.proofs.Indices.{last_ranged, index_reads, index_stands}
use Rattle.elements.proofs.Texts.{length_characters}
use Rattle.elements.proofs.ReadBack.{argument_reads, argument_text}
use Rattle.elements.proofs.StandsRead.{argument_stands}
use Rattle.std.specs.Prelude.{Ok}

module _ (d : Direction) (l : List ℕ) (at next : ℕ) (e : Element) where
  pub element_reads : (t : List ℕ) → Stands l at (element_fits d e t) (element_bits d e t) next → element_at d l at ≡ Ok (e, next)
  unfolding element_fits element_bits element_at
  element_reads t s =
      let p = stands_split l at next (whole_fits 0 (last_of d) e.number && eqb e.characters (length t))
      (argument_fits (kind_of d e.number) e t) (index_bits (last_of d) e.number)
      (argument_bits (kind_of d e.number) e t) s in
      let f = both_left (whole_fits 0 (last_of d) e.number) (eqb e.characters (length t)) p.0.fits in
      let n = eqb-true e.characters (length t)
      (both_right (whole_fits 0 (last_of d) e.number) (eqb e.characters (length t)) p.0.fits) in
      rw (index_reads l at (last_of d) e.number _ (last_ranged d) (stands_as l at _ _ _ _ f p.0))
      (argument_reads l _ next e t n (at + 1) (kind_of d e.number) p.1)

  pub element_text : (t : List ℕ) → Stands l at (element_fits d e t) (element_bits d e t) next → text_of l e next ≡ t
  unfolding element_fits element_bits
  element_text t s =
      let p = stands_split l at next (whole_fits 0 (last_of d) e.number && eqb e.characters (length t))
      (argument_fits (kind_of d e.number) e t) (index_bits (last_of d) e.number)
      (argument_bits (kind_of d e.number) e t) s in
      let n = eqb-true e.characters (length t)
      (both_right (whole_fits 0 (last_of d) e.number) (eqb e.characters (length t)) p.0.fits) in
      rw n (argument_text l _ next e t n (kind_of d e.number) p.1)

  pub element_stands : Bits l → element_at d l at ≡ Ok (e, next)
      → Stands l at (element_fits d e (text_of l e next)) (element_bits d e (text_of l e next)) next
  unfolding element_fits element_bits element_at
  element_stands b h =
      then_is (extensible_index l at (last_of d)) (λ (i m : ℕ). argument_at (kind_of d i) i (at + 1) l m) (e, next)
      (λ (i m : ℕ) (p : extensible_index l at (last_of d) ≡ Ok (i, m)) (q : argument_at (kind_of d i) i (at + 1) l m ≡ Ok (e, next)).
      let a = argument_stands l m i next b e (at + 1) (kind_of d i) q in
      let j : i ≡ e.number = sym a.number in
      let s = rw j at (index_stands l at (last_of d) i m (last_ranged d) b p) in
      let c = eq-eqb e.characters (length (text_of l e next)) (sym (length_characters l (next - 7 * e.characters) e.characters)) in
      stands_join l at m next _ _ _ _ (stands_as l at m _ _ _ (both_hold _ _ s.fits c) s) (rw j at a.stands))
      h
