-- The index of an element: read back where it stands, standing where it was read, and at most the last of its direction.
-- Assumes nothing.
use mathlib.Core.Path.{◌≡◌, refl, sym, ◌∙◌}
use mathlib.Core.List.{List}
use Prim.Native.Nat.{ℕ, ◌+◌, ◌-◌, ◌<◌, ◌≤◌}
use native.Mathlib.Omega.{arith}
use lib.ListN.{length, length-append}
use Rattle.bits.specs.Bits.{bits_n}
use Rattle.bits.proofs.Numbers.{Bits, length_bits_n}
use Rattle.fields.specs.Fields.{width_of, extension_bit, whole_number, extensible_index}
use Rattle.fields.specs.Encodings.{index_bits, whole_bits, whole_fits}
use Rattle.fields.proofs.RoundTrip.{via, extensible_index_is}
use Rattle.kinds.specs.declared.Direction.{Direction}
use Rattle.kinds.specs.declared.Direction.TheVariants.{Downlink, Uplink}
use Rattle.elements.specs.OneElement.{last_of}
use Rattle.elements.proofs.Standing.{Stands, field_reads, field_stands}
use Rattle.elements.proofs.Whole.{Ranged, ranged, length_whole, whole_most}
use Rattle.std.specs.Prelude.{Ok}
use Rattle.fields.specs.Fields.{Reading}

pub last_ranged : (d : Direction) → Ranged 0 (last_of d)
unfolding last_of
last_ranged Downlink = ranged 0 113 tt tt
last_ranged Uplink = ranged 0 236 tt tt

pub last_small : (d : Direction) → last_of d ≤ 236
unfolding last_of
last_small Downlink = omega arith
last_small Uplink = omega arith

pub length_index : (last i : ℕ) → length (index_bits last i) ≡ 1 + width_of (last - 0)
unfolding index_bits
length_index last i = omega (arith, length-append (bits_n 1 0) (whole_bits 0 last i), length_bits_n 1 0, length_whole 0 last i)

-- the same index, of a last one that was looked up
pub index_as : (l : List ℕ) (at last last' : ℕ) (f : Reading ℕ) → f ≡ extensible_index l at last → last ≡ last' → f ≡ extensible_index l at last'
index_as l at last last' f e p = rw (← p) e

module _ (l : List ℕ) (at last i next : ℕ) where
  pub index_reads : Ranged 0 last → Stands l at (whole_fits 0 last i) (index_bits last i) next
      → extensible_index l at last ≡ Ok (i, next)
  index_reads r s = field_reads (extensible_index_is last r.small) l at i next some s
    where
      some : 0 < length (index_bits last i)
      some = omega (arith, length_index last i)

  pub index_stands : Ranged 0 last → Bits l → extensible_index l at last ≡ Ok (i, next)
      → Stands l at (whole_fits 0 last i) (index_bits last i) next
  index_stands r b e = field_stands (extensible_index_is last r.small) l at i next b e

  pub index_most : (f : Reading ℕ) → f ≡ extensible_index l at last → f ≡ Ok (i, next) → i ≤ last
  unfolding extensible_index
  index_most f p q = via (i ≤ last) (extension_bit l at) (λ (v m : ℕ). whole_number l m 0 last) i next (λ (v m : ℕ)
      (a : _) (e : whole_number l m 0 last ≡ Ok (i, next)). whole_most l m 0 last i next
      (whole_number l m 0 last) refl e) (sym p ∙ q)

  -- it stands behind its extension bit
  pub index_behind : Ranged 0 last → Bits l → (f : Reading ℕ) → f ≡ extensible_index l at last → f ≡ Ok (i, next) → at + 1 ≤ next
  index_behind r b f p q = omega (arith, (index_stands r b (sym p ∙ q)).place, length_index last i)
