-- The order of faults at one field and from field to field (document 01): SHORT first; the form of a length before its limits; a length before its contents;
-- an extension bit before what stands behind it. Nothing behind a refused field is read.
-- Assumes nothing.
use mathlib.Core.Path.{◌≡◌, refl, ap, sym, ◌∙◌}
use mathlib.Core.Bool.{Bool, true, false, cond, ◌&&◌}
use mathlib.Core.List.{List}
use Prim.Native.Nat.{ℕ, ◌+◌, ◌-◌, ◌≤◌, ◌<◌}
use native.Mathlib.Omega.{arith}
use borrow.Author.Tests.{le-leb, lt-leb}
use lib.Dec.{leb}
use lib.ListN.{length}
use Rattle.bits.specs.Read.{read_bits}
use Rattle.bits.proofs.Reading.{is_short}
use Rattle.fields.specs.Fields.{refused_at, then, bit_field, extension_bit, width_of, whole_number, extensible_index, length_at, length_within, string_at, sized_at}
use Rattle.fields.specs.declared.Refusal.{Refusal}
use Rattle.fields.specs.declared.Fault.TheVariants.{Short}
use Rattle.fields.proofs.Widths.{width_most}
use Rattle.std.specs.Prelude.{Err}

pub field_ends : (l : List ℕ) (at n : ℕ) → n ≤ 64 → length l < at + n → bit_field l at n ≡ refused_at at Short
unfolding bit_field
field_ends l at n w h = rw (← is_short l at n w (lt-leb (at + n) (length l) h))

pub extension_ends : (l : List ℕ) (at : ℕ) → length l < at + 1 → extension_bit l at ≡ refused_at at Short
unfolding extension_bit
extension_ends l at h = rw (field_ends l at 1 (omega arith) h)

pub whole_ends : (l : List ℕ) (at lo hi : ℕ) → length l < at + width_of (hi - lo) → whole_number l at lo hi ≡ refused_at at Short
unfolding whole_number
whole_ends l at lo hi h = rw (field_ends l at (width_of (hi - lo)) (width_most 64 (hi - lo)) h)

pub length_ends : (l : List ℕ) (at : ℕ) → length l < at + 8 → length_at l at ≡ refused_at at Short
unfolding length_at
length_ends l at h = rw (field_ends l at 8 (omega arith) h)

-- the extension bit before the index
pub extension_first : (l : List ℕ) (at last : ℕ) (r : Refusal) → extension_bit l at ≡ Err r → extensible_index l at last ≡ Err r
unfolding extensible_index
extension_first l at last r e = rw e

-- the form of a length before its limits
pub form_first : (l : List ℕ) (at least most : ℕ) (r : Refusal) → length_at l at ≡ Err r → length_within l at least most ≡ Err r
unfolding length_within
form_first l at least most r e = rw e

-- a length before the contents that it counts
pub length_first : (l : List ℕ) (at unit least most : ℕ) (r : Refusal) → length_within l at least most ≡ Err r
    → string_at l at unit least most ≡ Err r
unfolding string_at
length_first l at unit least most r e = rw e

pub size_first : (l : List ℕ) (at unit least most : ℕ) (r : Refusal) → whole_number l at least most ≡ Err r
    → sized_at l at unit least most ≡ Err r
unfolding sized_at
size_first l at unit least most r e = rw e
