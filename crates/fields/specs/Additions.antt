-- Additions from a later edition: what follows the root of an extensible SEQUENCE whose extension bit is 1 (X.691, 19.7 to 19.9). A reader that does not
-- know them steps over each by its length (document 02, E6). The same for every such SEQUENCE, since nothing of the type is asked.
use Rattle.std.specs.Prelude.{ℕ, zero, suc, ◌+◌, List, cond, eqb, Ok}
use Rattle.std.specs.Int.Count.{ones}
use Rattle.fields.specs.Fields.{refused_at, then, bit_field, extension_bit, length_at, contents_at}
use Rattle.fields.specs.declared.Fault.TheVariants.{Extension}
use Rattle.fields.specs.Fields.{Reading}

-- The count of additions that the later edition has, 1 to 64: a bit 0, and one less than the count in 6 bits (X.691, 19.8, 11.9.3.4). A first bit of 1
-- begins the long form, and is refused as an extension bit is, by itself.
unfoldable pub addition_count : List ℕ → ℕ → Reading ℕ
addition_count l at = then (extension_bit l at) (λ (b p : ℕ). then (bit_field l at 7) (λ (v next : ℕ). Ok (v + 1, next)))

-- which of n additions are there: n bits, one field (X.691, 19.7). An extension bit of 1 with none of them there is refused.
unfoldable pub additions_there : List ℕ → ℕ → ℕ → Reading ℕ
additions_there l at n = then (bit_field l at n) (λ (v next : ℕ). cond (eqb v 0) (refused_at at Extension) (Ok (v, next)))

-- an addition: a length in octets, and the octets, which are not looked at (X.691, 19.9, 11.2)
unfoldable pub addition_at : List ℕ → ℕ → Reading ℕ
addition_at l at = then (length_at l at) (λ (n from : ℕ). contents_at l from 8 n)

-- so many additions, one after the other; they say nothing
unfoldable pub stepped_over : List ℕ → ℕ → ℕ → Reading ℕ
stepped_over l at zero = Ok (0, at)
stepped_over l at (suc k) = then (addition_at l at) (λ (n next : ℕ). stepped_over l next k)

-- the count, which of them are there, and those
unfoldable pub additions_at : List ℕ → ℕ → Reading ℕ
additions_at l at = then (addition_count l at) (λ (n p : ℕ). then (additions_there l p n) (λ (v q : ℕ). stepped_over l q (ones v)))
