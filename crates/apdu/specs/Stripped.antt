-- An APDU with the additions from a later edition gone (document 02, E6): the extension bit of its message data 0, the same root, and
-- nothing behind it.
use Rattle.std.specs.Prelude.{ℕ, ◌+◌, ◌-◌, ◌*◌, Bool, false, List, ◌++◌, eqb, length, take, drop, get_or}
use Rattle.bits.specs.Bits.{bits_n}
use Rattle.apdu.specs.Sizes.{bit}
use Rattle.apdu.specs.Encoding.{alternative, mode_bits, padded}
use Rattle.pdus.specs.declared.PduType.{PduType}
use Rattle.apdu.specs.declared.Kind.TheVariants as kind
use Rattle.apdu.specs.declared.Data.{Data}
use Rattle.apdu.specs.declared.Apdu.{Apdu}
use Rattle.apdu.specs.declared.Apdu.TheVariants as apdu

-- the place after the root of message data, whose last field is the check
abbrev pub root_end : Data → ℕ
root_end d = d.check.at + bit * d.check.count

-- bits that hold message data whose extension bit stands at p: what is before it, a bit 0 in its place, and the root
unfoldable pub strip_at : List ℕ → ℕ → Data → List ℕ
strip_at l p d = padded (take p l ++ (bits_n 1 0 ++ take (root_end d - (p + 1)) (drop (p + 1) l)))

-- the bits that were read as an APDU, with the additions gone
unfoldable pub strip : PduType → List ℕ → Apdu → List ℕ
strip pdus l (apdu.AbortUser r) = l
strip pdus l (apdu.AbortProvider r) = l
strip pdus l (apdu.Start m d) = strip_at l (length (alternative pdus kind.Start ++ mode_bits pdus m)) d
strip pdus l (apdu.Send d) = strip_at l (length (alternative pdus kind.Send)) d
strip pdus l (apdu.Forward f) = l
strip pdus l (apdu.ForwardResponse x) = l

-- whether they have additions: the extension bit of the message data is 1
unfoldable pub extended : PduType → List ℕ → Apdu → Bool
extended pdus l (apdu.AbortUser r) = false
extended pdus l (apdu.AbortProvider r) = false
extended pdus l (apdu.Start m d) = eqb (get_or l (length (alternative pdus kind.Start ++ mode_bits pdus m)) 0) 1
extended pdus l (apdu.Send d) = eqb (get_or l (length (alternative pdus kind.Send)) 0) 1
extended pdus l (apdu.Forward f) = false
extended pdus l (apdu.ForwardResponse x) = false
