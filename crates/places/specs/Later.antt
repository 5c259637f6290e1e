-- Document 02, E6: an APDU as a later edition writes it. The extension bit of its message data is 1, and behind the root stand the additions: "an unknown
-- addition is skipped by its length".
use Rattle.std.specs.Prelude.{List, ◌++◌, ℕ}
use Rattle.bits.specs.Bits.{bits_n}
use Rattle.apdu.specs.Pdus.{Content}
use Rattle.apdu.specs.Encoding.{alternative, mode_bits, root_bits}
use Rattle.pdus.specs.declared.PduType.{PduType}
use Rattle.apdu.specs.declared.Kind.TheVariants as kind

-- message data with the bits of additions behind its root
abbrev pub later_bits : Content → List ℕ → List ℕ
later_bits c xs = bits_n 1 1 ++ (root_bits c ++ xs)

-- a start, and a send
abbrev pub later_start : PduType → ℕ → Content → List ℕ → List ℕ
later_start pdus m c xs = alternative pdus kind.Start ++ (mode_bits pdus m ++ later_bits c xs)

abbrev pub later_send : PduType → Content → List ℕ → List ℕ
later_send pdus c xs = alternative pdus kind.Send ++ later_bits c xs
