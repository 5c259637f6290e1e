-- Document 02, E1: TAIL is at "the first padding bit that is 1, else the first bit that follows".
use Rattle.std.specs.Prelude.{◌≡◌, List, Bool, true, false, ◌⊎◌, ℕ, ◌+◌, ◌%◌, ◌≤◌, ◌<◌, leb, eqb, length, get_or, Err, Ok}
use Rattle.fields.specs.Additions.{addition_count}
use Rattle.fields.specs.Fields.{refusal, bit_field, extension_bit}
use Rattle.fields.specs.declared.Refusal.{Refusal}
use Rattle.fields.specs.declared.Fault.TheVariants.{Extension}
use Rattle.apdu.specs.Encoding.{padding}
use Rattle.apdu.specs.Reading.{parts_at, leading_at}
use Rattle.pdus.specs.declared.PduType.{PduType}
use Rattle.apdu.specs.declared.Kind.{Kind}
use Rattle.apdu.specs.declared.Kind.TheVariants as kind
use Rattle.apdu.specs.declared.Data.{Data}

-- the fields end at `end`, and the padding at `end + padding end`: every padding bit before the place is 0, and the place is that of a padding
-- bit which is 1, or that of the first bit behind the padding
pub record TailAt (l : List ℕ) (end p : ℕ) : Type 0 where
  pub behind : end ≤ p
  pub clear : (k : ℕ) → end ≤ k → k < p → get_or l k 0 ≡ 0
  pub there : ((p < end + padding end) × (get_or l p 0 ≡ 1)) ⊎ ((p ≡ end + padding end) × (p < length l))

-- ---- document 02, E6: "12 only for CHOICE and ENUMERATED, for an addition count in its long form, and for an extension bit of 1 with no addition marked present"

-- the alternatives that hold message data, and those that are an ENUMERATED
abbrev pub holds_data : Kind → Bool
holds_data kind.AbortUser = false
holds_data kind.AbortProvider = false
holds_data kind.Start = true
holds_data kind.Send = true
holds_data kind.Forward = false
holds_data kind.ForwardResponse = false

abbrev pub is_enumerated : Kind → Bool
is_enumerated kind.AbortUser = true
is_enumerated kind.AbortProvider = true
is_enumerated kind.Start = false
is_enumerated kind.Send = false
is_enumerated kind.Forward = false
is_enumerated kind.ForwardResponse = true

-- message data behind the leading fields whose extension bit is not 0, whose two presence bits say which fields are there, and whose root ends at a place
pub record Marked (pdus : PduType) (l : List ℕ) (at : ℕ) : Type 0 where
  pub kind : Kind
  pub mode : ℕ
  pub begin : ℕ
  pub led : leading_at pdus l 0 ≡ Ok ((kind, mode), begin)
  pub holds : holds_data kind ≡ true
  pub mark : ℕ
  pub after : ℕ
  pub extension : bit_field l begin 1 ≡ Ok (mark, after)
  pub set : eqb mark 0 ≡ false
  pub flags : ℕ
  pub from : ℕ
  pub presence : bit_field l after 2 ≡ Ok (flags, from)
  pub parts : Data
  pub root : parts_at l from (leb 2 flags) (eqb (flags % 2) 1) ≡ Ok (parts, at)

pub data Twelve (pdus : PduType) (l : List ℕ) (r : Refusal) : Type 0 where
  of_choice : extension_bit l 0 ≡ Err r → Twelve pdus l r
  of_enumerated : (c : Kind) (m at : ℕ) → is_enumerated c ≡ true → leading_at pdus l 0 ≡ Ok ((c, m), at) → extension_bit l at ≡ Err r → Twelve pdus l r
  of_count : (at : ℕ) → Marked pdus l at → extension_bit l at ≡ Err r → Twelve pdus l r
  of_none : (at n p next : ℕ) → Marked pdus l at → addition_count l at ≡ Ok (n, p) → bit_field l p n ≡ Ok (0, next) → r ≡ refusal p Extension → Twelve pdus l r
