-- Cards of two limits (document 02, E3): "A card not yet changed meets a longer one with 14 or 23 and shows nothing of it." What is
-- claimed, over any reader of bits and any two limits; `refused` makes a refusal the reader's answer. (An envelope's answer says the same
-- with SIZE.)
use Rattle.std.specs.Prelude.{◌≡◌, List, ◌⊎◌, ℕ, ◌%◌, Bool, true, false, leb, eqb, Err, None, Ok, Option, Some}
use Rattle.fields.specs.Fields.{refusal, bit_field, string_at}
use Rattle.fields.specs.declared.Fault.TheVariants.{Limit}
use Rattle.fields.specs.declared.Refusal.{Refusal}
use Rattle.apdu.specs.Sizes.{identifier_least, identifier_most, message_most, check_most, octet, bit}
use Rattle.apdu.specs.Reading.{optional_at, leading_at}
use Rattle.pdus.specs.declared.PduType.{PduType}
use Rattle.apdu.specs.declared.Kind.{Kind}
use Rattle.apdu.specs.declared.Kind.TheVariants as kind
use Rattle.apdu.specs.declared.Apdu.{Apdu}
use Rattle.apdu.specs.declared.Apdu.TheVariants as apdu
use Rattle.pdus.specs.declared.Span.{Span}

-- the card before E3: the bits of its longest message
abbrev pub earlier_bits : ℕ
earlier_bits = 2048

-- an answer that is the refusal LIMIT: 14, at some place
pub record Limited {A : Type 0} (refused : Refusal → A) (a : A) : Type 0 where
  pub at : ℕ
  pub is : a ≡ refused (refusal at Limit)

-- what the card with the lower limit answers is what the other answers, or LIMIT
abbrev pub Meets : {A : Type 0} → (Refusal → A) → A → A → Type 0
Meets refused low high = (low ≡ high) ⊎ Limited refused low

-- the CPDLC message of an APDU, if it has one; that of a forward is what is forwarded
abbrev pub message_of : Apdu → Option Span
message_of (apdu.AbortUser r) = None
message_of (apdu.AbortProvider r) = None
message_of (apdu.Start m d) = d.message
message_of (apdu.Send d) = d.message
message_of (apdu.Forward f) = Some f.message
message_of (apdu.ForwardResponse x) = None

-- "14 is left for the integrity check and the algorithm identifier": the refusal is that of a field which is one of them, and which stands where it should. Message data begin at a place: the extension
-- bit, two presence bits; the identifier, if the first of them is 1, stands behind them, and the check behind the identifier and the message, each as far as it is there
pub data InRoot (l : List ℕ) (at : ℕ) (r : Refusal) : Type 0 where
  identifier : (mark after flags from : ℕ) → bit_field l at 1 ≡ Ok (mark, after) → bit_field l after 2 ≡ Ok (flags, from) → leb 2 flags ≡ true
      → string_at l from octet identifier_least identifier_most ≡ Err r → InRoot l at r
  check : (mark after flags from : ℕ) → bit_field l at 1 ≡ Ok (mark, after) → bit_field l after 2 ≡ Ok (flags, from)
      → (n p k q : ℕ) → optional_at l (leb 2 flags) from octet identifier_least identifier_most ≡ Ok (n, p) → optional_at l (eqb (flags % 2) 1) p bit 0 message_most ≡ Ok (k, q)
      → string_at l q bit 0 check_most ≡ Err r → InRoot l at r

-- the alternatives that hold message data
abbrev pub holds_data : Kind → Bool
holds_data kind.AbortUser = false
holds_data kind.AbortProvider = false
holds_data kind.Start = true
holds_data kind.Send = true
holds_data kind.Forward = false
holds_data kind.ForwardResponse = false

-- of an APDU: behind its leading fields
pub record LeftFor (pdus : PduType) (l : List ℕ) (r : Refusal) : Type 0 where
  pub kind : Kind
  pub mode : ℕ
  pub begin : ℕ
  pub led : leading_at pdus l 0 ≡ Ok ((kind, mode), begin)
  pub holds : holds_data kind ≡ true
  pub field : InRoot l begin r
