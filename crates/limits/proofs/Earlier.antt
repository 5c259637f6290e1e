-- The card before E3 beside this one: the laws over two limits at its limit and the card's own, and lengths on the two sides of it.
-- Assumes nothing.
use mathlib.Core.Path.{◌≡◌, refl}
use mathlib.Core.List.{List, [], ◌∷◌}
use mathlib.Core.Logic.{◌⊎◌}
use Prim.Native.Nat.{ℕ, ◌<◌}
use lib.Dec.{lit≤}
use Rattle.bits.specs.Bits.{bits_n, bits_of, acc_of}
use Rattle.bits.specs.Read.{read_bits}
use Rattle.fields.specs.Fields.{refused_at, bit_field, length_at, length_within, Reading}
use Rattle.fields.specs.declared.Fault.TheVariants.{Limit, LengthForm}
use Rattle.apdu.specs.Sizes.{message_most}
use Rattle.apdu.specs.Reading.{apdu_within, apdu_at, whole_within, whole_data}
use Rattle.pdus.specs.declared.PduType.{PduType}
use Rattle.pdus.specs.declared.Span.{Span}
use Rattle.apdu.specs.declared.Apdu.{Apdu}
use Rattle.step.specs.Call.{meaning, data_of, no_data, forward_of, no_forward}
use Rattle.machine.specs.declared.event.UserData.TheVariants.{NotValid}
use Rattle.envelope.specs.Numbers.{number_in, number_at}
use Rattle.envelope.specs.Envelopes.{most_bits, is_kind, size_fits, bytes_for, is_padded, body_at, size_at, job_at, kind_at, envelope_at}
use Rattle.envelope.specs.declared.EnvelopeRefusal.TheVariants.{Cut, Size}
use Rattle.envelope.specs.declared.Envelope.{Envelope}
use Rattle.envelope.proofs.Longer.{envelope_narrow}
use Rattle.limits.specs.Claims.{earlier_bits, Limited, Meets, message_of}
use Rattle.limits.proofs.Apdus.{apdu_meets, whole_meets, apdu_longer}
use Rattle.limits.proofs.Envelopes.{envelope_kept}
use Rattle.std.specs.Prelude.{Err, Ok, Result, Some}
use Rattle.envelope.specs.declared.EnvelopeRefusal.{EnvelopeRefusal}

pub earlier_apdu : (l : List ℕ) (pdus : PduType) (at : ℕ) → Meets Err (apdu_within earlier_bits pdus l at) (apdu_at pdus l at)
earlier_apdu l pdus at = apdu_meets earlier_bits message_most (lit≤ tt) l pdus at

pub earlier_data : (l : List ℕ) → Meets Err (whole_within earlier_bits l) (whole_data l)
earlier_data l = whole_meets earlier_bits message_most (lit≤ tt) l

pub earlier_longer : (l : List ℕ) (pdus : PduType) (at : ℕ) (a : Apdu) (x : Span) → apdu_at pdus l at ≡ Ok a
    → message_of a ≡ Some x → earlier_bits < x.count → Limited Err (apdu_within earlier_bits pdus l at)
earlier_longer l pdus at a x e g over = apdu_longer earlier_bits message_most (lit≤ tt) l pdus at a x e g over

-- "and shows nothing of it": to a machine it is no valid PDU, and there are no message data and no forward message
pub shows_nothing : (l : List ℕ) (pdus : PduType) (at : ℕ) → Limited Err (apdu_within earlier_bits pdus l at)
    → (meaning (apdu_within earlier_bits pdus l at) ≡ NotValid) × (data_of (apdu_within earlier_bits pdus l at) ≡ no_data) × (forward_of (apdu_within earlier_bits pdus l at) ≡ no_forward)
unfolding meaning data_of forward_of
shows_nothing l pdus at x = (rw x.is, rw x.is, rw x.is)

pub earlier_envelope : (s : List ℕ) (at : ℕ)
    → (envelope_at earlier_bits s at ≡ envelope_at most_bits s at) ⊎ (envelope_at earlier_bits s at ≡ Err Size)
earlier_envelope s at = envelope_narrow earlier_bits most_bits (lit≤ tt) s at

pub stored_envelope : (s : List ℕ) (at : ℕ) (e : Envelope) → envelope_at earlier_bits s at ≡ Ok e → envelope_at most_bits s at ≡ Ok e
stored_envelope s at e p = envelope_kept earlier_bits most_bits (lit≤ tt) s at e p

-- ---- lengths, as an APDU and an envelope have them: 88 01 is 2,049, BF FF 16,383; C1 begins a fragment of 16,384

-- what a message's length is read as, before E3 and now
pub record Row : Type 0 where
  pub bytes : List ℕ
  pub before : Reading ℕ
  pub now : Reading ℕ

abbrev pub row : List ℕ → Reading ℕ → Reading ℕ → Row
row bs before now = record { bytes = bs; before = before; now = now }

abbrev pub rows : List Row
rows =
    row (0x88 ∷ 0x00 ∷ []) (Ok (2048, 16)) (Ok (2048, 16)) ∷
    row (0x88 ∷ 0x01 ∷ []) (refused_at 0 Limit) (Ok (2049, 16)) ∷
    row (0xBF ∷ 0xFF ∷ []) (refused_at 0 Limit) (Ok (16383, 16)) ∷
    row (0xC1 ∷ 0x00 ∷ []) (refused_at 0 LengthForm) (refused_at 0 LengthForm) ∷ []

abbrev pub read_at : ℕ → List Row → List (Reading ℕ)
read_at limit [] = []
read_at limit (r ∷ rs) = length_within (bits_of r.bytes) 0 0 limit ∷ read_at limit rs

abbrev pub said : (Row → Reading ℕ) → List Row → List (Reading ℕ)
said which [] = []
said which (r ∷ rs) = which r ∷ said which rs

pub lengths_before : read_at earlier_bits rows ≡ said (λ (r : Row). r.before) rows
unfolding bits_of acc_of bits_n read_bits bit_field length_at length_within
lengths_before = refl

pub lengths_now : read_at message_most rows ≡ said (λ (r : Row). r.now) rows
unfolding bits_of acc_of bits_n read_bits bit_field length_at length_within
lengths_now = refl

-- the bit counts 2,049 and 16,383 without their bodies: refused at the count before E3, read now; 16,384 is refused at both limits
abbrev pub counted : ℕ → List (Result Envelope EnvelopeRefusal)
counted limit =
    envelope_at limit (0x01 ∷ 0x01 ∷ 0x81 ∷ 0x10 ∷ []) 0 ∷ envelope_at limit (0x01 ∷ 0x01 ∷ 0xFF ∷ 0x7F ∷ []) 0 ∷
    envelope_at limit (0x01 ∷ 0x01 ∷ 0x80 ∷ 0x80 ∷ 0x01 ∷ []) 0 ∷ []

pub counts_before : counted earlier_bits ≡ Err Size ∷ Err Size ∷ Err Size ∷ []
unfolding number_in number_at is_kind size_fits bytes_for is_padded body_at size_at job_at kind_at envelope_at
counts_before = refl

pub counts_now : counted most_bits ≡ Err Cut ∷ Err Cut ∷ Err Size ∷ []
unfolding number_in number_at is_kind size_fits bytes_for is_padded body_at size_at job_at kind_at envelope_at
counts_now = refl
