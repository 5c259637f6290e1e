-- A message, or the elements of one, that stand in an APDU as they are, without a length before them (application type 2; source document
-- 004, M-1.1.4, M-2.1.4, M-9.1.2). They are read as crate inner reads them, at any place, and what follows them is not looked at.
use Rattle.std.specs.Prelude.{ℕ, ◌-◌, List, Ok, Result}
use Rattle.kinds.specs.declared.Direction.{Direction}
use Rattle.inner.specs.Messages.{no_header, body_at, message_at}
use Rattle.fields.specs.Fields.{Reading, then}
use Rattle.fields.specs.declared.Refusal.{Refusal}
use Rattle.inner.specs.declared.values.Message.{Message}

-- where a reading ends
abbrev pub after : {A : Type 0} → Reading A → Result ℕ Refusal
after {A = A} f = then f (λ (x : A) (next : ℕ). Ok next)

-- ATCUplinkMessage, ATCDownlinkMessage: how many bits were read from a place on, and the place after them
unfoldable pub message_span : Direction → List ℕ → ℕ → Reading ℕ
message_span d l at = then (message_at d l at) (λ (m : Message) (next : ℕ). Ok (next - at, next))

-- ATCUplinkMessageData, ATCDownlinkMessageData: what follows a message's header
unfoldable pub elements_span : Direction → List ℕ → ℕ → Reading ℕ
elements_span d l at = then (body_at d l no_header at) (λ (m : Message) (next : ℕ). Ok (next - at, next))
