-- What a host takes out of a call's answer: the parts of the number (crate step, Packed), and the first bytes of the two buffers.
use Rattle.std.specs.Prelude.{ℕ, zero, suc, ◌*◌, ◌/◌, ◌%◌, Bool, cond, List, [], ◌∷◌, eqb, take, None, Option, Some}
use Rattle.apdu.specs.Pdus.{lent}
use Rattle.apdu.specs.Encoding.{bytes_for}
use Rattle.machine.specs.Calls.{qos_asked}
use Rattle.machine.specs.declared.outcome.Invoked.{Invoked}
use Rattle.machine.specs.declared.outcome.Invoked.TheVariants.{DStartRequest, DStartResponse, DDataRequest, DEndRequest, DEndResponse, DAbortRequest}
use Rattle.step.specs.Call.{Called}
use Rattle.packed.specs.Packed.{refusals, codes, primitives, counts}
use Rattle.pair.specs.Carrier.{Body}
use Rattle.pair.specs.Wires.{Wire}

-- the low byte is a refusal's number
abbrev pub is_taken : ℕ → Bool
is_taken n = eqb (n % refusals) 0

-- nine bits for the dialogue-service primitive, nine for the user primitive, fifteen for each count of bits
abbrev pub invoked_part : ℕ → ℕ
invoked_part n = n / refusals % primitives

abbrev pub told_part_of : ℕ → ℕ
told_part_of n = n / (refusals * primitives) % primitives

abbrev pub sent_bits : ℕ → ℕ
sent_bits n = n / (refusals * primitives * primitives) % counts

abbrev pub given_bits : ℕ → ℕ
given_bits n = n / (refusals * primitives * primitives * counts) % counts

-- the primitive of a code, with its parameter and security value. A D-START request has the quality of service that document 01 calls
-- right, with the routing class of the number
abbrev pub primitive_of : ℕ → ℕ → ℕ → Option Invoked
primitive_of zero x s = None
primitive_of (suc zero) x s = Some (DStartRequest (qos_asked x) s)
primitive_of (suc (suc zero)) x s = Some (DStartResponse x s)
primitive_of (suc (suc (suc zero))) x s = Some DDataRequest
primitive_of (suc (suc (suc (suc zero)))) x s = Some DEndRequest
primitive_of (suc (suc (suc (suc (suc zero))))) x s = Some (DEndResponse x)
primitive_of (suc (suc (suc (suc (suc (suc n)))))) x s = Some (DAbortRequest x)

abbrev pub invoked_of : ℕ → Option Invoked
invoked_of i = primitive_of (i % codes) (i / codes % codes) (i / (codes * codes) % 2)

-- what goes on the line: the primitive, and the bytes of the APDU in the first buffer
abbrev pub entry_of : Called → Wire
entry_of c = record { primitive = invoked_of (invoked_part c.number); bytes = take (bytes_for (sent_bits c.number)) c.first }

abbrev pub data_in : Called → Body
data_in c = take (given_bits c.number) (lent (take (bytes_for (given_bits c.number)) c.second))

-- a message indication (3) hands out the message data in the second buffer
abbrev pub handed_of : Called → List Body
handed_of c = cond (eqb (told_part_of c.number % codes) 3) (data_in c ∷ []) []
