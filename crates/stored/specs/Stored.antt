-- A record as the host keeps it: nine bytes of one code each, then the highest job taken and the dialogue number (document 02, E9), eight
-- bytes each, most significant byte first. A range of zeros is no record.
use Rattle.std.specs.Prelude.{ℕ, zero, suc, ◌+◌, ◌*◌, Bool, true, false, cond, ◌&&◌, List, [], ◌∷◌, ◌++◌, leb, ltb, eqb, length, get_or, None, Option, Some}
use Rattle.bits.specs.Bits.{bits_n, bits_to, bytes_of}
use Rattle.bits.specs.Read.{read_bits}
use Rattle.machine.specs.Codes.{security_values, versions}
use Rattle.control.specs.Control.{number, entered}
use Rattle.editions.specs.declared.Edition.{Edition}
use Rattle.editions.specs.declared.Edition.TheVariants.{Plain, Protected}
use Rattle.control.specs.declared.Side.{Side}
use Rattle.control.specs.declared.Side.TheVariants.{Air, Ground}
use Rattle.control.specs.declared.State.{State}
use Rattle.control.specs.declared.State.TheVariants.{Idle, StartReq, StartInd, Dialogue, End, Forward}
use Rattle.machine.specs.declared.record.Record.{Record}
use Rattle.stored.specs.declared.Stored.{Stored}

-- ---- the layout: the byte of each field

-- the end: 1 air, 2 ground, of type 22; 3 air, 4 ground, of type 2 (document 02, E14)
abbrev pub side_byte : ℕ
side_byte = 0

-- the state: 0 IDLE, 1 START-REQ, 2 START-IND, 3 DIALOGUE, 4 END, 5 FORWARD
abbrev pub state_byte : ℕ
state_byte = 1

abbrev pub dsc_byte : ℕ
dsc_byte = 2

-- whether t-start runs
abbrev pub timer_byte : ℕ
timer_byte = 3

-- whether the user is active
abbrev pub active_byte : ℕ
active_byte = 4

-- the security value of the last start request
abbrev pub request_byte : ℕ
request_byte = 5

-- the security value that local policy accepts
abbrev pub policy_byte : ℕ
policy_byte = 6

-- whether forwarding is supported
abbrev pub forwards_byte : ℕ
forwards_byte = 7

-- the own version
abbrev pub version_byte : ℕ
version_byte = 8

-- the highest job taken: where its bytes begin, and how many they are
abbrev pub job_byte : ℕ
job_byte = 9

abbrev pub job_bytes : ℕ
job_bytes = 8

-- the dialogue number, likewise
abbrev pub number_byte : ℕ
number_byte = job_byte + job_bytes

abbrev pub number_bytes : ℕ
number_bytes = 8

abbrev pub record_bytes : ℕ
record_bytes = number_byte + number_bytes

-- the same in bits
abbrev pub job_bit : ℕ
job_bit = 8 * job_byte

abbrev pub job_bits : ℕ
job_bits = 8 * job_bytes

abbrev pub number_bit : ℕ
number_bit = 8 * number_byte

abbrev pub number_bits : ℕ
number_bits = 8 * number_bytes

abbrev pub record_bits : ℕ
record_bits = 8 * record_bytes

-- ---- the codes

abbrev pub side_code : Side → ℕ
side_code Air = 1
side_code Ground = 2

-- type 22 has the codes that it had before there was another
abbrev pub edition_shift : Edition → ℕ
edition_shift Protected = 0
edition_shift Plain = 2

abbrev pub end_code : Side → Edition → ℕ
end_code sd ed = side_code sd + edition_shift ed

abbrev pub side_of : ℕ → Side
side_of x = cond (eqb x 1) Air (cond (eqb x 3) Air Ground)

abbrev pub edition_in : ℕ → Edition
edition_in x = cond (leb x 2) Protected Plain

abbrev pub state_of : ℕ → State
state_of zero = Idle
state_of (suc zero) = StartReq
state_of (suc (suc zero)) = StartInd
state_of (suc (suc (suc zero))) = Dialogue
state_of (suc (suc (suc (suc zero)))) = End
state_of (suc (suc (suc (suc (suc n))))) = Forward

abbrev pub flag : Bool → ℕ
flag true = 1
flag false = 0

-- ---- bytes and record

-- the bytes in front of the job
unfoldable pub head_bytes : Side → Record → List ℕ
head_bytes sd r =
    end_code sd r.edition ∷ number r.control.state ∷ flag r.control.dsc ∷ flag r.timer ∷ flag r.active ∷ r.request ∷ r.policy ∷ flag r.forwards ∷ r.version ∷ []

-- the bytes of a record that holds the dialogue number n
unfoldable pub stored_bytes : Side → Record → ℕ → List ℕ
stored_bytes sd r n = head_bytes sd r ++ bytes_of (job_bytes + number_bytes) (bits_n job_bits r.highest ++ bits_n number_bits n)

-- a version number: 1 to 255 (Doc 9705, 2.3.3.8.5.1)
abbrev pub version_fits : ℕ → Bool
version_fits v = leb 1 v && ltb v versions

-- whether the bytes in front of the job are those of a record
unfoldable pub head_fits : ℕ → ℕ → ℕ → ℕ → ℕ → ℕ → ℕ → ℕ → ℕ → Bool
head_fits side state dsc timer active request policy forwards version =
    leb 1 side && leb side 4 && ltb state 6 && ltb dsc 2 && ltb timer 2 && ltb active 2 && ltb request security_values && ltb policy security_values && ltb forwards 2 && version_fits version

abbrev pub code_at : List ℕ → ℕ → ℕ
code_at b i = get_or b i 0

abbrev pub head_of : List ℕ → Bool
head_of b = head_fits (code_at b side_byte) (code_at b state_byte) (code_at b dsc_byte) (code_at b timer_byte) (code_at b active_byte) (code_at b request_byte) (code_at b policy_byte) (code_at b forwards_byte) (code_at b version_byte)

-- what the bytes of a record say: its side, the record, and the dialogue number that it holds
abbrev pub is_stored : Side → Record → ℕ → Option Stored
is_stored sd r n = Some (record { side = sd; machine = r; number = n })

-- the record whose highest job and dialogue number were read
unfoldable pub with_numbers : List ℕ → Option (ℕ × ℕ) → Option (ℕ × ℕ) → Option Stored
with_numbers b (Some (h, next)) (Some (n, last)) =
    is_stored (side_of (code_at b side_byte)) (record {
      control = entered (state_of (code_at b state_byte)) (eqb (code_at b dsc_byte) 1);
      timer = eqb (code_at b timer_byte) 1;
      active = eqb (code_at b active_byte) 1;
      highest = h;
      request = code_at b request_byte;
      policy = code_at b policy_byte;
      forwards = eqb (code_at b forwards_byte) 1;
      version = code_at b version_byte;
      edition = edition_in (code_at b side_byte);
    }) n
with_numbers b (Some (h, next)) None = None
with_numbers b None x = None

-- what a range of bytes says
unfoldable pub load_at : List ℕ → Option Stored
load_at b = cond (eqb (length b) record_bytes && head_of b) (with_numbers b (read_bits (bits_to b record_bits) job_bit job_bits) (read_bits (bits_to b record_bits) number_bit number_bits)) None

-- what storing leaves: whether the record was stored, and the bytes
pub record Kept : Type 0 where
  pub done : Bool
  pub bytes : List ℕ

abbrev pub kept : Bool → List ℕ → Kept
kept d b = record { done = d; bytes = b }

-- into a range of its size, if the record's codes are of their types
unfoldable pub store_at : List ℕ → Side → Record → ℕ → Kept
store_at b sd r n =
    cond (eqb (length b) record_bytes && ltb r.request security_values && ltb r.policy security_values && version_fits r.version) (kept true (stored_bytes sd r n)) (kept false b)
