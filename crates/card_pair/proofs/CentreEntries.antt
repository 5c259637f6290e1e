-- Two ground cards: a centre that rests (IDLE), one that is away (FORWARD), their entries, and what is read back of them.
-- Assumes nothing.
use mathlib.Core.Path.{◌≡◌, refl, ap, subst}
use mathlib.Core.Bool.{Bool, true, false, cond}
use mathlib.Core.List.{List}
use Prim.Native.Nat.{ℕ, ◌^◌, ◌/◌, ◌%◌, ◌≤◌, ◌<◌}
use native.Mathlib.Omega.{arith}
use borrow.Author.Tests.{eq-eqb, ne_eqb}
use lib.Dec.{T, eqb, ltb}
use lib.ListN.{length, take}
use Rattle.bits.specs.Put.{put_bits}
use Rattle.bits.proofs.Bytes.{bits_to_is}
use Rattle.editions.specs.declared.Edition.{Edition}
use Rattle.apdu.specs.Sizes.{buffer_least, all_bits}
use Rattle.apdu.specs.Pdus.{forward, forward_response, lent, pdu_in}
use Rattle.apdu.specs.Encoding.{padded, bytes_for}
use Rattle.pdus.specs.declared.PduType.TheVariants as pdu
use Rattle.apdu.specs.declared.Heading.{Heading}
use Rattle.apdu.specs.declared.Forward.{Forward as Forwarded}
use Rattle.apdu.specs.declared.Apdu.{Apdu}
use Rattle.apdu.specs.declared.Apdu.TheVariants as is
use Rattle.apdu.proofs.Bounds.{never as apart}
use Rattle.codec.specs.Codec.{pdu_bits, apdu_at}
use Rattle.codec.proofs.Stated.{pdu_fits, ApduRead}
use Rattle.codec.proofs.Instance.{laws}
use Rattle.machine.specs.Codes.{routing_classes, forward_results, permanent, success, no_version}
use Rattle.machine.specs.Calls.{qos_asked, call_of}
use Rattle.machine.specs.Faults.{differs}
use Rattle.machine.specs.declared.event.UserPrimitive.{UserPrimitive}
use Rattle.machine.specs.declared.event.UserPrimitive.TheVariants.{StartServiceRequest, StartServiceResponse, MessageServiceRequest, EndServiceRequest, EndServiceResponse, UserAbortServiceRequest}
use Rattle.machine.specs.declared.outcome.Invoked.TheVariants.{DStartRequest, DStartResponse, DStartForwardRequest, DStartForwardResponse}
use Rattle.numbered.specs.Numbers.{user_starts}
use Rattle.packed.specs.Packed.{codes, three}
use Rattle.step.specs.Call.{Called}
use Rattle.packed.proofs.Unpacked.{code_unpacked, parameter_unpacked, last_unpacked}
use Rattle.pair.specs.Names.{Ground, entered, closed, takes}
use Rattle.pair.specs.Names.{Forward as FORWARD}
use Rattle.pair.specs.Carrier.{puts, acts}
use Rattle.pair.specs.Numbered.{Numbered}
use Rattle.pair.specs.Wires.{Wire}
use Rattle.card_pair.specs.Answered.{told_part_of, invoked_of, handed_of}
use Rattle.card_pair.specs.CentreMachine.{Desk, centre_entry, after, does}
use Rattle.card_pair.specs.Promise.{Rests}
use Rattle.card_pair.proofs.CentreBytes.{At}
use Rattle.std.specs.Prelude.{Ok, Some}

-- ---- a centre that rests, one that is away, and their entries

-- awaits the response to its forward
pub record Away (p : ℕ) (ed : Edition) (ver : ℕ) (d : Desk) : Type 0 where
  pub at : At p ed ver d
  pub control : at.held.control ≡ entered FORWARD false
  pub request : at.held.request ≡ p

-- a forward with its message, or its response
pub data Good (p : ℕ) (ed : Edition) (ver : ℕ) (w : Numbered Wire) : Type 0 where
  a_forward : (k : ℕ) → ltb k routing_classes ≡ true → w.it.primitive ≡ Some (DStartForwardRequest (qos_asked k) p ver)
      → (f : Forwarded) → apdu_at ed pdu.GroundPdus (lent w.it.bytes) ≡ Ok (is.Forward f) → w.no < 2 ^ 64
      → Good p ed ver w
  a_response : (x : ℕ) → ltb x forward_results ≡ true → w.it.primitive ≡ Some (DStartForwardResponse p no_version)
      → apdu_at ed pdu.GroundPdus (lent w.it.bytes) ≡ Ok (is.ForwardResponse x) → Good p ed ver w

abbrev pub Rest : ℕ → Edition → ℕ → Desk → Type 0
Rest p ed ver d = Rests p ed ver d.kept.bytes

pub clash : {A : Type 0} → true ≡ false → A
clash e = absurd (subst T e tt)

-- the call c answers a forward; the answer says success exactly where the user is told of it (a forward indication, 8)
pub record Replies (ed : Edition) (d : Desk) (c : Called) : Type 0 where
  pub result : ℕ
  pub reads : apdu_at ed pdu.GroundPdus (lent (centre_entry c).it.bytes) ≡ Ok (is.ForwardResponse result)
  pub sends : does d c ≡ acts (after d c) (handed_of c) (puts (centre_entry c))
  pub tells : eqb (told_part_of c.number % codes) 8 ≡ eqb result success

-- the call c tells the user what the answer w says (a forward confirmation, 9)
pub record Confirms (ed : Edition) (w : Numbered Wire) (c : Called) : Type 0 where
  pub result : ℕ
  pub reads : apdu_at ed pdu.GroundPdus (lent w.it.bytes) ≡ Ok (is.ForwardResponse result)
  pub code : told_part_of c.number % codes ≡ 9
  pub parameter : told_part_of c.number / codes % codes ≡ result

-- ---- what is read back

-- what stands in lent bytes, put into a buffer, is read as it was
pub put_read : (ed : Edition) (a : Apdu) (msgs t : List ℕ)
    → pdu_fits ed pdu.GroundPdus (pdu_in (lent msgs) (lent msgs) (lent msgs) a) ≡ true → buffer_least ≤ length t
    → ApduRead ed pdu.GroundPdus (lent (take
    (bytes_for (length (pdu_bits ed pdu.GroundPdus (pdu_in (lent msgs) (lent msgs) (lent msgs) a))))
    (put_bits t 0 (padded (pdu_bits ed pdu.GroundPdus (pdu_in (lent msgs) (lent msgs) (lent msgs) a))))))
    (pdu_in (lent msgs) (lent msgs) (lent msgs) a)
put_read ed a msgs t h g = (laws ed).written_read pdu.GroundPdus (pdu_in (lent msgs) (lent msgs) (lent msgs) a) t ((laws
    ed).pdu_are_bits pdu.GroundPdus (lent msgs) (lent msgs) (lent msgs) a (bits_to_is msgs all_bits)
    (bits_to_is msgs all_bits) (bits_to_is msgs all_bits)) h g

pub record IsForward (a : Apdu) : Type 0 where
  pub message : Forwarded
  pub same : a ≡ is.Forward message

pub forward_value : (l : List ℕ) (a : Apdu) (h : Heading) (m : List ℕ) → pdu_in l l l a ≡ forward h m → IsForward a
unfolding pdu_in
forward_value l (is.AbortUser r) h m e = apart (cc)
forward_value l (is.AbortProvider r) h m e = apart (cc)
forward_value l (is.Start x d) h m e = apart (cc)
forward_value l (is.Send d) h m e = apart (cc)
forward_value l (is.Forward f) h m e = record { message = f; same = refl }
forward_value l (is.ForwardResponse x) h m e = apart (cc)

pub response_value : (l : List ℕ) (a : Apdu) (x : ℕ) → pdu_in l l l a ≡ forward_response x → a ≡ is.ForwardResponse x
unfolding pdu_in
response_value l (is.AbortUser r) x e = apart (cc)
response_value l (is.AbortProvider r) x e = apart (cc)
response_value l (is.Start y d) x e = apart (cc)
response_value l (is.Send d) x e = apart (cc)
response_value l (is.Forward f) x e = apart (cc)
response_value l (is.ForwardResponse y) x e = let z : y ≡ x = cc in ap is.ForwardResponse z

-- ---- the codes of the two primitives

pub request_back : (k s : ℕ) → k < 16 → s < 2 → invoked_of (three 1 k s) ≡ Some (DStartRequest (qos_asked k) s)
request_back k s h g = rw (code_unpacked 1 k s (omega arith), parameter_unpacked 1 k s (omega arith) h, last_unpacked 1 k s (omega arith) g)

pub response_back : (s : ℕ) → s < 2 → invoked_of (three 2 permanent s) ≡ Some (DStartResponse permanent s)
response_back s g = rw (
  code_unpacked 2 permanent s (omega arith),
  parameter_unpacked 2 permanent s (omega arith)
      (omega arith),
  last_unpacked 2 permanent s (omega arith) g,
)

pub own_version : (v : ℕ) → 1 ≤ v → cond (eqb v 0) 0 v ≡ v
own_version v h = rw (ne_eqb v 0 (λ (e : v ≡ 0). omega arith))

pub idle_takes : (u : UserPrimitive) → user_starts u ≡ false → takes Ground closed (call_of u) ≡ false
unfolding user_starts call_of
idle_takes (StartServiceRequest m k s) e = clash e
idle_takes (StartServiceResponse m x h) e = refl
idle_takes (MessageServiceRequest h j) e = refl
idle_takes (EndServiceRequest m h) e = refl
idle_takes (EndServiceResponse m x h) e = refl
idle_takes (UserAbortServiceRequest g x) e = refl

-- equal security values do not differ, whether they are compared or not
pub no_difference : (compared : Bool) (s v : ℕ) → s ≡ v → differs compared s v ≡ false
no_difference true s v e = rw (eq-eqb s v e)
no_difference false s v e = refl
