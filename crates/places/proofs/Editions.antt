-- Where an APDU of either application type is refused: the claims of Apdus and Messages, over the edition (document 02, E14).
-- Assumes nothing.
use mathlib.Core.Path.{◌≡◌, refl}
use mathlib.Core.Bool.{Bool, true, false, cond}
use mathlib.Core.List.{List}
use Prim.Native.Nat.{ℕ, ◌-◌, ◌≤◌}
use native.Mathlib.Omega.{arith}
use lib.Dec.{eqb}
use lib.ListN.{length}
use Rattle.bits.proofs.Numbers.{Bits}
use Rattle.fields.specs.Fields.{Reading, bit_field, extensible_index, then}
use Rattle.kinds.specs.declared.Direction.{Direction}
use Rattle.inner.specs.Messages.{no_header, body_at, message_at}
use Rattle.inner.specs.declared.values.Message.{Message}
use Rattle.inplace.specs.InPlace.{message_span, elements_span}
use Rattle.editions.specs.declared.Edition.{Edition}
use Rattle.editions.specs.declared.Edition.TheVariants.{Plain, Protected}
use Rattle.apdu.specs.Sizes.{provider_last}
use Rattle.apdu.specs.Headings.{response_last}
use Rattle.apdu.specs.Reading.{heading_at, ended_at}
use Rattle.pdus.specs.declared.PduType.{PduType}
use Rattle.apdu.specs.declared.Kind.{Kind}
use Rattle.apdu.specs.declared.Kind.TheVariants as kind
use Rattle.apdu.specs.declared.Heading.{Heading}
use Rattle.apdu.specs.declared.Data.{Data}
use Rattle.apdu.specs.declared.Forward.{Forward}
use Rattle.apdu.specs.declared.Apdu.TheVariants as apdu
use Rattle.plain.specs.Plain as plain
use Rattle.plain.specs.Plain.{sent_by, direction_of, no_message, message_there}
use Rattle.codec.specs.Codec.{user_last, start_at, send_at, forward_at, rest_at, apdu_at, whole_forward}
use Rattle.places.specs.Claims.{Seen, Refusing, Sound, seen_field}
use Rattle.places.proofs.Readers.{sound_value, sound_cond, then_sound, bit_sound, index_sound}
use Rattle.places.proofs.Messages.{sound_map, body_sound, message_sound}
use Rattle.places.proofs.Apdus.{seen_answer, answer_field, ended_refusing, heading_sound, data_sound, forward_sound, parts_refusing, led_refusing, refusing_whole, forward_refusing_whole}
use Rattle.std.specs.Prelude.{Err, Ok, Result}
use Rattle.fields.specs.declared.Refusal.{Refusal}

-- ---- a message in place, and elements in place

seen_spanned : (at : ℕ) (f : Reading Message) → seen_field (then {A = Message} {B = ℕ × ℕ} f (λ (m : Message) (next : ℕ). Ok (next - at, next))) ≡ seen_field f
seen_spanned at (Ok (m, n)) = refl
seen_spanned at (Err r) = refl

message_span_sound : (d : Direction) (l : List ℕ) (at : ℕ) → at ≤ length l → Sound seen_field (λ (m : List ℕ). message_span d m at) l at
unfolding message_span
message_span_sound d l at h =
    sound_map (seen_field {A = Message}) (seen_field {A = ℕ}) (λ (f : Reading Message). then f (λ (m : Message) (next : ℕ). Ok (next - at, next)))
    (seen_spanned at) (λ (m : List ℕ). message_at d m at) l at (message_sound d l at h)

elements_span_sound : (d : Direction) (l : List ℕ) (at : ℕ) → at ≤ length l → Sound seen_field (λ (m : List ℕ). elements_span d m at) l at
unfolding elements_span
elements_span_sound d l at h =
    sound_map (seen_field {A = Message}) (seen_field {A = ℕ}) (λ (f : Reading Message). then f (λ (m : Message) (next : ℕ). Ok (next - at, next)))
    (seen_spanned at) (λ (m : List ℕ). body_at d m no_header at) l at (body_sound d no_header l at h)

-- ---- the contents of type 2

plain_send_sound : (d : Direction) (l : List ℕ) (at : ℕ) → at ≤ length l → Sound seen_field (λ (x : List ℕ). plain.send_at d x at) l at
unfolding plain.send_at
plain_send_sound d l at h =
    then_sound {B = Data} (λ (x : List ℕ). message_span d x at) (λ (n next : ℕ) (x : List ℕ). Ok (message_there at n, next))
    l at (message_span_sound d l at h)
    (λ (n next : ℕ) (e : message_span d l at ≡ Ok (n, next)) (a : at ≤ next) (b : next ≤ length l). sound_value (seen_field {A = Data}) (Ok (message_there at n, next)) l next b refl)

plain_start_sound : (d : Direction) (l : List ℕ) (at : ℕ) → at ≤ length l → Sound seen_field (λ (x : List ℕ). plain.start_at d x at) l at
unfolding plain.start_at
plain_start_sound d l at h =
    then_sound {B = Data} (λ (x : List ℕ). bit_field x at 1)
    (λ (i p : ℕ) (x : List ℕ). cond (eqb i 0) (Ok (no_message, p)) (plain.send_at d x p)) l at
    (bit_sound l at 1 h)
    (λ (i p : ℕ) (e : bit_field l at 1 ≡ Ok (i, p)) (a : at ≤ p) (b : p ≤ length l).
    sound_cond (seen_field {A = Data}) (eqb i 0) (λ (x : List ℕ). Ok (no_message, p)) (λ (x : List ℕ). plain.send_at d x p) l p
    (λ (z : eqb i 0 ≡ true). sound_value (seen_field {A = Data}) (Ok (no_message, p)) l p b refl) (λ (z : eqb i 0 ≡ false). plain_send_sound d l p b))

plain_forward_sound : (l : List ℕ) (at : ℕ) → at ≤ length l → Sound seen_field (λ (x : List ℕ). plain.forward_at x at) l at
unfolding plain.forward_at
plain_forward_sound l at h =
    then_sound {B = Forward} (λ (x : List ℕ). heading_at x at) (λ (v : Heading) (p : ℕ) (x : List ℕ). then (elements_span (direction_of v.direction) x p) (λ (n m : ℕ). Ok (record { heading = v; message = record { at = p; count = n } }, m))) l at (heading_sound l at h)
    (λ (v : Heading) (p : ℕ) (e : heading_at l at ≡ Ok (v, p)) (u : at ≤ p) (w : p ≤ length l).
    then_sound {B = Forward} (λ (x : List ℕ). elements_span (direction_of v.direction) x p) (λ (n m : ℕ) (x : List ℕ). Ok (record { heading = v; message = record { at = p; count = n } }, m)) l p (elements_span_sound (direction_of v.direction) l p w)
    (λ (n m : ℕ) (f : elements_span (direction_of v.direction) l p ≡ Ok (n, m)) (u₂ : p ≤ m) (w₂ : m ≤ length l). sound_value (seen_field {A = Forward}) (Ok (record { heading = v; message = record { at = p; count = n } }, m)) l m w₂ refl))

-- ---- those of either type

start_sound : (ed : Edition) (t : PduType) (l : List ℕ) (at : ℕ) → at ≤ length l → Sound seen_field (λ (x : List ℕ). start_at ed t x at) l at
start_sound Protected t l at h = data_sound l at h
start_sound Plain t l at h = plain_start_sound (sent_by t) l at h

send_sound : (ed : Edition) (t : PduType) (l : List ℕ) (at : ℕ) → at ≤ length l → Sound seen_field (λ (x : List ℕ). send_at ed t x at) l at
send_sound Protected t l at h = data_sound l at h
send_sound Plain t l at h = plain_send_sound (sent_by t) l at h

passed_sound : (ed : Edition) (l : List ℕ) (at : ℕ) → at ≤ length l → Sound seen_field (λ (x : List ℕ). forward_at ed x at) l at
passed_sound Protected l at h = forward_sound l at h
passed_sound Plain l at h = plain_forward_sound l at h

rest_refusing : (ed : Edition) (t : PduType) (l : List ℕ) (c : Kind) (m at : ℕ) → Bits l → at ≤ length l
    → Refusing seen_answer (λ (x : List ℕ). rest_at ed t x c m at) l at
unfolding rest_at
rest_refusing ed t l kind.AbortUser m at b h =
    answer_field (λ (x : List ℕ). extensible_index x at (user_last ed))
    (λ (r n : ℕ) (x : List ℕ). ended_at x n (apdu.AbortUser r)) l at (index_sound l at (user_last ed) h)
    (λ (r n : ℕ) (e : extensible_index l at (user_last ed) ≡ Ok (r, n)) (a : at ≤ n) (w : n ≤ length l). ended_refusing l
    n (apdu.AbortUser r) b w)
rest_refusing ed t l kind.AbortProvider m at b h =
    answer_field (λ (x : List ℕ). extensible_index x at provider_last)
    (λ (r n : ℕ) (x : List ℕ). ended_at x n (apdu.AbortProvider r)) l at (index_sound l at provider_last h)
    (λ (r n : ℕ) (e : extensible_index l at provider_last ≡ Ok (r, n)) (a : at ≤ n) (w : n ≤ length l). ended_refusing l
    n (apdu.AbortProvider r) b w)
rest_refusing ed t l kind.Start m at b h = parts_refusing (λ (x : List ℕ). start_at ed t x at) l at (apdu.Start m) b
    (start_sound ed t l at h)
rest_refusing ed t l kind.Send m at b h = parts_refusing (λ (x : List ℕ). send_at ed t x at) l at apdu.Send b (send_sound ed t l at h)
rest_refusing ed t l kind.Forward m at b h = parts_refusing (λ (x : List ℕ). forward_at ed x at) l at apdu.Forward b (passed_sound ed l at h)
rest_refusing ed t l kind.ForwardResponse m at b h =
    answer_field (λ (x : List ℕ). extensible_index x at response_last)
    (λ (r n : ℕ) (x : List ℕ). ended_at x n (apdu.ForwardResponse r)) l at (index_sound l at response_last h)
    (λ (r n : ℕ) (e : extensible_index l at response_last ≡ Ok (r, n)) (a : at ≤ n) (w : n ≤ length l). ended_refusing l
    n (apdu.ForwardResponse r) b w)

-- AN APDU OF EITHER TYPE THAT IS REFUSED: its place is within the bits, the field with the fault begins there, and bits behind that field do not matter
pub edition_refusing : (ed : Edition) (t : PduType) (l : List ℕ) → Bits l → Refusing seen_answer (λ (x : List ℕ). apdu_at ed t x) l 0
unfolding apdu_at
edition_refusing ed t l b = led_refusing (rest_at ed t) t l (λ (c : Kind) (m at : ℕ) (h : at ≤ length l). rest_refusing ed t l c m at b h)

-- and a forward message by itself
pub passed_refusing_whole : (ed : Edition) (l : List ℕ) → Bits l → Refusing seen_field (λ (x : List ℕ). whole_forward ed x) l 0
unfolding plain.whole_forward
passed_refusing_whole Protected l b = forward_refusing_whole l b
passed_refusing_whole Plain l b = refusing_whole (λ (x : List ℕ). plain.forward_at x 0) l b (plain_forward_sound l 0 (omega arith))
