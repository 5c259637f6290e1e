-- What holds of the definitions that the contracts cite: reading what was written gives the value; writing what was read gives the same bytes, or, where
-- it has additions from a later edition, the APDU with the additions gone, which is read as the same value; what a user is delivered; how large an APDU is.
-- Assumes nothing.
use mathlib.Core.Path.{◌≡◌, refl, ap, sym, subst, ◌∙◌}
use mathlib.Core.Bool.{Bool, true, false, cond}
use mathlib.Core.List.{List, [], ◌++◌, append_assoc}
use Prim.Native.Nat.{ℕ, ◌+◌, ◌-◌, ◌*◌, ◌/◌, ◌^◌, ◌≤◌, ◌<◌}
use native.Mathlib.Omega.{arith}
use borrow.Author.Tests.{le-leb, lt-leb, le-ltb, lt-ltb, leb-false, eqb-true, eqb-false}
use lib.Dec.{leb, eqb}
use lib.ListN.{length, take, drop, get_or, replicate, length-append, get_or-append}
use lib.Seq.{take_at, drop_at, take-length, length-take-le, get_or-append-add}
use lib.Pow.{pow_pos}
use Rattle.words.proofs.Laws.{ok_place}
use Rattle.bits.specs.Bits.{bits_n, bits_of}
use Rattle.bits.specs.Put.{put_bits}
use Rattle.bits.proofs.Numbers.{Bits, bits_bits_n, length_bits_n}
use Rattle.bits.proofs.Bytes.{Bytes, bits_append, bits_take, bits_drop, bits_to_is, length_bits_is, length_to}
use Rattle.bits.proofs.Putting.{length_put}
use Rattle.fields.specs.Fields.{refused_at, bit_field, digits_in, width_of, then}
use Rattle.fields.specs.Encodings.{bits_fit, index_bits, length_bits, whole_bits}
use Rattle.fields.specs.declared.Fault.TheVariants.{Tail}
use Rattle.fields.proofs.RoundTrip.{Stands, stands_join, stands_split, bit_field_is, whole_number_is, extensible_index_is, length_determinant}
use Rattle.apdu.specs.Sizes.{buffer_least, all_bits, octet, bit, identifier_most, message_most, check_most, mode_last, user_last, provider_last}
use Rattle.apdu.specs.Headings.{response_last}
use Rattle.apdu.specs.Pdus.{given, Content, Pdu, start, last_of, lent, items_in, part_in, content_in, pdu_in}
use Rattle.apdu.specs.Encoding.{string_bits, optional_bits, optional_fits, presence, alternative, root_bits, content_bits, content_fits, forward_bits, forward_pdu_fits, mode_bits, mode_fits, pdu_bits, pdu_fits, padding, padded, bytes_for}
use Rattle.apdu.specs.Reading.{tail_at, apdu_at, data_at, whole_within, whole_data, whole_forward_within, whole_forward}
use Rattle.apdu.specs.Stripped.{root_end, strip_at, strip, extended}
use Rattle.apdu.specs.Writing.{apdu_fits, done, write_out}
use Rattle.pdus.specs.declared.PduType.{PduType}
use Rattle.pdus.specs.declared.PduType.TheVariants.{AircraftPdus, GroundPdus}
use Rattle.apdu.specs.declared.Kind.TheVariants as kind
use Rattle.pdus.specs.declared.Span.{Span}
use Rattle.apdu.specs.declared.Data.{Data}
use Rattle.apdu.specs.declared.Heading.{Heading}
use Rattle.apdu.specs.declared.Forward.{Forward}
use Rattle.apdu.specs.declared.Apdu.{Apdu}
use Rattle.apdu.specs.declared.Apdu.TheVariants as apdu
use Rattle.apdu.proofs.Bounds.{never, apdu_value_fits, content_most_is, forward_most_is, pdu_most, pdu_most_is, width, length_alternative}
use Rattle.apdu.proofs.Contents.{on_value, DataIs, data_mark, data_plain, data_written, data_read}
use Rattle.apdu.proofs.Forwards.{forward_are_bits, forward_written}
use Rattle.apdu.proofs.Apdus.{ApduRead, Led, Standing, apdu_written, apdu_read}
use Rattle.apdu.proofs.Octets.{all_bits_is, put_bytes, front_bits}
use Rattle.std.specs.Prelude.{Err, None, Ok, Option, Some}
use Rattle.fields.specs.Fields.{Reading}
use Rattle.words.specs.declared.Unwritten.TheVariants.{Room}
use Rattle.words.specs.declared.Unwritten.TheVariants.{Shape}

-- ---- whole bytes

pub pad_bits : (bs : List ℕ) → Bits bs → Bits (padded bs)
unfolding padded
pad_bits bs h = bits_append bs (bits_n (padding (length bs)) 0) h (bits_bits_n (padding (length bs)) 0)

pub length_padded : (bs : List ℕ) → length (padded bs) ≡ length bs + padding (length bs)
unfolding padded
length_padded bs = rw (length-append, length_bits_n)

whole_bytes : (bs : List ℕ) → length (padded bs) ≡ 8 * bytes_for (length bs)
whole_bytes bs = rw (length_padded bs) (omega arith)

pub stands_front : (bs : List ℕ) → Stands (padded bs) 0 bs (length bs)
unfolding padded
stands_front bs =
    let n = length-append bs (bits_n (padding (length bs)) 0) in
    record { place = omega arith; within = omega arith; holds = take_at bs (bits_n (padding (length bs)) 0) (length bs) refl }

stands_pad : (bs : List ℕ) → Stands (padded bs) (length bs) (bits_n (padding (length bs)) 0) (length bs + padding (length bs))
unfolding padded
stands_pad bs =
    let k : ℕ = padding (length bs) in
    let n = length-append bs (bits_n (padding (length bs)) 0) in
    let m = length_bits_n (padding (length bs)) 0 in
    record { place = omega arith; within = omega arith; holds = rw (drop_at bs (bits_n (padding (length bs)) 0) (length bs) refl) (take-length (bits_n (padding (length bs)) 0)) }

-- no TAIL after a padded encoding
pub tail_padded : (bs : List ℕ) → tail_at (padded bs) (length bs) ≡ Ok (0, length bs + padding (length bs))
unfolding tail_at
tail_padded bs =
    let k : ℕ = padding (length bs) in
    let n = length_padded bs in
    let f : bits_fit (padding (length bs)) 0 ≡ true = rw (
      le-leb (padding (length bs)) 64 (omega arith),
      lt-ltb 0
          (2 ^ padding (length bs)) (pow_pos (padding (length bs))),
    ) in
    let a = (bit_field_is (padding (length bs))).written_read (padded bs) (length bs) 0 (length bs + padding (length bs)) f (stands_pad bs) in
    rw (a, lt-leb (length bs + padding (length bs) + 1) (length (padded bs)) (omega arith))

-- whole bytes hold the padding after every place in them: it is never SHORT
pub padding_there : (s : List ℕ) (at : ℕ) → at ≤ 8 * length s → 8 * length s ≤ all_bits → at + padding at ≤ length (lent s)
padding_there s at h g = rw (length_to s all_bits) (omega arith)

-- the bytes that a writer leaves in a buffer
pub record Front (t bs : List ℕ) : Type 0 where
  pub size : length (take (bytes_for (length bs)) (put_bits t 0 (padded bs))) ≡ bytes_for (length bs)
  pub bits : lent (take (bytes_for (length bs)) (put_bits t 0 (padded bs))) ≡ padded bs

pub front : (t bs : List ℕ) → Bits bs → length bs + 7 ≤ 8 * buffer_least → buffer_least ≤ length t → Front t bs
front t bs hb h g =
    let k : ℕ = bytes_for (length bs) in
    let n = whole_bytes bs in
    let m : length (take (bytes_for (length bs)) (put_bits t 0 (padded bs))) ≡ bytes_for (length bs) = length-take-le
    (bytes_for (length bs)) (put_bits t 0 (padded bs)) (rw (length_put (padded bs) t 0) (omega arith)) in
    record { size = m; bits = all_bits_is (take (bytes_for (length bs)) (put_bits t 0 (padded bs))) all_bits (rw m (omega arith)) ∙ front_bits t (padded bs) (bytes_for (length bs)) (pad_bits bs hb) n (omega arith) }

-- ---- an encoding of bits is bits

pub no_bits : Bits []
no_bits k = omega arith

pub string_are_bits : (l : List ℕ) (unit : ℕ) (x : Span) → Bits l → Bits (string_bits unit (items_in l unit x))
unfolding string_bits
string_are_bits l unit x h = bits_append (length_bits (length (items_in l unit x) / unit)) (items_in l unit x)
    (length_determinant.are_bits (length (items_in l unit x) / unit))
    (bits_take (unit * x.count) (drop x.at l) (bits_drop x.at l h))

part_are_bits : (l : List ℕ) (unit : ℕ) (p : Option Span) → Bits l → Bits (optional_bits unit (part_in l unit p))
unfolding optional_bits part_in
part_are_bits l unit None h = no_bits
part_are_bits l unit (Some x) h = string_are_bits l unit x h

pub content_are_bits : (li lm lc : List ℕ) (d : Data) → Bits li → Bits lm → Bits lc → Bits (content_bits (content_in li lm lc d))
unfolding content_bits content_in
content_are_bits li lm lc d i m c =
    bits_append (bits_n 1 0) _ (bits_bits_n 1 0)
    (bits_append (bits_n 2 (2 * presence (part_in li octet d.identifier) + presence (part_in lm bit d.message))) _ (bits_bits_n 2 (2 * presence (part_in li octet d.identifier) + presence (part_in lm bit d.message)))
    (bits_append (optional_bits octet (part_in li octet d.identifier)) _ (part_are_bits li octet d.identifier i)
    (bits_append (optional_bits bit (part_in lm bit d.message)) _ (part_are_bits lm bit d.message m)
    (string_are_bits lc bit d.check c))))

pub mode_are_bits : (pdus : PduType) (m : ℕ) → Bits (mode_bits pdus m)
unfolding mode_bits
mode_are_bits GroundPdus m = no_bits
mode_are_bits AircraftPdus m = go (eqb m 0)
  where
    go : (t : Bool) → Bits (cond t (bits_n 1 0) (bits_n 1 1 ++ whole_bits 0 mode_last m))
    go true = bits_bits_n 1 0
    go false = bits_append (bits_n 1 1) (whole_bits 0 mode_last m) (bits_bits_n 1 1) ((whole_number_is 0 mode_last (omega arith)).are_bits m)

pub index_are_bits : (pdus : PduType) (i : ℕ) → Bits (index_bits (last_of pdus) i)
index_are_bits AircraftPdus i = (extensible_index_is 3 (omega arith)).are_bits i
index_are_bits GroundPdus i = (extensible_index_is 5 (omega arith)).are_bits i

pub pdu_are_bits : (pdus : PduType) (li lm lc : List ℕ) (a : Apdu) → Bits li → Bits lm → Bits lc → Bits (pdu_bits pdus (pdu_in li lm lc a))
unfolding pdu_bits pdu_in
pdu_are_bits pdus li lm lc (apdu.AbortUser r) i m c = bits_append (index_bits (last_of pdus) 0) (index_bits user_last r)
    (index_are_bits pdus 0) ((extensible_index_is user_last (omega arith)).are_bits r)
pdu_are_bits pdus li lm lc (apdu.AbortProvider r) i m c = bits_append (index_bits (last_of pdus) 1)
    (index_bits provider_last r) (index_are_bits pdus 1) ((extensible_index_is provider_last (omega arith)).are_bits r)
pdu_are_bits pdus li lm lc (apdu.Start v d) i m c = bits_append (index_bits (last_of pdus) 2) _ (index_are_bits pdus 2) (
    bits_append (mode_bits pdus v) (content_bits (content_in li lm lc d)) (mode_are_bits pdus v)
    (content_are_bits li lm lc d i m c))
pdu_are_bits pdus li lm lc (apdu.Send d) i m c = bits_append (index_bits (last_of pdus) 3)
    (content_bits (content_in li lm lc d)) (index_are_bits pdus 3) (content_are_bits li lm lc d i m c)
pdu_are_bits pdus li lm lc (apdu.Forward f) i m c = bits_append (index_bits (last_of pdus) 4)
    (forward_bits f.heading (items_in lm bit f.message)) (index_are_bits pdus 4)
    (forward_are_bits f.heading (items_in lm bit f.message) (string_are_bits lm bit f.message m))
pdu_are_bits pdus li lm lc (apdu.ForwardResponse x) i m c = bits_append (index_bits (last_of pdus) 5)
    (index_bits response_last x) (index_are_bits pdus 5) ((extensible_index_is response_last (omega arith)).are_bits x)

-- ---- reading what was written gives the value

-- bits that are the padded encoding of a value within the sizes are read as that value
pub encoding_accepted : (pdus : PduType) (l : List ℕ) (v : Pdu) → pdu_fits pdus v ≡ true → l ≡ padded (pdu_bits pdus v) → ApduRead pdus l 0 v
encoding_accepted pdus l v h e =
    rw e (apdu_written pdus (padded (pdu_bits pdus v)) 0 (length (pdu_bits pdus v))
    (length (pdu_bits pdus v) + padding (length (pdu_bits pdus v))) v h (stands_front (pdu_bits pdus v))
    (tail_padded (pdu_bits pdus v)))

-- what is written to a buffer is read as it was
pub written_read : (pdus : PduType) (v : Pdu) (t : List ℕ) → Bits (pdu_bits pdus v) → pdu_fits pdus v ≡ true → buffer_least ≤ length t
    → ApduRead pdus (lent (take (bytes_for (length (pdu_bits pdus v))) (put_bits t 0 (padded (pdu_bits pdus v))))) 0 v
written_read pdus v t b h g =
    let m = pdu_most_is pdus v h in
    encoding_accepted pdus _ v h (front t (pdu_bits pdus v) b (omega arith) g).bits

-- what stands in lent bytes, put into a buffer by `put_apdu`, is read as it was
pub put_read : (pdus : PduType) (a : Apdu) (ids msgs checks t : List ℕ)
    → apdu_fits pdus (lent ids) (lent msgs) (lent checks) a ≡ true → buffer_least ≤ length t
    → ApduRead pdus (lent (take (bytes_for (length (pdu_bits pdus (pdu_in (lent ids) (lent msgs) (lent checks) a))))
    (put_bits t 0 (padded (pdu_bits pdus (pdu_in (lent ids) (lent msgs) (lent checks) a)))))) 0
    (pdu_in (lent ids) (lent msgs) (lent checks) a)
put_read pdus a ids msgs checks t h g =
    written_read pdus (pdu_in (lent ids) (lent msgs) (lent checks) a) t
    (pdu_are_bits pdus (lent ids) (lent msgs) (lent checks) a (bits_to_is ids all_bits) (bits_to_is msgs all_bits)
    (bits_to_is checks all_bits)) (apdu_value_fits pdus (lent ids) (lent msgs) (lent checks) a h) g

-- message data by itself, as it is delivered
pub record DataWhole (l : List ℕ) (c : Content) : Type 0 where
  pub parts : Data
  pub read : whole_data l ≡ Ok (parts, length (content_bits c))
  pub content : content_in l l l parts ≡ c

data_accepted : (c : Content) → content_fits c ≡ true → DataWhole (padded (content_bits c)) c
unfolding whole_within
data_accepted c h =
    let d = data_written (padded (content_bits c)) 0 (length (content_bits c)) c h (stands_front (content_bits c)) in
    record { parts = d.parts; read = rw (d.read, tail_padded (content_bits c)); content = d.content }

pub data_written_read : (c : Content) (t : List ℕ) → Bits (content_bits c) → content_fits c ≡ true → buffer_least ≤ length t
    → DataWhole (lent (take (bytes_for (length (content_bits c))) (put_bits t 0 (padded (content_bits c))))) c
data_written_read c t b h g =
    let m = content_most_is c h in
    rw (front t (content_bits c) b (omega arith) g).bits (data_accepted c h)

-- what was read by itself stands there, within the sizes
pub whole_data_is : (l : List ℕ) (d : Data) (next : ℕ) → Bits l → whole_data l ≡ Ok (d, next) → DataIs l 0 next d
unfolding whole_within
whole_data_is l d next b h = on_value (DataIs l 0 next d) (d, next) (data_at l 0) _ from h
  where
    ended : (e : Data) (n : ℕ) (f : Reading ℕ) → then {A = ℕ} {B = Data × ℕ} f (λ (v m : ℕ). Ok (e, n)) ≡ Ok (d, next)
        → ◌≡◌ {A = Reading Data} (Ok (e, n)) (Ok (d, next))
    ended e n (Ok (v, m)) p = p
    ended e n (Err r) p = let z : ◌≡◌ {A = ℕ} 0 1 = cc in absurd (omega arith)

    from : (e : Data) (n : ℕ) → data_at l 0 ≡ Ok (e, n) → then {A = ℕ} {B = Data × ℕ} (tail_at l n) (λ (v m : ℕ). Ok (e, n)) ≡ Ok (d, next)
        → DataIs l 0 next d
    from e n q p = data_read l 0 next d b (q ∙ ended e n (tail_at l n) p)

-- one encoding, one value
pub one_value : (pdus : PduType) (v w : Pdu) → pdu_fits pdus v ≡ true → pdu_fits pdus w ≡ true
    → padded (pdu_bits pdus v) ≡ padded (pdu_bits pdus w) → v ≡ w
one_value pdus v w f g e =
    let l : List ℕ = padded (pdu_bits pdus v) in
    let x = encoding_accepted pdus (padded (pdu_bits pdus v)) v f refl in
    let y = encoding_accepted pdus (padded (pdu_bits pdus v)) w g e in
    let q : Ok x.value ≡ Ok y.value = sym x.read ∙ y.read in
    let z : x.value ≡ y.value = cc in
    sym x.same ∙ ap (pdu_in (padded (pdu_bits pdus v)) (padded (pdu_bits pdus v)) (padded (pdu_bits pdus v))) z ∙ y.same

-- ---- writing what was read gives the same bytes

record TailIs (l : List ℕ) (at next : ℕ) : Type 0 where
  stands : Stands l at (bits_n (padding at) 0) next
  end : length l ≤ next

tail_is : (l : List ℕ) (at v next : ℕ) → Bits l → tail_at l at ≡ Ok (v, next) → TailIs l at next
unfolding tail_at
tail_is l at v next b e = on_value (TailIs l at next) (v, next) (bit_field l at (padding at)) _ found e
  where
    last : (m : ℕ) → bit_field l at (padding at) ≡ Ok (0, m) → (t : Bool) → leb (m + 1) (length l) ≡ t
        → cond {A = Reading ℕ} t (refused_at m Tail) (Ok (0, m)) ≡ Ok (v, next) → TailIs l at next
    last m f true p k = never (cc)
    last m f false p k =
        let x : m ≡ next = ok_place k in
        let h = leb-false (m + 1) (length l) p in
        rw (← x) (record { stands = (bit_field_is (padding at)).read_written l at 0 m b f; end = omega arith })

    go : (w m : ℕ) → bit_field l at (padding at) ≡ Ok (w, m) → (t : Bool) → eqb w 0 ≡ t
        → cond {A = Reading ℕ} t (cond (leb (m + 1) (length l)) (refused_at m Tail) (Ok (0, m))) (refused_at (m - width_of w) Tail) ≡ Ok (v, next)
        → TailIs l at next
    go w m f true p k =
        let z : w ≡ 0 = eqb-true w 0 p in
        last m (rw z at f) (leb (m + 1) (length l)) refl k
    go w m f false p k = never (cc)

    found : (w m : ℕ) → bit_field l at (padding at) ≡ Ok (w, m)
        → cond {A = Reading ℕ} (eqb w 0) (cond (leb (m + 1) (length l)) (refused_at m Tail) (Ok (0, m))) (refused_at (m - width_of w) Tail) ≡ Ok (v, next)
        → TailIs l at next
    found w m f k = go w m f (eqb w 0) refl k

-- the first bit of message data, behind other bits and padded, is 0
first_clear : (bs : List ℕ) (c : Content) → get_or (padded (bs ++ content_bits c)) (length bs) 0 ≡ 0
unfolding padded content_bits bits_n
first_clear bs c =
    let n = length-append bs (bits_n 1 0 ++ root_bits c) in
    let m = length-append (bits_n 1 0) (root_bits c) in
    let z : length bs + 0 ≡ length bs = omega arith in
    get_or-append (bs ++ (bits_n 1 0 ++ root_bits c)) (bits_n (padding (length (bs ++ (bits_n 1 0 ++ root_bits c)))) 0) 0
    (length bs) (omega (arith, length_bits_n 1 0))
    ∙ ap (λ (p : ℕ). get_or (bs ++ (bits_n 1 0 ++ root_bits c)) p 0) (sym z) ∙ get_or-append-add bs (bits_n 1 0 ++ root_bits c) 0 0

all_of : (l bs : List ℕ) (next : ℕ) → Stands l 0 bs next → length l ≤ next → l ≡ bs
all_of l bs next s h =
    let p = s.place in
    let w = s.within in
    let n : length bs ≡ length l = omega arith in
    sym (take-length l) ∙ rw (← n) s.holds

pub ended_whole : (l bs : List ℕ) (place left end : ℕ) → Bits l → Stands l 0 bs place → tail_at l place ≡ Ok (left, end) → l ≡ padded bs
unfolding padded
ended_whole l bs place left end b s t =
    let p : place ≡ length bs = omega (arith, s.place) in
    let i = tail_is l place left end b t in
    all_of l (bs ++ bits_n (padding place) 0) end (stands_join l 0 place end bs (bits_n (padding place) 0) s i.stands)
    i.end ∙ ap (λ (n : ℕ). bs ++ bits_n (padding n) 0) p

-- ---- message data behind the bits that lead to it

module _ (l bs : List ℕ) (next : ℕ) (d : Data) (i : Led l 0 next d bs) where
  led_place : i.place ≡ length bs
  led_place = omega (arith, i.lead.place)

  led_root : Stands l (length bs + 1) (root_bits (content_in l l l d)) (root_end d)
  led_root = subst (λ (p : ℕ). Stands l (p + 1) (root_bits (content_in l l l d)) (root_end d)) led_place i.held.root

  -- the root's bits, as many as there are from the extension bit to the check's end
  led_kept : take (root_end d - (length bs + 1)) (drop (length bs + 1) l) ≡ root_bits (content_in l l l d)
  led_kept =
      let n : root_end d - (length bs + 1) ≡ length (root_bits (content_in l l l d)) = omega (arith, led_root.place) in
      ap (λ (k : ℕ). take k (drop (length bs + 1) l)) n ∙ led_root.holds

  led_content : content_bits (content_in l l l d) ≡ bits_n 1 0 ++ take (root_end d - (length bs + 1)) (drop (length bs + 1) l)
  unfolding content_bits
  led_content = ap (λ (r : List ℕ). bits_n 1 0 ++ r) (sym led_kept)

  led_strip : strip_at l (length bs) d ≡ padded (bs ++ content_bits (content_in l l l d))
  unfolding strip_at
  led_strip = rw (i.lead.holds, ← led_content)

  led_plain : i.held.mark ≡ 0 → Stands l 0 (bs ++ content_bits (content_in l l l d)) next
  led_plain z = stands_join l 0 i.place next bs _ i.lead (data_plain l i.place next d i.held z)

  led_mark : get_or l (length bs) 0 ≡ i.held.mark
  led_mark = ap (λ (p : ℕ). get_or l p 0) (sym led_place) ∙ data_mark l i.place next d i.held

  led_unmarked : eqb (get_or l (length bs) 0) 1 ≡ false → i.held.mark ≡ 0
  led_unmarked e =
      let n = eqb-false (get_or l (length bs) 0) 1 e in
      let m = led_mark in
      let k = i.held.low in
      omega arith

  -- with the additions gone the extension bit is 0
  led_cleared : get_or (strip_at l (length bs) d) (length bs) 0 ≡ 0
  led_cleared = ap (λ (x : List ℕ). get_or x (length bs) 0) led_strip ∙ first_clear bs (content_in l l l d)

-- Bits that are read as an APDU: with the additions gone they are the padded encoding of its value, which is within the sizes.
pub record Accepted (pdus : PduType) (l : List ℕ) (a : Apdu) : Type 0 where
  pub placed_fits : apdu_fits pdus l l l a ≡ true
  pub fits : pdu_fits pdus (pdu_in l l l a) ≡ true
  pub bits : strip pdus l a ≡ padded (pdu_bits pdus (pdu_in l l l a))

strip_encoding : (pdus : PduType) (l : List ℕ) (place left end : ℕ) (a : Apdu) → Bits l → Standing pdus l 0 place a
    → tail_at l place ≡ Ok (left, end) → strip pdus l a ≡ padded (pdu_bits pdus (pdu_in l l l a))
unfolding strip pdu_bits pdu_in
strip_encoding pdus l place left end (apdu.AbortUser r) b s t = ended_whole l _ place left end b s t
strip_encoding pdus l place left end (apdu.AbortProvider r) b s t = ended_whole l _ place left end b s t
strip_encoding pdus l place left end (apdu.Start m d) b s t = led_strip l _ place d s ∙ ap padded
    (append_assoc (index_bits (last_of pdus) 2) (mode_bits pdus m) (content_bits (content_in l l l d)))
strip_encoding pdus l place left end (apdu.Send d) b s t = led_strip l _ place d s
strip_encoding pdus l place left end (apdu.Forward f) b s t = ended_whole l _ place left end b s t
strip_encoding pdus l place left end (apdu.ForwardResponse x) b s t = ended_whole l _ place left end b s t

pub accepted_encoding : (pdus : PduType) (l : List ℕ) (a : Apdu) → Bits l → apdu_at pdus l 0 ≡ Ok a → Accepted pdus l a
accepted_encoding pdus l a b e =
    let i = apdu_read pdus l 0 a b e in
    record { placed_fits = i.placed_fits; fits = apdu_value_fits pdus l l l a i.placed_fits; bits = strip_encoding pdus l i.place i.left i.end a b i.stands i.tail }

-- WITH THE ADDITIONS GONE IT IS READ AS THE SAME VALUE
pub stripped_read : (pdus : PduType) (l : List ℕ) (a : Apdu) → Bits l → apdu_at pdus l 0 ≡ Ok a
    → ApduRead pdus (strip pdus l a) 0 (pdu_in l l l a)
stripped_read pdus l a b e =
    let c = accepted_encoding pdus l a b e in
    encoding_accepted pdus (strip pdus l a) (pdu_in l l l a) c.fits c.bits

-- ---- without additions

plain_stands : (pdus : PduType) (l : List ℕ) (place : ℕ) (a : Apdu) → Standing pdus l 0 place a
    → extended pdus l a ≡ false → Stands l 0 (pdu_bits pdus (pdu_in l l l a)) place
unfolding extended pdu_bits pdu_in
plain_stands pdus l place (apdu.AbortUser r) s e = s
plain_stands pdus l place (apdu.AbortProvider r) s e = s
plain_stands pdus l place (apdu.Start m d) s e =
    subst (λ (x : List ℕ). Stands l 0 x place)
    (append_assoc (index_bits (last_of pdus) 2) (mode_bits pdus m) (content_bits (content_in l l l d)))
    (led_plain l _ place d s (led_unmarked l _ place d s e))
plain_stands pdus l place (apdu.Send d) s e = led_plain l _ place d s (led_unmarked l _ place d s e)
plain_stands pdus l place (apdu.Forward f) s e = s
plain_stands pdus l place (apdu.ForwardResponse x) s e = s

-- Bits without additions that are read as an APDU are the padded encoding of its value.
pub record Same (pdus : PduType) (l : List ℕ) (a : Apdu) : Type 0 where
  pub bits : l ≡ padded (pdu_bits pdus (pdu_in l l l a))
  pub stands : Stands l 0 (pdu_bits pdus (pdu_in l l l a)) (length (pdu_bits pdus (pdu_in l l l a)))

pub plain_encoding : (pdus : PduType) (l : List ℕ) (a : Apdu) → Bits l → extended pdus l a ≡ false
    → apdu_at pdus l 0 ≡ Ok a → Same pdus l a
plain_encoding pdus l a b x e =
    let i = apdu_read pdus l 0 a b e in
    let s = plain_stands pdus l i.place a i.stands x in
    record { bits = ended_whole l _ i.place i.left i.end b s i.tail; stands = record { place = omega arith; within = s.within; holds = s.holds } }

-- to take additions away changes nothing exactly where there are none
pub plain_strip : (pdus : PduType) (l : List ℕ) (a : Apdu) → Bits l → extended pdus l a ≡ false
    → apdu_at pdus l 0 ≡ Ok a → strip pdus l a ≡ l
plain_strip pdus l a b x e = (accepted_encoding pdus l a b e).bits ∙ sym (plain_encoding pdus l a b x e).bits

unmarked : (x y : ℕ) → x ≡ y → y ≡ 0 → eqb x 1 ≡ false
unmarked x y p q = rw (p, q)

strip_standing : (pdus : PduType) (l : List ℕ) (place : ℕ) (a : Apdu) → Standing pdus l 0 place a → strip pdus l a ≡ l
    → extended pdus l a ≡ false
unfolding strip extended
strip_standing pdus l place (apdu.AbortUser r) s e = refl
strip_standing pdus l place (apdu.AbortProvider r) s e = refl
strip_standing pdus l place (apdu.Start m d) s e = unmarked _ _
    (ap (λ (x : List ℕ). get_or x (length (alternative pdus kind.Start ++ mode_bits pdus m)) 0) (sym e))
    (led_cleared l _ place d s)
strip_standing pdus l place (apdu.Send d) s e = unmarked _ _
    (ap (λ (x : List ℕ). get_or x (length (alternative pdus kind.Send)) 0) (sym e)) (led_cleared l _ place d s)
strip_standing pdus l place (apdu.Forward f) s e = refl
strip_standing pdus l place (apdu.ForwardResponse x) s e = refl

pub strip_plain : (pdus : PduType) (l : List ℕ) (a : Apdu) → Bits l → apdu_at pdus l 0 ≡ Ok a
    → strip pdus l a ≡ l → extended pdus l a ≡ false
strip_plain pdus l a b e k =
    let i = apdu_read pdus l 0 a b e in
    strip_standing pdus l i.place a i.stands k

-- every bit of accepted bytes without additions is lent
accepted_all : (pdus : PduType) (s : List ℕ) (a : Apdu) → extended pdus (lent s) a ≡ false
    → apdu_at pdus (lent s) 0 ≡ Ok a → lent s ≡ bits_of s
accepted_all pdus s a x e =
    let c = accepted_encoding pdus (lent s) a (bits_to_is s all_bits) e in
    let m = pdu_most_is pdus (pdu_in (lent s) (lent s) (lent s) a) c.fits in
    let n = length_padded (pdu_bits pdus (pdu_in (lent s) (lent s) (lent s) a)) in
    let k : length (lent s) ≡ length (padded (pdu_bits pdus (pdu_in (lent s) (lent s) (lent s) a))) = ap length
    (plain_encoding pdus (lent s) a (bits_to_is s all_bits) x e).bits in
    let t = length_to s all_bits in
    all_bits_is s all_bits (omega arith)

-- To write what was read from bytes without additions, with the parts taken from where they stand, leaves those bytes in the buffer, and later bytes as they
-- were.
pub read_written : (pdus : PduType) (s t : List ℕ) (a : Apdu) → Bytes s → Bytes t → buffer_least ≤ length t
    → extended pdus (lent s) a ≡ false → apdu_at pdus (lent s) 0 ≡ Ok a
    → write_out (apdu_fits pdus (lent s) (lent s) (lent s) a) t (pdu_bits pdus (pdu_in (lent s) (lent s) (lent s) a))
    ≡ done (Ok (length (pdu_bits pdus (pdu_in (lent s) (lent s) (lent s) a)))) (s ++ drop (length s) t)
unfolding write_out
read_written pdus s t a hs ht g x e =
    let c = accepted_encoding pdus (lent s) a (bits_to_is s all_bits) e in
    let v : Pdu = pdu_in (lent s) (lent s) (lent s) a in
    let m = pdu_most_is pdus (pdu_in (lent s) (lent s) (lent s) a) c.fits in
    let n = length_padded (pdu_bits pdus (pdu_in (lent s) (lent s) (lent s) a)) in
    let q : padded (pdu_bits pdus (pdu_in (lent s) (lent s) (lent s) a)) ≡ bits_of s = sym
    (plain_encoding pdus (lent s) a (bits_to_is s all_bits) x e).bits ∙ accepted_all pdus s a x e in
    let k : length (bits_of s) ≡ length (padded (pdu_bits pdus (pdu_in (lent s) (lent s) (lent s) a))) = ap length (sym q) in
    let z = length_bits_is s in
    let p : put_bits t 0 (padded (pdu_bits pdus (pdu_in (lent s) (lent s) (lent s) a))) ≡ s ++ drop (length s) t = ap
    (put_bits t 0) q ∙ put_bytes t s ht hs (omega arith) in
    rw (le-ltb (length t) buffer_least g, c.placed_fits, p)

-- ---- with additions or without

-- To write what was read leaves the APDU with the additions gone at the front of the buffer, and later bytes as they were.
pub read_stripped : (pdus : PduType) (s t : List ℕ) (a : Apdu) → buffer_least ≤ length t → apdu_at pdus (lent s) 0 ≡ Ok a
    → write_out (apdu_fits pdus (lent s) (lent s) (lent s) a) t (pdu_bits pdus (pdu_in (lent s) (lent s) (lent s) a))
    ≡ done (Ok (length (pdu_bits pdus (pdu_in (lent s) (lent s) (lent s) a)))) (put_bits t 0 (strip pdus (lent s) a))
unfolding write_out
read_stripped pdus s t a g e =
    let c = accepted_encoding pdus (lent s) a (bits_to_is s all_bits) e in
    rw (le-ltb (length t) buffer_least g, c.placed_fits, c.bits)

-- ---- the writer's refusals, and no others

pub refuses_room : (ok : Bool) (s bs : List ℕ) → length s < buffer_least → write_out ok s bs ≡ done (Err Room) s
unfolding write_out
refuses_room ok s bs h = rw (lt-ltb (length s) buffer_least h)

pub refuses_shape : (s bs : List ℕ) → buffer_least ≤ length s → write_out false s bs ≡ done (Err Shape) s
unfolding write_out
refuses_shape s bs h = rw (le-ltb (length s) buffer_least h)

pub writes : (s bs : List ℕ) → buffer_least ≤ length s → write_out true s bs ≡ done (Ok (length bs)) (put_bits s 0 (padded bs))
unfolding write_out
writes s bs h = rw (le-ltb (length s) buffer_least h)

-- ---- the message data that a user is delivered: the root's bits behind a bit 0, whatever the extension bit was

pub send_delivered : (pdus : PduType) (s : List ℕ) (d : Data) → apdu_at pdus (lent s) 0 ≡ Ok (apdu.Send d)
    → content_bits (content_in (lent s) (lent s) (lent s) d) ≡ bits_n 1 0 ++ take (root_end d - (width pdus + 1))
    (drop (width pdus + 1) (lent s))
send_delivered pdus s d e =
    let i = apdu_read pdus (lent s) 0 (apdu.Send d) (bits_to_is s all_bits) e in
    rw (length_alternative pdus 3) at (led_content (lent s) (index_bits (last_of pdus) 3) i.place d i.stands)

pub start_delivered : (pdus : PduType) (s : List ℕ) (m : ℕ) (d : Data) → apdu_at pdus (lent s) 0 ≡ Ok (apdu.Start m d)
    → content_bits (content_in (lent s) (lent s) (lent s) d) ≡ bits_n 1 0 ++ take
    (root_end d - (width pdus + length (mode_bits pdus m) + 1))
    (drop (width pdus + length (mode_bits pdus m) + 1) (lent s))
start_delivered pdus s m d e =
    let i = apdu_read pdus (lent s) 0 (apdu.Start m d) (bits_to_is s all_bits) e in
    rw (length-append, length_alternative pdus 2) at
    (led_content (lent s) (index_bits (last_of pdus) 2 ++ mode_bits pdus m) i.place d i.stands)

-- and so, without additions, bits of the APDU
pub send_plain : (pdus : PduType) (s : List ℕ) (d : Data) → extended pdus (lent s) (apdu.Send d) ≡ false
    → apdu_at pdus (lent s) 0 ≡ Ok (apdu.Send d)
    → content_bits (content_in (lent s) (lent s) (lent s) d) ≡ take
    (length (content_bits (content_in (lent s) (lent s) (lent s) d))) (drop (width pdus) (lent s))
unfolding pdu_bits pdu_in
send_plain pdus s d x e =
    let c = plain_encoding pdus (lent s) (apdu.Send d) (bits_to_is s all_bits) x e in
    let w = stands_split (lent s) 0 _ (index_bits (last_of pdus) 3) (content_bits (content_in (lent s) (lent s) (lent s) d)) c.stands in
    let h = w.second.holds in
    let p : 0 + length (index_bits (last_of pdus) 3) ≡ width pdus = omega (arith, length_alternative pdus 3) in
    sym (rw p at h)

pub start_plain : (pdus : PduType) (s : List ℕ) (m : ℕ) (d : Data) → extended pdus (lent s) (apdu.Start m d) ≡ false
    → apdu_at pdus (lent s) 0 ≡ Ok (apdu.Start m d)
    → content_bits (content_in (lent s) (lent s) (lent s) d) ≡ take
    (length (content_bits (content_in (lent s) (lent s) (lent s) d)))
    (drop (width pdus + length (mode_bits pdus m)) (lent s))
unfolding pdu_bits pdu_in
start_plain pdus s m d x e =
    let c = plain_encoding pdus (lent s) (apdu.Start m d) (bits_to_is s all_bits) x e in
    let w = stands_split (lent s) 0 _ (index_bits (last_of pdus) 2)
    (mode_bits pdus m ++ content_bits (content_in (lent s) (lent s) (lent s) d)) c.stands in
    let u = stands_split (lent s) _ _ (mode_bits pdus m) (content_bits (content_in (lent s) (lent s) (lent s) d)) w.second in
    let h = u.second.holds in
    let p : 0 + length (index_bits (last_of pdus) 2) + length (mode_bits pdus m) ≡ width pdus + length (mode_bits pdus m) =
    omega (arith, length_alternative pdus 2) in
    sym (rw p at h)

pub forward_delivered : (s : List ℕ) (f : Forward) → apdu_at GroundPdus (lent s) 0 ≡ Ok (apdu.Forward f)
    → forward_bits f.heading (items_in (lent s) bit f.message) ≡ take
    (length (forward_bits f.heading (items_in (lent s) bit f.message))) (drop (width GroundPdus) (lent s))
unfolding pdu_bits pdu_in extended
forward_delivered s f e =
    let c = plain_encoding GroundPdus (lent s) (apdu.Forward f) (bits_to_is s all_bits) refl e in
    let w = stands_split (lent s) 0 _ (index_bits (last_of GroundPdus) 4)
    (forward_bits f.heading (items_in (lent s) bit f.message)) c.stands in
    let h = w.second.holds in
    let p : 0 + length (index_bits (last_of GroundPdus) 4) ≡ width GroundPdus = omega (arith, length_alternative GroundPdus 4) in
    sym (rw p at h)

-- ---- a forward message by itself, as it is delivered

pub record ForwardWhole (l : List ℕ) (h : Heading) (m : List ℕ) : Type 0 where
  pub value : Forward
  pub read : whole_forward l ≡ Ok (value, length (forward_bits h m))
  pub heading : value.heading ≡ h
  pub message : items_in l bit value.message ≡ m

forward_accepted : (h : Heading) (m : List ℕ) → forward_pdu_fits h m ≡ true → ForwardWhole (padded (forward_bits h m)) h m
unfolding whole_forward_within
forward_accepted h m e =
    let f = forward_written (padded (forward_bits h m)) 0 (length (forward_bits h m)) h m e (stands_front (forward_bits h m)) in
    record { value = f.value; read = rw (f.read, tail_padded (forward_bits h m)); heading = f.heading; message = f.message }

pub forward_written_read : (h : Heading) (m t : List ℕ) → Bits (forward_bits h m) → forward_pdu_fits h m ≡ true → buffer_least ≤ length t
    → ForwardWhole (lent (take (bytes_for (length (forward_bits h m))) (put_bits t 0 (padded (forward_bits h m))))) h m
forward_written_read h m t b e g =
    let k = forward_most_is h m e in
    rw (front t (forward_bits h m) b (omega arith) g).bits (forward_accepted h m e)

-- ---- the largest APDU is a startdown with mode dsc and every part at its limit: 16,615 bits, 2,077 bytes

unfoldable pub full : Content
full = record { identifier = given (replicate (octet * identifier_most) 0); message = given (replicate (bit * message_most) 0); check = replicate (bit * check_most) 0 }

pub largest : pdu_most ≡ 16615
largest = refl

pub largest_bytes : bytes_for pdu_most ≡ 2077
largest_bytes = refl

pub largest_fits : pdu_fits AircraftPdus (start mode_last full) ≡ true
unfolding full pdu_fits mode_fits content_fits optional_fits
largest_fits = refl

pub largest_reached : length (pdu_bits AircraftPdus (start mode_last full)) ≡ pdu_most
unfolding full pdu_bits mode_bits content_bits optional_bits string_bits index_bits whole_bits length_bits bits_n digits_in
largest_reached = refl
