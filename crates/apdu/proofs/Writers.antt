-- Laws of the writers, as the code has them: one run after the other is both, and the padding last.
-- Assumes nothing.
use mathlib.Core.Path.{◌≡◌, refl, ap, sym, ◌∙◌}
use mathlib.Core.Bool.{Bool, true, false, cond, ◌&&◌}
use mathlib.Core.List.{List, [], ◌++◌, append_assoc}
use Prim.Native.Nat.{ℕ, ◌+◌, ◌*◌, ◌/◌, ◌^◌, ◌≤◌, ◌<◌}
use native.Mathlib.Omega.{arith}
use borrow.Author.Tests.{le-leb, le-ltb, lt-ltb, leb-true, ltb-false}
use lib.Dec.{leb, ltb}
use lib.ListN.{length, length-append}
use lib.Arith.{digits_lt}
use lib.Pow.{pow-add, pow_pos}
use Rattle.words.proofs.Laws.{both_left, both_right}
use Rattle.bits.specs.Bits.{bits_n, bits_to, run}
use Rattle.bits.specs.Put.{Left, left, put_bits, put_run, put_if, put_number, copy_run}
use Rattle.bits.proofs.Numbers.{length_bits_n, bits_n_split}
use Rattle.bits.proofs.Bytes.{length_to, length_run, run_to}
use Rattle.bits.proofs.Putting.{put_append, put_fits, put_if_yes, put_then, length_put}
use Rattle.bits.proofs.Joining.{bits_n_join}
use Rattle.fields.specs.Fields.{digits_in}
use Rattle.fields.specs.Encodings.{index_bits, led_fits, length_bits, length_fits, whole_bits, whole_fits}
use Rattle.fields.proofs.Widths.{width_most}
use Rattle.fields.proofs.Writers.{as_number, in_range, length_index}
use Rattle.apdu.specs.Sizes.{buffer_least, message_most, mode_last, all_bits, length_most, octet, bit}
use Rattle.apdu.specs.Pdus.{last_of, forwards, lent, items_in, part_in, content_in}
use Rattle.apdu.specs.Encoding.{alternative, string_bits, optional_bits, presence, content_bits, mode_bits, mode_fits, padding, padded}
use Rattle.apdu.specs.Writing.{items_fit, part_fits, data_fits, run_within, there, RoomFor, Goes, place_of, done, writable, write_out}
use Rattle.pdus.specs.declared.PduType.{PduType}
use Rattle.pdus.specs.declared.PduType.TheVariants.{AircraftPdus, GroundPdus}
use Rattle.pdus.specs.declared.Span.{Span}
use Rattle.apdu.specs.declared.Data.{Data}
use Rattle.apdu.specs.declared.Kind.TheVariants as kind
use Rattle.apdu.proofs.Bounds.{never, counted, items_fits, fits_items, string_is, data_value_fits, content_most_is}
use Rattle.std.specs.Prelude.{Err, None, Ok, Option, Result, Some}
use Rattle.words.specs.declared.Unwritten.{Unwritten}
use Rattle.words.specs.declared.Unwritten.TheVariants.{Room}
use Rattle.words.specs.declared.Unwritten.TheVariants.{Shape}

-- ---- one run after the other

pub record On (s z : List ℕ) (e at p : ℕ) (xs ys : List ℕ) : Type 0 where
  pub room : p + length ys ≤ length (bits_to z e)
  pub whole : put_run z e p ys ≡ put_run s e at (xs ++ ys)

-- where both fit: there is room for the second at the place after the first, and to write it there is to write both
pub put_on : (s z : List ℕ) (e at p : ℕ) (xs ys : List ℕ) (r : Option ℕ) → at + length (xs ++ ys) ≤ length (bits_to s e)
    → left r z ≡ put_run s e at xs → p ≡ place_of r → On s z e at p xs ys
put_on s z e at p xs ys r h w q =
    let n : length (xs ++ ys) ≡ length xs + length ys = length-append xs ys in
    let f : left r z ≡ left (Some (at + length xs)) (put_bits s at xs) = w ∙ put_fits s e at xs (omega arith) in
    let a : r ≡ Some (at + length xs) = ap (λ (l : Left). l.answer) f in
    let b : z ≡ put_bits s at xs = ap (λ (l : Left). l.bytes) f in
    let k : length (bits_to z e) ≡ length (bits_to s e) = rw (b, length_to, length_to, length_put) in
    let i : p ≡ at + length xs = q ∙ ap place_of a in
    record { room = omega arith; whole = rw i (put_then s z e at xs ys r h w) }

-- ---- single runs

-- a number that its bits hold
pub number_run : (s : List ℕ) (o : Left) (e at n v : ℕ) → n ≤ 64 → v < 2 ^ n → o ≡ put_number s e at n v → o ≡ put_run s e at (bits_n n v)
number_run s o e at n v h g p = p ∙ as_number s e at n v true (bits_n n v) h g refl refl ∙ put_if_yes true s e at (bits_n n v) refl

-- ---- runs that went out: the place after them, and the bytes

pub placed : (s z : List ℕ) (at p : ℕ) (bs : List ℕ) (r : Option ℕ) → at + length bs ≤ length (bits_to s all_bits)
    → left r z ≡ put_run s all_bits at bs → p ≡ place_of r → Goes s z at p bs
placed s z at p bs r h w q =
    let f : left r z ≡ left (Some (at + length bs)) (put_bits s at bs) = w ∙ put_fits s all_bits at bs h in
    (q ∙ ap (λ (l : Left). place_of l.answer) f, ap (λ (l : Left). l.bytes) f)

pub same_bits : (s z : List ℕ) (at p : ℕ) (xs ys : List ℕ) → xs ≡ ys → Goes s z at p xs → Goes s z at p ys
same_bits s z at p xs ys e g = rw e at g

-- one run behind another is both, and room for both is room for the second
pub behind : (s y z : List ℕ) (at p q : ℕ) (xs ys : List ℕ) → Goes s y at p xs → Goes y z p q ys → Goes s z at q (xs ++ ys)
behind s y z at p q xs ys f g =
    let n = length-append xs ys in
    (omega (arith, f.0, g.0), g.1 ∙ rw (f.1, f.0) (sym (put_append xs ys s at)))

pub room_behind : (s y : List ℕ) (at p : ℕ) (xs ys : List ℕ) → at + length (xs ++ ys) ≤ length (bits_to s all_bits)
    → Goes s y at p xs → p + length ys ≤ length (bits_to y all_bits)
room_behind s y at p xs ys h f =
    let n = length-append xs ys in
    let k : length (bits_to y all_bits) ≡ length (bits_to s all_bits) = rw (f.1, length_to, length_to, length_put) in
    omega (arith, f.0)

pub room_before : (s : List ℕ) (at : ℕ) (xs ys : List ℕ) → at + length (xs ++ ys) ≤ length (bits_to s all_bits)
    → at + length xs ≤ length (bits_to s all_bits)
room_before s at xs ys h =
    let n = length-append xs ys in
    omega arith

-- the same as the answer of a writer
pub as_answer : (s z : List ℕ) (p : ℕ) (bs : List ℕ) → RoomFor s 0 bs → Goes s z 0 p bs → left (Some p) z ≡ put_run s all_bits 0 bs
as_answer s z p bs h g = rw (g.0, g.1) (sym (put_fits s all_bits 0 bs h))

-- behind a number of a few bits that went out by itself
module _ (s y bs : List ℕ) (lead led p : ℕ) (r : Option ℕ) (few : lead ≤ 5) (low : led < 2 ^ lead) (room : RoomFor s 0 (bits_n lead led ++ bs))
    (w : left r y ≡ put_number s all_bits 0 lead led) (q : p ≡ place_of r) where
  led_goes : Goes s y 0 p (bits_n lead led)
  led_goes = placed s y 0 p (bits_n lead led) r (room_before s 0 (bits_n lead led) bs (omega arith))
      (number_run s (left r y) all_bits 0 lead led (omega arith) low w) q

  pub led_room : p + length bs ≤ length (bits_to y all_bits)
  led_room = room_behind s y 0 p (bits_n lead led) bs (omega arith) led_goes

  pub led_behind : (z : List ℕ) (n : ℕ) → Goes y z p n bs → Goes s z 0 n (bits_n lead led ++ bs)
  led_behind z n g = behind s y z 0 p n (bits_n lead led) bs led_goes g

-- ---- a string behind a number of a few bits

pub items_run : (s src : List ℕ) (o : Left) (at lead led unit : ℕ) (x : Span) → lead ≤ 8 → led < 2 ^ lead → 0 < unit
    → unit ≤ 64 → items_fit (lent src) unit 0 length_most x ≡ true
    → o ≡ put_if (led_fits lead led unit &&
    (length_fits x.count && leb (x.at + unit * x.count) (length (bits_to src all_bits)))) s all_bits at
    (bits_n lead led ++ (length_bits x.count ++ run src x.at (unit * x.count)))
    → o ≡ put_run s all_bits at (bits_n lead led ++ string_bits unit (items_in (lent src) unit x))
items_run s src o at lead led unit x few low pos small fits p =
    let h = items_fits (lent src) unit 0 length_most x fits in
    let c = counted 0 length_most x.count h.fits in
    let m = length_to src all_bits in
    let k = h.held in
    let g : led_fits lead led unit &&
    (length_fits x.count && leb (x.at + unit * x.count) (length (bits_to src all_bits))) ≡ true = rw (
      le-leb lead
          8 few,
      lt-ltb led (2 ^ lead) low,
      le-leb unit 64 small,
      lt-ltb x.count 16384 c.small,
      le-leb _ _
          h.held,
    ) in
    let r : run src x.at (unit * x.count) ≡ items_in (lent src) unit x = sym
    (run_to src all_bits x.at (unit * x.count) (omega arith)) in
    p ∙ put_if_yes _ s all_bits at _ g ∙ rw (r, string_is (lent src) unit x pos h.held)

-- a part of any size is one of the largest
pub wider : (l : List ℕ) (unit least most : ℕ) (x : Span) → items_fit l unit least most x ≡ true → items_fit l unit 0 length_most x ≡ true
wider l unit least most x h =
    let s = items_fits l unit least most x h in
    let c = counted least most x.count s.fits in
    fits_items l unit 0 length_most x (record { fits = rw (le-leb 0 x.count (omega arith), le-leb x.count length_most (omega arith), lt-ltb x.count 16384 c.small); held = s.held })

pub part_wider : (l : List ℕ) (unit least most : ℕ) (p : Option Span) → part_fits l unit least most p ≡ true → part_fits l unit 0 length_most p ≡ true
unfolding part_fits
part_wider l unit least most None h = refl
part_wider l unit least most (Some x) h = wider l unit least most x h

pub given_fits_is : (l : List ℕ) (unit most : ℕ) (p : Option Span) (x : Span) → p ≡ Some x → part_fits l unit 0 most p ≡ true
    → items_fit l unit 0 most x ≡ true
unfolding part_fits
given_fits_is l unit most p x q h = rw q at h

pub identifier_fits : (l : List ℕ) (unit least most : ℕ) (p : Option Span) (x : Span) → p ≡ Some x
    → part_fits l unit least most p ≡ true → items_fit l unit 0 length_most x ≡ true
unfolding part_fits
identifier_fits l unit least most p x q h = wider l unit least most x (rw q at h)

-- ---- message data

-- behind nothing that waits
pub unled : (bs : List ℕ) → bits_n 0 0 ++ bs ≡ bs
unfolding bits_n
unled bs = refl

none_bits : (l : List ℕ) (unit : ℕ) (p : Option Span) → p ≡ None → optional_bits unit (part_in l unit p) ≡ []
unfolding optional_bits part_in
none_bits l unit p q = rw q

some_bits : (l : List ℕ) (unit : ℕ) (p : Option Span) (x : Span) → p ≡ Some x
    → optional_bits unit (part_in l unit p) ≡ string_bits unit (items_in l unit x)
unfolding optional_bits part_in
some_bits l unit p x q = rw q

module _ (lm k lead : List ℕ) (p : Option Span) where
  pub message_none : p ≡ None → lead ++ k ≡ lead ++ (optional_bits bit (part_in lm bit p) ++ k)
  message_none q = rw (none_bits lm bit p q)

  pub message_some : (x : Span) → p ≡ Some x
      → (lead ++ string_bits bit (items_in lm bit x)) ++ (bits_n 0 0 ++ k) ≡ lead ++ (optional_bits bit (part_in lm bit p) ++ k)
  message_some x q = rw (some_bits lm bit p x q, unled, append_assoc)

  pub none_room : (at n : ℕ) → p ≡ None → at + length (lead ++ (optional_bits bit (part_in lm bit p) ++ k)) ≤ n
      → at + length (lead ++ k) ≤ n
  none_room at n q h = rw (message_none q) h

  pub some_room : (at n : ℕ) (x : Span) → p ≡ Some x
      → at + length (lead ++ (optional_bits bit (part_in lm bit p) ++ k)) ≤ n
      → at + length ((lead ++ string_bits bit (items_in lm bit x)) ++ (bits_n 0 0 ++ k)) ≤ n
  some_room at n x q h = rw (message_some x q) h

  pub some_room_first : (s : List ℕ) (at : ℕ) (x : Span) → p ≡ Some x
      → at + length (lead ++ (optional_bits bit (part_in lm bit p) ++ k)) ≤ length (bits_to s all_bits)
      → at + length (lead ++ string_bits bit (items_in lm bit x)) ≤ length (bits_to s all_bits)
  some_room_first s at x q h = room_before s at (lead ++ string_bits bit (items_in lm bit x)) (bits_n 0 0 ++ k) (some_room at _ x q h)

pub there_lt : (p : Option Span) → there p < 2
there_lt None = omega arith
there_lt (Some x) = omega arith

presence_there : (l : List ℕ) (unit : ℕ) (p : Option Span) → presence (part_in l unit p) ≡ there p
unfolding part_in
presence_there l unit None = refl
presence_there l unit (Some x) = refl

-- the extension bit and the presence bits, with the number before them
front : (lead led n : ℕ) → n < 4 → bits_n (lead + 3) (led * 8 + n) ≡ bits_n lead led ++ (bits_n 1 0 ++ bits_n 2 n)
front lead led n h =
    let z : n / 2 ^ 2 ≡ 0 = omega arith in
    bits_n_join lead 3 led n (omega arith) ∙ ap (λ (l : List ℕ). bits_n lead led ++ l) (bits_n_split 1 2 n ∙ rw z)

pub front_lt : (lead led n : ℕ) → led < 2 ^ lead → n < 4 → led * 8 + n < 2 ^ (lead + 3)
front_lt lead led n h g =
    let w : n < 2 ^ 3 = omega arith in
    rw (pow-add 2 lead 3) (digits_lt h w)

content_is : (li lm lc : List ℕ) (d : Data)
    → content_bits (content_in li lm lc d) ≡ bits_n 1 0 ++ (bits_n 2
    (2 * presence (part_in li octet d.identifier) + presence (part_in lm bit d.message)) ++ (optional_bits
    octet (part_in li octet d.identifier) ++
    (optional_bits bit (part_in lm bit d.message) ++ string_bits bit (items_in lc bit d.check))))
unfolding content_bits content_in
content_is li lm lc d = refl

module _ (li lm lc : List ℕ) (d : Data) (lead led a b : ℕ) (ta : a ≡ there d.identifier) (tb : b ≡ there d.message) where
  shown : 2 * a + b ≡ 2 * presence (part_in li octet d.identifier) + presence (part_in lm bit d.message)
  shown = rw (ta, tb, presence_there li octet d.identifier, presence_there lm bit d.message)

  pub shown_lt : 2 * a + b < 4
  shown_lt = omega (arith, ta, tb, there_lt d.identifier, there_lt d.message)

  waits : bits_n (lead + 3) (led * 8 + (2 * a + b)) ≡ bits_n lead led ++
      (bits_n 1 0 ++ bits_n 2 (2 * presence (part_in li octet d.identifier) + presence (part_in lm bit d.message)))
  waits = front lead led (2 * a + b) shown_lt ∙ rw shown

  pub no_identifier : d.identifier ≡ None
      → bits_n (lead + 3) (led * 8 + (2 * a + b)) ++
      (optional_bits bit (part_in lm bit d.message) ++ string_bits bit (items_in lc bit d.check)) ≡ bits_n lead led
      ++ content_bits (content_in li lm lc d)
  no_identifier q = rw (waits, append_assoc, append_assoc, content_is, none_bits li octet d.identifier q)

  pub an_identifier : (x : Span) → d.identifier ≡ Some x
      → (bits_n (lead + 3) (led * 8 + (2 * a + b)) ++ string_bits octet (items_in li octet x)) ++
      (bits_n 0 0 ++ (optional_bits bit (part_in lm bit d.message) ++ string_bits bit (items_in lc bit d.check))) ≡
      bits_n lead led ++ content_bits (content_in li lm lc d)
  an_identifier x q = rw (waits, unled, append_assoc, append_assoc, append_assoc, content_is, some_bits li octet d.identifier x q)

  pub no_identifier_room : (n : ℕ) → d.identifier ≡ None → 0 + length (bits_n lead led ++ content_bits (content_in li lm lc d)) ≤ n
      → 0 + length (bits_n (lead + 3) (led * 8 + (2 * a + b)) ++
      (optional_bits bit (part_in lm bit d.message) ++ string_bits bit (items_in lc bit d.check))) ≤ n
  no_identifier_room n q h = rw (no_identifier q) (omega arith)

  pub an_identifier_room : (n : ℕ) (x : Span) → d.identifier ≡ Some x → 0 + length (bits_n lead led ++ content_bits (content_in li lm lc d)) ≤ n
      → 0 + length ((bits_n (lead + 3) (led * 8 + (2 * a + b)) ++ string_bits octet (items_in li octet x)) ++ (bits_n 0 0 ++
      (optional_bits bit (part_in lm bit d.message) ++ string_bits bit (items_in lc bit d.check)))) ≤ n
  an_identifier_room n x q h = rw (an_identifier x q) (omega arith)

  pub identifier_room : (s : List ℕ) (x : Span) → d.identifier ≡ Some x
      → RoomFor s 0 (bits_n lead led ++ content_bits (content_in li lm lc d))
      → 0 + length (bits_n (lead + 3) (led * 8 + (2 * a + b)) ++ string_bits octet (items_in li octet x)) ≤ length (bits_to s all_bits)
  identifier_room s x q h = room_before s 0
      (bits_n (lead + 3) (led * 8 + (2 * a + b)) ++ string_bits octet (items_in li octet x)) _ (an_identifier_room _ x q h)

-- ---- what stands before the message data of a send and of a start

pub send_air : bits_n 3 3 ≡ alternative AircraftPdus kind.Send
unfolding index_bits whole_bits bits_n digits_in
send_air = refl

pub send_ground : bits_n 4 3 ≡ alternative GroundPdus kind.Send
unfolding index_bits whole_bits bits_n digits_in
send_ground = refl

pub start_ground : (m : ℕ) → bits_n 4 2 ≡ alternative GroundPdus kind.Start ++ mode_bits GroundPdus m
unfolding index_bits whole_bits bits_n digits_in mode_bits
start_ground m = refl

pub start_default : (m : ℕ) → m ≡ 0 → bits_n 4 4 ≡ alternative AircraftPdus kind.Start ++ mode_bits AircraftPdus m
unfolding index_bits whole_bits bits_n digits_in mode_bits
start_default m e = rw e

mode_one : (m : ℕ) → mode_fits AircraftPdus m ≡ true → (m ≡ 0 → ⊥) → m ≡ 1
unfolding mode_fits
mode_one m h e =
    let k : m ≤ mode_last = leb-true m mode_last (both_right (leb 0 m) (leb m mode_last) h) in
    omega arith

pub start_dsc : (m : ℕ) → mode_fits AircraftPdus m ≡ true → (m ≡ 0 → ⊥)
    → bits_n 5 11 ≡ alternative AircraftPdus kind.Start ++ mode_bits AircraftPdus m
unfolding index_bits whole_bits bits_n digits_in mode_bits
start_dsc m h e = rw (mode_one m h e)

-- ---- room

pub room_for : (s : List ℕ) (n : ℕ) → buffer_least ≤ length s → n ≤ 8 * buffer_least → n ≤ length (bits_to s all_bits)
room_for s n h g = rw (length_to s all_bits) (omega arith)

-- ---- the alternative, with an index behind it

pub index_run : (s : List ℕ) (o : Left) (at last i : ℕ) → i ≤ last
    → o ≡ put_if (whole_fits 0 last i) s all_bits at (index_bits last i) → o ≡ put_run s all_bits at (index_bits last i)
index_run s o at last i h p = p ∙ put_if_yes _ s all_bits at (index_bits last i) (in_range 0 last i (omega arith) h)

pub from_zero : (hi v : ℕ) → leb v hi ≡ whole_fits 0 hi v
from_zero hi v = rw (le-leb 0 v (omega arith))

-- an alternative that both types have
pub both_have : (pdus : PduType) (i : ℕ) → i ≤ 3 → i ≤ last_of pdus
both_have AircraftPdus i h = h
both_have GroundPdus i h = omega arith

-- one that GroundPDUs alone has
pub ground_has : (pdus : PduType) (i : ℕ) → forwards pdus ≡ true → i ≤ 5 → i ≤ last_of pdus
ground_has AircraftPdus i y h = never (cc)
ground_has GroundPdus i y h = h

pub ground_four : (pdus : PduType) → forwards pdus ≡ true → bits_n 4 4 ≡ alternative pdus kind.Forward
unfolding index_bits whole_bits bits_n digits_in
ground_four AircraftPdus y = never (cc)
ground_four GroundPdus y = refl

pub choice_pads : (last i most v : ℕ) → length (index_bits last i ++ index_bits most v) + 7 ≤ 8 * buffer_least
choice_pads last i most v = rw (length-append, length_index, length_index) (omega (arith, width_most 64 last, width_most 64 most))

pub choice_put : (s z : List ℕ) (o : Left) (p last i most v : ℕ) (r : Option ℕ) → buffer_least ≤ length s → i ≤ last → v ≤ most
    → left r z ≡ put_if (whole_fits 0 last i) s all_bits 0 (index_bits last i) → p ≡ place_of r → o ≡ put_if
    (whole_fits 0 most v) z all_bits p (index_bits most v)
    → o ≡ put_run s all_bits 0 (index_bits last i ++ index_bits most v)
choice_put s z o p last i most v r b h g w q k =
    let n = put_on s z all_bits 0 p (index_bits last i) (index_bits most v) r
    (room_for s _ b (omega (arith, choice_pads last i most v))) (index_run s (left r z) 0 last i h w) q in
    index_run z o p most v g k ∙ n.whole

-- ---- the padding, and the answer

-- a buffer that may be written to: it is large enough, and the value is right
pub record Right (s : List ℕ) (ok : Bool) : Type 0 where
  pub room : buffer_least ≤ length s
  pub right : ok ≡ true

module _ (s : List ℕ) (t : Bool) (r : Result (Unit {0}) Unwritten) (p : r ≡ writable (length s) t) where
  pub may_write : (ok : Bool) (u : Unit {0}) → t ≡ ok → r ≡ Ok u → Right s ok
  may_write ok u q e = go (ltb (length s) buffer_least) t refl refl (sym p ∙ e)
    where
      go : (x y : Bool) → ltb (length s) buffer_least ≡ x → t ≡ y → cond {A = Result (Unit {0}) Unwritten} x (Err Room) (cond y (Ok tt) (Err Shape)) ≡ Ok u → Right s ok
      go true y a b k = never (cc)
      go false true a b k = record { room = ltb-false (length s) buffer_least a; right = sym q ∙ b }
      go false false a b k = never (cc)

  pub turned_away : (bs : List ℕ) (ok : Bool) (e : Unwritten) (w : Result ℕ Unwritten) → r ≡ Err e → w ≡ Err e → (t ≡ false → ok ≡ false)
      → done w s ≡ write_out ok s bs
  unfolding write_out
  turned_away bs ok e w h k f = go (ltb (length s) buffer_least) t refl refl (sym p ∙ h)
    where
      go : (x y : Bool) → ltb (length s) buffer_least ≡ x → t ≡ y → cond {A = Result (Unit {0}) Unwritten} x (Err Room) (cond y (Ok tt) (Err Shape)) ≡ Err e
          → done w s ≡ cond (ltb (length s) buffer_least) (done (Err Room) s) (cond ok (done (Ok (length bs)) (put_bits s 0 (padded bs))) (done (Err Shape) s))
      go true y a b g =
          let z : Room ≡ e = cc in
          let q : w ≡ Err Room = k ∙ ap Err (sym z) in
          ap (λ (x : Result ℕ Unwritten). done x s) q ∙ rw a
      go false true a b g = never (cc)
      go false false a b g =
          let z : Shape ≡ e = cc in
          let q : w ≡ Err Shape = k ∙ ap Err (sym z) in
          ap (λ (x : Result ℕ Unwritten). done x s) q ∙ rw (a, f b)

pub written_out : (s z z' bs : List ℕ) (t ok : Bool) (n w : ℕ) (r r' : Option ℕ) → buffer_least ≤ length s
    → length bs + 7 ≤ 8 * buffer_least → t ≡ ok → t ≡ true
    → left r z ≡ put_run s all_bits 0 bs → n ≡ place_of r → w ≡ padding n → left r' z' ≡ put_number z all_bits n w 0
    → done (Ok n) z' ≡ write_out ok s bs
unfolding write_out padded
written_out s z z' bs t ok n w r r' h g p q a i j k =
    let f : left r z ≡ left (Some (0 + length bs)) (put_bits s 0 bs) = a ∙ put_fits s all_bits 0 bs
    (room_for s (0 + length bs) h (omega arith)) in
    let e : n ≡ length bs = i ∙ ap (λ (l : Left). place_of l.answer) f ∙ (omega arith) in
    let b : z ≡ put_bits s 0 bs = ap (λ (l : Left). l.bytes) f in
    let jj : w ≡ padding (length bs) = j ∙ ap padding e in
    let x = length-append bs (bits_n (padding (length bs)) 0) in
    let y = length_bits_n (padding (length bs)) 0 in
    let room : 0 + length (bs ++ bits_n (padding (length bs)) 0) ≤ length (bits_to s all_bits) = room_for s _ h (omega arith) in
    let c : left r' z' ≡ put_run z all_bits n (bits_n (padding (length bs)) 0) = number_run z (left r' z') all_bits n w 0
    (omega arith) (pow_pos w) k ∙ ap (λ (m : ℕ). put_run z all_bits n (bits_n m 0)) jj in
    let o = put_on s z all_bits 0 n bs (bits_n (padding (length bs)) 0) r room a i in
    let u : left r' z' ≡ left (Some (0 + length (bs ++ bits_n (padding (length bs)) 0)))
    (put_bits s 0 (bs ++ bits_n (padding (length bs)) 0)) = c ∙ o.whole ∙ put_fits s all_bits 0 _ room in
    let v : z' ≡ put_bits s 0 (bs ++ bits_n (padding (length bs)) 0) = ap (λ (l : Left). l.bytes) u in
    rw (le-ltb (length s) buffer_least h, ← p, q, e, v)

-- what has shape fits the buffer, with its padding, behind a few bits
module _ (li lm lc : List ℕ) (d : Data) (lead led : ℕ) (few : lead ≤ 5) (h : data_fits li lm lc d ≡ true) where
  pub data_pads : length (bits_n lead led ++ content_bits (content_in li lm lc d)) + 7 ≤ 8 * buffer_least
  data_pads = rw (length-append, length_bits_n) (omega (arith, content_most_is (content_in li lm lc d) (data_value_fits li lm lc d h)))

  pub data_room : (s : List ℕ) → buffer_least ≤ length s
      → RoomFor s 0 (bits_n lead led ++ content_bits (content_in li lm lc d))
  data_room s b = room_for s _ b (omega (arith, data_pads))

-- a run that lent bytes hold is copied as its bits are put
pub record RunHeld (most : ℕ) (s : List ℕ) (at n : ℕ) : Type 0 where
  pub few : n ≤ most
  pub there : at + n ≤ length (lent s)

pub run_is : (most : ℕ) (s : List ℕ) (at n : ℕ) → run_within most s at n ≡ true → RunHeld most s at n
unfolding run_within
run_is most s at n h =
    record {
      few = leb-true n most (both_left (leb n most) (leb (at + n) (length (lent s))) h);
      there = leb-true (at + n) (length (lent s)) (both_right (leb n most) (leb (at + n) (length (lent s))) h);
    }

pub run_pads : (most : ℕ) (s : List ℕ) (at n : ℕ) → most + 7 ≤ 8 * buffer_least → run_within most s at n ≡ true
    → length (run s at n) + 7 ≤ 8 * buffer_least
run_pads most s at n g h =
    let p = run_is most s at n h in
    let w : at + n ≤ 8 * length s = omega (arith, p.there, length_to s all_bits) in
    omega (arith, p.few, length_run s at n w)

pub run_copied : (most : ℕ) (d s z : List ℕ) (at n : ℕ) (r : Option ℕ) → run_within most s at n ≡ true
    → left r z ≡ copy_run d all_bits 0 s all_bits at n → left r z ≡ put_run d all_bits 0 (run s at n)
unfolding copy_run put_if
run_copied most d s z at n r h e = e ∙ rw (le-leb (at + n) (length (lent s)) (run_is most s at n h).there)
