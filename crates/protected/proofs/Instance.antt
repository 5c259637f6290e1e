-- The bodies of application type 22 have the laws of a body: each from a law of crate apdu.
-- Assumes nothing.
use mathlib.Core.Path.{◌≡◌, refl, ap, sym, subst, ◌∙◌}
use mathlib.Core.Bool.{Bool, true, false}
use mathlib.Core.List.{List, ◌++◌}
use Prim.Native.Nat.{ℕ, ◌+◌, ◌-◌, ◌*◌, ◌/◌, ◌%◌, ◌^◌, ◌≤◌, ◌<◌}
use native.Mathlib.Omega.{arith}
use borrow.Author.Tests.{eqb-false, ne_eqb}
use lib.Dec.{eqb}
use lib.ListN.{length, take, drop, get_or}
use lib.Seq.{take-length, get_or-take, get_or-drop}
use Rattle.words.proofs.Laws.{ok_value, ok_place}
use Rattle.bits.specs.Bits.{bits_n}
use Rattle.bits.proofs.Numbers.{Bits, bits_n_suc, length_bits_n}
use Rattle.fields.specs.Fields.{digits_in, width_of}
use Rattle.fields.proofs.RoundTrip.{Stands, stands_split}
use Rattle.apdu.specs.Sizes.{user_last, provider_last, identifier_least, identifier_most, message_most, octet, bit}
use Rattle.apdu.specs.Pdus.{Content as Protected, items_in, content_in}
use Rattle.apdu.specs.Encoding.{root_bits, content_bits, content_fits, forward_bits, forward_pdu_fits}
use Rattle.apdu.specs.Reading.{data_at, forward_at}
use Rattle.apdu.specs.Stripped.{root_end}
use Rattle.apdu.specs.Writing.{part_fits, data_fits, forward_fits}
use Rattle.apdu.specs.declared.Data.{Data}
use Rattle.apdu.specs.declared.Forward.{Forward}
use Rattle.apdu.proofs.Bounds.{counted, items_fits, data_fits_is, content_most_is, data_value_fits, forward_value_fits, forward_most_is}
use Rattle.apdu.proofs.Contents.{DataIs, data_written, data_read, data_mark, data_plain}
use Rattle.apdu.proofs.Forwards.{forward_written, forward_read}
use Rattle.apdu.proofs.Theorems.{content_are_bits}
use Rattle.pdus.specs.declared.Content.{Content}
use Rattle.front.specs.Body.{Lent, one}
use Rattle.front.specs.Runs.{none, ends_at}
use Rattle.apdu.proofs.Bounds.{never}
use Rattle.front.proofs.Laws.{AreBits, Taken, BodyLaws, ChoiceLaws}
use Rattle.front.proofs.Runs.{Ends, Apart, RunLaws, run_laws}
use Rattle.front.proofs.Alternatives.{EditionLaws, aircraft_laws, ground_laws}
use Rattle.front.specs.Editions.{aircraft_pdus, ground_pdus}
use Rattle.protected.specs.Bodies.{identifier_span, message_span, part_of, content_of, data_of, taken_of, protected_body, field_of, forward_field, type22}
use Rattle.std.specs.Prelude.{Err, None, Ok, Option, Some}
use Rattle.fields.specs.Fields.{Reading}
use Rattle.pdus.specs.declared.Span.{Span}

-- ---- places, there and back

identifier_back : (l : List ℕ) (p : Option Span) → part_fits l octet identifier_least identifier_most p ≡ true → part_of 0 (identifier_span p) ≡ p
unfolding part_fits
identifier_back l None h = refl
identifier_back l (Some x) h =
    let i = counted identifier_least identifier_most x.count (items_fits l octet identifier_least identifier_most x h).fits in
    let k = i.low in
    rw (ne_eqb x.count 0 (λ (z : x.count ≡ 0). omega arith))

message_back : (l : List ℕ) (p : Option Span) → part_fits l bit 0 message_most p ≡ true → part_of none (message_span p) ≡ p
unfolding part_fits
message_back l None h = refl
message_back l (Some x) h =
    let i = counted 0 message_most x.count (items_fits l bit 0 message_most x h).fits in
    let k = i.high in
    rw (ne_eqb x.count none (λ (z : x.count ≡ none). omega arith))

data_back : (l : List ℕ) (d : Data) → data_fits l l l d ≡ true → data_of (content_of d) ≡ d
data_back l d h =
    let f = data_fits_is l l l d h in
    rw (identifier_back l d.identifier f.identifier, message_back l d.message f.message)

-- ---- the protected message

-- a bit that stands at a place
bit_there : (l : List ℕ) (at b next : ℕ) → b < 2 → Stands l at (bits_n 1 b) next → get_or l at 0 ≡ b
bit_there l at b next h s =
    let z : at + 0 ≡ at = omega arith in
    let k : take 1 (drop at l) ≡ bits_n 1 b = rw (length_bits_n 1 b) at s.holds in
    let one : get_or (bits_n 1 b) 0 0 ≡ b / 2 ^ 0 % 2 = ap (λ (x : List ℕ). get_or x 0 0) (bits_n_suc 0 b) in
    ap (λ (p : ℕ). get_or l p 0) (sym z) ∙ sym (get_or-drop at l 0 0) ∙ sym (get_or-take 1 (drop at l) 0 0 (omega arith)) ∙
    ap (λ (x : List ℕ). get_or x 0 0) k ∙ one ∙ low
  where
    low : b / 2 ^ 0 % 2 ≡ b
    low = omega arith

record Read (l : List ℕ) (at next : ℕ) (c : Content) : Type 0 where
  parts : Data
  same : data_of c ≡ parts
  held : DataIs l at next parts

read_is : (l : List ℕ) (at next : ℕ) (c : Content) → Bits l → protected_body.read l at ≡ Ok (c, next) → Read l at next c
read_is l at next c b e = go (data_at l at) refl e
  where
    go : (t : Reading Data) → data_at l at ≡ t → taken_of t ≡ Ok (c, next) → Read l at next c
    go (Ok (d, n)) f k =
        let z : n ≡ next = ok_place k in
        let y : content_of d ≡ c = ok_value k in
        let i = data_read l at next d b (f ∙ ap (λ (place : ℕ). Ok (d, place)) z) in
        record { parts = d; same = ap data_of (sym y) ∙ data_back l d i.placed_fits; held = i }
    go (Err r) f k = never (cc)

protected_plain : (l : List ℕ) (at next : ℕ) (d : Data) → DataIs l at next d
    → bits_n 1 0 ++ take (root_end d - (at + 1)) (drop (at + 1) l) ≡ content_bits (content_in l l l d)
unfolding content_bits
protected_plain l at next d i =
    let n : root_end d - (at + 1) ≡ length (root_bits (content_in l l l d)) = omega (arith, i.root.place) in
    ap (λ (r : List ℕ). bits_n 1 0 ++ r) (ap (λ (k : ℕ). take k (drop (at + 1) l)) n ∙ i.root.holds)

protected_unmarked : (l : List ℕ) (at next : ℕ) (d : Data) (i : DataIs l at next d) → eqb (get_or l at 0) 1 ≡ false → i.mark ≡ 0
protected_unmarked l at next d i e =
    let n = eqb-false (get_or l at 0) 1 e in
    let m = data_mark l at next d i in
    let k = i.low in
    omega arith

protected_clear : (l : List ℕ) (at next : ℕ) (v : Protected) → Stands l at (content_bits v) next → eqb (get_or l at 0) 1 ≡ false
unfolding content_bits
protected_clear l at next v s =
    let w = stands_split l at next (bits_n 1 0) (root_bits v) s in
    rw (bit_there l at 0 (at + length (bits_n 1 0)) (omega arith) w.first)

pub protected_laws : BodyLaws protected_body
protected_laws =
    record {
      most = λ (v : Protected) (h : content_fits v ≡ true). let m = content_most_is v h in omega arith;
      are_bits = λ (s : Lent) (c : Content) (k : AreBits s). content_are_bits s.identifiers s.messages
          s.checks (data_of c) k.identifiers k.messages k.checks;
      value_fits = λ (s : Lent) (c : Content) (k : AreBits s). data_value_fits s.identifiers s.messages s.checks (data_of c);
      written_read = λ (l : List ℕ) (at next : ℕ) (v : Protected) (b : Bits l) (h : content_fits v ≡ true)
          (s : Stands l at (content_bits v) next).
          let d = data_written l at next v h s in
          record { content = content_of d.parts; read = rw d.read; same = rw (data_back l d.parts (data_read l at next d.parts b d.read).placed_fits) d.content };
      read_stands = λ (l : List ℕ) (at next : ℕ) (c : Content) (b : Bits l) (e : protected_body.read l at ≡ Ok (c, next)).
          let i = read_is l at next c b e in
          rw i.same i.held.placed_fits;
      read_plain = λ (l : List ℕ) (at next : ℕ) (c : Content) (b : Bits l) (e : protected_body.read l at ≡ Ok (c, next)).
          let i = read_is l at next c b e in
          subst (λ (d : Data). bits_n 1 0 ++ take (root_end d - (at + 1)) (drop (at + 1) l) ≡ content_bits
          (content_in l l l d)) (sym i.same) (protected_plain l at next i.parts i.held);
      unextended = λ (l : List ℕ) (at next : ℕ) (c : Content) (b : Bits l)
          (e : protected_body.read l at ≡ Ok (c, next)) (n : eqb (get_or l at 0) 1 ≡ false).
          let i = read_is l at next c b e in
          rw i.same (data_plain l at next i.parts i.held (protected_unmarked l at next i.parts i.held n));
      clear = λ (l : List ℕ) (at next : ℕ) (c : Content). protected_clear l at next (protected_body.value (one l) c);
    }

-- ---- the forward message

record ForwardEnds (l : List ℕ) (at next : ℕ) : Type 0 where
  value : Forward
  is : forward_at l at ≡ Ok (value, next)

forward_ends : (l : List ℕ) (at v next : ℕ) → forward_field l at ≡ Ok (v, next) → ForwardEnds l at next
forward_ends l at v next e = go (forward_at l at) refl e
  where
    go : (t : Reading Forward) → forward_at l at ≡ t → field_of t ≡ Ok (v, next) → ForwardEnds l at next
    go (Ok (f, n)) p k = let z : n ≡ next = ok_place k in record { value = f; is = p ∙ ap (λ (place : ℕ). Ok (f, place)) z }
    go (Err r) p k = never (cc)

-- bits stand in themselves
itself : (v : List ℕ) → Stands v 0 v (length v)
itself v = record { place = omega arith; within = omega arith; holds = take-length v }

module _ (l : List ℕ) (at next : ℕ) (f : Forward) (b : Bits l) (e : forward_at l at ≡ Ok (f, next)) where
  bs : List ℕ
  bs = forward_bits f.heading (items_in l bit f.message)

  forward_right : forward_pdu_fits f.heading (items_in l bit f.message) ≡ true
  forward_right = forward_value_fits l f (forward_read l at f next b e).placed_fits

  -- the same bits anywhere
  forward_again : (m : List ℕ) (p q : ℕ) → Stands m p (forward_bits f.heading (items_in l bit f.message)) q → Ends (forward_field m p) q
  forward_again m p q s = record { value = 0; is = rw (forward_written m p q f.heading (items_in l bit f.message) forward_right s).read }

  forward_run : take (next - at) (drop at l) ≡ forward_bits f.heading (items_in l bit f.message)
  forward_run =
      let s = (forward_read l at f next b e).stands in
      let n : next - at ≡ length (forward_bits f.heading (items_in l bit f.message)) = omega (arith, s.place) in
      rw n s.holds

  forward_apart : Apart forward_field l at next
  forward_apart =
      let s = (forward_read l at f next b e).stands in
      let p = s.place in
      let w = s.within in
      let n : next - at ≡ length (forward_bits f.heading (items_in l bit f.message)) = omega arith in
      record { from = omega arith; within = omega arith; itself = rw (forward_run, n) (forward_again _ 0 _ (itself (forward_bits f.heading (items_in l bit f.message)))) }

whole_run : (v : List ℕ) (f : Forward) → Bits v → forward_at v 0 ≡ Ok (f, length v)
    → v ≡ forward_bits f.heading (items_in v bit f.message)
whole_run v f b e =
    let z : length v - 0 ≡ length v = omega arith in
    sym (take-length v) ∙ ap (λ (n : ℕ). take n v) (sym z) ∙ forward_run v 0 (length v) f b e

pub forward_laws : RunLaws forward_field
forward_laws =
    record {
      most = λ (v : List ℕ) (b : Bits v) (e : Ends (forward_field v 0) (length v)).
          let i = forward_ends v 0 e.value (length v) e.is in
          let m = forward_most_is i.value.heading (items_in v bit i.value.message)
          (forward_right v 0 (length v) i.value b i.is) in
          let n = ap length (whole_run v i.value b i.is) in
          omega arith;
      apart = λ (l : List ℕ) (at v next : ℕ) (b : Bits l) (e : forward_field l at ≡ Ok (v, next)).
          let i = forward_ends l at v next e in
          forward_apart l at next i.value b i.is;
      anywhere = λ (v l : List ℕ) (at next : ℕ) (b : Bits v) (e : Ends (forward_field v 0) (length v)) (s : Stands l at v next).
          let i = forward_ends v 0 e.value (length v) e.is in
          forward_again v 0 (length v) i.value b i.is l at next
          (subst (λ (x : List ℕ). Stands l at x next) (whole_run v i.value b i.is) s);
    }

-- ---- the edition

user_width : width_of user_last ≤ 4
unfolding digits_in
user_width = omega arith

provider_width : width_of provider_last ≤ 4
unfolding digits_in
provider_width = omega arith

pub type22_laws : EditionLaws type22
type22_laws =
    record {
      user = user_width;
      user_small = omega arith;
      provider = provider_width;
      provider_small = omega arith;
      start = protected_laws;
      send = protected_laws;
      forward = run_laws forward_field forward_laws;
    }

pub aircraft : ChoiceLaws (aircraft_pdus type22)
aircraft = aircraft_laws type22 type22_laws

pub ground : ChoiceLaws (ground_pdus type22)
ground = ground_laws type22 type22_laws
