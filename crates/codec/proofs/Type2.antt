-- The contents of type 2: crate plain's laws.
-- Assumes nothing.
use mathlib.Core.Path.{◌≡◌, refl, ap, sym, subst, ◌∙◌}
use mathlib.Core.Bool.{Bool, true, false, ◌&&◌}
use mathlib.Core.List.{List, [], ◌++◌}
use Prim.Native.Nat.{ℕ, ◌+◌, ◌*◌, ◌≤◌, ◌<◌}
use native.Mathlib.Omega.{arith}
use lib.ListN.{length, take, drop, length-append}
use lib.Seq.{drop-append_seam}
use Rattle.words.proofs.Laws.{both_left, both_right}
use Rattle.bits.specs.Bits.{bits_n}
use Rattle.bits.proofs.Numbers.{Bits, bits_bits_n, length_bits_n}
use Rattle.bits.proofs.Bytes.{bits_append, bits_take, bits_drop}
use Rattle.fields.proofs.RoundTrip.{Stands}
use Rattle.elements.proofs.Standing.{both_hold}
use Rattle.kinds.specs.declared.Direction.{Direction}
use Rattle.inplace.specs.InPlace.{message_span, elements_span}
use Rattle.editions.specs.declared.Edition.TheVariants.{Plain}
use Rattle.apdu.specs.Sizes.{message_most, bit}
use Rattle.apdu.specs.Headings.{heading_bits, heading_fits}
use Rattle.apdu.specs.Pdus.{Optional, absent, given, Content, items_in, part_in, content_in}
use Rattle.apdu.specs.Encoding.{presence}
use Rattle.apdu.specs.InPlace.{bits_in, perhaps_bits, headed_bits}
use Rattle.apdu.specs.Writing.{items_fit, part_fits, data_fits, forward_fits}
use Rattle.pdus.specs.declared.PduType.{PduType}
use Rattle.apdu.specs.declared.Data.{Data}
use Rattle.apdu.specs.declared.Heading.{Heading}
use Rattle.apdu.specs.declared.Forward.{Forward}
use Rattle.apdu.proofs.Bounds.{never, counted, items_fits, length_items, data_fits_is, forward_most}
use Rattle.apdu.proofs.Heads.{heading_most, heading_most_is}
use Rattle.apdu.proofs.Forwards.{heading_are_bits}
use Rattle.apdu.proofs.Theorems.{no_bits}
use Rattle.plain.specs.Plain.{sent_by, direction_of, takes_all, is_absent, message_fits, content_fits, elements_fit, send_at, start_at, forward_at}
use Rattle.plain.proofs.Instance.{message_most_is, elements_few}
use Rattle.front.proofs.Runs.{ends_at_is}
use Rattle.plain.proofs.Contents.{DataRead, ForwardRead, content_is, send_written, start_written, forward_written, send_read, send_there, start_read, forward_read}
use Rattle.codec.proofs.Stated.{is_there}
use Rattle.codec.proofs.Contents.{DataIs, ForwardIs, Contents}
use Rattle.std.specs.Prelude.{None, Ok, Option, Some}
use Rattle.pdus.specs.declared.Span.{Span}

-- ---- a message that must be there

record Holds (o : Optional) : Type 0 where
  list : List ℕ
  same : o ≡ given list

holds : (o : Optional) → is_there o ≡ true → Holds o
holds absent h = never (cc)
holds (given m) h = record { list = m; same = refl }

held : (o : Optional) → is_absent o ≡ false → is_there o ≡ true
held absent h = never (cc)
held (given m) h = refl

sent : (t : PduType) (l : List ℕ) (at next : ℕ) (c : Content) → Bits l → content_fits (sent_by t) c ≡ true
    → is_there c.message ≡ true → Stands l at (bits_in c.message) next → DataRead (send_at (sent_by t) l at) l next c
unfolding bits_in
sent t l at next c b h k s =
    let m = holds c.message k in
    send_written (sent_by t) l at next c m.list b (content_is (sent_by t) c h) m.same
    (subst (λ (o : Optional). Stands l at (bits_in o) next) m.same s)

-- ---- bits

pub bits_behind : (xs ys : List ℕ) → Bits (xs ++ ys) → Bits ys
bits_behind xs ys b = subst Bits (drop-append_seam xs ys) (bits_drop (length xs) (xs ++ ys) b)

part_bits : (l : List ℕ) (p : Option Span) → Bits l → Bits (bits_in (part_in l bit p))
unfolding bits_in part_in
part_bits l None b = no_bits
part_bits l (Some x) b = bits_take (bit * x.count) (drop x.at l) (bits_drop x.at l b)

content_bits : (li lm lc : List ℕ) (d : Data) → Bits li → Bits lm → Bits lc → Bits (bits_in (content_in li lm lc d).message)
unfolding content_in
content_bits li lm lc d i m c = part_bits lm d.message m

start_bits_is : (li lm lc : List ℕ) (d : Data) → Bits li → Bits lm → Bits lc → Bits (perhaps_bits (content_in li lm lc d).message)
unfolding perhaps_bits
start_bits_is li lm lc d i m c = bits_append (bits_n 1 (presence (content_in li lm lc d).message)) _
    (bits_bits_n 1 (presence (content_in li lm lc d).message)) (content_bits li lm lc d i m c)

headed_bits_is : (h : Heading) (m : List ℕ) → Bits m → Bits (headed_bits h m)
unfolding headed_bits
headed_bits_is h m b = bits_append (heading_bits h) m (heading_are_bits h) b

-- ---- sizes

part_most : (l : List ℕ) (p : Option Span) → part_fits l bit 0 message_most p ≡ true → length (bits_in (part_in l bit p)) ≤ message_most
unfolding bits_in part_in part_fits
part_most l None h = omega arith
part_most l (Some x) h =
    let i = items_fits l bit 0 message_most x h in
    let n = length_items l bit x i.held in
    let k = (counted 0 message_most x.count i.fits).high in
    omega arith

content_few : (li lm lc : List ℕ) (d : Data) → data_fits li lm lc d ≡ true → length (bits_in (content_in li lm lc d).message) ≤ message_most
unfolding content_in
content_few li lm lc d h = part_most lm d.message (data_fits_is li lm lc d h).message

start_long : (o : Optional) → length (perhaps_bits o) ≡ 1 + length (bits_in o)
unfolding perhaps_bits
start_long o = rw (length-append, length_bits_n)

headed_most : (lm : List ℕ) (f : Forward) → forward_fits lm f ≡ true
    → length (headed_bits f.heading (items_in lm bit f.message)) ≤ forward_most
unfolding headed_bits forward_fits
headed_most lm f h =
    let i = items_fits lm bit 0 message_most f.message
    (both_right (heading_fits f.heading) (items_fit lm bit 0 message_most f.message) h) in
    let n = length_items lm bit f.message i.held in
    let k = (counted 0 message_most f.message.count i.fits).high in
    let x = heading_most_is f.heading (both_left (heading_fits f.heading) (items_fit lm bit 0 message_most f.message) h) in
    rw length-append (omega arith)

value_most : (d : Direction) (o : Optional) → message_fits d o ≡ true → Bits (bits_in o) → length (bits_in o) ≤ 9097
unfolding bits_in
value_most d absent h b = omega arith
value_most d (given m) h b = message_most_is d m b (ends_at_is (message_span d m 0) (length m) h)

content_value : (t : PduType) (c : Content) → content_fits (sent_by t) c ≡ true → Bits (bits_in c.message)
    → length (bits_in c.message) ≤ 9097
content_value t c h b = value_most (sent_by t) c.message (content_is (sent_by t) c h).message b

start_value : (t : PduType) (c : Content) → content_fits (sent_by t) c ≡ true → Bits (perhaps_bits c.message)
    → length (perhaps_bits c.message) ≤ 9098
unfolding perhaps_bits
start_value t c h b =
    let k = content_value t c h (bits_behind (bits_n 1 (presence c.message)) (bits_in c.message) b) in
    omega (arith, start_long c.message)

headed_value : (h : Heading) (m : List ℕ) → heading_fits h && elements_fit h m ≡ true → Bits (headed_bits h m)
    → length (headed_bits h m) ≤ forward_most
unfolding headed_bits elements_fit
headed_value h m e b =
    let x = heading_most_is h (both_left (heading_fits h) (elements_fit h m) e) in
    let k = elements_few (direction_of h.direction) m (bits_behind (heading_bits h) m b) (ends_at_is
    (elements_span (direction_of h.direction) m 0) (length m) (both_right (heading_fits h) (elements_fit h m) e))
    in
    rw length-append (omega arith)

-- ---- all of it

pub plain_contents : Contents Plain
plain_contents =
    record {
      start_written = λ (t : PduType) (l : List ℕ) (at next : ℕ) (c : Content) (b : Bits l)
          (h : content_fits (sent_by t) c ≡ true) (s : Stands l at (perhaps_bits c.message) next).
          start_written (sent_by t) l at next c b (content_is (sent_by t) c h) s;
      send_written = sent;
      forward_written = λ (l : List ℕ) (at next : ℕ) (h : Heading) (m : List ℕ) (b : Bits l)
          (e : heading_fits h && elements_fit h m ≡ true) (s : Stands l at (headed_bits h m) next).
          forward_written l at next h m b (both_left (heading_fits h) (elements_fit h m) e)
          (both_right (heading_fits h) (elements_fit h m) e) s;
      start_read = λ (t : PduType) (l : List ℕ) (at next : ℕ) (x : Data) (b : Bits l) (e : start_at (sent_by t) l at ≡ Ok (x, next)).
          let i = start_read (sent_by t) l at next x b e in
          record { placed_fits = i.placed_fits; fits = i.fits; stands = λ (q : false ≡ false). i.stands };
      send_read = λ (t : PduType) (l : List ℕ) (at next : ℕ) (x : Data) (b : Bits l) (e : send_at (sent_by t) l at ≡ Ok (x, next)).
          let i = send_read (sent_by t) l at next x b e in
          record { placed_fits = i.placed_fits; fits = i.fits; stands = λ (q : false ≡ false). i.stands };
      send_holds = λ (t : PduType) (l : List ℕ) (at next : ℕ) (x : Data)
          (e : send_at (sent_by t) l at ≡ Ok (x, next)). held (content_in l l l x).message
          (send_there (sent_by t) l at next x e);
      forward_read = λ (l : List ℕ) (at : ℕ) (f : Forward) (next : ℕ) (b : Bits l) (e : forward_at l at ≡ Ok (f, next)).
          let i = forward_read l at f next b e in
          record { placed_fits = i.placed_fits; fits = both_hold _ _ i.heading i.fits; stands = i.stands; end = i.end };
      content_are_bits = content_bits;
      start_are_bits = start_bits_is;
      forward_are_bits = headed_bits_is;
      content_most_is = λ (li lm lc : List ℕ) (d : Data) (h : data_fits li lm lc d ≡ true). let k = content_few li lm lc d h in omega arith;
      start_most = λ (li lm lc : List ℕ) (d : Data) (h : data_fits li lm lc d ≡ true). let k = content_few li lm lc d h
          in omega (arith, start_long (content_in li lm lc d).message);
      forward_most_is = headed_most;
      content_value_most = λ (t : PduType) (c : Content) (h : content_fits (sent_by t) c ≡ true)
          (b : Bits (bits_in c.message)). let k = content_value t c h b in omega arith;
      start_value_most = λ (t : PduType) (c : Content) (h : content_fits (sent_by t) c ≡ true)
          (b : Bits (perhaps_bits c.message)). let k = start_value t c h b in omega arith;
      forward_value_most = headed_value;
    }
