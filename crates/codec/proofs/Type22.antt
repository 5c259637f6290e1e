-- The contents of type 22: crate apdu's laws.
-- Assumes nothing.
use mathlib.Core.Path.{◌≡◌, refl, ap, sym, subst, ◌∙◌}
use mathlib.Core.Bool.{Bool, true, false}
use mathlib.Core.List.{List}
use Prim.Native.Nat.{ℕ, ◌+◌, ◌-◌, ◌*◌, ◌/◌, ◌≤◌, ◌<◌}
use native.Mathlib.Omega.{arith}
use borrow.Author.Tests.{eqb-false}
use lib.Dec.{eqb}
use lib.ListN.{length, get_or}
use Rattle.bits.proofs.Numbers.{Bits}
use Rattle.bits.proofs.Bytes.{bits_append}
use Rattle.fields.specs.Fields.{string_at, then}
use Rattle.fields.specs.Encodings.{length_bits}
use Rattle.fields.proofs.RoundTrip.{Stands, length_determinant}
use Rattle.editions.specs.declared.Edition.TheVariants.{Protected}
use Rattle.apdu.specs.Sizes.{message_most, bit}
use Rattle.apdu.specs.Pdus.{Content, items_in, content_in}
use Rattle.apdu.specs.Encoding.{string_bits, content_bits, content_fits, forward_bits, forward_pdu_fits}
use Rattle.apdu.specs.Reading.{heading_at, span_to, data_at, forward_within, forward_at}
use Rattle.apdu.specs.Writing.{data_fits, forward_fits}
use Rattle.pdus.specs.declared.PduType.{PduType}
use Rattle.apdu.specs.declared.Data.{Data}
use Rattle.apdu.specs.declared.Heading.{Heading}
use Rattle.apdu.specs.declared.Forward.{Forward}
use Rattle.apdu.proofs.Answers.{string_room}
use Rattle.front.proofs.Laws.{via}
use Rattle.words.proofs.Laws.{ok_value, ok_place}
use Rattle.apdu.proofs.Bounds.{data_value_fits, forward_value_fits, content_most_is, forward_most_is}
use Rattle.apdu.proofs.Contents.{data_written, data_mark, data_plain, data_read}
use Rattle.apdu.proofs.Forwards.{forward_are_bits, forward_written, forward_read}
use Rattle.apdu.proofs.Theorems.{content_are_bits}
use Rattle.plain.proofs.Contents.{DataRead, ForwardRead}
use Rattle.codec.proofs.Contents.{DataIs, ForwardIs, Contents}
use Rattle.std.specs.Prelude.{Err, Ok}
use Rattle.fields.specs.Fields.{Reading}

written : (t : PduType) (l : List ℕ) (at next : ℕ) (c : Content) → content_fits c ≡ true
    → Stands l at (content_bits c) next → DataRead (data_at l at) l next c
written t l at next c h s =
    let d = data_written l at next c h s in
    record { parts = d.parts; read = d.read; same = d.content }

read : (t : PduType) (l : List ℕ) (at next : ℕ) (x : Data) → Bits l → data_at l at ≡ Ok (x, next)
    → DataIs Protected t content_bits l at next x
read t l at next x b e =
    let i = data_read l at next x b e in
    record { placed_fits = i.placed_fits; fits = data_value_fits l l l x i.placed_fits; stands = λ (q : eqb (get_or l at 0) 1 ≡ false). data_plain l at next x i (clear q) }
  where
    clear : eqb (get_or l at 0) 1 ≡ false → (data_read l at next x b e).mark ≡ 0
    clear q =
        let n = eqb-false (get_or l at 0) 1 q in
        let m = data_mark l at next x (data_read l at next x b e) in
        let k = (data_read l at next x b e).low in
        omega arith

-- where a forward message that was read ends
forward_end : (l : List ℕ) (at : ℕ) (f : Forward) (next : ℕ) → forward_at l at ≡ Ok (f, next)
    → f.message.at + f.message.count ≡ next
unfolding forward_within
forward_end l at f next e =
    via (f.message.at + f.message.count ≡ next) (heading_at l at) _ (f, next) (λ (h : Heading) (p : ℕ) (a : heading_at l at ≡ Ok (h, p)) (k : then (string_at l p bit 0 message_most) (λ (n m : ℕ). Ok (record { heading = h; message = span_to bit n m }, m)) ≡ Ok (f, next)).
    via (f.message.at + f.message.count ≡ next) (string_at l p bit 0 message_most) _ (f, next) (λ (n m : ℕ) (q : string_at l p bit 0 message_most ≡ Ok (n, m)) (j : ◌≡◌ {A = Reading Forward} (Ok (record { heading = h; message = span_to bit n m }, m)) (Ok (f, next))).
    let y : record { heading = h; message = span_to bit n m } ≡ f = ok_value j in
    let r = string_room l p bit 0 message_most n m q in
    let u : m - bit * n + n ≡ m = omega arith in
    subst (λ (x : Forward). x.message.at + x.message.count ≡ next) y (u ∙ ok_place j)) k) e

string_bits_is : (m : List ℕ) → Bits m → Bits (string_bits bit m)
unfolding string_bits
string_bits_is m b = bits_append (length_bits (length m / bit)) m (length_determinant.are_bits (length m / bit)) b

pub protected_contents : Contents Protected
protected_contents =
    record {
      start_written = λ (t : PduType) (l : List ℕ) (at next : ℕ) (c : Content) (b : Bits l) (h : content_fits c ≡ true)
          (s : Stands l at (content_bits c) next). written t l at next c h s;
      send_written = λ (t : PduType) (l : List ℕ) (at next : ℕ) (c : Content) (b : Bits l) (h : content_fits c ≡ true)
          (k : true ≡ true) (s : Stands l at (content_bits c) next). written t l at next c h s;
      forward_written = λ (l : List ℕ) (at next : ℕ) (h : Heading) (m : List ℕ) (b : Bits l)
          (e : forward_pdu_fits h m ≡ true) (s : Stands l at (forward_bits h m) next).
          let f = forward_written l at next h m e s in
          record { value = f.value; read = f.read; heading = f.heading; message = f.message };
      start_read = read;
      send_read = read;
      send_holds = λ (t : PduType) (l : List ℕ) (at next : ℕ) (x : Data) (e : data_at l at ≡ Ok (x, next)). refl;
      forward_read = λ (l : List ℕ) (at : ℕ) (f : Forward) (next : ℕ) (b : Bits l) (e : forward_at l at ≡ Ok (f, next)).
          let i = forward_read l at f next b e in
          record { placed_fits = i.placed_fits; fits = forward_value_fits l f i.placed_fits; stands = i.stands; end = forward_end l at f next e };
      content_are_bits = content_are_bits;
      start_are_bits = content_are_bits;
      forward_are_bits = λ (h : Heading) (m : List ℕ) (b : Bits m). forward_are_bits h m (string_bits_is m b);
      content_most_is = λ (li lm lc : List ℕ) (d : Data) (h : data_fits li lm lc d ≡ true). content_most_is
          (content_in li lm lc d) (data_value_fits li lm lc d h);
      start_most = λ (li lm lc : List ℕ) (d : Data) (h : data_fits li lm lc d ≡ true). content_most_is
          (content_in li lm lc d) (data_value_fits li lm lc d h);
      forward_most_is = λ (lm : List ℕ) (f : Forward) (h : forward_fits lm f ≡ true). forward_most_is f.heading
          (items_in lm bit f.message) (forward_value_fits lm f h);
      content_value_most = λ (t : PduType) (c : Content) (h : content_fits c ≡ true) (b : Bits (content_bits c)). content_most_is c h;
      start_value_most = λ (t : PduType) (c : Content) (h : content_fits c ≡ true) (b : Bits (content_bits c)). content_most_is c h;
      forward_value_most = λ (h : Heading) (m : List ℕ) (e : forward_pdu_fits h m ≡ true) (b : Bits (forward_bits h m)). forward_most_is h m e;
    }
