-- The APDUs of an edition, from the laws of its contents: what is written reads back as it was, and what is read says where its fields stand.
-- Assumes nothing.
use mathlib.Core.Path.{◌≡◌, refl, ap, sym, subst, ◌∙◌}
use mathlib.Core.Bool.{Bool, true, false, cond, ◌&&◌}
use mathlib.Core.List.{List, [], ◌++◌, append_assoc}
use Prim.Native.Nat.{ℕ, ◌+◌, ◌-◌, ◌*◌, ◌^◌, ◌≤◌, ◌<◌}
use native.Mathlib.Omega.{arith}
use lib.Dec.{eqb}
use lib.ListN.{length, take, drop, get_or, length-append}
use Rattle.words.proofs.Laws.{both_left, both_right}
use Rattle.bits.specs.Put.{put_bits}
use Rattle.bits.proofs.Numbers.{Bits}
use Rattle.bits.proofs.Bytes.{bits_append, bits_take, bits_drop}
use Rattle.fields.specs.Fields.{digits_in, width_of, extensible_index}
use Rattle.fields.specs.Encodings.{index_bits, whole_fits}
use Rattle.fields.proofs.RoundTrip.{Stands, stands_join, stands_split, extensible_index_is}
use Rattle.fields.proofs.Writers.{length_index}
use Rattle.elements.proofs.Standing.{both_hold}
use Rattle.editions.specs.declared.Edition.{Edition}
use Rattle.editions.specs.declared.Edition.TheVariants.{Plain, Protected}
use Rattle.apdu.specs.Sizes.{buffer_least, provider_last, bit}
use Rattle.apdu.specs.Headings.{response_last}
use Rattle.apdu.specs.Pdus.{Content, Pdu, abort_user, abort_provider, start, send, forward, forward_response, last_of, index_of, forwards, lent, items_in, content_in, pdu_in}
use Rattle.apdu.specs.Encoding.{alternative, mode_bits, mode_fits, padding, padded, bytes_for}
use Rattle.apdu.specs.Reading.{mode_at, kind_mode, leading_at, tail_at, ended_at}
use Rattle.apdu.specs.Stripped as stripped
use Rattle.apdu.specs.Writing.{data_fits, forward_fits}
use Rattle.pdus.specs.declared.PduType.{PduType}
use Rattle.pdus.specs.declared.PduType.TheVariants.{AircraftPdus, GroundPdus}
use Rattle.apdu.specs.declared.Kind.{Kind}
use Rattle.apdu.specs.declared.Kind.TheVariants as kind
use Rattle.apdu.specs.declared.Data.{Data}
use Rattle.apdu.specs.declared.Heading.{Heading}
use Rattle.apdu.specs.declared.Forward.{Forward}
use Rattle.apdu.specs.declared.Apdu.{Apdu}
use Rattle.apdu.specs.declared.Apdu.TheVariants as is
use Rattle.apdu.proofs.Bounds.{never, content_most, forward_most, pdu_most, length_alternative, lead_most, width_most, reason_most}
use Rattle.apdu.proofs.Contents.{stands_at}
use Rattle.front.proofs.Laws.{via}
use Rattle.apdu.proofs.Apdus.{small, has, has_forward, mode_written, mode_read, ended_well, ended_is, reason_is, lead_read, value_place, ground_only}
use Rattle.apdu.proofs.Theorems.{stands_front, tail_padded, pad_bits, front, ended_whole, mode_are_bits, index_are_bits}
use Rattle.codec.specs.Codec.{user_last, content_bits, start_bits, forward_bits, pdu_bits, apdu_fits, start_at, send_at, forward_at, rest_at, apdu_at}
use Rattle.codec.proofs.Stated.{is_there, content_fits, must_hold, forward_pdu_fits, pdu_fits, extended, ApduRead, Accepted, ForwardRun}
use Rattle.codec.proofs.Contents.{marked, Contents}
use Rattle.codec.proofs.Type2.{bits_behind}
use Rattle.std.specs.Prelude.{Err, Ok}

-- ---- the reasons of a user abort

user_small : (ed : Edition) → user_last ed < 2 ^ 64
user_small Plain = omega arith
user_small Protected = omega arith

user_width : (ed : Edition) → width_of (user_last ed) ≤ 4
unfolding digits_in
user_width Plain = omega arith
user_width Protected = omega arith

provider_width : width_of provider_last ≤ 4
unfolding digits_in
provider_width = omega arith

response_width : width_of response_last ≤ 4
unfolding digits_in
response_width = omega arith

-- ---- the extension bit of message data behind the bits that lead to them

marked_start : (ed : Edition) (t : PduType) (l : List ℕ) (p m : ℕ) (d : Data)
    → p ≡ length (alternative t kind.Start ++ mode_bits t m) → extended ed t l (is.Start m d) ≡ false
    → marked ed l p ≡ false
unfolding stripped.extended
marked_start Plain t l p m d e h = refl
marked_start Protected t l p m d e h = ap (λ (x : ℕ). eqb (get_or l x 0) 1) e ∙ h

marked_send : (ed : Edition) (t : PduType) (l : List ℕ) (p : ℕ) (d : Data) → p ≡ length (alternative t kind.Send)
    → extended ed t l (is.Send d) ≡ false → marked ed l p ≡ false
unfolding stripped.extended
marked_send Plain t l p d e h = refl
marked_send Protected t l p d e h = ap (λ (x : ℕ). eqb (get_or l x 0) 1) e ∙ h

-- where the message of a forward ends
abbrev ends : Apdu → ℕ → Type 0
ends (is.AbortUser r) next = Unit {0}
ends (is.AbortProvider r) next = Unit {0}
ends (is.Start m d) next = Unit {0}
ends (is.Send d) next = Unit {0}
ends (is.Forward f) next = f.message.at + f.message.count ≡ next
ends (is.ForwardResponse x) next = Unit {0}

module _ (ed : Edition) (k : Contents ed) where
  -- ---- written and read

  record FieldsRead (t : PduType) (l : List ℕ) (m : ℕ) (v : Pdu) : Type 0 where
    value : Apdu
    read : apdu_at ed t l ≡ ended_at l m value
    same : pdu_in l l l value ≡ v

  fields_written : (t : PduType) (l : List ℕ) (m : ℕ) (v : Pdu) → Bits l → pdu_fits ed t v ≡ true
      → Stands l 0 (pdu_bits ed t v) m → FieldsRead t l m v
  unfolding pdu_fits pdu_bits apdu_at leading_at kind_mode rest_at pdu_in
  fields_written t l m (abort_user r) b h s =
      let p : ℕ = 0 + length (index_bits (last_of t) 0) in
      let w = stands_split l 0 m (index_bits (last_of t) 0) (index_bits (user_last ed) r) s in
      let a = (extensible_index_is (last_of t) (small t)).written_read l 0 0 p (has t 0 (omega arith)) w.first in
      let c = (extensible_index_is (user_last ed) (user_small ed)).written_read l p r m h w.second in
      record { value = is.AbortUser r; read = rw (a, c); same = refl }
  fields_written t l m (abort_provider r) b h s =
      let p : ℕ = 0 + length (index_bits (last_of t) 1) in
      let w = stands_split l 0 m (index_bits (last_of t) 1) (index_bits provider_last r) s in
      let a = (extensible_index_is (last_of t) (small t)).written_read l 0 1 p (has t 1 (omega arith)) w.first in
      let c = (extensible_index_is provider_last (omega arith)).written_read l p r m h w.second in
      record { value = is.AbortProvider r; read = rw (a, c); same = refl }
  fields_written t l m (start v x) b h s =
      let p : ℕ = 0 + length (index_bits (last_of t) 2) in
      let q : ℕ = 0 + length (index_bits (last_of t) 2) + length (mode_bits t v) in
      let w = stands_split l 0 m (index_bits (last_of t) 2) (mode_bits t v ++ start_bits ed x) s in
      let u = stands_split l p m (mode_bits t v) (start_bits ed x) w.second in
      let a = (extensible_index_is (last_of t) (small t)).written_read l 0 2 p (has t 2 (omega arith)) w.first in
      let c = mode_written t l p v q (both_left (mode_fits t v) (content_fits ed t x) h) u.first in
      let d = k.start_written t l q m x b (both_right (mode_fits t v) (content_fits ed t x) h) u.second in
      record { value = is.Start v d.parts; read = rw (a, c, d.read); same = ap (start v) d.same }
  fields_written t l m (send x) b h s =
      let p : ℕ = 0 + length (index_bits (last_of t) 3) in
      let w = stands_split l 0 m (index_bits (last_of t) 3) (content_bits ed x) s in
      let a = (extensible_index_is (last_of t) (small t)).written_read l 0 3 p (has t 3 (omega arith)) w.first in
      let d = k.send_written t l p m x b (both_left (content_fits ed t x) (must_hold ed (is_there x.message)) h)
      (both_right (content_fits ed t x) (must_hold ed (is_there x.message)) h) w.second in
      record { value = is.Send d.parts; read = rw (a, d.read); same = ap send d.same }
  fields_written t l m (forward x y) b h s =
      let p : ℕ = 0 + length (index_bits (last_of t) 4) in
      let w = stands_split l 0 m (index_bits (last_of t) 4) (forward_bits ed x y) s in
      let a = (extensible_index_is (last_of t) (small t)).written_read l 0 4 p
      (has_forward t 4 (both_left (forwards t) (forward_pdu_fits ed x y) h) (omega arith)) w.first in
      let f = k.forward_written l p m x y b (both_right (forwards t) (forward_pdu_fits ed x y) h) w.second in
      record { value = is.Forward f.value; read = rw (a, f.read); same = rw (f.heading, f.message) }
  fields_written t l m (forward_response r) b h s =
      let p : ℕ = 0 + length (index_bits (last_of t) 5) in
      let w = stands_split l 0 m (index_bits (last_of t) 5) (index_bits response_last r) s in
      let a = (extensible_index_is (last_of t) (small t)).written_read l 0 5 p
      (has_forward t 5 (both_left (forwards t) (whole_fits 0 response_last r) h) (omega arith)) w.first in
      let c = (extensible_index_is response_last (omega arith)).written_read l p r m
      (both_right (forwards t) (whole_fits 0 response_last r) h) w.second in
      record { value = is.ForwardResponse r; read = rw (a, c); same = refl }

  -- ---- sizes by the value

  pub pdu_value_most : (t : PduType) (v : Pdu) → pdu_fits ed t v ≡ true → Bits (pdu_bits ed t v) → length (pdu_bits ed t v) ≤ pdu_most
  unfolding pdu_fits pdu_bits
  pdu_value_most t (abort_user r) h b = rw (length-append, length_alternative)
      (omega (arith, width_most t, reason_most (user_last ed) r (user_width ed)))
  pdu_value_most t (abort_provider r) h b = rw (length-append, length_alternative)
      (omega (arith, width_most t, reason_most provider_last r provider_width))
  pdu_value_most t (start m c) h b =
      let x = bits_behind (mode_bits t m) (start_bits ed c) (bits_behind (alternative t kind.Start) (mode_bits t m ++ start_bits ed c) b) in
      let n = k.start_value_most t c (both_right (mode_fits t m) (content_fits ed t c) h) x in
      rw (length-append, length_alternative, length-append) (omega (arith, lead_most t m))
  pdu_value_most t (send c) h b =
      let n = k.content_value_most t c (both_left (content_fits ed t c) (must_hold ed (is_there c.message)) h)
      (bits_behind (alternative t kind.Send) (content_bits ed c) b) in
      rw (length-append, length_alternative) (omega (arith, width_most t))
  pdu_value_most t (forward x m) h b =
      let n = k.forward_value_most x m (both_right (forwards t) (forward_pdu_fits ed x m) h)
      (bits_behind (alternative t kind.Forward) (forward_bits ed x m) b) in
      rw (length-append, length_alternative) (omega (arith, width_most t))
  pdu_value_most t (forward_response x) h b = rw (length-append, length_alternative)
      (omega (arith, width_most t, reason_most response_last x response_width))

  pub written_read : (t : PduType) (v : Pdu) (s : List ℕ) → Bits (pdu_bits ed t v) → pdu_fits ed t v ≡ true → buffer_least ≤ length s
      → ApduRead ed t (lent (take (bytes_for (length (pdu_bits ed t v))) (put_bits s 0 (padded (pdu_bits ed t v))))) v
  written_read t v s b h g =
      let m = pdu_value_most t v h b in
      let e = (front s (pdu_bits ed t v) b (omega arith) g).bits in
      let f = fields_written t (padded (pdu_bits ed t v)) (length (pdu_bits ed t v)) v (pad_bits (pdu_bits ed t v) b) h
      (stands_front (pdu_bits ed t v)) in
      let r = ended_well (padded (pdu_bits ed t v)) (length (pdu_bits ed t v)) 0 _ f.value (tail_padded (pdu_bits ed t v)) in
      subst (λ (l : List ℕ). ApduRead ed t l v) (sym e) (record { value = f.value; read = f.read ∙ r; same = f.same })

  -- ---- sizes by where the parts stand

  pub pdu_most_is : (t : PduType) (li lm lc : List ℕ) (a : Apdu) → apdu_fits ed t li lm lc a ≡ true
      → length (pdu_bits ed t (pdu_in li lm lc a)) ≤ pdu_most
  unfolding apdu_fits pdu_bits pdu_in
  pdu_most_is t li lm lc (is.AbortUser r) h = rw (length-append, length_alternative)
      (omega (arith, width_most t, reason_most (user_last ed) r (user_width ed)))
  pdu_most_is t li lm lc (is.AbortProvider r) h = rw (length-append, length_alternative)
      (omega (arith, width_most t, reason_most provider_last r provider_width))
  pdu_most_is t li lm lc (is.Start m d) h =
      let n = k.start_most li lm lc d (both_right (mode_fits t m) (data_fits li lm lc d) h) in
      rw (length-append, length_alternative, length-append) (omega (arith, lead_most t m))
  pdu_most_is t li lm lc (is.Send d) h =
      let n = k.content_most_is li lm lc d h in
      rw (length-append, length_alternative) (omega (arith, width_most t))
  pdu_most_is t li lm lc (is.Forward f) h =
      let n = k.forward_most_is lm f (both_right (forwards t) (forward_fits lm f) h) in
      rw (length-append, length_alternative) (omega (arith, width_most t))
  pdu_most_is t li lm lc (is.ForwardResponse x) h = rw (length-append, length_alternative)
      (omega (arith, width_most t, reason_most response_last x response_width))

  pub pdu_are_bits : (t : PduType) (li lm lc : List ℕ) (a : Apdu) → Bits li → Bits lm → Bits lc → Bits (pdu_bits ed t (pdu_in li lm lc a))
  unfolding pdu_bits pdu_in
  pdu_are_bits t li lm lc (is.AbortUser r) i m c = bits_append (index_bits (last_of t) 0) (index_bits (user_last ed) r)
      (index_are_bits t 0) ((extensible_index_is (user_last ed) (user_small ed)).are_bits r)
  pdu_are_bits t li lm lc (is.AbortProvider r) i m c = bits_append (index_bits (last_of t) 1) (index_bits provider_last r)
      (index_are_bits t 1) ((extensible_index_is provider_last (omega arith)).are_bits r)
  pdu_are_bits t li lm lc (is.Start v d) i m c = bits_append (index_bits (last_of t) 2) _ (index_are_bits t 2) (
      bits_append (mode_bits t v) (start_bits ed (content_in li lm lc d)) (mode_are_bits t v)
      (k.start_are_bits li lm lc d i m c))
  pdu_are_bits t li lm lc (is.Send d) i m c = bits_append (index_bits (last_of t) 3)
      (content_bits ed (content_in li lm lc d)) (index_are_bits t 3) (k.content_are_bits li lm lc d i m c)
  pdu_are_bits t li lm lc (is.Forward f) i m c =
      bits_append (index_bits (last_of t) 4) (forward_bits ed f.heading (items_in lm bit f.message)) (index_are_bits t 4)
      (k.forward_are_bits f.heading (items_in lm bit f.message)
      (bits_take (bit * f.message.count) (drop f.message.at lm) (bits_drop f.message.at lm m)))
  pdu_are_bits t li lm lc (is.ForwardResponse x) i m c = bits_append (index_bits (last_of t) 5) (index_bits response_last x)
      (index_are_bits t 5) ((extensible_index_is response_last (omega arith)).are_bits x)

  -- ---- read and written

  record Stood (t : PduType) (l : List ℕ) (a : Apdu) (next : ℕ) : Type 0 where
    placed_fits : apdu_fits ed t l l l a ≡ true
    fits : pdu_fits ed t (pdu_in l l l a) ≡ true
    stands : extended ed t l a ≡ false → Stands l 0 (pdu_bits ed t (pdu_in l l l a)) next
    end : ends a next

  user_stood : (t : PduType) (l : List ℕ) (p n r : ℕ) → Bits l → Stands l 0 (index_bits (last_of t) 0) p
      → extensible_index l p (user_last ed) ≡ Ok (r, n) → Stood t l (is.AbortUser r) n
  unfolding apdu_fits pdu_fits pdu_bits pdu_in
  user_stood t l p n r b s f =
      let i = reason_is l 0 p n r (user_last ed) (index_bits (last_of t) 0) b (user_small ed) s f in
      record { placed_fits = i.fits; fits = i.fits; stands = λ e. i.stands; end = tt }

  provider_stood : (t : PduType) (l : List ℕ) (p n r : ℕ) → Bits l → Stands l 0 (index_bits (last_of t) 1) p
      → extensible_index l p provider_last ≡ Ok (r, n) → Stood t l (is.AbortProvider r) n
  unfolding apdu_fits pdu_fits pdu_bits pdu_in
  provider_stood t l p n r b s f =
      let i = reason_is l 0 p n r provider_last (index_bits (last_of t) 1) b (omega arith) s f in
      record { placed_fits = i.fits; fits = i.fits; stands = λ e. i.stands; end = tt }

  start_stood : (t : PduType) (l : List ℕ) (p q n m : ℕ) (d : Data) → Bits l → Stands l 0 (index_bits (last_of t) 2) p
      → mode_at t l p ≡ Ok (m, q) → start_at ed t l q ≡ Ok (d, n) → Stood t l (is.Start m d) n
  unfolding apdu_fits pdu_fits pdu_bits pdu_in
  start_stood t l p q n m d b s f g =
      let sp = s.place in
      let sw = s.within in
      let v = mode_read t l p m q b (omega arith) f in
      let w = k.start_read t l q n d b g in
      let z : q ≡ length (alternative t kind.Start ++ mode_bits t m) = omega
      (arith, v.stands.place, length-append (alternative t kind.Start) (mode_bits t m)) in
      record {
        placed_fits = both_hold _ _ v.fits w.placed_fits;
        fits = both_hold _ _ v.fits w.fits;
        stands = λ (e : extended ed t l (is.Start m d) ≡ false).
            stands_join l 0 p n (index_bits (last_of t) 2) _ s (stands_join l p q n (mode_bits t m)
            (start_bits ed (content_in l l l d)) v.stands (w.stands (marked_start ed t l q m d z e)));
        end = tt;
      }

  send_stood : (t : PduType) (l : List ℕ) (p n : ℕ) (d : Data) → Bits l → Stands l 0 (index_bits (last_of t) 3) p
      → send_at ed t l p ≡ Ok (d, n) → Stood t l (is.Send d) n
  unfolding apdu_fits pdu_fits pdu_bits pdu_in
  send_stood t l p n d b s g =
      let w = k.send_read t l p n d b g in
      let z : p ≡ length (alternative t kind.Send) = omega (arith, s.place) in
      record {
        placed_fits = w.placed_fits;
        fits = both_hold _ _ w.fits (k.send_holds t l p n d g);
        stands = λ (e : extended ed t l (is.Send d) ≡ false). stands_join l 0 p n (index_bits (last_of t) 3)
            (content_bits ed (content_in l l l d)) s (w.stands (marked_send ed t l p d z e));
        end = tt;
      }

  forward_stood : (t : PduType) (l : List ℕ) (p n : ℕ) (f : Forward) → Bits l → forwards t ≡ true
      → Stands l 0 (index_bits (last_of t) 4) p → forward_at ed l p ≡ Ok (f, n) → Stood t l (is.Forward f) n
  unfolding apdu_fits pdu_fits pdu_bits pdu_in
  forward_stood t l p n f b y s g =
      let w = k.forward_read l p f n b g in
      record {
        placed_fits = both_hold _ _ y w.placed_fits;
        fits = both_hold _ _ y w.fits;
        stands = λ e. stands_join l 0 p n (index_bits (last_of t) 4) (forward_bits ed f.heading (items_in l bit f.message)) s w.stands;
        end = w.end;
      }

  response_stood : (t : PduType) (l : List ℕ) (p n r : ℕ) → Bits l → forwards t ≡ true
      → Stands l 0 (index_bits (last_of t) 5) p → extensible_index l p response_last ≡ Ok (r, n)
      → Stood t l (is.ForwardResponse r) n
  unfolding apdu_fits pdu_fits pdu_bits pdu_in
  response_stood t l p n r b y s g =
      let i = reason_is l 0 p n r response_last (index_bits (last_of t) 5) b (omega arith) s g in
      record { placed_fits = both_hold _ _ y i.fits; fits = both_hold _ _ y i.fits; stands = λ e. i.stands; end = tt }

  record ApduIs (t : PduType) (l : List ℕ) (a : Apdu) : Type 0 where
    next : ℕ
    left : ℕ
    end : ℕ
    stood : Stood t l a next
    tail : tail_at l next ≡ Ok (left, end)

  ended_read : (t : PduType) (l : List ℕ) (n : ℕ) (a b : Apdu) → Stood t l b n → ended_at l n b ≡ Ok a → ApduIs t l a
  ended_read t l n a b u e =
      let i = ended_is l n a b e in
      subst (λ (x : Apdu). ApduIs t l x) i.same (record { next = n; left = i.left; end = i.end; stood = u; tail = i.tail })

  rest_read : (t : PduType) (l : List ℕ) (p : ℕ) (c : Kind) (m q : ℕ) (a : Apdu) → Bits l → index_of c ≤ last_of t
      → Stands l 0 (index_bits (last_of t) (index_of c)) p → kind_mode t l c p ≡ Ok (m, q)
      → rest_at ed t l c m q ≡ Ok a → ApduIs t l a
  unfolding kind_mode rest_at
  rest_read t l p kind.AbortUser m q a b h s f e =
      via (ApduIs t l a) (extensible_index l q (user_last ed)) _ a
      (λ (r n : ℕ) (g : extensible_index l q (user_last ed) ≡ Ok (r, n))
      (j : ended_at l n (is.AbortUser r) ≡ Ok a). ended_read t l n a (is.AbortUser r)
      (user_stood t l q n r b (stands_at l 0 p q _ (value_place p m q f) s) g) j) e
  rest_read t l p kind.AbortProvider m q a b h s f e =
      via (ApduIs t l a) (extensible_index l q provider_last) _ a
      (λ (r n : ℕ) (g : extensible_index l q provider_last ≡ Ok (r, n))
      (j : ended_at l n (is.AbortProvider r) ≡ Ok a). ended_read t l n a (is.AbortProvider r)
      (provider_stood t l q n r b (stands_at l 0 p q _ (value_place p m q f) s) g) j) e
  rest_read t l p kind.Start m q a b h s f e =
      via (ApduIs t l a) (start_at ed t l q) _ a (λ (d : Data) (n : ℕ) (g : start_at ed t l q ≡ Ok (d, n))
      (j : ended_at l n (is.Start m d) ≡ Ok a). ended_read t l n a (is.Start m d)
      (start_stood t l p q n m d b s f g) j) e
  rest_read t l p kind.Send m q a b h s f e =
      via (ApduIs t l a) (send_at ed t l q) _ a (λ (d : Data) (n : ℕ) (g : send_at ed t l q ≡ Ok (d, n))
      (j : ended_at l n (is.Send d) ≡ Ok a). ended_read t l n a (is.Send d)
      (send_stood t l q n d b (stands_at l 0 p q _ (value_place p m q f) s) g) j) e
  rest_read t l p kind.Forward m q a b h s f e =
      via (ApduIs t l a) (forward_at ed l q) _ a (λ (x : Forward) (n : ℕ) (g : forward_at ed l q ≡ Ok (x, n)) (j : ended_at l n (is.Forward x) ≡ Ok a).
      ended_read t l n a (is.Forward x)
      (forward_stood t l q n x b (ground_only t 4 h (omega arith)) (stands_at l 0 p q _ (value_place p m q f) s) g)
      j) e
  rest_read t l p kind.ForwardResponse m q a b h s f e =
      via (ApduIs t l a) (extensible_index l q response_last) _ a
      (λ (r n : ℕ) (g : extensible_index l q response_last ≡ Ok (r, n)) (j : ended_at l n (is.ForwardResponse r) ≡ Ok a).
      ended_read t l n a (is.ForwardResponse r)
      (response_stood t l q n r b (ground_only t 5 h (omega arith)) (stands_at l 0 p q _ (value_place p m q f) s) g)
      j) e

  apdu_read : (t : PduType) (l : List ℕ) (a : Apdu) → Bits l → apdu_at ed t l ≡ Ok a → ApduIs t l a
  unfolding apdu_at
  apdu_read t l a b e =
      via (ApduIs t l a) (leading_at t l 0) _ a (λ (x : Kind × ℕ) (n : ℕ) (f : leading_at t l 0 ≡ Ok (x, n)) (j : rest_at ed t l x.0 x.1 n ≡ Ok a).
      let i = lead_read t l 0 x.0 x.1 n b f in
      rest_read t l i.place x.0 x.1 n a b i.most i.stands i.mode j) e

  pub accepted : (t : PduType) (l : List ℕ) (a : Apdu) → Bits l → apdu_at ed t l ≡ Ok a → Accepted ed t l a
  accepted t l a b e =
      let i = apdu_read t l a b e in
      record { placed_fits = i.stood.placed_fits; fits = i.stood.fits; bits = λ (x : extended ed t l a ≡ false). ended_whole l (pdu_bits ed t (pdu_in l l l a)) i.next i.left i.end b (i.stood.stands x) i.tail }

  -- ---- a forward message in an APDU

  unextended : (e : Edition) (t : PduType) (l : List ℕ) (f : Forward) → extended e t l (is.Forward f) ≡ false
  unfolding stripped.extended
  unextended Plain t l f = refl
  unextended Protected t l f = refl

  four : (t : PduType) → forwards t ≡ true → length (alternative t kind.Forward) ≡ 4
  unfolding digits_in
  four AircraftPdus h = never (cc)
  four GroundPdus h = length_index 5 4

  pub forward_run : (t : PduType) (l : List ℕ) (f : Forward) → Bits l → apdu_at ed t l ≡ Ok (is.Forward f) → ForwardRun ed l f
  unfolding apdu_fits pdu_bits pdu_in
  forward_run t l f b e =
      let i = apdu_read t l (is.Forward f) b e in
      let s : Stands l 0 (alternative t kind.Forward ++ forward_bits ed f.heading (items_in l bit f.message))
      i.next = i.stood.stands (unextended ed t l f) in
      let w = (stands_split l 0 i.next (alternative t kind.Forward)
      (forward_bits ed f.heading (items_in l bit f.message)) s).second in
      let g = both_left (forwards t) (forward_fits l f) i.stood.placed_fits in
      let p : 0 + length (alternative t kind.Forward) ≡ 4 = omega (arith, four t g) in
      let fits = both_right (forwards t) (forward_fits l f) i.stood.placed_fits in
      let m = k.forward_most_is l f fits in
      let n : length (forward_bits ed f.heading (items_in l bit f.message)) ≡ f.message.at + f.message.count - 4
      = omega (arith, i.stood.end, w.place, p) in
      record {
        from = omega (arith, i.stood.end, w.place, p);
        within = omega (arith, i.stood.end, w.place, w.within, p);
        few = omega (arith, n, m);
        fits = fits;
        bits = rw (p, n) at (sym w.holds);
      }
