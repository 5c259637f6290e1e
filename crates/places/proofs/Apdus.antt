-- Where an APDU is refused: the claims, reader by reader.
-- Assumes nothing.
use mathlib.Core.Path.{◌≡◌, refl, ap, sym, subst, ◌∙◌}
use mathlib.Core.Bool.{Bool, true, false, cond, not}
use mathlib.Core.List.{List}
use Prim.Native.Nat.{ℕ, zero, suc, ◌+◌, ◌-◌, ◌*◌, ◌%◌, ◌^◌, ◌≤◌, ◌<◌}
use native.Mathlib.Omega.{arith}
use borrow.Author.Tests.{leb-true, leb-false, ltb-true}
use lib.Dec.{leb, ltb, eqb}
use lib.ListN.{length, take, drop}
use lib.Pow.{pow_mono}
use Rattle.words.proofs.Laws.{both_left, both_right}
use Rattle.bits.proofs.Numbers.{Bits, length_bits_n}
use Rattle.fields.specs.Additions.{additions_at}
use Rattle.fields.specs.Fields.{refusal, refused_at, then, bit_field, digits_in, width_of, whole_number, extensible_index, string_at}
use Rattle.fields.specs.declared.Fault.TheVariants.{Short, Tail, Default}
use Rattle.fields.specs.declared.Refusal.{Refusal}
use Rattle.fields.proofs.RoundTrip.{bit_field_is}
use Rattle.fields.proofs.Widths.{width_within}
use Rattle.places.specs.Claims.{Seen, went, refused, Alike, FieldAt, Placed, Refusing, Sound, seen_field}
use Rattle.places.proofs.Readers.{clash, one_place, one_refusal, sound_value, refusing_bind, refusing_after, sound_cond, then_sound, bit_sound, judged, whole_sound, whole_place, whole_cut, index_sound, string_sound, additions_sound}
use Rattle.apdu.specs.Sizes.{identifier_least, identifier_most, message_most, check_most, user_last, provider_last, mode_last, octet, bit}
use Rattle.apdu.specs.Headings.{triple, date_from, date_to, time_from, time_to, characters_least, characters_most, character, address_bits, direction_last, response_last}
use Rattle.apdu.specs.Pdus.{last_of, kind_of}
use Rattle.apdu.specs.Encoding.{padding}
use Rattle.apdu.specs.Reading.{optional_at, part_at, span_to, parts_within, parts_at, with_additions, data_within, data_at, triple_at, heading_at, forward_within, forward_at, mode_value, mode_at, kind_mode, leading_at, tail_at, ended_at, rest_within, rest_at, apdu_within, apdu_at, whole_within, whole_data, whole_forward_within, whole_forward}
use Rattle.pdus.specs.declared.PduType.{PduType}
use Rattle.pdus.specs.declared.PduType.TheVariants.{AircraftPdus, GroundPdus}
use Rattle.apdu.specs.declared.Kind.{Kind}
use Rattle.apdu.specs.declared.Kind.TheVariants as kind
use Rattle.apdu.specs.declared.Data.{Data}
use Rattle.apdu.specs.declared.Triple.{Triple}
use Rattle.apdu.specs.declared.Heading.{Heading}
use Rattle.apdu.specs.declared.Forward.{Forward}
use Rattle.apdu.specs.declared.Apdu.{Apdu}
use Rattle.apdu.specs.declared.Apdu.TheVariants as apdu
use Rattle.apdu.proofs.Bounds.{never}
use Rattle.std.specs.Prelude.{Err, Ok, Result}
use Rattle.fields.specs.Fields.{Reading}

-- ---- message data

pub optional_sound : (l : List ℕ) (there : Bool) (at unit least most : ℕ) → at ≤ length l
    → Sound seen_field (λ (m : List ℕ). optional_at m there at unit least most) l at
unfolding optional_at
optional_sound l there at unit least most h =
    sound_cond (seen_field {A = ℕ}) there (λ (m : List ℕ). string_at m at unit least most) (λ (m : List ℕ). Ok (0, at)) l at
    (λ (e : there ≡ true). string_sound l at unit least most h)
    (λ (e : there ≡ false). sound_value (seen_field {A = ℕ}) (Ok (0, at)) l at h refl)

pub parts_sound : (l : List ℕ) (at : ℕ) (i m : Bool) → at ≤ length l → Sound seen_field (λ (x : List ℕ). parts_at x at i m) l at
unfolding parts_within
parts_sound l at i m h =
    then_sound {B = Data} (λ (x : List ℕ). optional_at x i at octet identifier_least identifier_most) _ l at
    (optional_sound l i at octet identifier_least identifier_most h)
    (λ (octets p : ℕ) (e : optional_at l i at octet identifier_least identifier_most ≡ Ok (octets, p)) (a : at ≤ p) (b : p ≤ length l).
    then_sound {B = Data} (λ (x : List ℕ). optional_at x m p bit 0 message_most) _ l p (optional_sound l m p bit 0 message_most b)
    (λ (bits q : ℕ) (f : optional_at l m p bit 0 message_most ≡ Ok (bits, q)) (c : p ≤ q) (d : q ≤ length l).
    then_sound {B = Data} (λ (x : List ℕ). string_at x q bit 0 check_most) _ l q (string_sound l q bit 0 check_most d)
    (λ (n next : ℕ) (g : string_at l q bit 0 check_most ≡ Ok (n, next)) (u : q ≤ next) (w : next ≤ length l).
    sound_value (seen_field {A = Data}) (Ok (record { identifier = part_at i octet octets p; message = part_at m bit bits q; check = span_to bit n next }, next)) l next w refl)))

-- behind the fields, the additions
added_sound : (l : List ℕ) (at : ℕ) (i m : Bool) → at ≤ length l → Sound seen_field (λ (x : List ℕ). with_additions x (parts_at x at i m)) l at
unfolding with_additions
added_sound l at i m h =
    then_sound {B = Data} (λ (x : List ℕ). parts_at x at i m) (λ (d : Data) (next : ℕ) (y : List ℕ). then (additions_at y next) (λ (v after : ℕ). Ok (d, after))) l at
    (parts_sound l at i m h)
    (λ (d : Data) (j : ℕ) (e : parts_at l at i m ≡ Ok (d, j)) (a : at ≤ j) (w : j ≤ length l).
    then_sound {B = Data} (λ (y : List ℕ). additions_at y j) (λ (v after : ℕ) (y : List ℕ). Ok (d, after)) l j (additions_sound l j w)
    (λ (v after : ℕ) (f : additions_at l j ≡ Ok (v, after)) (c : j ≤ after) (b : after ≤ length l). sound_value (seen_field {A = Data}) (Ok (d, after)) l after b refl))

pub data_sound : (l : List ℕ) (at : ℕ) → at ≤ length l → Sound seen_field (λ (x : List ℕ). data_at x at) l at
unfolding data_within
data_sound l at h =
    then_sound {B = Data} (λ (x : List ℕ). bit_field x at 1) _ l at (bit_sound l at 1 h)
    (λ (e p : ℕ) (f : bit_field l at 1 ≡ Ok (e, p)) (a : at ≤ p) (b : p ≤ length l).
    then_sound {B = Data} (λ (x : List ℕ). bit_field x p 2) _ l p (bit_sound l p 2 b)
    (λ (v q : ℕ) (g : bit_field l p 2 ≡ Ok (v, q)) (c : p ≤ q) (d : q ≤ length l).
    sound_cond (seen_field {A = Data}) (eqb e 0) (λ (x : List ℕ). parts_at x q (leb 2 v) (eqb (v % 2) 1))
    (λ (x : List ℕ). with_additions x (parts_at x q (leb 2 v) (eqb (v % 2) 1))) l q
    (λ (z : eqb e 0 ≡ true). parts_sound l q (leb 2 v) (eqb (v % 2) 1) d)
    (λ (z : eqb e 0 ≡ false). added_sound l q (leb 2 v) (eqb (v % 2) 1) d)))

-- ---- the leading fields

pub mode_value_sound : (l : List ℕ) (at : ℕ) → at ≤ length l → Sound seen_field (λ (x : List ℕ). mode_value x at) l at
unfolding mode_value digits_in
mode_value_sound l at h =
    judged (λ (x : List ℕ). whole_number x at 0 mode_last)
    (λ (m n : ℕ). cond (eqb m 0) (refused_at at Default) (Ok (m, n))) (λ (m : ℕ). not (eqb m 0)) (λ (m : ℕ). m)
    Default l at h
    (whole_sound l at 0 mode_last (omega arith) h)
    (λ (v n : ℕ) (p : not (eqb v 0) ≡ true). by true v n (eqb v 0) p)
    (λ (v n : ℕ) (p : not (eqb v 0) ≡ false). by false v n (eqb v 0) p)
    (λ (t : Default ≡ Short). never (cc))
    (λ (v n : ℕ) (e : whole_number l at 0 mode_last ≡ Ok (v, n)) (p : not (eqb v 0) ≡ false). let q = whole_place l at 0
    mode_last v n e in omega arith)
    (whole_cut l at 0 mode_last)
  where
    by : (t : Bool) (v n : ℕ) (z : Bool) → not z ≡ t → cond {A = Reading ℕ} z (refused_at at Default) (Ok (v, n)) ≡ cond {A = Reading ℕ} t (Ok (v, n)) (refused_at at Default)
    by true v n true p = never (cc)
    by true v n false p = refl
    by false v n true p = refl
    by false v n false p = never (cc)

pub mode_sound : (pdus : PduType) (l : List ℕ) (at : ℕ) → at ≤ length l → Sound seen_field (λ (x : List ℕ). mode_at pdus x at) l at
unfolding mode_at
mode_sound GroundPdus l at h = sound_value (seen_field {A = ℕ}) (Ok (0, at)) l at h refl
mode_sound AircraftPdus l at h =
    then_sound {B = ℕ} (λ (x : List ℕ). bit_field x at 1)
    (λ (p n : ℕ) (x : List ℕ). cond (eqb p 0) (Ok (0, n)) (mode_value x n)) l at (bit_sound l at 1 h)
    (λ (p n : ℕ) (e : bit_field l at 1 ≡ Ok (p, n)) (a : at ≤ n) (b : n ≤ length l).
    sound_cond (seen_field {A = ℕ}) (eqb p 0) (λ (x : List ℕ). Ok (0, n)) (λ (x : List ℕ). mode_value x n) l n
    (λ (q : eqb p 0 ≡ true). sound_value (seen_field {A = ℕ}) (Ok (0, n)) l n b refl) (λ (q : eqb p 0 ≡ false). mode_value_sound l n b))

pub kind_mode_sound : (pdus : PduType) (l : List ℕ) (c : Kind) (at : ℕ) → at ≤ length l
    → Sound seen_field (λ (x : List ℕ). kind_mode pdus x c at) l at
unfolding kind_mode
kind_mode_sound pdus l kind.AbortUser at h = sound_value (seen_field {A = ℕ}) (Ok (0, at)) l at h refl
kind_mode_sound pdus l kind.AbortProvider at h = sound_value (seen_field {A = ℕ}) (Ok (0, at)) l at h refl
kind_mode_sound pdus l kind.Start at h = mode_sound pdus l at h
kind_mode_sound pdus l kind.Send at h = sound_value (seen_field {A = ℕ}) (Ok (0, at)) l at h refl
kind_mode_sound pdus l kind.Forward at h = sound_value (seen_field {A = ℕ}) (Ok (0, at)) l at h refl
kind_mode_sound pdus l kind.ForwardResponse at h = sound_value (seen_field {A = ℕ}) (Ok (0, at)) l at h refl

pub lead_sound : (pdus : PduType) (l : List ℕ) (at : ℕ) → at ≤ length l → Sound seen_field (λ (x : List ℕ). leading_at pdus x at) l at
unfolding leading_at
lead_sound pdus l at h =
    then_sound {B = Kind × ℕ} (λ (x : List ℕ). extensible_index x at (last_of pdus)) (λ (i p : ℕ) (x : List ℕ). then
    (kind_mode pdus x (kind_of i) p) (λ (m q : ℕ). Ok ((kind_of i, m), q))) l at
    (index_sound l at (last_of pdus) h)
    (λ (i p : ℕ) (e : extensible_index l at (last_of pdus) ≡ Ok (i, p)) (a : at ≤ p) (b : p ≤ length l).
    then_sound {B = Kind × ℕ} (λ (x : List ℕ). kind_mode pdus x (kind_of i) p) (λ (m q : ℕ) (x : List ℕ). Ok ((kind_of i, m), q)) l p
    (kind_mode_sound pdus l (kind_of i) p b)
    (λ (m q : ℕ) (f : kind_mode pdus l (kind_of i) p ≡ Ok (m, q)) (c : p ≤ q) (d : q ≤ length l). sound_value (seen_field {A = Kind × ℕ})
    (Ok ((kind_of i, m), q)) l q d refl))

-- ---- the tail: the first padding bit that is 1, or the first bit behind the padding

record PaddingIs (l : List ℕ) (at v next : ℕ) : Type 0 where
  place : next ≡ at + padding at
  within : next ≤ length l
  digits : width_of v ≤ padding at

padding_is : (l : List ℕ) (at v next : ℕ) → Bits l → bit_field l at (padding at) ≡ Ok (v, next) → PaddingIs l at v next
padding_is l at v next b e =
    let n : ℕ = padding at in
    let f = (bit_field_is (padding at)).read_fits l at v next b e in
    let m = leb-true (padding at) 64 (both_left (leb (padding at) 64) (ltb v (2 ^ padding at)) f) in
    let h = ltb-true v (2 ^ padding at) (both_right (leb (padding at) 64) (ltb v (2 ^ padding at)) f) in
    let k : 2 ^ padding at ≤ 2 ^ 64 = pow_mono {i = padding at} {j = 64} m in
    let s = (bit_field_is (padding at)).read_written l at v next b e in
    let w = s.within in
    let p = s.place in
    let z = length_bits_n (padding at) v in
    record { place = omega arith; within = omega arith; digits = width_within 64 v (padding at) (omega arith) h }

pub tail_refusing : (l : List ℕ) (at : ℕ) → Bits l → at ≤ length l → Refusing seen_field (λ (x : List ℕ). tail_at x at) l at
unfolding tail_at
tail_refusing l at b h r e = by (bit_field l at (padding at)) refl
  where
    -- TAIL at a place: nothing else is claimed of it
    there : (p : ℕ) → at ≤ p → p ≤ length l → seen_field (tail_at l at) ≡ refused (refusal p Tail)
        → Placed seen_field (λ (x : List ℕ). tail_at x at) l at r
    there p a w q =
        subst (λ (z : Refusal). Placed seen_field (λ (x : List ℕ). tail_at x at) l at z) (one_refusal (refusal p Tail) r (sym q ∙ told))
        (record { after = a; within = w; field = λ (t : Tail ≡ Tail → ⊥). absurd (t refl) })
      where
        told : seen_field (tail_at l at) ≡ refused r
        told = e

    by : (x : Reading ℕ) → bit_field l at (padding at) ≡ x → Placed seen_field (λ (x : List ℕ). tail_at x at) l at r
    by (Err q) f =
        refusing_bind seen_field seen_field Err (λ (x : List ℕ). bit_field x at (padding at)) (λ (x : Reading ℕ)
        (y : List ℕ). then x (λ (v next : ℕ). cond (eqb v 0)
        (cond (leb (next + 1) (length y)) (refused_at next Tail) (Ok (0, next)))
        (refused_at (next - width_of v) Tail))) l at
        (λ (z : Refusal). refl) hands (bit_sound l at (padding at) h) (λ (n : ℕ)
        (z : seen_field (bit_field l at (padding at)) ≡ went n) (a : at ≤ n) (c : n ≤ length l). clash n q
        (sym z ∙ ap seen_field f)) r e
      where
        hands : (x : Reading ℕ) (z : Refusal) (y : List ℕ) → seen_field x ≡ refused z
            → then {A = ℕ} {B = ℕ × ℕ} x (λ (v next : ℕ). cond (eqb v 0) (cond (leb (next + 1) (length y)) (refused_at next Tail) (Ok (0, next))) (refused_at (next - width_of v) Tail)) ≡ Err z
        hands (Ok (v, n)) z y u = clash n z u
        hands (Err p) z y u = ap Err (one_refusal p z u)
    by (Ok (v, next)) f = go (eqb v 0) refl
      where
        i : PaddingIs l at v next
        i = padding_is l at v next b f

        reads : (t : Bool) → eqb v 0 ≡ t
            → tail_at l at ≡ cond {A = Reading ℕ} t (cond (leb (next + 1) (length l)) (refused_at next Tail) (Ok (0, next))) (refused_at (next - width_of v) Tail)
        reads t p = rw (f, p)

        last : (t : Bool) → leb (next + 1) (length l) ≡ t → eqb v 0 ≡ true → Placed seen_field (λ (x : List ℕ). tail_at x at) l at r
        last true p q = let a = i.place in let w : next + 1 ≤ length l = leb-true _ _ p in there next (omega arith)
            (omega arith) (ap seen_field (reads true q) ∙ rw p)
        last false p q = clash next r (sym (ap seen_field (reads true q) ∙ rw p) ∙ e)

        go : (t : Bool) → eqb v 0 ≡ t → Placed seen_field (λ (x : List ℕ). tail_at x at) l at r
        go true p = last (leb (next + 1) (length l)) refl p
        go false p = let a = i.place in let d = i.digits in let w = i.within in there (next - width_of v)
            (omega arith) (omega arith) (ap seen_field (reads false p))

-- ---- the whole

abbrev pub seen_answer : Result Apdu Refusal → Seen
seen_answer (Ok a) = went 0
seen_answer (Err r) = refused r

pub answer_field : {A : Type 0} (f : List ℕ → Reading A) (k : A → ℕ → List ℕ → Result Apdu Refusal) (l : List ℕ) (at : ℕ) → Sound seen_field f l at
    → ((v : A) (n : ℕ) → f l ≡ Ok (v, n) → at ≤ n → n ≤ length l → Refusing seen_answer (k v n) l n)
    → Refusing seen_answer (λ (x : List ℕ). then (f x) (λ (v : A) (n : ℕ). k v n x)) l at
answer_field f k l at s on = refusing_after seen_answer (λ (r : Refusal). refl) f k l at s on

-- what was read, and behind it the tail alone
behind_refusing : {A : Type 0} (seen : Result A Refusal → Seen) → ((r : Refusal) → seen (Err r) ≡ refused r) → (made : Result A Refusal) (place : ℕ) → seen made ≡ went place → (l : List ℕ) (at : ℕ) → Bits l → at ≤ length l → Refusing seen (λ (x : List ℕ). then (tail_at x at) (λ (v n : ℕ). made)) l at
behind_refusing seen says made place is l at b h r e = go (tail_at l at) refl e
  where
    lift : (x : Reading ℕ) (z : Refusal) → seen_field x ≡ refused z → seen (then x (λ (v n : ℕ). made)) ≡ refused z
    lift (Ok (v, n)) z c = clash n z c
    lift (Err y) z c = says y ∙ c

    go : (x : Reading ℕ) → tail_at l at ≡ x → seen (then x (λ (v n : ℕ). made)) ≡ refused r
        → Placed seen (λ (y : List ℕ). then (tail_at y at) (λ (v n : ℕ). made)) l at r
    go (Ok (v, n)) f q = clash place r (sym is ∙ q)
    go (Err z) f q =
        let p = tail_refusing l at b h r (ap seen_field f ∙ (sym (says z) ∙ q)) in
        record {
          after = p.after;
          within = p.within;
          field = λ (t : r.fault ≡ Tail → ⊥).
              let c = p.field t in
              record {
                end = c.end;
                behind = c.behind;
                cut = λ (k : ℕ) (i : r.at ≤ k) (j : k < c.end) (w : k ≤ length l). lift (tail_at (take k l) at)
                    (refusal r.at Short) (c.cut k i j w);
                same = λ (w : c.end ≤ length l) (m : List ℕ) (k : Alike c.end l m). ap
                    (λ (x : Reading ℕ). then x (λ (v n : ℕ). made)) (c.same w m k);
                short = c.short;
              };
        }

pub ended_refusing : (l : List ℕ) (at : ℕ) (a : Apdu) → Bits l → at ≤ length l → Refusing seen_answer (λ (x : List ℕ). ended_at x at a) l at
unfolding ended_at
ended_refusing l at a b h = behind_refusing seen_answer (λ (r : Refusal). refl) (Ok a) 0 refl l at b h

-- message data or a forward message, whatever reads it, and behind it the tail
pub parts_refusing : {A : Type 0} (rd : List ℕ → Reading A) (l : List ℕ) (at : ℕ) (k : A → Apdu) → Bits l → Sound seen_field rd l at
    → Refusing seen_answer (λ (x : List ℕ). then (rd x) (λ (d : A) (next : ℕ). ended_at x next (k d))) l at
parts_refusing {A} rd l at k b s = answer_field rd (λ (d : A) (n : ℕ) (x : List ℕ). ended_at x n (k d)) l at s
    (λ (d : A) (n : ℕ) (e : rd l ≡ Ok (d, n)) (a : at ≤ n) (w : n ≤ length l). ended_refusing l n (k d) b w)

-- ---- a forward message

triple_sound : (l : List ℕ) (at : ℕ) (lo hi : Triple) → lo.first ≤ hi.first → lo.second ≤ hi.second
    → lo.third ≤ hi.third → at ≤ length l → Sound seen_field (λ (x : List ℕ). triple_at x at lo hi) l at
unfolding triple_at
triple_sound l at lo hi h₁ h₂ h₃ h =
    then_sound {B = Triple} (λ (x : List ℕ). whole_number x at lo.first hi.first) _ l at (whole_sound l at lo.first hi.first h₁ h)
    (λ (a p : ℕ) (e : whole_number l at lo.first hi.first ≡ Ok (a, p)) (u : at ≤ p) (w : p ≤ length l).
    then_sound {B = Triple} (λ (x : List ℕ). whole_number x p lo.second hi.second) _ l p (whole_sound l p lo.second hi.second h₂ w)
    (λ (b q : ℕ) (f : whole_number l p lo.second hi.second ≡ Ok (b, q)) (u₂ : p ≤ q) (w₂ : q ≤ length l).
    then_sound {B = Triple} (λ (x : List ℕ). whole_number x q lo.third hi.third) _ l q (whole_sound l q lo.third hi.third h₃ w₂)
    (λ (c n : ℕ) (g : whole_number l q lo.third hi.third ≡ Ok (c, n)) (u₃ : q ≤ n) (w₃ : n ≤ length l).
    sound_value (seen_field {A = Triple}) (Ok (triple a b c, n)) l n w₃ refl)))

pub heading_sound : (l : List ℕ) (at : ℕ) → at ≤ length l → Sound seen_field (λ (x : List ℕ). heading_at x at) l at
unfolding heading_at
heading_sound l at h =
    then_sound {B = Heading} (λ (x : List ℕ). triple_at x at date_from date_to) _ l at
    (triple_sound l at date_from date_to (omega arith) (omega arith) (omega arith) h)
    (λ (d : Triple) (p : ℕ) (e₁ : triple_at l at date_from date_to ≡ Ok (d, p)) (u₁ : at ≤ p) (w₁ : p ≤ length l).
    then_sound {B = Heading} (λ (x : List ℕ). triple_at x p time_from time_to) _ l p
    (triple_sound l p time_from time_to (omega arith) (omega arith) (omega arith) w₁)
    (λ (t : Triple) (q : ℕ) (e₂ : triple_at l p time_from time_to ≡ Ok (t, q)) (u₂ : p ≤ q) (w₂ : q ≤ length l).
    then_sound {B = Heading} (λ (x : List ℕ). whole_number x q characters_least characters_most) _ l q
    (whole_sound l q characters_least characters_most (omega arith) w₂)
    (λ (n a : ℕ) (e₃ : whole_number l q characters_least characters_most ≡ Ok (n, a)) (u₃ : q ≤ a) (w₃ : a ≤ length l).
    then_sound {B = Heading} (λ (x : List ℕ). bit_field x a (character * n)) _ l a (bit_sound l a (character * n) w₃)
    (λ (f b : ℕ) (e₄ : bit_field l a (character * n) ≡ Ok (f, b)) (u₄ : a ≤ b) (w₄ : b ≤ length l).
    then_sound {B = Heading} (λ (x : List ℕ). bit_field x b address_bits) _ l b (bit_sound l b address_bits w₄)
    (λ (y c : ℕ) (e₅ : bit_field l b address_bits ≡ Ok (y, c)) (u₅ : b ≤ c) (w₅ : c ≤ length l).
    then_sound {B = Heading} (λ (x : List ℕ). whole_number x c 0 direction_last) _ l c (whole_sound l c 0 direction_last (omega arith) w₅)
    (λ (z m : ℕ) (e₆ : whole_number l c 0 direction_last ≡ Ok (z, m)) (u₆ : c ≤ m) (w₆ : m ≤ length l).
    sound_value (seen_field {A = Heading}) (Ok (record { date = d; time = t; characters = n; flight = f; address = y; direction = z }, m)) l m w₆ refl))))))

pub forward_sound : (l : List ℕ) (at : ℕ) → at ≤ length l → Sound seen_field (λ (x : List ℕ). forward_at x at) l at
unfolding forward_within
forward_sound l at h =
    then_sound {B = Forward} (λ (x : List ℕ). heading_at x at) _ l at (heading_sound l at h)
    (λ (v : Heading) (p : ℕ) (e : heading_at l at ≡ Ok (v, p)) (u : at ≤ p) (w : p ≤ length l).
    then_sound {B = Forward} (λ (x : List ℕ). string_at x p bit 0 message_most) _ l p (string_sound l p bit 0 message_most w)
    (λ (n m : ℕ) (f : string_at l p bit 0 message_most ≡ Ok (n, m)) (u₂ : p ≤ m) (w₂ : m ≤ length l). sound_value (seen_field {A = Forward}) (Ok (record { heading = v; message = span_to bit n m }, m)) l m w₂ refl))

rest_refusing : (l : List ℕ) (c : Kind) (m at : ℕ) → Bits l → at ≤ length l → Refusing seen_answer (λ (x : List ℕ). rest_at x c m at) l at
unfolding rest_within
rest_refusing l kind.AbortUser m at b h =
    answer_field (λ (x : List ℕ). extensible_index x at user_last)
    (λ (r n : ℕ) (x : List ℕ). ended_at x n (apdu.AbortUser r)) l at (index_sound l at user_last h)
    (λ (r n : ℕ) (e : extensible_index l at user_last ≡ Ok (r, n)) (a : at ≤ n) (w : n ≤ length l). ended_refusing l n (apdu.AbortUser r) b w)
rest_refusing l kind.AbortProvider m at b h =
    answer_field (λ (x : List ℕ). extensible_index x at provider_last)
    (λ (r n : ℕ) (x : List ℕ). ended_at x n (apdu.AbortProvider r)) l at (index_sound l at provider_last h)
    (λ (r n : ℕ) (e : extensible_index l at provider_last ≡ Ok (r, n)) (a : at ≤ n) (w : n ≤ length l). ended_refusing l
    n (apdu.AbortProvider r) b w)
rest_refusing l kind.Start m at b h = parts_refusing (λ (x : List ℕ). data_at x at) l at (apdu.Start m) b (data_sound l at h)
rest_refusing l kind.Send m at b h = parts_refusing (λ (x : List ℕ). data_at x at) l at apdu.Send b (data_sound l at h)
rest_refusing l kind.Forward m at b h = parts_refusing (λ (x : List ℕ). forward_at x at) l at apdu.Forward b (forward_sound l at h)
rest_refusing l kind.ForwardResponse m at b h =
    answer_field (λ (x : List ℕ). extensible_index x at response_last)
    (λ (r n : ℕ) (x : List ℕ). ended_at x n (apdu.ForwardResponse r)) l at (index_sound l at response_last h)
    (λ (r n : ℕ) (e : extensible_index l at response_last ≡ Ok (r, n)) (a : at ≤ n) (w : n ≤ length l). ended_refusing l
    n (apdu.ForwardResponse r) b w)

-- the leading fields, and behind them any rest
pub led_refusing : (rest : List ℕ → Kind → ℕ → ℕ → Result Apdu Refusal) (pdus : PduType) (l : List ℕ)
    → ((c : Kind) (m at : ℕ) → at ≤ length l → Refusing seen_answer (λ (x : List ℕ). rest x c m at) l at)
    → Refusing seen_answer (λ (x : List ℕ). then (leading_at pdus x 0) (λ (c : Kind × ℕ) (n : ℕ). rest x c.0 c.1 n)) l 0
led_refusing rest pdus l on = answer_field (λ (x : List ℕ). leading_at pdus x 0) (λ (c : Kind × ℕ) (n : ℕ) (x : List ℕ). rest x c.0 c.1 n) l 0
    (lead_sound pdus l 0 (omega arith))
    (λ (c : Kind × ℕ) (n : ℕ) (e : leading_at pdus l 0 ≡ Ok (c, n)) (a : 0 ≤ n) (w : n ≤ length l). on c.0 c.1 n w)

-- AN APDU THAT IS REFUSED: its place is within the bits, the field with the fault begins there, and bits behind that field do not matter
pub apdu_refusing : (pdus : PduType) (l : List ℕ) → Bits l → Refusing seen_answer (λ (x : List ℕ). apdu_at pdus x 0) l 0
unfolding apdu_within
apdu_refusing pdus l b = led_refusing rest_at pdus l (λ (c : Kind) (m at : ℕ) (h : at ≤ length l). rest_refusing l c m at b h)

-- and what is delivered by itself, whatever reads it
pub refusing_whole : {A : Type 0} (rd : List ℕ → Reading A) (l : List ℕ) → Bits l → Sound seen_field rd l 0
    → Refusing seen_field (λ (x : List ℕ). then (rd x) (λ (d : A) (next : ℕ). then (tail_at x next) (λ (v m : ℕ). Ok (d, next)))) l 0
refusing_whole {A} rd l b s = refusing_after seen_field (λ (r : Refusal). refl) rd (λ (d : A) (next : ℕ) (x : List ℕ). then (tail_at x next) (λ (v m : ℕ). Ok (d, next))) l 0 s
    (λ (d : A) (n : ℕ) (e : rd l ≡ Ok (d, n)) (a : 0 ≤ n) (w : n ≤ length l). behind_refusing seen_field (λ (r : Refusal). refl) (Ok (d, n)) n refl l n b w)

pub data_refusing_whole : (l : List ℕ) → Bits l → Refusing seen_field whole_data l 0
unfolding whole_within
data_refusing_whole l b = refusing_whole (λ (x : List ℕ). data_at x 0) l b (data_sound l 0 (omega arith))

pub forward_refusing_whole : (l : List ℕ) → Bits l → Refusing seen_field whole_forward l 0
unfolding whole_forward_within
forward_refusing_whole l b = refusing_whole (λ (x : List ℕ). forward_at x 0) l b (forward_sound l 0 (omega arith))
