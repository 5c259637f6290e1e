-- APDUs as bits: what is written reads back as it was, and what is read says where its fields stand.
-- Assumes nothing.
use mathlib.Core.Path.{◌≡◌, refl, ap, sym, ◌∙◌}
use mathlib.Core.Bool.{Bool, true, false, cond, ◌&&◌}
use mathlib.Core.List.{List, [], ◌++◌}
use Prim.Native.Nat.{ℕ, zero, suc, ◌+◌, ◌^◌, ◌≤◌, ◌<◌}
use native.Mathlib.Omega.{arith}
use borrow.Author.Tests.{le-leb, leb-true, ltb-true, eqb-true, eqb-false}
use lib.Dec.{leb, ltb, eqb}
use lib.ListN.{length}
use Rattle.words.proofs.Laws.{both_left, both_right, ok_value, ok_place}
use Rattle.bits.specs.Bits.{bits_n}
use Rattle.bits.proofs.Numbers.{Bits}
use Rattle.fields.specs.Fields.{Reading, refused_at, then, bit_field, whole_number, extensible_index}
use Rattle.fields.specs.Encodings.{index_bits, whole_bits, whole_fits}
use Rattle.fields.specs.declared.Refusal.{Refusal}
use Rattle.fields.specs.declared.Fault.TheVariants.{Default}
use Rattle.fields.proofs.RoundTrip.{Stands, stands_join, stands_split, bit_field_is, whole_number_is, extensible_index_is}
use Rattle.apdu.specs.Sizes.{user_last, provider_last, mode_last, bit}
use Rattle.apdu.specs.Headings.{response_last}
use Rattle.apdu.specs.Pdus.{Pdu, abort_user, abort_provider, start, send, forward, forward_response, last_of, kind_of, index_of, forwards, items_in, pdu_in}
use Rattle.apdu.specs.Encoding.{alternative, content_bits, content_fits, forward_bits, forward_pdu_fits, mode_bits, mode_fits, pdu_bits, pdu_fits}
use Rattle.apdu.specs.Reading.{data_at, forward_at, mode_value, mode_at, kind_mode, leading_at, tail_at, ended_at, rest_within, rest_at, apdu_within, apdu_at}
use Rattle.apdu.specs.Writing.{forward_fits, apdu_fits}
use Rattle.pdus.specs.declared.PduType.{PduType}
use Rattle.pdus.specs.declared.PduType.TheVariants.{AircraftPdus, GroundPdus}
use Rattle.apdu.specs.declared.Kind.{Kind}
use Rattle.apdu.specs.declared.Kind.TheVariants as kind
use Rattle.apdu.specs.declared.Data.{Data}
use Rattle.apdu.specs.declared.Forward.{Forward}
use Rattle.apdu.specs.declared.Apdu.{Apdu}
use Rattle.apdu.specs.declared.Apdu.TheVariants as apdu
use Rattle.apdu.proofs.Bounds.{never}
use Rattle.apdu.proofs.Contents.{stands_at, stands_none, on_value, data_written, DataIs, data_read}
use Rattle.apdu.proofs.Forwards.{forward_written, forward_read}
use Rattle.std.specs.Prelude.{Err, Ok, Result}

-- ---- the mode of a start

value_written : (l : List ℕ) (at m next : ℕ) → whole_fits 0 mode_last m ≡ true → eqb m 0 ≡ false
    → Stands l at (whole_bits 0 mode_last m) next → mode_value l at ≡ Ok (m, next)
unfolding mode_value
value_written l at m next h e s = rw ((whole_number_is 0 mode_last (omega arith)).written_read l at m next h s, e)

pub mode_written : (pdus : PduType) (l : List ℕ) (at m next : ℕ) → mode_fits pdus m ≡ true
    → Stands l at (mode_bits pdus m) next → mode_at pdus l at ≡ Ok (m, next)
unfolding mode_fits mode_bits mode_at
mode_written GroundPdus l at m next h s =
    let z : m ≡ 0 = eqb-true m 0 h in
    let p = s.place in
    let e : at ≡ next = omega arith in
    rw (z, e)
mode_written AircraftPdus l at m next h s = go (eqb m 0) refl s
  where
    go : (t : Bool) → eqb m 0 ≡ t → Stands l at (cond t (bits_n 1 0) (bits_n 1 1 ++ whole_bits 0 mode_last m)) next
        → then (bit_field l at 1) (λ (p n : ℕ). cond (eqb p 0) (Ok (0, n)) (mode_value l n)) ≡ Ok (m, next)
    go true e s =
        let z : m ≡ 0 = eqb-true m 0 e in
        rw ((bit_field_is 1).written_read l at 0 next refl s, z)
    go false e s =
        let w = stands_split l at next (bits_n 1 1) (whole_bits 0 mode_last m) s in
        rw ((bit_field_is 1).written_read l at 1 (at + length (bits_n 1 1)) refl w.first)
        (value_written l (at + length (bits_n 1 1)) m next h e w.second)

pub record ModeIs (pdus : PduType) (l : List ℕ) (at m next : ℕ) : Type 0 where
  pub fits : mode_fits pdus m ≡ true
  pub stands : Stands l at (mode_bits pdus m) next

record ValueIs (l : List ℕ) (at m next : ℕ) : Type 0 where
  other : eqb m 0 ≡ false
  fits : whole_fits 0 mode_last m ≡ true
  stands : Stands l at (whole_bits 0 mode_last m) next

value_read : (l : List ℕ) (at m next : ℕ) → Bits l → mode_value l at ≡ Ok (m, next) → ValueIs l at m next
unfolding mode_value
value_read l at m next b e = on_value (ValueIs l at m next) (m, next) (whole_number l at 0 mode_last) _ found e
  where
    go : (v n : ℕ) → whole_number l at 0 mode_last ≡ Ok (v, n) → (t : Bool) → eqb v 0 ≡ t
        → cond {A = Reading ℕ} t (refused_at at Default) (Ok (v, n)) ≡ Ok (m, next) → ValueIs l at m next
    go v n f true p k = never (cc)
    go v n f false p k =
        let x : v ≡ m = ok_value k in
        let y : n ≡ next = ok_place k in
        let g : whole_number l at 0 mode_last ≡ Ok (m, next) = rw (← x, ← y) f in
        record { other = rw (← x) p; fits = (whole_number_is 0 mode_last (omega arith)).read_fits l at m next b g; stands = (whole_number_is 0 mode_last (omega arith)).read_written l at m next b g }

    found : (v n : ℕ) → whole_number l at 0 mode_last ≡ Ok (v, n)
        → cond {A = Reading ℕ} (eqb v 0) (refused_at at Default) (Ok (v, n)) ≡ Ok (m, next) → ValueIs l at m next
    found v n f k = go v n f (eqb v 0) refl k

present : (l : List ℕ) (at p m next : ℕ) → Stands l at (bits_n 1 1) p → ValueIs l p m next → ModeIs AircraftPdus l at m next
unfolding mode_fits mode_bits
present l at p m next s v = record { fits = v.fits; stands = rw v.other (stands_join l at p next (bits_n 1 1) (whole_bits 0 mode_last m) s v.stands) }

default : (l : List ℕ) (at next : ℕ) → Stands l at (bits_n 1 0) next → ModeIs AircraftPdus l at 0 next
unfolding mode_fits mode_bits
default l at next s = record { fits = refl; stands = s }

pub mode_read : (pdus : PduType) (l : List ℕ) (at m next : ℕ) → Bits l → at ≤ length l → mode_at pdus l at ≡ Ok (m, next)
    → ModeIs pdus l at m next
unfolding mode_at mode_fits mode_bits
mode_read GroundPdus l at m next b h e =
    let x : 0 ≡ m = ok_value e in
    let y : at ≡ next = ok_place e in
    rw (← x) (record { fits = refl; stands = stands_at l at at next [] y (stands_none l at h) })
mode_read AircraftPdus l at m next b h e = on_value (ModeIs AircraftPdus l at m next) (m, next) (bit_field l at 1) _ found e
  where
    one : (p : ℕ) → p < 2 → eqb p 0 ≡ false → p ≡ 1
    one p h e =
        let n = eqb-false p 0 e in
        omega arith

    go : (p n : ℕ) → bit_field l at 1 ≡ Ok (p, n) → (t : Bool) → eqb p 0 ≡ t
        → cond t (Ok (0, n)) (mode_value l n) ≡ Ok (m, next) → ModeIs AircraftPdus l at m next
    go p n f true q k =
        let x : 0 ≡ m = ok_value k in
        let y : n ≡ next = ok_place k in
        let z : p ≡ 0 = eqb-true p 0 q in
        rw (← x) (default l at next (stands_at l at n next (bits_n 1 0) y (rw z at ((bit_field_is 1).read_written l at p n b f))))
    go p n f false q k =
        let lt : p < 2 ^ 1 = ltb-true p (2 ^ 1) (both_right (leb 1 64) (ltb p (2 ^ 1)) ((bit_field_is 1).read_fits l at p n b f)) in
        let z : p ≡ 1 = one p (omega arith) q in
        present l at n m next (rw z at ((bit_field_is 1).read_written l at p n b f)) (value_read l n m next b k)

    found : (p n : ℕ) → bit_field l at 1 ≡ Ok (p, n) → cond (eqb p 0) (Ok (0, n)) (mode_value l n) ≡ Ok (m, next)
        → ModeIs AircraftPdus l at m next
    found p n f k = go p n f (eqb p 0) refl k

-- ---- an APDU, written and read

-- its fields read, to a place where the tail is still to be looked at
pub record FieldsRead (pdus : PduType) (l : List ℕ) (at m : ℕ) (v : Pdu) : Type 0 where
  pub value : Apdu
  pub read : apdu_at pdus l at ≡ ended_at l m value
  pub same : pdu_in l l l value ≡ v

pub record ApduRead (pdus : PduType) (l : List ℕ) (at : ℕ) (v : Pdu) : Type 0 where
  pub value : Apdu
  pub read : apdu_at pdus l at ≡ Ok value
  pub same : pdu_in l l l value ≡ v

pub small : (pdus : PduType) → last_of pdus < 2 ^ 64
small AircraftPdus = omega arith
small GroundPdus = omega arith

pub has : (pdus : PduType) (i : ℕ) → i ≤ 3 → whole_fits 0 (last_of pdus) i ≡ true
has AircraftPdus i h = rw (le-leb 0 i (omega arith), le-leb i 3 h)
has GroundPdus i h = rw (le-leb 0 i (omega arith), le-leb i 5 (omega arith))

pub has_forward : (pdus : PduType) (i : ℕ) → forwards pdus ≡ true → i ≤ 5 → whole_fits 0 (last_of pdus) i ≡ true
has_forward AircraftPdus i e h = never (cc)
has_forward GroundPdus i e h = rw (le-leb 0 i (omega arith), le-leb i 5 h)

pub fields_written : (pdus : PduType) (l : List ℕ) (at m : ℕ) (v : Pdu) → pdu_fits pdus v ≡ true
    → Stands l at (pdu_bits pdus v) m → FieldsRead pdus l at m v
unfolding pdu_fits pdu_bits apdu_within leading_at kind_mode rest_within pdu_in
fields_written pdus l at m (abort_user r) h s =
    let w = stands_split l at m (index_bits (last_of pdus) 0) (index_bits user_last r) s in
    let a = (extensible_index_is (last_of pdus) (small pdus)).written_read l at 0 (at + length (index_bits (last_of pdus) 0))
    (has pdus 0 (omega arith)) w.first in
    let b = (extensible_index_is user_last (omega arith)).written_read l (at + length (index_bits (last_of pdus) 0)) r m h w.second in
    record { value = apdu.AbortUser r; read = rw (a, b); same = refl }
fields_written pdus l at m (abort_provider r) h s =
    let w = stands_split l at m (index_bits (last_of pdus) 1) (index_bits provider_last r) s in
    let a = (extensible_index_is (last_of pdus) (small pdus)).written_read l at 1 (at + length (index_bits (last_of pdus) 1))
    (has pdus 1 (omega arith)) w.first in
    let b = (extensible_index_is provider_last (omega arith)).written_read l (at + length (index_bits (last_of pdus) 1)) r m h w.second in
    record { value = apdu.AbortProvider r; read = rw (a, b); same = refl }
fields_written pdus l at m (start v c) h s =
    let p : ℕ = at + length (index_bits (last_of pdus) 2) in
    let q : ℕ = at + length (index_bits (last_of pdus) 2) + length (mode_bits pdus v) in
    let w = stands_split l at m (index_bits (last_of pdus) 2) (mode_bits pdus v ++ content_bits c) s in
    let u = stands_split l p m (mode_bits pdus v) (content_bits c) w.second in
    let a = (extensible_index_is (last_of pdus) (small pdus)).written_read l at 2 p (has pdus 2 (omega arith)) w.first in
    let b = mode_written pdus l p v q (both_left (mode_fits pdus v) (content_fits c) h) u.first in
    let d = data_written l q m c (both_right (mode_fits pdus v) (content_fits c) h) u.second in
    record { value = apdu.Start v d.parts; read = rw (a, b, d.read); same = ap (start v) d.content }
fields_written pdus l at m (send c) h s =
    let p : ℕ = at + length (index_bits (last_of pdus) 3) in
    let w = stands_split l at m (index_bits (last_of pdus) 3) (content_bits c) s in
    let a = (extensible_index_is (last_of pdus) (small pdus)).written_read l at 3 p (has pdus 3 (omega arith)) w.first in
    let d = data_written l p m c h w.second in
    record { value = apdu.Send d.parts; read = rw (a, d.read); same = ap send d.content }
fields_written pdus l at m (forward x y) h s =
    let p : ℕ = at + length (index_bits (last_of pdus) 4) in
    let w = stands_split l at m (index_bits (last_of pdus) 4) (forward_bits x y) s in
    let a = (extensible_index_is (last_of pdus) (small pdus)).written_read l at 4 p
    (has_forward pdus 4 (both_left (forwards pdus) (forward_pdu_fits x y) h) (omega arith)) w.first in
    let f = forward_written l p m x y (both_right (forwards pdus) (forward_pdu_fits x y) h) w.second in
    record { value = apdu.Forward f.value; read = rw (a, f.read); same = rw (f.heading, f.message) }
fields_written pdus l at m (forward_response r) h s =
    let w = stands_split l at m (index_bits (last_of pdus) 5) (index_bits response_last r) s in
    let a = (extensible_index_is (last_of pdus) (small pdus)).written_read l at 5 (at + length (index_bits (last_of pdus) 5))
    (has_forward pdus 5 (both_left (forwards pdus) (whole_fits 0 response_last r) h) (omega arith)) w.first in
    let b = (extensible_index_is response_last (omega arith)).written_read l (at + length (index_bits (last_of pdus) 5)) r m
    (both_right (forwards pdus) (whole_fits 0 response_last r) h) w.second in
    record { value = apdu.ForwardResponse r; read = rw (a, b); same = refl }

pub ended_well : (l : List ℕ) (at v next : ℕ) (a : Apdu) → tail_at l at ≡ Ok (v, next) → ended_at l at a ≡ Ok a
unfolding ended_at
ended_well l at v next a t = rw t

ended_badly : (l : List ℕ) (at : ℕ) (a : Apdu) (r : Refusal) → tail_at l at ≡ Err r → ended_at l at a ≡ Err r
unfolding ended_at
ended_badly l at a r t = rw t

pub apdu_written : (pdus : PduType) (l : List ℕ) (at m next : ℕ) (v : Pdu) → pdu_fits pdus v ≡ true
    → Stands l at (pdu_bits pdus v) m → tail_at l m ≡ Ok (0, next) → ApduRead pdus l at v
apdu_written pdus l at m next v h s t =
    let f = fields_written pdus l at m v h s in
    record { value = f.value; read = f.read ∙ ended_well l m 0 next f.value t; same = f.same }

-- all fields stand, and the tail is not right
pub tail_refused : (pdus : PduType) (l : List ℕ) (at m : ℕ) (v : Pdu) (r : Refusal) → pdu_fits pdus v ≡ true
    → Stands l at (pdu_bits pdus v) m → tail_at l m ≡ Err r → apdu_at pdus l at ≡ Err r
tail_refused pdus l at m v r h s t =
    let f = fields_written pdus l at m v h s in
    f.read ∙ ended_badly l m f.value r t

-- ---- an APDU, read and written

-- message data behind the bits that lead to it
pub record Led (l : List ℕ) (at next : ℕ) (d : Data) (bs : List ℕ) : Type 0 where
  pub place : ℕ
  pub lead : Stands l at bs place
  pub held : DataIs l place next d

-- the fields of an APDU stand at a place, up to where the tail begins
abbrev pub Standing : PduType → List ℕ → ℕ → ℕ → Apdu → Type 0
Standing pdus l at next (apdu.AbortUser r) = Stands l at (alternative pdus kind.AbortUser ++ index_bits user_last r) next
Standing pdus l at next (apdu.AbortProvider r) = Stands l at (alternative pdus kind.AbortProvider ++ index_bits provider_last r) next
Standing pdus l at next (apdu.Start m d) = Led l at next d (alternative pdus kind.Start ++ mode_bits pdus m)
Standing pdus l at next (apdu.Send d) = Led l at next d (alternative pdus kind.Send)
Standing pdus l at next (apdu.Forward f) = Stands l at
    (alternative pdus kind.Forward ++ forward_bits f.heading (items_in l bit f.message)) next
Standing pdus l at next (apdu.ForwardResponse x) = Stands l at (alternative pdus kind.ForwardResponse ++ index_bits response_last x) next

pub record ApduIs (pdus : PduType) (l : List ℕ) (at : ℕ) (a : Apdu) : Type 0 where
  pub place : ℕ
  pub left : ℕ
  pub end : ℕ
  pub placed_fits : apdu_fits pdus l l l a ≡ true
  pub stands : Standing pdus l at place a
  pub tail : tail_at l place ≡ Ok (left, end)

pub record Ended (l : List ℕ) (at : ℕ) (a b : Apdu) : Type 0 where
  pub left : ℕ
  pub end : ℕ
  pub tail : tail_at l at ≡ Ok (left, end)
  pub same : b ≡ a

pub ended_is : (l : List ℕ) (at : ℕ) (a b : Apdu) → ended_at l at b ≡ Ok a → Ended l at a b
unfolding ended_at
ended_is l at a b e = on_value (Ended l at a b) a (tail_at l at) _ found e
  where
    found : (v n : ℕ) → tail_at l at ≡ Ok (v, n) → ◌≡◌ {A = Result Apdu Refusal} (Ok b) (Ok a) → Ended l at a b
    found v n f k = record { left = v; end = n; tail = f; same = cc }

-- the alternative that was read
pub record LeadIs (pdus : PduType) (l : List ℕ) (at : ℕ) (c : Kind) (m next : ℕ) : Type 0 where
  pub place : ℕ
  pub most : index_of c ≤ last_of pdus
  pub stands : Stands l at (index_bits (last_of pdus) (index_of c)) place
  pub mode : kind_mode pdus l c place ≡ Ok (m, next)

index_kind : (i : ℕ) → i ≤ 5 → index_of (kind_of i) ≡ i
index_kind zero h = refl
index_kind (suc zero) h = refl
index_kind (suc (suc zero)) h = refl
index_kind (suc (suc (suc zero))) h = refl
index_kind (suc (suc (suc (suc zero)))) h = refl
index_kind (suc (suc (suc (suc (suc zero))))) h = refl
index_kind (suc (suc (suc (suc (suc (suc n)))))) h = absurd (omega arith)

last_most : (pdus : PduType) (i : ℕ) → i ≤ last_of pdus → i ≤ 5
last_most AircraftPdus i h = omega arith
last_most GroundPdus i h = h

pub lead_read : (pdus : PduType) (l : List ℕ) (at : ℕ) (c : Kind) (m next : ℕ) → Bits l
    → leading_at pdus l at ≡ Ok ((c, m), next) → LeadIs pdus l at c m next
unfolding leading_at
lead_read pdus l at c m next b e = on_value (LeadIs pdus l at c m next) ((c, m), next) (extensible_index l at (last_of pdus)) _ first e
  where
    second : (i p : ℕ) → extensible_index l at (last_of pdus) ≡ Ok (i, p) → (v q : ℕ)
        → kind_mode pdus l (kind_of i) p ≡ Ok (v, q) → ◌≡◌ {A = Reading (Kind × ℕ)} (Ok ((kind_of i, v), q)) (Ok ((c, m), next))
        → LeadIs pdus l at c m next
    second i p f v q g k =
        let w : ◌≡◌ {A = Kind × ℕ} (kind_of i, v) (c, m) = ok_value k in
        let x : kind_of i ≡ c = ap (λ (p : Kind × ℕ). p.0) w in
        let y : v ≡ m = ap (λ (p : Kind × ℕ). p.1) w in
        let z : q ≡ next = ok_place k in
        let h : i ≤ last_of pdus = leb-true i (last_of pdus) (both_right (leb 0 i) (leb i (last_of pdus))
        ((extensible_index_is (last_of pdus) (small pdus)).read_fits l at i p b f)) in
        let j : i ≡ index_of c = sym (index_kind i (last_most pdus i h)) ∙ ap index_of x in
        let s : Stands l at (index_bits (last_of pdus) i) p = (extensible_index_is (last_of pdus) (small pdus)).read_written l at i p b f in
        record { place = p; most = rw (← j) h; stands = rw (← j) s; mode = rw (← x, ← y, ← z) g }

    first : (i p : ℕ) → extensible_index l at (last_of pdus) ≡ Ok (i, p)
        → then {A = ℕ} {B = (Kind × ℕ) × ℕ} (kind_mode pdus l (kind_of i) p) (λ (v q : ℕ). Ok ((kind_of i, v), q)) ≡ Ok ((c, m), next)
        → LeadIs pdus l at c m next
    first i p f k = on_value (LeadIs pdus l at c m next) ((c, m), next) (kind_mode pdus l (kind_of i) p) _ (second i p f) k

-- what follows each alternative
pub record Stood (pdus : PduType) (l : List ℕ) (at : ℕ) (a : Apdu) (next : ℕ) : Type 0 where
  pub placed_fits : apdu_fits pdus l l l a ≡ true
  pub stands : Standing pdus l at next a

ended_read : (pdus : PduType) (l : List ℕ) (at n : ℕ) (a b : Apdu) → Stood pdus l at b n → ended_at l n b ≡ Ok a → ApduIs pdus l at a
ended_read pdus l at n a b u k =
    let e = ended_is l n a b k in
    rw (← e.same) (record { place = n; left = e.left; end = e.end; placed_fits = u.placed_fits; stands = u.stands; tail = e.tail })

pub record ReasonIs (l : List ℕ) (at n r most : ℕ) (bs : List ℕ) : Type 0 where
  pub fits : whole_fits 0 most r ≡ true
  pub stands : Stands l at (bs ++ index_bits most r) n

pub reason_is : (l : List ℕ) (at p n r most : ℕ) (bs : List ℕ) → Bits l → most < 2 ^ 64 → Stands l at bs p
    → extensible_index l p most ≡ Ok (r, n) → ReasonIs l at n r most bs
reason_is l at p n r most bs h lt s f =
    record { fits = (extensible_index_is most lt).read_fits l p r n h f; stands = stands_join l at p n bs (index_bits most r) s ((extensible_index_is most lt).read_written l p r n h f) }

pub user_stood : (pdus : PduType) (l : List ℕ) (at p n r : ℕ) → Bits l → Stands l at (index_bits (last_of pdus) 0) p
    → extensible_index l p user_last ≡ Ok (r, n) → Stood pdus l at (apdu.AbortUser r) n
unfolding apdu_fits
user_stood pdus l at p n r b s f =
    let i = reason_is l at p n r user_last (index_bits (last_of pdus) 0) b (omega arith) s f in
    record { placed_fits = i.fits; stands = i.stands }

pub provider_stood : (pdus : PduType) (l : List ℕ) (at p n r : ℕ) → Bits l → Stands l at (index_bits (last_of pdus) 1) p
    → extensible_index l p provider_last ≡ Ok (r, n) → Stood pdus l at (apdu.AbortProvider r) n
unfolding apdu_fits
provider_stood pdus l at p n r b s f =
    let i = reason_is l at p n r provider_last (index_bits (last_of pdus) 1) b (omega arith) s f in
    record { placed_fits = i.fits; stands = i.stands }

pub start_stood : (pdus : PduType) (l : List ℕ) (at p q n m : ℕ) (d : Data) → Bits l
    → Stands l at (index_bits (last_of pdus) 2) p → mode_at pdus l p ≡ Ok (m, q) → data_at l q ≡ Ok (d, n)
    → Stood pdus l at (apdu.Start m d) n
unfolding apdu_fits
start_stood pdus l at p q n m d b s f g =
    let sp = s.place in
    let sw = s.within in
    let v = mode_read pdus l p m q b (omega arith) f in
    let w = data_read l q n d b g in
    record { placed_fits = rw v.fits w.placed_fits; stands = record { place = q; lead = stands_join l at p q _ _ s v.stands; held = w } }

pub send_stood : (pdus : PduType) (l : List ℕ) (at p n : ℕ) (d : Data) → Bits l
    → Stands l at (index_bits (last_of pdus) 3) p → data_at l p ≡ Ok (d, n) → Stood pdus l at (apdu.Send d) n
unfolding apdu_fits
send_stood pdus l at p n d b s g =
    let w = data_read l p n d b g in
    record { placed_fits = w.placed_fits; stands = record { place = p; lead = s; held = w } }

pub value_place : (p m q : ℕ) → ◌≡◌ {A = Reading ℕ} (Ok (0, p)) (Ok (m, q)) → p ≡ q
value_place p m q e = ok_place e

-- what is read as one of the last two alternatives is GroundPDUs
pub ground_only : (pdus : PduType) (i : ℕ) → i ≤ last_of pdus → 3 < i → forwards pdus ≡ true
ground_only AircraftPdus i h g = absurd (omega arith)
ground_only GroundPdus i h g = refl

pub forward_stood : (pdus : PduType) (l : List ℕ) (at p n : ℕ) (f : Forward) → Bits l → forwards pdus ≡ true
    → Stands l at (index_bits (last_of pdus) 4) p → forward_at l p ≡ Ok (f, n) → Stood pdus l at (apdu.Forward f) n
unfolding apdu_fits
forward_stood pdus l at p n f b y s g =
    let w = forward_read l p f n b g in
    record { placed_fits = rw y w.placed_fits; stands = stands_join l at p n _ _ s w.stands }

pub response_stood : (pdus : PduType) (l : List ℕ) (at p n r : ℕ) → Bits l → forwards pdus ≡ true
    → Stands l at (index_bits (last_of pdus) 5) p → extensible_index l p response_last ≡ Ok (r, n)
    → Stood pdus l at (apdu.ForwardResponse r) n
unfolding apdu_fits
response_stood pdus l at p n r b y s g =
    let i = reason_is l at p n r response_last (index_bits (last_of pdus) 5) b (omega arith) s g in
    record { placed_fits = rw y i.fits; stands = i.stands }

rest_read : (pdus : PduType) (l : List ℕ) (at p : ℕ) (c : Kind) (m q : ℕ) (a : Apdu) → Bits l
    → (index_of c ≤ last_of pdus) → Stands l at (index_bits (last_of pdus) (index_of c)) p → kind_mode pdus l c p ≡ Ok (m, q)
    → rest_at l c m q ≡ Ok a → ApduIs pdus l at a
unfolding kind_mode rest_within
rest_read pdus l at p kind.AbortUser m q a b h s f k =
    on_value (ApduIs pdus l at a) a (extensible_index l q user_last) _
    (λ (r n : ℕ) (g : extensible_index l q user_last ≡ Ok (r, n)) (e : ended_at l n (apdu.AbortUser r) ≡ Ok a).
    ended_read pdus l at n a (apdu.AbortUser r)
    (user_stood pdus l at q n r b (stands_at l at p q _ (value_place p m q f) s) g) e) k
rest_read pdus l at p kind.AbortProvider m q a b h s f k =
    on_value (ApduIs pdus l at a) a (extensible_index l q provider_last) _
    (λ (r n : ℕ) (g : extensible_index l q provider_last ≡ Ok (r, n))
    (e : ended_at l n (apdu.AbortProvider r) ≡ Ok a). ended_read pdus l at n a (apdu.AbortProvider r)
    (provider_stood pdus l at q n r b (stands_at l at p q _ (value_place p m q f) s) g) e) k
rest_read pdus l at p kind.Start m q a b h s f k =
    on_value (ApduIs pdus l at a) a (data_at l q) _ (λ (d : Data) (n : ℕ) (g : data_at l q ≡ Ok (d, n))
    (e : ended_at l n (apdu.Start m d) ≡ Ok a). ended_read pdus l at n a (apdu.Start m d)
    (start_stood pdus l at p q n m d b s f g) e) k
rest_read pdus l at p kind.Send m q a b h s f k =
    on_value (ApduIs pdus l at a) a (data_at l q) _ (λ (d : Data) (n : ℕ) (g : data_at l q ≡ Ok (d, n))
    (e : ended_at l n (apdu.Send d) ≡ Ok a). ended_read pdus l at n a (apdu.Send d)
    (send_stood pdus l at q n d b (stands_at l at p q _ (value_place p m q f) s) g) e) k
rest_read pdus l at p kind.Forward m q a b h s f k =
    on_value (ApduIs pdus l at a) a (forward_at l q) _ (λ (x : Forward) (n : ℕ) (g : forward_at l q ≡ Ok (x, n)) (e : ended_at l n (apdu.Forward x) ≡ Ok a).
    ended_read pdus l at n a (apdu.Forward x) (forward_stood pdus l at q n x b (ground_only pdus 4 h (omega arith))
    (stands_at l at p q _ (value_place p m q f) s) g) e) k
rest_read pdus l at p kind.ForwardResponse m q a b h s f k =
    on_value (ApduIs pdus l at a) a (extensible_index l q response_last) _
    (λ (r n : ℕ) (g : extensible_index l q response_last ≡ Ok (r, n))
    (e : ended_at l n (apdu.ForwardResponse r) ≡ Ok a). ended_read pdus l at n a
    (apdu.ForwardResponse r) (response_stood pdus l at q n r b (ground_only pdus 5 h (omega arith))
    (stands_at l at p q _ (value_place p m q f) s) g) e) k

pub apdu_read : (pdus : PduType) (l : List ℕ) (at : ℕ) (a : Apdu) → Bits l → apdu_at pdus l at ≡ Ok a → ApduIs pdus l at a
unfolding apdu_within
apdu_read pdus l at a b e = on_value (ApduIs pdus l at a) a (leading_at pdus l at) _ found e
  where
    found : (lead : Kind × ℕ) (n : ℕ) → leading_at pdus l at ≡ Ok (lead, n) → rest_at l lead.0 lead.1 n ≡ Ok a → ApduIs pdus l at a
    found (c, m) n f k =
        let i = lead_read pdus l at c m n b f in
        rest_read pdus l at i.place c m n a b i.most i.stands i.mode k
