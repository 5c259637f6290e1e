-- The laws of the alternatives, from those of the bodies that they hold; and the two types of an edition.
-- Assumes nothing.
use mathlib.Core.Path.{◌≡◌, refl, ap, sym, subst, ◌∙◌}
use mathlib.Core.Bool.{Bool, true, false, cond, ◌&&◌}
use mathlib.Core.List.{List, [], ◌++◌}
use Prim.Native.Nat.{ℕ, zero, suc, ◌+◌, ◌-◌, ◌*◌, ◌^◌, ◌≤◌, ◌<◌}
use native.Mathlib.Omega.{arith}
use borrow.Author.Tests.{eq-eqb, leb-true, ltb-true, eqb-true, eqb-false}
use lib.Dec.{leb, ltb, eqb}
use lib.ListN.{length, take, drop, length-append}
use Rattle.words.proofs.Laws.{both_left, both_right, ok_value, ok_place}
use Rattle.bits.specs.Bits.{bits_n}
use Rattle.bits.proofs.Numbers.{Bits, bits_bits_n, length_bits_n}
use Rattle.bits.proofs.Bytes.{bits_append}
use Rattle.fields.specs.Fields.{refused_at, then, bit_field, digits_in, width_of, whole_number, extensible_index}
use Rattle.fields.specs.Encodings.{index_bits, whole_bits, whole_fits}
use Rattle.fields.specs.declared.Refusal.{Refusal}
use Rattle.fields.specs.declared.Fault.TheVariants.{Default}
use Rattle.fields.proofs.RoundTrip.{Stands, stands_join, stands_split, bit_field_is, whole_number_is, extensible_index_is}
use Rattle.fields.proofs.Writers.{length_index, length_whole}
use Rattle.machine.specs.declared.event.UserData.{UserData as Pdu}
use Rattle.machine.specs.declared.event.UserData.TheVariants as pdu
use Rattle.pdus.specs.declared.Content.{Content}
use Rattle.front.specs.declared.Found.{Found}
use Rattle.front.specs.Body.{Lent, one, Body, Alternative, Choice}
use Rattle.front.specs.Runs.{no_content}
use Rattle.front.specs.Alternatives.{with, number_of, enumerated, reach, holding, mode_last, mode_bits, mode_value, mode_at, Moded, behind_mode, moded}
use Rattle.front.specs.Editions.{Edition, response_last, aircraft_body, aircraft_pdus, ground_body, ground_pdus}
use Rattle.front.specs.Apdus.{index_of}
use Rattle.apdu.proofs.Bounds.{never}
use Rattle.apdu.proofs.Contents.{stands_at, stands_none}
use Rattle.front.proofs.Laws.{via, AreBits, Back, alternative_most, body_most, BodyLaws, Laws, ChoiceLaws}
use Rattle.std.specs.Prelude.{Err, Ok}
use Rattle.fields.specs.Fields.{Reading}

-- ---- a number

pub record NumberIs (last : ℕ) (p : ℕ → Pdu) (l : List ℕ) (at next : ℕ) (x : Found) : Type 0 where
  pub number : ℕ
  pub index : extensible_index l at last ≡ Ok (number, next)
  pub pdu : x.pdu ≡ p number
  pub content : x.content ≡ no_content

module _ (last : ℕ) (p : ℕ → Pdu) where
  pub number_is : (l : List ℕ) (at next : ℕ) (x : Found) → (enumerated last p).read l at ≡ Ok (x, next) → NumberIs last p l at next x
  number_is l at next x e =
      via (NumberIs last p l at next x) (extensible_index l at last) _ (x, next) (λ (v n : ℕ) (f : extensible_index l at last ≡ Ok (v, n)) (k : ◌≡◌ {A = Reading Found} (Ok (with (p v) no_content, n)) (Ok (x, next))).
      let y : with (p v) no_content ≡ x = ok_value k in
      let z : n ≡ next = ok_place k in
      record { number = v; index = f ∙ ap (λ (place : ℕ). Ok (v, place)) z; pdu = sym (ap (λ (w : Found). w.pdu) y); content = sym (ap (λ (w : Found). w.content) y) }) e

  module _ (small : last < 2 ^ 64) (keeps : (v : ℕ) → number_of (p v) ≡ v) (width : (v : ℕ) → length (index_bits last v) ≤ alternative_most) where
    number_same : (l : List ℕ) (at next : ℕ) (x : Found) (i : NumberIs last p l at next x) → number_of x.pdu ≡ i.number
    number_same l at next x i = ap number_of i.pdu ∙ keeps i.number

    number_stands : (l : List ℕ) (at next : ℕ) (x : Found) → Bits l → (enumerated last p).read l at ≡ Ok (x, next)
        → Stands l at (index_bits last (number_of x.pdu)) next
    number_stands l at next x b e =
        let i = number_is l at next x e in
        rw (number_same l at next x i) ((extensible_index_is last small).read_written l at i.number next b i.index)

    number_fits : (l : List ℕ) (at next : ℕ) (x : Found) → Bits l → (enumerated last p).read l at ≡ Ok (x, next)
        → whole_fits 0 last (number_of x.pdu) ≡ true
    number_fits l at next x b e =
        let i = number_is l at next x e in
        rw (number_same l at next x i) ((extensible_index_is last small).read_fits l at i.number next b i.index)

    pub enumerated_laws : Laws (enumerated last p)
    enumerated_laws =
        record {
          most = λ (v : ℕ) (h : whole_fits 0 last v ≡ true). width v;
          are_bits = λ (s : Lent) (x : Found) (b : AreBits s). (extensible_index_is last small).are_bits (number_of x.pdu);
          value_fits = λ (s : Lent) (x : Found) (k : AreBits s) (h : whole_fits 0 last (number_of x.pdu) ≡ true). h;
          written_read = λ (l : List ℕ) (at next v : ℕ) (bl : Bits l) (h : whole_fits 0 last v ≡ true)
              (s : Stands l at (index_bits last v) next).
              record { found = with (p v) no_content; read = rw ((extensible_index_is last small).written_read l at v next h s); same = keeps v };
          read_stands = number_fits;
          read_plain = λ (l : List ℕ) (at next : ℕ) (x : Found) (b : Bits l)
              (e : (enumerated last p).read l at ≡ Ok (x, next)). (number_stands l at next x b e).holds;
          unextended = λ (l : List ℕ) (at next : ℕ) (x : Found) (b : Bits l)
              (e : (enumerated last p).read l at ≡ Ok (x, next)) (n : false ≡ false). number_stands l at next x b
              e;
          clear = λ (l : List ℕ) (at next : ℕ) (x : Found) (s : Stands l at (index_bits last (number_of x.pdu)) next). refl;
        }

-- ---- a body

record Held (p : Pdu) (t : Reading Content) (next : ℕ) (x : Found) : Type 0 where
  content : t ≡ Ok (x.content, next)
  pdu : x.pdu ≡ p

held : (p : Pdu) (t : Reading Content) (next : ℕ) (x : Found) → reach p t ≡ Ok (x, next) → Held p t next x
held p (Ok (c, n)) next x e =
    let y : with p c ≡ x = ok_value e in
    let z : n ≡ next = ok_place e in
    record { content = ap (λ (place : ℕ). Ok (c, place)) z ∙ ap (λ (w : Found). Ok (w.content, next)) y; pdu = sym (ap (λ (w : Found). w.pdu) y) }
held p (Err r) next x e = never (cc)

module _ (p : Pdu) (b : Body) (laws : BodyLaws b) where
  holding_stands : (l : List ℕ) (at next : ℕ) (x : Found) → Bits l → reach p (b.read l at) ≡ Ok (x, next)
      → eqb (number_of x.pdu) (number_of p) && b.stands (one l) x.content ≡ true
  holding_stands l at next x bl e =
      let i = held p (b.read l at) next x e in
      rw (eq-eqb (number_of x.pdu) (number_of p) (ap number_of i.pdu)) (laws.read_stands l at next x.content bl i.content)

  pub holding_laws : Laws (holding p b)
  holding_laws =
      record {
        most = λ (v : b.Value) (h : b.fits v ≡ true). let m = laws.most v h in omega arith;
        are_bits = λ (s : Lent) (x : Found). laws.are_bits s x.content;
        value_fits = λ (s : Lent) (x : Found) (k : AreBits s) (h : eqb (number_of x.pdu) (number_of p) && b.stands s x.content ≡ true).
            laws.value_fits s x.content k (both_right (eqb (number_of x.pdu) (number_of p)) (b.stands s x.content) h);
        written_read = λ (l : List ℕ) (at next : ℕ) (v : b.Value) (bl : Bits l) (h : b.fits v ≡ true) (s : Stands l at (b.bits v) next).
            let t = laws.written_read l at next v bl h s in
            record { found = with p t.content; read = ap (reach p) t.read; same = t.same };
        read_stands = holding_stands;
        read_plain = λ (l : List ℕ) (at next : ℕ) (x : Found) (bl : Bits l)
            (e : reach p (b.read l at) ≡ Ok (x, next)). laws.read_plain l at next x.content bl
            (held p (b.read l at) next x e).content;
        unextended = λ (l : List ℕ) (at next : ℕ) (x : Found) (bl : Bits l)
            (e : reach p (b.read l at) ≡ Ok (x, next)). laws.unextended l at next x.content bl
            (held p (b.read l at) next x e).content;
        clear = λ (l : List ℕ) (at next : ℕ) (x : Found). laws.clear l at next x.content;
      }

-- ---- a mode

value_written : (l : List ℕ) (at m next : ℕ) → whole_fits 0 mode_last m ≡ true → eqb m 0 ≡ false
    → Stands l at (whole_bits 0 mode_last m) next → mode_value l at ≡ Ok (m, next)
unfolding mode_value
value_written l at m next h e s = rw ((whole_number_is 0 mode_last (omega arith)).written_read l at m next h s, e)

mode_written : (l : List ℕ) (at m next : ℕ) → whole_fits 0 mode_last m ≡ true → Stands l at (mode_bits m) next → mode_at l at ≡ Ok (m, next)
unfolding mode_bits mode_at
mode_written l at m next h s = go (eqb m 0) refl s
  where
    go : (t : Bool) → eqb m 0 ≡ t → Stands l at (cond t (bits_n 1 0) (bits_n 1 1 ++ whole_bits 0 mode_last m)) next
        → then (bit_field l at 1) (λ (p n : ℕ). cond (eqb p 0) (Ok (0, n)) (mode_value l n)) ≡ Ok (m, next)
    go true e s =
        let z : m ≡ 0 = eqb-true m 0 e in
        rw ((bit_field_is 1).written_read l at 0 next refl s, z)
    go false e s =
        let w = stands_split l at next (bits_n 1 1) (whole_bits 0 mode_last m) s in
        rw ((bit_field_is 1).written_read l at 1 (at + length (bits_n 1 1)) refl w.first)
        (value_written l (at + length (bits_n 1 1)) m next h e w.second)

record ModeIs (l : List ℕ) (at m next : ℕ) : Type 0 where
  fits : whole_fits 0 mode_last m ≡ true
  stands : Stands l at (mode_bits m) next

record ValueIs (l : List ℕ) (at m next : ℕ) : Type 0 where
  other : eqb m 0 ≡ false
  fits : whole_fits 0 mode_last m ≡ true
  stands : Stands l at (whole_bits 0 mode_last m) next

value_read : (l : List ℕ) (at m next : ℕ) → Bits l → mode_value l at ≡ Ok (m, next) → ValueIs l at m next
unfolding mode_value
value_read l at m next b e = via (ValueIs l at m next) (whole_number l at 0 mode_last) _ (m, next) found e
  where
    go : (v n : ℕ) → whole_number l at 0 mode_last ≡ Ok (v, n) → (t : Bool) → eqb v 0 ≡ t
        → cond {A = Reading ℕ} t (refused_at at Default) (Ok (v, n)) ≡ Ok (m, next) → ValueIs l at m next
    go v n f true p k = never (cc)
    go v n f false p k =
        let x : v ≡ m = ok_value k in
        let y : n ≡ next = ok_place k in
        let g : whole_number l at 0 mode_last ≡ Ok (m, next) = rw (← x, ← y) f in
        record { other = rw (← x) p; fits = (whole_number_is 0 mode_last (omega arith)).read_fits l at m next b g; stands = (whole_number_is 0 mode_last (omega arith)).read_written l at m next b g }

    found : (v n : ℕ) → whole_number l at 0 mode_last ≡ Ok (v, n)
        → cond {A = Reading ℕ} (eqb v 0) (refused_at at Default) (Ok (v, n)) ≡ Ok (m, next) → ValueIs l at m next
    found v n f k = go v n f (eqb v 0) refl k

present : (l : List ℕ) (at p m next : ℕ) → Stands l at (bits_n 1 1) p → ValueIs l p m next → ModeIs l at m next
unfolding mode_bits
present l at p m next s v = record { fits = v.fits; stands = rw v.other (stands_join l at p next (bits_n 1 1) (whole_bits 0 mode_last m) s v.stands) }

default : (l : List ℕ) (at next : ℕ) → Stands l at (bits_n 1 0) next → ModeIs l at 0 next
unfolding mode_bits
default l at next s = record { fits = refl; stands = s }

mode_read : (l : List ℕ) (at m next : ℕ) → Bits l → mode_at l at ≡ Ok (m, next) → ModeIs l at m next
unfolding mode_at
mode_read l at m next b e = via (ModeIs l at m next) (bit_field l at 1) _ (m, next) found e
  where
    one_bit : (p : ℕ) → p < 2 → eqb p 0 ≡ false → p ≡ 1
    one_bit p h e =
        let n = eqb-false p 0 e in
        omega arith

    go : (p n : ℕ) → bit_field l at 1 ≡ Ok (p, n) → (t : Bool) → eqb p 0 ≡ t
        → cond t (Ok (0, n)) (mode_value l n) ≡ Ok (m, next) → ModeIs l at m next
    go p n f true q k =
        let x : 0 ≡ m = ok_value k in
        let y : n ≡ next = ok_place k in
        let z : p ≡ 0 = eqb-true p 0 q in
        rw (← x) (default l at next (stands_at l at n next (bits_n 1 0) y (rw z at ((bit_field_is 1).read_written l at p n b f))))
    go p n f false q k =
        let lt : p < 2 ^ 1 = ltb-true p (2 ^ 1) (both_right (leb 1 64) (ltb p (2 ^ 1)) ((bit_field_is 1).read_fits l at p n b f)) in
        let z : p ≡ 1 = one_bit p (omega arith) q in
        present l at n m next (rw z at ((bit_field_is 1).read_written l at p n b f)) (value_read l n m next b k)

    found : (p n : ℕ) → bit_field l at 1 ≡ Ok (p, n) → cond (eqb p 0) (Ok (0, n)) (mode_value l n) ≡ Ok (m, next) → ModeIs l at m next
    found p n f k = go p n f (eqb p 0) refl k

mode_are_bits : (m : ℕ) → Bits (mode_bits m)
unfolding mode_bits
mode_are_bits m = go (eqb m 0)
  where
    go : (t : Bool) → Bits (cond t (bits_n 1 0) (bits_n 1 1 ++ whole_bits 0 mode_last m))
    go true = bits_bits_n 1 0
    go false = bits_append (bits_n 1 1) (whole_bits 0 mode_last m) (bits_bits_n 1 1) ((whole_number_is 0 mode_last (omega arith)).are_bits m)

mode_most : (m : ℕ) → length (mode_bits m) ≤ 2
unfolding mode_bits digits_in
mode_most m = go (eqb m 0)
  where
    go : (t : Bool) → length (cond t (bits_n 1 0) (bits_n 1 1 ++ whole_bits 0 mode_last m)) ≤ 2
    go true = rw (length_bits_n 1 0) (omega arith)
    go false = rw (length-append, length_bits_n, length_whole) (omega arith)

-- a mode as the PDU has it
mode_number : (m : ℕ) → whole_fits 0 mode_last m ≡ true → number_of (pdu.Start (eqb m 1)) ≡ m
mode_number zero h = refl
mode_number (suc zero) h = refl
mode_number (suc (suc n)) h = let k = leb-true (suc (suc n)) mode_last
    (both_right (leb 0 (suc (suc n))) (leb (suc (suc n)) mode_last) h) in absurd (omega arith)

-- ---- a mode and a body

module _ (b : Body) (laws : BodyLaws b) where
  record ModedIs (l : List ℕ) (at next : ℕ) (x : Found) : Type 0 where
    place : ℕ
    mode : ModeIs l at (number_of x.pdu) place
    body : b.read l place ≡ Ok (x.content, next)

  moded_made : (l : List ℕ) (at next m p : ℕ) (x : Found) → Bits l → mode_at l at ≡ Ok (m, p)
      → Held (pdu.Start (eqb m 1)) (b.read l p) next x → ModedIs l at next x
  moded_made l at next m p x bl f i =
      let k = mode_read l at m p bl f in
      let n : number_of x.pdu ≡ m = ap number_of i.pdu ∙ mode_number m k.fits in
      record { place = p; mode = rw n k; body = i.content }

  moded_is : (l : List ℕ) (at next : ℕ) (x : Found) → Bits l → (moded b).read l at ≡ Ok (x, next) → ModedIs l at next x
  moded_is l at next x bl e =
      via (ModedIs l at next x) (mode_at l at) _ (x, next) (λ (m p : ℕ) (f : mode_at l at ≡ Ok (m, p)) (k : reach (pdu.Start (eqb m 1)) (b.read l p) ≡ Ok (x, next)).
      moded_made l at next m p x bl f (held (pdu.Start (eqb m 1)) (b.read l p) next x k)) e

  moded_stands : (l : List ℕ) (at next : ℕ) (x : Found) → Bits l → (moded b).read l at ≡ Ok (x, next)
      → whole_fits 0 mode_last (number_of x.pdu) && b.stands (one l) x.content ≡ true
  moded_stands l at next x bl e =
      let i = moded_is l at next x bl e in
      rw i.mode.fits (laws.read_stands l i.place next x.content bl i.body)

  moded_plain : (l : List ℕ) (at next : ℕ) (x : Found) → Bits l → (moded b).read l at ≡ Ok (x, next)
      → (moded b).plain l at x ≡ (moded b).bits ((moded b).value (one l) x)
  moded_plain l at next x bl e =
      let i = moded_is l at next x bl e in
      let q = laws.read_plain l i.place next x.content bl i.body in
      rw (i.mode.stands.holds, ← i.mode.stands.place, q)

  moded_unextended : (l : List ℕ) (at next : ℕ) (x : Found) → Bits l → (moded b).read l at ≡ Ok (x, next)
      → (moded b).extended l at x ≡ false → Stands l at ((moded b).bits ((moded b).value (one l) x)) next
  moded_unextended l at next x bl e n =
      let i = moded_is l at next x bl e in
      let k : b.extended l i.place x.content ≡ false = subst (λ (p : ℕ). b.extended l p x.content ≡ false)
      (sym i.mode.stands.place) n in
      stands_join l at i.place next _ _ i.mode.stands (laws.unextended l i.place next x.content bl i.body k)

  moded_back : (l : List ℕ) (at next : ℕ) (v : Moded b.Value) → Bits l
      → whole_fits 0 mode_last v.mode && b.fits v.held ≡ true
      → Stands l at (mode_bits v.mode ++ b.bits v.held) next → Back (moded b) l at next v
  moded_back l at next v bl h s =
      let f = both_left (whole_fits 0 mode_last v.mode) (b.fits v.held) h in
      let p : ℕ = at + length (mode_bits v.mode) in
      let w = stands_split l at next (mode_bits v.mode) (b.bits v.held) s in
      let a = mode_written l at v.mode p f w.first in
      let t = laws.written_read l p next v.held bl (both_right (whole_fits 0 mode_last v.mode) (b.fits v.held) h) w.second in
      record { found = with (pdu.Start (eqb v.mode 1)) t.content; read = rw (a, t.read); same = rw (mode_number v.mode f, t.same) }

  pub moded_laws : Laws (moded b)
  moded_laws =
      record {
        most = λ (v : Moded b.Value) (h : whole_fits 0 mode_last v.mode && b.fits v.held ≡ true).
            let m = laws.most v.held (both_right (whole_fits 0 mode_last v.mode) (b.fits v.held) h) in
            let k = mode_most v.mode in
            rw (length-append) (omega arith);
        are_bits = λ (s : Lent) (x : Found) (k : AreBits s). bits_append (mode_bits (number_of x.pdu))
            (b.bits (b.value s x.content)) (mode_are_bits (number_of x.pdu)) (laws.are_bits s x.content k);
        value_fits = λ (s : Lent) (x : Found) (k : AreBits s)
            (h : whole_fits 0 mode_last (number_of x.pdu) && b.stands s x.content ≡ true).
            rw (both_left (whole_fits 0 mode_last (number_of x.pdu)) (b.stands s x.content) h) (laws.value_fits s
            x.content k (both_right (whole_fits 0 mode_last (number_of x.pdu)) (b.stands s x.content) h));
        written_read = moded_back;
        read_stands = moded_stands;
        read_plain = moded_plain;
        unextended = moded_unextended;
        clear = λ (l : List ℕ) (at next : ℕ) (x : Found)
            (s : Stands l at (mode_bits (number_of x.pdu) ++ b.bits (b.value (one l) x.content)) next).
            laws.clear l (behind_mode at x) next x.content (stands_split l at next (mode_bits (number_of x.pdu))
            (b.bits (b.value (one l) x.content)) s).second;
      }

start_named : (b : Body) (l : List ℕ) (at next : ℕ) (x : Found) → (moded b).read l at ≡ Ok (x, next) → index_of x.pdu ≡ 2
start_named b l at next x e =
    via (index_of x.pdu ≡ 2) (mode_at l at) _ (x, next) (λ (m p : ℕ) (f : mode_at l at ≡ Ok (m, p)) (k : reach (pdu.Start (eqb m 1)) (b.read l p) ≡ Ok (x, next)).
    ap index_of (held (pdu.Start (eqb m 1)) (b.read l p) next x k).pdu) e

-- ---- the two types of an edition

pub record EditionLaws (e : Edition) : Type 0 where
  pub user : width_of e.user_last ≤ 4
  pub user_small : e.user_last < 2 ^ 64
  pub provider : width_of e.provider_last ≤ 4
  pub provider_small : e.provider_last < 2 ^ 64
  pub start : BodyLaws e.start
  pub send : BodyLaws e.send
  pub forward : BodyLaws e.forward

reason_most : (last : ℕ) → width_of last ≤ 4 → (v : ℕ) → length (index_bits last v) ≤ alternative_most
reason_most last h v = rw (length_index last v) (omega arith)

width_three : (i : ℕ) → length (index_bits 3 i) ≤ 4
unfolding digits_in
width_three i = rw (length_index 3 i) (omega arith)

width_five : (i : ℕ) → length (index_bits 5 i) ≤ 4
unfolding digits_in
width_five i = rw (length_index 5 i) (omega arith)

response_width : width_of response_last ≤ 4
unfolding digits_in
response_width = omega arith

named_number : (last : ℕ) (p : ℕ → Pdu) (i : ℕ) → ((v : ℕ) → index_of (p v) ≡ i) → (l : List ℕ) (at next : ℕ) (x : Found)
    → (enumerated last p).read l at ≡ Ok (x, next) → index_of x.pdu ≡ i
named_number last p i h l at next x e =
    let k = number_is last p l at next x e in
    ap index_of k.pdu ∙ h k.number

module _ (e : Edition) (laws : EditionLaws e) where
  user_laws : Laws (enumerated e.user_last pdu.AbortUser)
  user_laws = enumerated_laws e.user_last pdu.AbortUser laws.user_small (λ (v : ℕ). refl) (reason_most e.user_last laws.user)

  provider_laws : Laws (enumerated e.provider_last pdu.AbortProvider)
  provider_laws = enumerated_laws e.provider_last pdu.AbortProvider laws.provider_small (λ (v : ℕ). refl)
      (reason_most e.provider_last laws.provider)

  aircraft_body_is : (i : ℕ) → i ≤ 3 → Laws (aircraft_body e i)
  aircraft_body_is zero h = user_laws
  aircraft_body_is (suc zero) h = provider_laws
  aircraft_body_is (suc (suc zero)) h = moded_laws e.start laws.start
  aircraft_body_is (suc (suc (suc n))) h = holding_laws pdu.Send e.send laws.send

  aircraft_named : (i : ℕ) → i ≤ 3 → (l : List ℕ) (at next : ℕ) (x : Found)
      → (aircraft_body e i).read l at ≡ Ok (x, next) → index_of x.pdu ≡ i
  aircraft_named zero h l at next x k = named_number e.user_last pdu.AbortUser 0 (λ (v : ℕ). refl) l at next x k
  aircraft_named (suc zero) h l at next x k = named_number e.provider_last pdu.AbortProvider 1 (λ (v : ℕ). refl) l at next x k
  aircraft_named (suc (suc zero)) h l at next x k = start_named e.start l at next x k
  aircraft_named (suc (suc (suc n))) h l at next x k =
      let z : 3 ≡ suc (suc (suc n)) = omega arith in
      ap index_of (held pdu.Send (e.send.read l at) next x k).pdu ∙ z

  pub aircraft_laws : ChoiceLaws (aircraft_pdus e)
  aircraft_laws = record { small = omega arith; width = width_three; body = aircraft_body_is; named = aircraft_named }

  ground_body_is : (i : ℕ) → i ≤ 5 → Laws (ground_body e i)
  ground_body_is zero h = user_laws
  ground_body_is (suc zero) h = provider_laws
  ground_body_is (suc (suc zero)) h = holding_laws (pdu.Start false) e.start laws.start
  ground_body_is (suc (suc (suc zero))) h = holding_laws pdu.Send e.send laws.send
  ground_body_is (suc (suc (suc (suc zero)))) h = holding_laws pdu.Forward e.forward laws.forward
  ground_body_is (suc (suc (suc (suc (suc n))))) h = enumerated_laws response_last pdu.ForwardResponse (omega arith)
      (λ (v : ℕ). refl) (reason_most response_last response_width)

  ground_named : (i : ℕ) → i ≤ 5 → (l : List ℕ) (at next : ℕ) (x : Found)
      → (ground_body e i).read l at ≡ Ok (x, next) → index_of x.pdu ≡ i
  ground_named zero h l at next x k = named_number e.user_last pdu.AbortUser 0 (λ (v : ℕ). refl) l at next x k
  ground_named (suc zero) h l at next x k = named_number e.provider_last pdu.AbortProvider 1 (λ (v : ℕ). refl) l at next x k
  ground_named (suc (suc zero)) h l at next x k = ap index_of (held (pdu.Start false) (e.start.read l at) next x k).pdu
  ground_named (suc (suc (suc zero))) h l at next x k = ap index_of (held pdu.Send (e.send.read l at) next x k).pdu
  ground_named (suc (suc (suc (suc zero)))) h l at next x k = ap index_of (held pdu.Forward (e.forward.read l at) next x k).pdu
  ground_named (suc (suc (suc (suc (suc n))))) h l at next x k =
      let z : 5 ≡ suc (suc (suc (suc (suc n)))) = omega arith in
      named_number response_last pdu.ForwardResponse 5 (λ (v : ℕ). refl) l at next x k ∙ z

  pub ground_laws : ChoiceLaws (ground_pdus e)
  ground_laws = record { small = omega arith; width = width_five; body = ground_body_is; named = ground_named }
