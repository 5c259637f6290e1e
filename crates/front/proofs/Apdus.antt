-- APDUs as bits, over any choice of bodies: what is written reads back as it was, and what is read says where its fields stand.
-- Assumes nothing.
use mathlib.Core.Path.{◌≡◌, refl, ap, sym, subst, ◌∙◌}
use mathlib.Core.Bool.{Bool, true, false, ◌&&◌}
use mathlib.Core.List.{List, ◌++◌}
use Prim.Native.Nat.{ℕ, ◌+◌, ◌≤◌, ◌<◌}
use native.Mathlib.Omega.{arith}
use borrow.Author.Tests.{leb-true}
use lib.Dec.{leb}
use lib.ListN.{length}
use Rattle.words.proofs.Laws.{both_left, both_right}
use Rattle.bits.proofs.Numbers.{Bits}
use Rattle.fields.specs.Fields.{extensible_index}
use Rattle.fields.specs.Encodings.{index_bits, whole_fits}
use Rattle.fields.specs.declared.Refusal.{Refusal}
use Rattle.fields.proofs.RoundTrip.{Stands, stands_split, extensible_index_is}
use Rattle.front.specs.declared.Found.{Found}
use Rattle.front.specs.Padding.{tail_at}
use Rattle.front.specs.Body.{Lent, one, Alternative, Choice}
use Rattle.front.specs.Apdus.{Apdu, apdu, apdu_fits, apdu_bits, ended_at, apdu_at, index_of, body_of, found_fits, apdu_in}
use Rattle.apdu.proofs.Bounds.{never}
use Rattle.front.proofs.Laws.{via, Back, Laws, ChoiceLaws}
use Rattle.std.specs.Prelude.{Err, Ok, Result}

-- ---- an APDU, written and read

-- its fields read, to a place where the tail is still to be looked at
pub record FieldsRead (c : Choice) (l : List ℕ) (at m : ℕ) (v : Apdu c) : Type 0 where
  pub found : Found
  pub read : apdu_at c l at ≡ ended_at l found m
  pub same : apdu_in c (one l) found ≡ v

pub record ApduRead (c : Choice) (l : List ℕ) (at : ℕ) (v : Apdu c) : Type 0 where
  pub found : Found
  pub read : apdu_at c l at ≡ Ok found
  pub same : apdu_in c (one l) found ≡ v

ended_well : (l : List ℕ) (x : Found) (at v next : ℕ) → tail_at l at ≡ Ok (v, next) → ended_at l x at ≡ Ok x
unfolding ended_at
ended_well l x at v next t = rw t

ended_badly : (l : List ℕ) (x : Found) (at : ℕ) (r : Refusal) → tail_at l at ≡ Err r → ended_at l x at ≡ Err r
unfolding ended_at
ended_badly l x at r t = rw t

module _ (c : Choice) (laws : ChoiceLaws c) where
  pub index_most : (i : ℕ) → whole_fits 0 c.last i ≡ true → i ≤ c.last
  index_most i h = leb-true i c.last (both_right (leb 0 i) (leb i c.last) h)

  -- what stands for a value of an alternative, by the alternative that it says itself
  in-alternative : (l : List ℕ) (i : ℕ) (x : Found) (v : (c.body i).Value) → index_of x.pdu ≡ i
      → (c.body i).value (one l) x ≡ v → apdu_in c (one l) x ≡ apdu c i v
  in-alternative l i x v e same = ap (λ (j : ℕ). apdu c j ((c.body j).value (one l) x)) e ∙ ap (apdu c i) same

  pub fields_written : (l : List ℕ) (at m : ℕ) (v : Apdu c) → Bits l → apdu_fits c v ≡ true
      → Stands l at (apdu_bits c v) m → FieldsRead c l at m v
  unfolding apdu_fits apdu_bits apdu_at
  fields_written l at m v bl h s =
      let i : ℕ = v.index in
      let p : ℕ = at + length (index_bits c.last v.index) in
      let f = both_left (whole_fits 0 c.last v.index) ((c.body v.index).fits v.held) h in
      let w = stands_split l at m (index_bits c.last v.index) ((c.body v.index).bits v.held) s in
      let a = (extensible_index_is c.last laws.small).written_read l at v.index p f w.first in
      let b = (laws.body v.index (index_most v.index f)).written_read l p m v.held bl
      (both_right (whole_fits 0 c.last v.index) ((c.body v.index).fits v.held) h) w.second in
      let n = laws.named v.index (index_most v.index f) l p m b.found b.read in
      record { found = b.found; read = rw (a, b.read); same = in-alternative l v.index b.found v.held n b.same }

  pub apdu_written : (l : List ℕ) (at m next : ℕ) (v : Apdu c) → Bits l → apdu_fits c v ≡ true
      → Stands l at (apdu_bits c v) m → tail_at l m ≡ Ok (0, next) → ApduRead c l at v
  apdu_written l at m next v bl h s t =
      let f = fields_written l at m v bl h s in
      record { found = f.found; read = f.read ∙ ended_well l f.found m 0 next t; same = f.same }

  -- all fields stand, and the tail is not right
  pub tail_refused : (l : List ℕ) (at m : ℕ) (v : Apdu c) (r : Refusal) → Bits l → apdu_fits c v ≡ true
      → Stands l at (apdu_bits c v) m → tail_at l m ≡ Err r → apdu_at c l at ≡ Err r
  tail_refused l at m v r bl h s t =
      let f = fields_written l at m v bl h s in
      f.read ∙ ended_badly l f.found m r t

-- ---- an APDU, read and written

pub record ApduIs (c : Choice) (l : List ℕ) (at : ℕ) (x : Found) : Type 0 where
  pub place : ℕ
  pub next : ℕ
  pub left : ℕ
  pub end : ℕ
  pub index : whole_fits 0 c.last (index_of x.pdu) ≡ true
  pub front : Stands l at (index_bits c.last (index_of x.pdu)) place
  pub body : (body_of c x).read l place ≡ Ok (x, next)
  pub tail : tail_at l next ≡ Ok (left, end)

module _ (c : Choice) (laws : ChoiceLaws c) (l : List ℕ) (at : ℕ) (x : Found) (b : Bits l) where
  made : (i p n v m : ℕ) → index_of x.pdu ≡ i → extensible_index l at c.last ≡ Ok (i, p)
      → (c.body i).read l p ≡ Ok (x, n) → tail_at l n ≡ Ok (v, m) → ApduIs c l at x
  made i p n v m e f g t =
      record {
        place = p;
        next = n;
        left = v;
        end = m;
        index = rw e ((extensible_index_is c.last laws.small).read_fits l at i p b f);
        front = rw e ((extensible_index_is c.last laws.small).read_written l at i p b f);
        body = subst (λ (j : ℕ). (c.body j).read l p ≡ Ok (x, n)) (sym e) g;
        tail = t;
      }

  pub apdu_read : apdu_at c l at ≡ Ok x → ApduIs c l at x
  unfolding apdu_at ended_at
  apdu_read e =
      via (ApduIs c l at x) (extensible_index l at c.last) _ x
      (λ (i p : ℕ) (f : extensible_index l at c.last ≡ Ok (i, p)).
      via (ApduIs c l at x) ((c.body i).read l p) _ x (λ (y : Found) (n : ℕ) (g : (c.body i).read l p ≡ Ok (y, n)).
      via (ApduIs c l at x) (tail_at l n) _ x (λ (v m : ℕ) (t : tail_at l n ≡ Ok (v, m)) (k : Ok y ≡ Ok x).
      let z : y ≡ x = cc in
      let g' : (c.body i).read l p ≡ Ok (x, n) = g ∙ ap (λ (w : Found). Ok (w, n)) z in
      let h = index_most c laws i ((extensible_index_is c.last laws.small).read_fits l at i p b f) in
      made i p n v m (laws.named i h l p n x g') f g' t))) e
