-- The header: what is written is read back, and what is read stands there.
-- Assumes nothing.
use mathlib.Core.Path.{◌≡◌, refl, sym, ap, ◌∙◌}
use mathlib.Core.Bool.{Bool, true, false, cond, ◌&&◌}
use mathlib.Core.List.{List, [], ◌++◌}
use Prim.Native.Nat.{ℕ, zero, suc, ◌+◌, ◌*◌, ◌%◌, ◌≤◌}
use native.Mathlib.Omega.{arith}
use native.Mathlib.Nat.{add-zero}
use lib.ListN.{length}
use lib.Dec.{eqb, leb}
use borrow.Author.Tests.{eqb-true, eqb-false}
use Rattle.words.proofs.Laws.{both_left, both_right, ok_place, ok_value}
use Rattle.bits.proofs.Numbers.{Bits}
use Rattle.fields.specs.Fields.{Reading, then, refused_at, whole_number}
use Rattle.fields.specs.Encodings.{whole_bits, whole_fits}
use Rattle.fields.specs.declared.Refusal.{Refusal}
use Rattle.fields.specs.declared.Fault.TheVariants as fault
use Rattle.elements.specs.declared.values.Time.{Time}
use Rattle.inner.specs.declared.values.DateTime.{DateTime}
use Rattle.inner.specs.declared.values.Header.{Header}
use Rattle.elements.specs.Arguments.{flag, time_fits, time_bits, time_at}
use Rattle.inner.specs.Headers.{date_time_fits, date_time_bits, time_of_day_at, date_time_at, presence, reference_fits, reference_bits, reference_at, acknowledgement_bits, acknowledgement_at, header_fits, header_bits, header_of, dated_at, header_at}
use Rattle.elements.proofs.Standing.{Stands, stands_join, stands_split, stands_as, stands_nothing}
use Rattle.elements.proofs.Steps.{never, then_is}
use Rattle.elements.proofs.Whole.{ranged, whole_reads, whole_stands, whole_below, whole_most}
use Rattle.elements.proofs.Times.{time_reads, time_stands}
use Rattle.std.specs.Prelude.{Err, Ok}

-- ---- date and time

pub date_time_reads : (l : List ℕ) (at next : ℕ) (x : DateTime) → Stands l at (date_time_fits x) (date_time_bits x) next
    → date_time_at l at ≡ Ok (x, next)
unfolding date_time_fits date_time_bits date_time_at time_of_day_at
date_time_reads l at next x s =
    let y : List ℕ = whole_bits 1996 2095 x.year in
    let m : List ℕ = whole_bits 1 12 x.month in
    let d : List ℕ = whole_bits 1 31 x.day in
    let e = stands_split l at next
    (whole_fits 1996 2095 x.year && whole_fits 1 12 x.month && whole_fits 1 31 x.day && time_fits x.time)
    (whole_fits 0 59 x.seconds) (y ++ m ++ d ++ time_bits x.time) (whole_bits 0 59 x.seconds) s in
    let c = stands_split l at _ (whole_fits 1996 2095 x.year && whole_fits 1 12 x.month && whole_fits 1 31 x.day)
    (time_fits x.time) (y ++ m ++ d) (time_bits x.time) e.0 in
    let b = stands_split l at _ (whole_fits 1996 2095 x.year && whole_fits 1 12 x.month) (whole_fits 1 31 x.day) (y ++ m) d c.0 in
    let a = stands_split l at _ (whole_fits 1996 2095 x.year) (whole_fits 1 12 x.month) y m b.0 in
    rw (
      whole_reads l at 1996 2095 x.year _ (ranged 1996 2095 tt tt) a.0,
      whole_reads l _ 1 12 x.month _ (ranged 1 12 tt tt) a.1,
      whole_reads l _ 1 31 x.day _ (ranged 1 31 tt tt) b.1,
      time_reads l _ _ x.time c.1,
      whole_reads l _ 0 59 x.seconds next (ranged 0 59 tt tt) e.1,
    )

pub date_time_stands : (l : List ℕ) (at next : ℕ) (x : DateTime) → Bits l → date_time_at l at ≡ Ok (x, next)
    → Stands l at (date_time_fits x) (date_time_bits x) next
unfolding date_time_fits date_time_bits date_time_at time_of_day_at
date_time_stands l at next x bits h =
    then_is (whole_number l at 1996 2095) _ (x, next)
    (λ (y p : ℕ) (ey : whole_number l at 1996 2095 ≡ Ok (y, p)) (hy : _). then_is (whole_number l p 1 12) _ (x, next)
    (λ (m q : ℕ) (em : whole_number l p 1 12 ≡ Ok (m, q)) (hm : _). then_is (whole_number l q 1 31) _ (x, next)
    (λ (d r : ℕ) (ed : whole_number l q 1 31 ≡ Ok (d, r)) (hd : _). then_is (time_at l r) _ (x, next)
    (λ (t : Time) (u : ℕ) (et : time_at l r ≡ Ok (t, u)) (ht : _). then_is (whole_number l u 0 59) _ (x, next)
    (λ (s n : ℕ) (es : whole_number l u 0 59 ≡ Ok (s, n)) (hs : Ok (record { year = y; month = m; day = d; time = t; seconds = s }, n) ≡ Ok (x, next)).
    let i : ◌≡◌ {A = DateTime} (record { year = y; month = m; day = d; time = t; seconds = s }) x = ok_value hs in
    let j : n ≡ next = ok_place hs in
    rw (← i, ← j) (stands_join l at u n _ _ _ _ (stands_join l at r u _ _ _ _ (stands_join l at q r _ _ _ _ (
    stands_join l at p q _ _ _ _ (whole_stands l at 1996 2095 y p bits ey)
    (whole_stands l p 1 12 m q bits em)) (whole_stands l q 1 31 d r bits ed))
    (time_stands l r u t bits et)) (whole_stands l u 0 59 s n bits es)))
    ht)
    hd)
    hm)
    hy)
    h

-- ---- what may be absent

pub reference_reads : (l : List ℕ) (at next n : ℕ) (b : Bool) → Stands l at (reference_fits b n) (reference_bits b n) next
    → reference_at l at b ≡ Ok (n, next)
unfolding reference_fits reference_bits reference_at
reference_reads l at next n true s = whole_reads l at 0 63 n next (ranged 0 63 tt tt) s
reference_reads l at next n false s = rw (eqb-true n 0 s.fits, s.place ∙ add-zero at)

pub reference_stands : (l : List ℕ) (at next n : ℕ) (b : Bool) → Bits l → reference_at l at b ≡ Ok (n, next)
    → Stands l at (reference_fits b n) (reference_bits b n) next
unfolding reference_fits reference_bits reference_at
reference_stands l at next n true bits h = whole_stands l at 0 63 n next bits h
reference_stands l at next n false bits h =
    let i : 0 ≡ n = ok_value h in
    let j : at ≡ next = ok_place h in
    rw (← i, ← j) (stands_nothing l at true refl)

pub reference_most : (l : List ℕ) (at v next : ℕ) (b : Bool) (f : Reading ℕ) → f ≡ reference_at l at b → f ≡ Ok (v, next) → v ≤ 63
unfolding reference_at
reference_most l at v next true f p q = whole_most l at 0 63 v next f p q
reference_most l at v next false f p q = let i : 0 ≡ v = ok_value (sym p ∙ q) in omega arith

pub ack_reads : (l : List ℕ) (at next : ℕ) (b : Bool) → Stands l at true (acknowledgement_bits b) next
    → acknowledgement_at l at b ≡ Ok (0, next)
unfolding acknowledgement_bits acknowledgement_at
ack_reads l at next true s = rw (whole_reads l at 0 1 0 next (ranged 0 1 tt tt) (stands_as l at next _ _ _ refl s))
ack_reads l at next false s = rw (s.place ∙ add-zero at)

pub ack_stands : (l : List ℕ) (at next v : ℕ) (b : Bool) → Bits l → acknowledgement_at l at b ≡ Ok (v, next)
    → Stands l at true (acknowledgement_bits b) next
unfolding acknowledgement_bits acknowledgement_at
ack_stands l at next v false bits h = let j : at ≡ next = ok_place h in rw (← j) (stands_nothing l at true refl)
ack_stands l at next v true bits h = then_is (whole_number l at 0 1) _ (v, next)
    (λ (k m : ℕ) (p : whole_number l at 0 1 ≡ Ok (k, m)) (q : _). required k m p (eqb k 0) refl q) h
  where
    required : (k m : ℕ) → whole_number l at 0 1 ≡ Ok (k, m) → (t : Bool) → eqb k 0 ≡ t
        → cond {A = Reading ℕ} t (Ok (0, m)) (refused_at at fault.Default) ≡ Ok (v, next)
        → Stands l at true (whole_bits 0 1 0) next
    required k m p true z q =
        let j : m ≡ next = ok_place q in
        rw (← j) (stands_as l at m _ _ _ refl (rw (eqb-true k 0 z) at (whole_stands l at 0 1 k m bits p)))
    required k m p false z q = never (cc)

-- ---- the header

has_reference : (r a : Bool) → leb 2 (presence r a) ≡ r
has_reference true true = refl
has_reference true false = refl
has_reference false true = refl
has_reference false false = refl

has_acknowledgement : (r a : Bool) → eqb (presence r a % 2) 1 ≡ a
has_acknowledgement true true = refl
has_acknowledgement true false = refl
has_acknowledgement false true = refl
has_acknowledgement false false = refl

pub both_present : (b : ℕ) → b ≤ 3 → presence (leb 2 b) (eqb (b % 2) 1) ≡ b
both_present zero h = refl
both_present (suc zero) h = refl
both_present (suc (suc zero)) h = refl
both_present (suc (suc (suc zero))) h = refl
both_present (suc (suc (suc (suc b)))) h = absurd (omega arith)

pub presence_fits : (r a : Bool) → whole_fits 0 3 (presence r a) ≡ true
presence_fits true true = refl
presence_fits true false = refl
presence_fits false true = refl
presence_fits false false = refl

pub header_reads : (l : List ℕ) (at next : ℕ) (x : Header) → Stands l at (header_fits x) (header_bits x) next
    → header_at l at ≡ Ok (x, next)
unfolding header_fits header_bits header_at dated_at
header_reads l at next x s =
    let b : ℕ = presence x.referenced x.acknowledged in
    let i : List ℕ = whole_bits 0 63 x.identification in
    let r : List ℕ = reference_bits x.referenced x.reference in
    let d : List ℕ = date_time_bits x.dated in
    let e = stands_split l at next true true (whole_bits 0 3 b ++ i ++ r ++ d) (acknowledgement_bits x.acknowledged)
    (stands_as l at next _ _ _ refl s) in
    let c = stands_split l at _ true true (whole_bits 0 3 b ++ i ++ r) d e.0 in
    let k = stands_split l at _ true true (whole_bits 0 3 b ++ i) r c.0 in
    let a = stands_split l at _ true true (whole_bits 0 3 b) i k.0 in
    let f = both_left (whole_fits 0 63 x.identification && reference_fits x.referenced x.reference)
    (date_time_fits x.dated) s.fits in
    let g = both_right (whole_fits 0 63 x.identification && reference_fits x.referenced x.reference)
    (date_time_fits x.dated) s.fits in
    rw (
      whole_reads l at 0 3 b _ (ranged 0 3 tt tt) (stands_as l at _ _ _ _ (presence_fits x.referenced x.acknowledged) a.0),
      whole_reads l _ 0 63 x.identification _ (ranged 0 63 tt tt) (stands_as l _ _ _ _ _
          (both_left (whole_fits 0 63 x.identification) (reference_fits x.referenced x.reference) f) a.1),
      has_reference x.referenced x.acknowledged,
      has_acknowledgement x.referenced x.acknowledged,
      reference_reads l _ _ x.reference x.referenced (stands_as l _ _ _ _ _
          (both_right (whole_fits 0 63 x.identification) (reference_fits x.referenced x.reference) f) k.1),
      date_time_reads l _ _ x.dated (stands_as l _ _ _ _ _ g c.1),
      ack_reads l _ next x.acknowledged e.1,
    )

-- the parts that were read stand there as a header
header_made : (l : List ℕ) (at p q r u next b i n : ℕ) (x : DateTime)
    → Stands l at (whole_fits 0 3 b) (whole_bits 0 3 b) p → Stands l p (whole_fits 0 63 i) (whole_bits 0 63 i) q
    → Stands l q (reference_fits (leb 2 b) n) (reference_bits (leb 2 b) n) r
    → Stands l r (date_time_fits x) (date_time_bits x) u → Stands l u true (acknowledgement_bits (eqb (b % 2) 1)) next
    → Stands l at (header_fits (header_of i (leb 2 b) n x (eqb (b % 2) 1))) (header_bits (header_of i (leb 2 b) n x (eqb (b % 2) 1))) next
unfolding header_fits header_bits
header_made l at p q r u next b i n x sb si sr sx sa =
    let z = both_present b (whole_below 0 3 b sb.fits) in
    rw z (stands_as l at next _ _ _ (rw (si.fits, sr.fits, sx.fits)) (stands_join l at u next _ _ _ _
    (stands_join l at r u _ _ _ _ (stands_join l at q r _ _ _ _ (stands_join l at p q _ _ _ _ sb si) sr) sx)
    sa))

pub header_stands : (l : List ℕ) (at next : ℕ) (x : Header) → Bits l → header_at l at ≡ Ok (x, next)
    → Stands l at (header_fits x) (header_bits x) next
unfolding header_at dated_at
header_stands l at next x bits h =
    then_is (whole_number l at 0 3) _ (x, next)
    (λ (b p : ℕ) (eb : whole_number l at 0 3 ≡ Ok (b, p)) (hb : _). then_is (whole_number l p 0 63) _ (x, next)
    (λ (i q : ℕ) (ei : whole_number l p 0 63 ≡ Ok (i, q)) (hi : _). then_is (reference_at l q (leb 2 b)) _ (x, next)
    (λ (n r : ℕ) (en : reference_at l q (leb 2 b) ≡ Ok (n, r)) (hn : _). then_is (date_time_at l r) _ (x, next)
    (λ (d : DateTime) (u : ℕ) (ed : date_time_at l r ≡ Ok (d, u)) (hd : _). then_is (acknowledgement_at l u (eqb (b % 2) 1)) _ (x, next)
    (λ (z m : ℕ) (ez : acknowledgement_at l u (eqb (b % 2) 1) ≡ Ok (z, m)) (hz : Ok (header_of i (leb 2 b) n d (eqb (b % 2) 1), m) ≡ Ok (x, next)).
    let j : header_of i (leb 2 b) n d (eqb (b % 2) 1) ≡ x = ok_value hz in
    let k : m ≡ next = ok_place hz in
    rw (← j, ← k) (header_made l at p q r u m b i n d (whole_stands l at 0 3 b p bits eb)
    (whole_stands l p 0 63 i q bits ei) (reference_stands l q r n (leb 2 b) bits en)
    (date_time_stands l r u d bits ed) (ack_stands l u m z (eqb (b % 2) 1) bits ez)))
    hd)
    hn)
    hi)
    hb)
    h
