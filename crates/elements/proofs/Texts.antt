-- Characters: what is written is read back, and what is read stands there.
-- Assumes nothing.
use mathlib.Core.Path.{◌≡◌, refl, ap, ◌∙◌}
use mathlib.Core.Bool.{Bool, true, false, cond}
use mathlib.Core.List.{List, [], ◌∷◌}
use Prim.Native.Nat.{ℕ, zero, suc, ◌+◌, ◌-◌, ◌*◌, ◌<◌, ◌≤◌}
use native.Mathlib.Omega.{arith}
use native.Mathlib.Nat.{mod-eq_of_lt}
use lib.ListN.{length, take, drop, length-append}
use lib.Dec.{ltb, eqb}
use borrow.Author.Tests.{ltb-true, lt-ltb, le-leb, eqb-true, eqb-false, eq-eqb}
use Rattle.words.proofs.Laws.{both_left, both_right, ok_place, ok_value}
use Rattle.bits.specs.Bits.{bits_n, num_of}
use Rattle.bits.proofs.Numbers.{Bits, length_bits_n, num_bits_n}
use Rattle.bits.proofs.Bytes.{Holds, holds_split, holds_join, holds_within, part_bits, part_lt}
use Rattle.fields.specs.Fields.{whole_number, run_at, sized_at}
use Rattle.fields.specs.Encodings.{whole_bits, whole_fits}
use Rattle.fields.proofs.Answers.{run_is}
use Rattle.fields.proofs.RoundTrip.{via, sized_read, sized_written}
use Rattle.elements.specs.Arguments.{characters_fit, characters_bits, characters_in, sized_fits, sized_bits, facility_fits, facility_bits, facility_at, designation_at, atis_fits, atis_at}
use Rattle.elements.proofs.Standing.{Stands, stands_join, stands_split, stands_as, both_hold, as_field, of_field}
use Rattle.elements.proofs.Steps.{never}
use Rattle.elements.proofs.Whole.{Ranged, ranged, whole_reads, whole_stands, whole_above, whole_below}
use Rattle.std.specs.Prelude.{Ok}

pub length_characters : (l : List ℕ) (at n : ℕ) → length (characters_in l at n) ≡ n
unfolding characters_in
length_characters l at zero = refl
length_characters l at (suc n) = ap suc (length_characters l (at + 7) n)

pub length_characters_bits : (cs : List ℕ) → length (characters_bits cs) ≡ 7 * length cs
unfolding characters_bits
length_characters_bits [] = refl
length_characters_bits (c ∷ cs) =
    let h = length_characters_bits cs in
    let a = length-append (bits_n 7 c) (characters_bits cs) in
    let b = length_bits_n 7 c in
    omega arith

-- characters that stand at a place are found there
pub characters_found : (l : List ℕ) (at : ℕ) (cs : List ℕ) → characters_fit cs ≡ true → Holds l at (characters_bits cs)
    → characters_in l at (length cs) ≡ cs
unfolding characters_fit characters_bits characters_in
characters_found l at [] f h = refl
characters_found l at (c ∷ cs) f h =
    let p = holds_split l at (bits_n 7 c) (characters_bits cs) h in
    let n = length_bits_n 7 c in
    let k : c < 128 = ltb-true c 128 (both_left (ltb c 128) (characters_fit cs) f) in
    let a : take 7 (drop at l) ≡ bits_n 7 c = rw n at p.0 in
    let b : num_of (bits_n 7 c) ≡ c = num_bits_n 7 c ∙ mod-eq_of_lt k in
    let q : Holds l (at + 7) (characters_bits cs) = rw n at p.1 in
    rw (a, b, characters_found l (at + 7) cs (both_right (ltb c 128) (characters_fit cs) f) q)

-- characters that were found stand there
pub characters_fit_is : (l : List ℕ) (at n : ℕ) → Bits l → at + 7 * n ≤ length l → characters_fit (characters_in l at n) ≡ true
unfolding characters_fit characters_in
characters_fit_is l at zero b h = refl
characters_fit_is l at (suc n) b h =
    both_hold _ _ (lt-ltb _ 128 (part_lt l at 7 b (omega arith))) (characters_fit_is l (at + 7) n b (omega arith))

pub characters_stand : (l : List ℕ) (at n : ℕ) → Bits l → at + 7 * n ≤ length l → Holds l at (characters_bits (characters_in l at n))
unfolding characters_bits characters_in
characters_stand l at zero b h = refl
characters_stand l at (suc n) b h =
    let v : ℕ = num_of (take 7 (drop at l)) in
    let k = length_bits_n 7 v in
    let e : take 7 (drop at l) ≡ bits_n 7 v = part_bits l at 7 b (omega arith) in
    holds_join l at (bits_n 7 v) (characters_bits (characters_in l (at + 7) n)) (rw k e) (rw k (characters_stand l (at + 7) n b (omega arith)))

-- the characters are the last of a string
text_of : (l : List ℕ) (m next : ℕ) (ok : Bool) (t : List ℕ) → characters_fit t ≡ true
    → Stands l m ok (characters_bits t) next → characters_in l (next - 7 * length t) (length t) ≡ t
text_of l m next ok t f s =
    let n = length_characters_bits t in
    let p = s.place in
    let e : next - 7 * length t ≡ m = omega arith in
    rw e (characters_found l m t f s.holds)

-- ---- a string with a size

module _ (l : List ℕ) (at least most next : ℕ) where
  pub sized_reads : Ranged least most → 0 < least → (t : List ℕ)
      → Stands l at (sized_fits least most t) (sized_bits least most t) next
      → sized_at l at 7 least most ≡ Ok (length t, next)
  unfolding sized_fits sized_bits
  sized_reads r p t s =
      let h = both_left (whole_fits least most (length t)) (characters_fit t) s.fits in
      let k = whole_above least most (length t) h in
      let n = length-append (whole_bits least most (length t)) (characters_bits t) in
      let c = length_characters_bits t in
      sized_written l at 7 least most (length t) next (characters_bits t) r.small h c (as_field l at next _ _ (omega arith) s)

  pub sized_text : (t : List ℕ) → Stands l at (sized_fits least most t) (sized_bits least most t) next
      → characters_in l (next - 7 * length t) (length t) ≡ t
  unfolding sized_fits sized_bits
  sized_text t s =
      let q = stands_split l at next (whole_fits least most (length t)) (characters_fit t)
      (whole_bits least most (length t)) (characters_bits t) s in
      text_of l _ next _ t q.1.fits q.1

  pub sized_stands : Ranged least most → (n : ℕ) → Bits l → sized_at l at 7 least most ≡ Ok (n, next)
      → Stands l at (sized_fits least most (characters_in l (next - 7 * n) n)) (sized_bits least most (characters_in l (next - 7 * n) n)) next
  unfolding sized_fits sized_bits
  sized_stands r n b e =
      let s = sized_read l at 7 least most n next r.small b e in
      let m : ℕ = at + length (whole_bits least most n) in
      let f = s.from in
      let w = s.stands.within in
      let p = s.stands.place in
      let a : next - 7 * n ≡ m = omega arith in
      let c : length (characters_in l m n) ≡ n = length_characters l m n in
      let i : m + 7 * n ≤ length l = omega arith in
      let t : take (7 * n) (drop m l) ≡ characters_bits (characters_in l m n) = rw
      (length_characters_bits (characters_in l m n), c) at (characters_stand l m n b i) in
      rw (a, c) (of_field l at next _ _ (both_hold (whole_fits least most n) _ s.count (characters_fit_is l m n b i)) (rw t at s.stands))

-- ---- a facility

pub facility_reads : (l : List ℕ) (at next : ℕ) (t : List ℕ) → Stands l at (facility_fits t) (facility_bits t) next
    → facility_at l at ≡ Ok (length t, next)
unfolding facility_fits facility_bits facility_at
facility_reads l at next [] s = rw (whole_reads l at 0 1 0 next (ranged 0 1 tt tt) (stands_as l at next _ _ _ refl s))
facility_reads l at next (c ∷ cs) s =
    let q = stands_split l at next true (sized_fits 4 8 (c ∷ cs)) (whole_bits 0 1 1) (sized_bits 4 8 (c ∷ cs)) s in
    rw (whole_reads l at 0 1 1 _ (ranged 0 1 tt tt) (stands_as l at _ _ _ _ refl q.0))
    (sized_reads l _ 4 8 next (ranged 4 8 tt tt) (omega arith) (c ∷ cs) q.1)

pub facility_text : (l : List ℕ) (at next : ℕ) (t : List ℕ) → Stands l at (facility_fits t) (facility_bits t) next
    → characters_in l (next - 7 * length t) (length t) ≡ t
unfolding facility_fits facility_bits characters_in
facility_text l at next [] s = refl
facility_text l at next (c ∷ cs) s =
    let q = stands_split l at next true (sized_fits 4 8 (c ∷ cs)) (whole_bits 0 1 1) (sized_bits 4 8 (c ∷ cs)) s in
    sized_text l _ 4 8 next (c ∷ cs) q.1

module _ (l : List ℕ) (at next : ℕ) where
  some : (m : ℕ) (t : List ℕ) → Stands l at (whole_fits 0 1 1) (whole_bits 0 1 1) m
      → Stands l m (sized_fits 4 8 t) (sized_bits 4 8 t) next → Stands l at (facility_fits t) (facility_bits t) next
  unfolding facility_fits facility_bits sized_fits
  some m [] p q = let z : false ≡ true = q.fits in never (cc)
  some m (c ∷ cs) p q = stands_join l at m next true _ _ _ (stands_as l at m _ _ _ refl p) q

  none : (m x k : ℕ) → k ≡ 0 → Stands l at (whole_fits 0 1 k) (whole_bits 0 1 k) m
      → Stands l at (facility_fits (characters_in l x 0)) (facility_bits (characters_in l x 0)) m
  unfolding facility_fits facility_bits characters_in
  none m x k e p = stands_as l at m _ _ _ refl (rw e at p)

  pub facility_stands : (n : ℕ) → Bits l → facility_at l at ≡ Ok (n, next)
      → Stands l at (facility_fits (characters_in l (next - 7 * n) n)) (facility_bits (characters_in l (next - 7 * n) n)) next
  unfolding facility_at
  facility_stands n b e = via _ (whole_number l at 0 1) _ n next (λ (k m : ℕ)
      (p : whole_number l at 0 1 ≡ Ok (k, m))
      (q : cond (eqb k 0) (Ok (0, m)) (designation_at l m) ≡ Ok (n, next)). chosen k m
      (whole_stands l at 0 1 k m b p) (eqb k 0) refl q) e
    where
      chosen : (k m : ℕ) → Stands l at (whole_fits 0 1 k) (whole_bits 0 1 k) m → (z : Bool) → eqb k 0 ≡ z
          → cond z (Ok (0, m)) (designation_at l m) ≡ Ok (n, next)
          → Stands l at (facility_fits (characters_in l (next - 7 * n) n)) (facility_bits (characters_in l (next - 7 * n) n)) next
      chosen k m s true h q =
          let i : 0 ≡ n = ok_value q in
          let j : m ≡ next = ok_place q in
          rw (← i, ← j) (none m _ k (eqb-true k 0 h) s)
      chosen k m s false h q =
          let i : k ≡ 1 = let a = whole_below 0 1 k s.fits in let z = eqb-false k 0 h in omega arith in
          some m _ (rw i at s) (sized_stands l m 4 8 next (ranged 4 8 tt tt) n b q)

-- ---- an ATIS code

pub atis_reads : (l : List ℕ) (at next : ℕ) (t : List ℕ) → Stands l at (atis_fits t) (characters_bits t) next
    → atis_at l at ≡ Ok (length t, next)
unfolding atis_fits run_at
atis_reads l at next t s =
    let n : length t ≡ 1 = eqb-true (length t) 1 (both_left (eqb (length t) 1) (characters_fit t) s.fits) in
    let c = length_characters_bits t in
    let h = holds_within l at (characters_bits t) (omega arith) s.holds in
    let p = s.place in
    let e : next ≡ at + 7 = omega arith in
    rw (le-leb (at + 7) (length l) (omega arith), n, e)

pub atis_text : (l : List ℕ) (at next : ℕ) (t : List ℕ) → Stands l at (atis_fits t) (characters_bits t) next
    → characters_in l (next - 7 * length t) (length t) ≡ t
unfolding atis_fits
atis_text l at next t s = text_of l at next _ t (both_right (eqb (length t) 1) (characters_fit t) s.fits) s

pub atis_stands : (l : List ℕ) (at n next : ℕ) → Bits l → atis_at l at ≡ Ok (n, next)
    → Stands l at (atis_fits (characters_in l (next - 7 * n) n)) (characters_bits (characters_in l (next - 7 * n) n)) next
unfolding atis_fits
atis_stands l at n next b e =
    let r = run_is l at 7 1 n next e in
    let i : n ≡ 1 = r.value in
    let j = r.place in
    let w : at + 7 * 1 ≤ length l = r.within in
    let k : next - 7 * 1 ≡ at = omega arith in
    let c = length_characters l at 1 in
    let d = length_characters_bits (characters_in l at 1) in
    rw (i, k) (record { fits = both_hold _ _ (eq-eqb _ 1 c) (characters_fit_is l at 1 b w); holds = characters_stand l at 1 b w; place = omega arith })
