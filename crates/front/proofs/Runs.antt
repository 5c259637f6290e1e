-- A run as a body: what its reader has to show is that it reads alike wherever the run stands.
-- Assumes nothing.
use mathlib.Core.Path.{◌≡◌, refl, ap, sym, subst, ◌∙◌}
use mathlib.Core.Bool.{Bool, true, false, cond, ◌&&◌}
use mathlib.Core.List.{List, [], ◌∷◌, ◌++◌}
use Prim.Native.Nat.{ℕ, zero, suc, ◌+◌, ◌-◌, ◌^◌, ◌≤◌, ◌<◌}
use native.Mathlib.Omega.{arith}
use borrow.Author.Tests.{le-leb, lt-ltb, ltb-true, eq-eqb, ne_eqb, eqb-true, eqb-false}
use lib.Dec.{leb, ltb, eqb}
use lib.ListN.{length, take, drop, get_or, length-append}
use Rattle.words.proofs.Laws.{both_left, both_right, ok_value, ok_place}
use Rattle.bits.specs.Bits.{bits_n}
use Rattle.bits.proofs.Numbers.{Bits, bits_bits_n, length_bits_n}
use Rattle.bits.proofs.Bytes.{bits_append, bits_take, bits_drop, length_part}
use Rattle.fields.specs.Fields.{bit_field}
use Rattle.fields.specs.declared.Refusal.{Refusal}
use Rattle.fields.proofs.RoundTrip.{Stands, stands_join, stands_split, bit_field_is}
use Rattle.pdus.specs.declared.Content.{Content}
use Rattle.front.specs.Body.{Lent, one, Body}
use Rattle.front.specs.Runs.{none, no_content, is_bits, ends_at, takes_all, run_in, run_from, run_body, Perhaps, nothing, something, is_none, perhaps_fits, perhaps_bits, perhaps_run}
use Rattle.apdu.proofs.Bounds.{never}
use Rattle.front.proofs.Laws.{via, AreBits, Taken, body_most, run_most, BodyLaws}
use Rattle.std.specs.Prelude.{Err, Ok}
use Rattle.fields.specs.Fields.{Reading}

-- ---- lists of bits

pub is_bits_is : (l : List ℕ) → is_bits l ≡ true → Bits l
unfolding is_bits
is_bits_is [] h k = omega arith
is_bits_is (x ∷ l) h zero = ltb-true x 2 (both_left (ltb x 2) (is_bits l) h)
is_bits_is (x ∷ l) h (suc k) = is_bits_is l (both_right (ltb x 2) (is_bits l) h) k

pub bits_is : (l : List ℕ) → Bits l → is_bits l ≡ true
unfolding is_bits
bits_is [] b = refl
bits_is (x ∷ l) b = rw (lt-ltb x 2 (b zero)) (bits_is l (λ (k : ℕ). b (suc k)))

-- ---- what a reader has to show

pub record Ends (f : Reading ℕ) (n : ℕ) : Type 0 where
  pub value : ℕ
  pub is : f ≡ Ok (value, n)

pub ends_at_is : (f : Reading ℕ) (n : ℕ) → ends_at n f ≡ true → Ends f n
ends_at_is (Ok (v, next)) n h = record { value = v; is = ap (λ (place : ℕ). Ok (v, place)) (eqb-true next n h) }
ends_at_is (Err r) n h = never (cc)

pub at_end : (f : Reading ℕ) (n : ℕ) → Ends f n → ends_at n f ≡ true
at_end f n i = rw i.is (eq-eqb n n refl)

-- a reading, by itself
pub record Apart (rd : List ℕ → ℕ → Reading ℕ) (l : List ℕ) (at next : ℕ) : Type 0 where
  pub from : at ≤ next
  pub within : next ≤ length l
  pub itself : Ends (rd (take (next - at) (drop at l)) 0) (next - at)

pub record RunLaws (rd : List ℕ → ℕ → Reading ℕ) : Type 0 where
  pub most : (v : List ℕ) → Bits v → Ends (rd v 0) (length v) → length v ≤ run_most
  pub apart : (l : List ℕ) (at v next : ℕ) → Bits l → rd l at ≡ Ok (v, next) → Apart rd l at next
  pub anywhere : (v l : List ℕ) (at next : ℕ) → Bits v → Ends (rd v 0) (length v) → Stands l at v next → Ends (rd l at) next

module _ (rd : List ℕ → ℕ → Reading ℕ) (laws : RunLaws rd) where
  record RunIs (l : List ℕ) (at next : ℕ) (c : Content) : Type 0 where
    apart : Apart rd l at next
    same : c ≡ run_from at next

  run_is : (l : List ℕ) (at next : ℕ) (c : Content) → Bits l → (run_body rd).read l at ≡ Ok (c, next) → RunIs l at next c
  run_is l at next c b e =
      via (RunIs l at next c) (rd l at) _ (c, next) (λ (v n : ℕ) (f : rd l at ≡ Ok (v, n)) (k : ◌≡◌ {A = Reading Content} (Ok (run_from at n, n)) (Ok (c, next))).
      let z : n ≡ next = ok_place k in
      let y : run_from at n ≡ c = ok_value k in
      record { apart = laws.apart l at v next b (f ∙ ap (λ (place : ℕ). Ok (v, place)) z); same = sym y ∙ ap (run_from at) z }) e

  run_length : (l : List ℕ) (at next : ℕ) → at ≤ next → next ≤ length l → length (take (next - at) (drop at l)) ≡ next - at
  run_length l at next h g = length_part l at (next - at) (omega arith)

  run_stands : (l : List ℕ) (at next : ℕ) → at ≤ next → next ≤ length l → Stands l at (take (next - at) (drop at l)) next
  run_stands l at next h g =
      let n = run_length l at next h g in
      record { place = omega arith; within = omega arith; holds = rw n }

  run_read_stands : (l : List ℕ) (at next : ℕ) → Apart rd l at next
      → leb (at + (next - at)) (length l) && takes_all rd (take (next - at) (drop at l)) ≡ true
  run_read_stands l at next a =
      let f = a.from in
      let w = a.within in
      rw (le-leb (at + (next - at)) (length l) (omega arith), run_length l at next f w)
      (at_end (rd (take (next - at) (drop at l)) 0) (next - at) a.itself)

  run_back : (l : List ℕ) (at next : ℕ) (v : List ℕ) → Bits l → is_bits v && takes_all rd v ≡ true → Stands l at v next
      → Taken (run_body rd) l at next v
  run_back l at next v bl h s =
      let b = is_bits_is v (both_left (is_bits v) (takes_all rd v) h) in
      let e = ends_at_is (rd v 0) (length v) (both_right (is_bits v) (takes_all rd v) h) in
      let r = laws.anywhere v l at next b e s in
      let n : next - at ≡ length v = omega (arith, s.place) in
      record { content = run_from at next; read = rw r.is; same = rw n s.holds }

  pub run_laws : BodyLaws (run_body rd)
  run_laws =
      record {
        most = λ (v : List ℕ) (h : is_bits v && takes_all rd v ≡ true).
            let m = laws.most v (is_bits_is v (both_left (is_bits v) (takes_all rd v) h))
            (ends_at_is (rd v 0) (length v) (both_right (is_bits v) (takes_all rd v) h)) in
            omega arith;
        are_bits = λ (s : Lent) (c : Content) (k : AreBits s). bits_take c.message.count
            (drop c.message.at s.messages) (bits_drop c.message.at s.messages k.messages);
        value_fits = λ (s : Lent) (c : Content) (k : AreBits s)
            (h : leb (c.message.at + c.message.count) (length s.messages) && takes_all rd (run_in s c) ≡ true).
            rw (bits_is (run_in s c) (bits_take c.message.count (drop c.message.at s.messages)
            (bits_drop c.message.at s.messages k.messages)))
            (both_right (leb (c.message.at + c.message.count) (length s.messages)) (takes_all rd (run_in s c)) h);
        written_read = run_back;
        read_stands = λ (l : List ℕ) (at next : ℕ) (c : Content) (b : Bits l) (e : (run_body rd).read l at ≡ Ok (c, next)).
            let i = run_is l at next c b e in
            rw i.same (run_read_stands l at next i.apart);
        read_plain = λ (l : List ℕ) (at next : ℕ) (c : Content) (b : Bits l) (e : (run_body rd).read l at ≡ Ok (c, next)).
            let i = run_is l at next c b e in
            rw i.same;
        unextended = λ (l : List ℕ) (at next : ℕ) (c : Content) (b : Bits l)
            (e : (run_body rd).read l at ≡ Ok (c, next)) (n : false ≡ false).
            let i = run_is l at next c b e in
            rw i.same (run_stands l at next i.apart.from i.apart.within);
        clear = λ (l : List ℕ) (at next : ℕ) (c : Content) (s : Stands l at (run_in (one l) c) next). refl;
      }

-- ---- nothing, or a run

module _ (rd : List ℕ → ℕ → Reading ℕ) (laws : RunLaws rd) where
  record PerhapsIs (l : List ℕ) (at next : ℕ) (c : Content) : Type 0 where
    value : Perhaps
    same : cond (is_none c) nothing (something (run_in (one l) c)) ≡ value
    stands : Stands l at (perhaps_bits value) next
    right : cond (is_none c) true ((run_body rd).stands (one l) c) ≡ true
    size : cond (is_none c) 1 (1 + c.message.count) ≡ length (perhaps_bits value)

  perhaps_nothing : (l : List ℕ) (at p : ℕ) → Stands l at (bits_n 1 0) p → PerhapsIs l at p no_content
  unfolding perhaps_bits
  perhaps_nothing l at p s = record { value = nothing; same = refl; stands = s; right = refl; size = sym (length_bits_n 1 0) }

  some_count : (l : List ℕ) (at next : ℕ) → Bits l → Apart rd l at next → is_none (run_from at next) ≡ false
  some_count l at next b a =
      let f = a.from in
      let n = run_length rd laws l at next f a.within in
      let e : Ends (rd (take (next - at) (drop at l)) 0) (length (take (next - at) (drop at l))) = rw n a.itself in
      let m = laws.most (take (next - at) (drop at l)) (bits_take (next - at) (drop at l) (bits_drop at l b)) e in
      ne_eqb (next - at) none (λ (z : next - at ≡ none). omega arith)

  perhaps_something : (l : List ℕ) (at p next : ℕ) → Bits l → Stands l at (bits_n 1 1) p → Apart rd l p next
      → PerhapsIs l at next (run_from p next)
  unfolding perhaps_bits
  perhaps_something l at p next b s a =
      let k = some_count l p next b a in
      let n = run_length rd laws l p next a.from a.within in
      record {
        value = something (take (next - p) (drop p l));
        same = rw k;
        stands = stands_join l at p next (bits_n 1 1) _ s (run_stands rd laws l p next a.from a.within);
        right = rw k (run_read_stands rd laws l p next a);
        size = rw (k, length-append, length_bits_n, n);
      }

  perhaps_is : (l : List ℕ) (at next : ℕ) (c : Content) → Bits l → (perhaps_run rd).read l at ≡ Ok (c, next) → PerhapsIs l at next c
  perhaps_is l at next c b e =
      via (PerhapsIs l at next c) (bit_field l at 1) _ (c, next) (λ (i p : ℕ) (f : bit_field l at 1 ≡ Ok (i, p)) (k : cond (eqb i 0) (Ok (no_content, p)) ((run_body rd).read l p) ≡ Ok (c, next)).
      go i p f (eqb i 0) refl k) e
    where
      one_bit : (i : ℕ) → i < 2 → eqb i 0 ≡ false → i ≡ 1
      one_bit i h e = let n = eqb-false i 0 e in omega arith

      go : (i p : ℕ) → bit_field l at 1 ≡ Ok (i, p) → (t : Bool) → eqb i 0 ≡ t
          → cond t (Ok (no_content, p)) ((run_body rd).read l p) ≡ Ok (c, next) → PerhapsIs l at next c
      go i p f true q k =
          let z : i ≡ 0 = eqb-true i 0 q in
          let y : p ≡ next = ok_place k in
          let w : no_content ≡ c = ok_value k in
          rw (← w, ← y) (perhaps_nothing l at p (rw z at ((bit_field_is 1).read_written l at i p b f)))
      go i p f false q k =
          let lt : i < 2 ^ 1 = ltb-true i (2 ^ 1) (both_right (leb 1 64) (ltb i (2 ^ 1)) ((bit_field_is 1).read_fits l at i p b f)) in
          let z : i ≡ 1 = one_bit i (omega arith) q in
          let a = run_is rd laws l p next c b k in
          rw a.same (perhaps_something l at p next b (rw z at ((bit_field_is 1).read_written l at i p b f)) a.apart)

  perhaps_count : (l : List ℕ) (p next : ℕ) (v : List ℕ) (bl : Bits l) (h : is_bits v && takes_all rd v ≡ true) (s : Stands l p v next)
      → is_none (run_back rd laws l p next v bl h s).content ≡ false
  unfolding run_back
  perhaps_count l p next v bl h s =
      let m = laws.most v (is_bits_is v (both_left (is_bits v) (takes_all rd v) h))
      (ends_at_is (rd v 0) (length v) (both_right (is_bits v) (takes_all rd v) h)) in
      let q = s.place in
      ne_eqb (next - p) none (λ (z : next - p ≡ none). omega arith)

  perhaps_back : (l : List ℕ) (at next : ℕ) (v : Perhaps) → Bits l → perhaps_fits rd v ≡ true
      → Stands l at (perhaps_bits v) next → Taken (perhaps_run rd) l at next v
  unfolding perhaps_fits perhaps_bits
  perhaps_back l at next nothing bl h s = record { content = no_content; read = rw ((bit_field_is 1).written_read l at 0 next refl s); same = refl }
  perhaps_back l at next (something v) bl h s =
      let p : ℕ = at + length (bits_n 1 1) in
      let w = stands_split l at next (bits_n 1 1) v s in
      let a = (bit_field_is 1).written_read l at 1 p refl w.first in
      let b = run_back rd laws l p next v bl h w.second in
      let k : is_none b.content ≡ false = perhaps_count l p next v bl h w.second in
      record { content = b.content; read = rw (a, b.read); same = rw k (ap something b.same) }

  perhaps_most : (v : Perhaps) → perhaps_fits rd v ≡ true → length (perhaps_bits v) ≤ body_most
  unfolding perhaps_fits perhaps_bits
  perhaps_most nothing h = rw (length_bits_n 1 0) (omega arith)
  perhaps_most (something v) h =
      let m = laws.most v (is_bits_is v (both_left (is_bits v) (takes_all rd v) h))
      (ends_at_is (rd v 0) (length v) (both_right (is_bits v) (takes_all rd v) h)) in
      rw (length-append, length_bits_n) (omega arith)

  perhaps_are_bits : (s : Lent) (c : Content) → AreBits s → (t : Bool) → Bits (perhaps_bits (cond t nothing (something (run_in s c))))
  unfolding perhaps_bits
  perhaps_are_bits s c k true = bits_bits_n 1 0
  perhaps_are_bits s c k false = bits_append (bits_n 1 1) (run_in s c) (bits_bits_n 1 1) ((run_laws rd laws).are_bits s c k)

  perhaps_value_fits : (s : Lent) (c : Content) → AreBits s → (t : Bool) → cond t true ((run_body rd).stands s c) ≡ true
      → perhaps_fits rd (cond t nothing (something (run_in s c))) ≡ true
  unfolding perhaps_fits
  perhaps_value_fits s c k true h = refl
  perhaps_value_fits s c k false h = (run_laws rd laws).value_fits s c k h

  pub perhaps_laws : BodyLaws (perhaps_run rd)
  perhaps_laws =
      record {
        most = perhaps_most;
        are_bits = λ (s : Lent) (c : Content) (k : AreBits s). perhaps_are_bits s c k (is_none c);
        value_fits = λ (s : Lent) (c : Content) (k : AreBits s). perhaps_value_fits s c k (is_none c);
        written_read = perhaps_back;
        read_stands = λ (l : List ℕ) (at next : ℕ) (c : Content) (b : Bits l)
            (e : (perhaps_run rd).read l at ≡ Ok (c, next)). (perhaps_is l at next c b e).right;
        read_plain = λ (l : List ℕ) (at next : ℕ) (c : Content) (b : Bits l) (e : (perhaps_run rd).read l at ≡ Ok (c, next)).
            let i = perhaps_is l at next c b e in
            rw (i.size, i.same) i.stands.holds;
        unextended = λ (l : List ℕ) (at next : ℕ) (c : Content) (b : Bits l)
            (e : (perhaps_run rd).read l at ≡ Ok (c, next)) (n : false ≡ false).
            let i = perhaps_is l at next c b e in
            rw i.same i.stands;
        clear = λ (l : List ℕ) (at next : ℕ) (c : Content)
            (s : Stands l at (perhaps_bits (cond (is_none c) nothing (something (run_in (one l) c)))) next). refl;
      }
