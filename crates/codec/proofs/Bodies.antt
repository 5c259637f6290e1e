-- Message data by themselves: an encoding that the edition carries is read as a whole, and what is read as a whole is such an encoding.
-- Assumes nothing.
use mathlib.Core.Path.{◌≡◌, refl, ap, sym, subst, ◌∙◌}
use mathlib.Core.Bool.{Bool, true, false, not, cond, ◌&&◌, ◌||◌}
use mathlib.Core.List.{List, [], ◌∷◌}
use Prim.Native.Nat.{ℕ, zero, suc, ◌+◌, ◌≤◌, ◌<◌}
use native.Mathlib.Omega.{arith}
use borrow.Author.Tests.{ltb-true, lt-ltb, eqb-true, eq-eqb}
use lib.Dec.{ltb, eqb}
use lib.ListN.{length, get_or}
use lib.Seq.{take-length}
use Rattle.words.proofs.Laws.{both_left, both_right}
use Rattle.bits.specs.Bits.{bits_n}
use Rattle.bits.proofs.Numbers.{Bits}
use Rattle.fields.proofs.RoundTrip.{Stands}
use Rattle.inplace.specs.InPlace.{message_span}
use Rattle.editions.specs.declared.Edition.{Edition}
use Rattle.editions.specs.declared.Edition.TheVariants.{Plain, Protected}
use Rattle.apdu.specs.Sizes.{bit}
use Rattle.apdu.specs.Pdus.{Optional, absent, given, Content, part_in, content_in}
use Rattle.apdu.specs.Encoding as protected
use Rattle.apdu.specs.Reading.{data_at}
use Rattle.apdu.specs.InPlace.{bits_in, perhaps_bits}
use Rattle.pdus.specs.declared.PduType.{PduType}
use Rattle.apdu.specs.declared.Data.{Data}
use Rattle.apdu.proofs.Bounds.{never, data_value_fits}
use Rattle.apdu.proofs.Contents.{DataRead, data_written, data_mark, data_plain, data_read}
use Rattle.plain.specs.Plain as plain
use Rattle.plain.specs.Plain.{sent_by, takes_all, is_empty, message_fits}
use Rattle.plain.proofs.Instance.{message_some}
use Rattle.front.proofs.Runs.{ends_at_is}
use Rattle.plain.proofs.Contents.{content_is}
use Rattle.codec.specs.Codec.{content_bits, start_bits}
use Rattle.codec.proofs.Stated.{is_there, content_fits, bits_only, wholly, is_body_is, is_given, carries, start_of, BodyIs}
use Rattle.std.specs.Prelude.{Err, None, Ok, Option, Some}
use Rattle.fields.specs.Fields.{Reading}
use Rattle.pdus.specs.declared.Span.{Span}

-- ---- lists of bits

pub bits_only_is : (l : List ℕ) → bits_only l ≡ true → Bits l
bits_only_is [] e k = omega arith
bits_only_is (x ∷ l) e zero = ltb-true x 2 (both_left (ltb x 2) (bits_only l) e)
bits_only_is (x ∷ l) e (suc k) = bits_only_is l (both_right (ltb x 2) (bits_only l) e) k

pub only_bits : (l : List ℕ) → Bits l → bits_only l ≡ true
only_bits [] h = refl
only_bits (x ∷ l) h = rw (lt-ltb x 2 (h zero), only_bits l (λ (k : ℕ). h (suc k)))

-- ---- type 22

all_of : (l bs : List ℕ) (next : ℕ) → Stands l 0 bs next → next ≡ length l → l ≡ bs
all_of l bs next s h =
    let p = s.place in
    let n : length bs ≡ length l = omega arith in
    sym (take-length l) ∙ rw (← n) s.holds

abbrev clear : List ℕ → Bool
clear b = eqb (get_or b 0 0) 0

protected_is : (t : PduType) (b : List ℕ) → is_body_is Protected t b ≡ true → BodyIs Protected t b
unfolding is_body_is
protected_is t b e = go (data_at b 0) refl (both_right (clear b) (wholly (data_at b 0) (length b)) rest)
  where
    rest : clear b && wholly (data_at b 0) (length b) ≡ true
    rest = both_right (bits_only b) (clear b && wholly (data_at b 0) (length b)) e

    go : (x : Reading Data) → data_at b 0 ≡ x → wholly x (length b) ≡ true → BodyIs Protected t b
    go (Ok (d, next)) q w =
        let h = bits_only_is b (both_left (bits_only b) (clear b && wholly (data_at b 0) (length b)) e) in
        let i = data_read b 0 next d h q in
        let z : i.mark ≡ 0 = sym (data_mark b 0 next d i) ∙ eqb-true (get_or b 0 0) 0
        (both_left (clear b) (wholly (data_at b 0) (length b)) rest) in
        record { content = content_in b b b d; fits = data_value_fits b b b d i.placed_fits; bits = all_of b (protected.content_bits (content_in b b b d)) next (data_plain b 0 next d i z) (eqb-true next (length b) w); are_bits = h }
    go (Err r) q w = never (cc)

part_there : (l : List ℕ) (unit : ℕ) (p : Option Span) → is_there (part_in l unit p) ≡ is_given p
unfolding part_in
part_there l unit None = refl
part_there l unit (Some x) = refl

pub content_there : (li lm lc : List ℕ) (d : Data) → is_there (content_in li lm lc d).message ≡ is_given d.message
unfolding content_in
content_there li lm lc d = part_there lm bit d.message

module _ (t : PduType) (c : Content) (h : protected.content_fits c ≡ true) where
  -- an encoding is read as a whole
  whole : DataRead (protected.content_bits c) 0 (length (protected.content_bits c)) c
  whole = data_written (protected.content_bits c) 0 (length (protected.content_bits c)) c h (record { place = omega arith; within = omega arith; holds = take-length (protected.content_bits c) })

  first_clear : clear (protected.content_bits c) ≡ true
  unfolding protected.content_bits bits_n
  first_clear = refl

  protected_body : Bits (protected.content_bits c) → is_body_is Protected t (protected.content_bits c) ≡ true
  unfolding is_body_is
  protected_body b = rw (
    only_bits (protected.content_bits c) b,
    first_clear,
    whole.read,
    eq-eqb
        (length (protected.content_bits c)) (length (protected.content_bits c)) refl,
  )

  protected_carries : carries Protected (protected.content_bits c) ≡ is_there c.message
  unfolding carries
  protected_carries = rw whole.read (sym
      (content_there (protected.content_bits c) (protected.content_bits c) (protected.content_bits c) whole.parts) ∙
      ap (λ (v : Content). is_there v.message) whole.content)

-- ---- type 2

abbrev content : Optional → Content
content m = record { identifier = absent; message = m; check = [] }

plain_is : (t : PduType) (b : List ℕ) → is_body_is Plain t b ≡ true → BodyIs Plain t b
unfolding is_body_is plain.content_fits bits_in
plain_is t [] e = record { content = content absent; fits = refl; bits = refl; are_bits = bits_only_is [] refl }
plain_is t (x ∷ b) e =
    record {
      content = content (given (x ∷ b));
      fits = both_right (bits_only (x ∷ b)) (takes_all (message_span (sent_by t)) (x ∷ b)) e;
      bits = refl;
      are_bits = bits_only_is (x ∷ b) (both_left (bits_only (x ∷ b)) (takes_all (message_span (sent_by t)) (x ∷ b)) e);
    }

either_way : (b : Bool) → (b || true) ≡ true
either_way true = refl
either_way false = refl

some : (v : List ℕ) → 0 < length v → is_empty v ≡ false
some [] p = absurd (omega arith)
some (x ∷ v) p = refl

module _ (t : PduType) where
  -- no message has no bits
  message_there : (m : List ℕ) → Bits m → takes_all (message_span (sent_by t)) m ≡ true → is_empty m ≡ false
  message_there m b h = some m (message_some (sent_by t) m b (ends_at_is (message_span (sent_by t) m 0) (length m) h))

  optional_body : (o : Optional) → message_fits (sent_by t) o ≡ true → Bits (bits_in o) → is_body_is Plain t (bits_in o) ≡ true
  unfolding is_body_is bits_in
  optional_body absent h b = refl
  optional_body (given m) h b = rw (only_bits m b, h) (either_way (is_empty m))

  optional_carries : (o : Optional) → message_fits (sent_by t) o ≡ true → Bits (bits_in o) → carries Plain (bits_in o) ≡ is_there o
  unfolding carries bits_in
  optional_carries absent h b = refl
  optional_carries (given m) h b = rw (message_there m b h)

  optional_start : (o : Optional) → message_fits (sent_by t) o ≡ true → Bits (bits_in o) → perhaps_bits o ≡ start_of Plain (bits_in o)
  unfolding start_of bits_in
  optional_start absent h b = refl
  optional_start (given m) h b = rw (message_there m b h)

-- ---- either

pub body_is : (ed : Edition) (t : PduType) (b : List ℕ) → is_body_is ed t b ≡ true → BodyIs ed t b
body_is Plain t b e = plain_is t b e
body_is Protected t b e = protected_is t b e

pub is_body : (ed : Edition) (t : PduType) (c : Content) → content_fits ed t c ≡ true → Bits (content_bits ed c)
    → is_body_is ed t (content_bits ed c) ≡ true
is_body Plain t c h b = optional_body t c.message (content_is (sent_by t) c h).message b
is_body Protected t c h b = protected_body t c h b

pub carries_is : (ed : Edition) (t : PduType) (c : Content) → content_fits ed t c ≡ true → Bits (content_bits ed c)
    → carries ed (content_bits ed c) ≡ is_there c.message
carries_is Plain t c h b = optional_carries t c.message (content_is (sent_by t) c h).message b
carries_is Protected t c h b = protected_carries t c h

pub start_of_is : (ed : Edition) (t : PduType) (c : Content) → content_fits ed t c ≡ true → Bits (content_bits ed c)
    → start_bits ed c ≡ start_of ed (content_bits ed c)
unfolding start_of
start_of_is Plain t c h b = optional_start t c.message (content_is (sent_by t) c h).message b
start_of_is Protected t c h b = refl
