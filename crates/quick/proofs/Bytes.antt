-- What each first byte says (document 02, E11): a computed test over all 256 bytes of both types, and that the bytes behind the first do not matter.
-- Assumes nothing.
use mathlib.Core.Path.{◌≡◌, refl, ap, sym, ◌∙◌}
use mathlib.Core.Bool.{Bool, true, false, cond, ◌&&◌}
use mathlib.Core.List.{List, [], ◌∷◌, ◌++◌}
use Prim.Native.Nat.{ℕ, zero, suc, ◌+◌, ◌≤◌, ◌<◌}
use native.Mathlib.Omega.{arith}
use lib.Dec.{eqb, lit≤}
use lib.ListN.{length, take, get_or}
use lib.Seq.{take-take}
use borrow.Author.Tests.{eqb-true, eqb-false}
use Rattle.words.proofs.Laws.{both_left, both_right}
use Rattle.bits.specs.Bits.{bits_n, bits_of, bits_to, acc_of}
use Rattle.bits.specs.Read.{read_bits}
use Rattle.fields.specs.Fields.{digits_in, bit_field, extension_bit, whole_number, extensible_index}
use Rattle.fields.specs.Refusals.{number_of, packed}
use Rattle.apdu.specs.Pdus.{lent}
use Rattle.apdu.specs.Sizes.{all_bits}
use Rattle.apdu.specs.Reading.{mode_value, mode_at, kind_mode, leading_at}
use Rattle.pdus.specs.declared.PduType.{PduType}
use Rattle.pdus.specs.declared.PduType.TheVariants.{AircraftPdus, GroundPdus}
use Rattle.quick.specs.Leading.{lead_number, byte_lead}
use Rattle.quick.specs.Quick.{most}
use Rattle.quick.proofs.Laws.{quick_front}

-- ---- the bytes

-- bytes of a type that say the same: the first of them, how many there are, and what they say
pub record Row : Type 0 where
  pub type : PduType
  pub from : ℕ
  pub count : ℕ
  pub says : ℕ

abbrev pub row : PduType → ℕ → ℕ → ℕ → Row
row p f c n = record { type = p; from = f; count = c; says = n }

-- every byte of both types, in the order of the code
abbrev pub rows : List Row
rows =
    row AircraftPdus 0 32 0 ∷
    row AircraftPdus 32 32 256 ∷
    row AircraftPdus 64 16 512 ∷
    row AircraftPdus 80 8 1041 ∷
    row AircraftPdus 88 8 66048 ∷
    row AircraftPdus 96 32 768 ∷
    row AircraftPdus 128 128 12 ∷
    row GroundPdus 0 16 0 ∷
    row GroundPdus 16 16 256 ∷
    row GroundPdus 32 16 512 ∷
    row GroundPdus 48 16 768 ∷
    row GroundPdus 64 16 1024 ∷
    row GroundPdus 80 16 1280 ∷
    row GroundPdus 96 32 267 ∷
    row GroundPdus 128 128 12 ∷ []

-- count bytes from one on say n
steady : PduType → ℕ → ℕ → ℕ → Bool
steady p from zero n = true
steady p from (suc k) n = eqb (byte_lead p (from + k)) n && steady p from k n

passes : List Row → Bool
passes [] = true
passes (r ∷ rs) = steady r.type r.from r.count r.says && passes rs

-- the test that is computed: 256 bytes of each type
rows_pass : passes rows ≡ true
unfolding passes steady byte_lead lead_number leading_at kind_mode mode_at mode_value packed number_of extensible_index
    extension_bit whole_number bit_field digits_in read_bits bits_of bits_n acc_of
rows_pass = refl

other_below : (m b : ℕ) → b < suc m → (b ≡ m → ⊥) → b < m
other_below m b h f = omega (arith, f)

steady_at : (p : PduType) (from k n : ℕ) → steady p from k n ≡ true → (b : ℕ) → from ≤ b → b < from + k → n ≡ byte_lead p b
unfolding steady
steady_at p from zero n t b h l = absurd (omega arith)
steady_at p from (suc k) n t b h l =
    here_or (eqb b (from + k)) refl (λ (g : b < from + k). steady_at p from k n
    (both_right (eqb (byte_lead p (from + k)) n) (steady p from k n) t) b h g)
  where
    here_or : (q : Bool) → eqb b (from + k) ≡ q → (b < from + k → n ≡ byte_lead p b) → n ≡ byte_lead p b
    here_or true e up = sym (rw (eqb-true b (from + k) e) (eqb-true _ _ (both_left (eqb (byte_lead p (from + k)) n) (steady p from k n) t)))
    here_or false e up = up (other_below (from + k) b (omega arith) (eqb-false b (from + k) e))

abbrev pub none : Row
none = row AircraftPdus 0 0 0

passed_at : (rs : List Row) → passes rs ≡ true → (i : ℕ) → i < length rs → (b : ℕ) → (get_or rs i none).from ≤ b
    → b < (get_or rs i none).from + (get_or rs i none).count → (get_or rs i none).says ≡ byte_lead (get_or rs i none).type b
unfolding passes
passed_at [] t i h b l u = absurd (omega arith)
passed_at (r ∷ rs) t zero h b l u = steady_at r.type r.from r.count r.says
    (both_left (steady r.type r.from r.count r.says) (passes rs) t) b l u
passed_at (r ∷ rs) t (suc i) h b l u = passed_at rs
    (both_right (steady r.type r.from r.count r.says) (passes rs) t) i (omega arith) b l u

-- a byte of a row says what the row says
pub row_says : (i : ℕ) → i < length rows → (b : ℕ) → (get_or rows i none).from ≤ b
    → b < (get_or rows i none).from + (get_or rows i none).count
    → (get_or rows i none).says ≡ byte_lead (get_or rows i none).type b
row_says i h b l u = passed_at rows rows_pass i h b l u

-- ---- the bytes behind the first

front_bits : (b : ℕ) (s : List ℕ) → take most (lent (b ∷ s)) ≡ take most (bits_of (b ∷ []))
unfolding bits_to bits_of bits_n
front_bits b s = take-take most all_bits (bits_of (b ∷ s)) (lit≤ tt)

-- where there is a byte, the first one says it all
pub first_says : (p : PduType) (s : List ℕ) → 0 < length s → byte_lead p (get_or s 0 0) ≡ lead_number (leading_at p (lent s) 0)
unfolding byte_lead
first_says p [] h = absurd (omega arith)
first_says p (b ∷ s) h =
    ap lead_number (sym (quick_front p (bits_of (b ∷ []))) ∙
    (ap (λ (l : List ℕ). leading_at p l 0) (sym (front_bits b s)) ∙ quick_front p (lent (b ∷ s))))

-- where there is none, SHORT at bit 0
pub nothing_says : (p : PduType) (s : List ℕ) → length s ≡ 0 → 10 ≡ lead_number (leading_at p (lent s) 0)
unfolding lead_number leading_at packed number_of extensible_index extension_bit bit_field read_bits bits_to bits_of
nothing_says AircraftPdus [] h = refl
nothing_says GroundPdus [] h = refl
nothing_says p (b ∷ s) h = absurd (omega arith)
