-- Additions from a later edition: the ways out of each reader, as the code has them.
-- Assumes nothing.
use mathlib.Core.Path.{◌≡◌, refl, ap, sym, ◌∙◌}
use mathlib.Core.List.{List}
use Prim.Native.Nat.{ℕ, zero, suc, ◌^◌, ◌<◌}
use borrow.Author.Tests.{eq-eqb, ltb-true}
use lib.Dec.{leb, ltb}
use Rattle.words.proofs.Laws.{both_right}
use Rattle.bits.proofs.Numbers.{Bits}
use Rattle.fields.specs.Additions.{addition_at, additions_there, stepped_over}
use Rattle.fields.specs.Fields.{Reading, refused_at, then, bit_field}
use Rattle.fields.specs.declared.Refusal.{Refusal}
use Rattle.fields.specs.declared.Fault.TheVariants.{Extension}
use Rattle.fields.proofs.Answers.{went}
use Rattle.fields.proofs.RoundTrip.{bit_field_is}
use Rattle.std.specs.Prelude.{Err, Ok}

-- the count is a number of seven bits, so that one more is no great number
pub count_small : (l : List ℕ) (at v next : ℕ) → Bits l → bit_field l at 7 ≡ Ok (v, next) → v < 128
count_small l at v next b p = ltb-true v (2 ^ 7) (both_right (leb 7 64) (ltb v (2 ^ 7)) ((bit_field_is 7).read_fits l at v next b p))

-- one of them at least is there
pub there_none : (l : List ℕ) (at n : ℕ) (f : Reading ℕ) → f ≡ bit_field l at n → (v next : ℕ) (o : Reading ℕ) → f ≡ Ok (v, next) → v ≡ 0
    → o ≡ refused_at at Extension → o ≡ additions_there l at n
unfolding additions_there
there_none l at n f p v next o q e h = went f _ o v next _ p q (rw (eq-eqb v 0 e) h)

-- ---- one after the other

stepped_none : (l : List ℕ) (at : ℕ) → stepped_over l at zero ≡ Ok (0, at)
unfolding stepped_over
stepped_none l at = refl

-- an addition that is refused, or the rest behind it
stepped_more : (l : List ℕ) (at k left : ℕ) → left ≡ suc k → stepped_over l at left ≡ then (addition_at l at) (λ (n next : ℕ). stepped_over l next k)
unfolding stepped_over
stepped_more l at k left e = rw e

module _ (l : List ℕ) (p left : ℕ) (z : Reading ℕ) (inv : stepped_over l p left ≡ z) where
  pub stepped_done : left ≡ 0 → Ok (0, p) ≡ z
  stepped_done e = sym (stepped_none l p) ∙ ap (stepped_over l p) (sym e) ∙ inv

  module _ (k : ℕ) (one_more : left ≡ suc k) where
    pub stepped_handed : (r : Refusal) → addition_at l p ≡ Err r → Err r ≡ z
    stepped_handed r e = sym (ap (λ (x : Reading ℕ). then x (λ (n next : ℕ). stepped_over l next k)) e) ∙ sym (stepped_more l p k left one_more) ∙ inv

    pub stepped_on : (n next : ℕ) → addition_at l p ≡ Ok (n, next) → stepped_over l next k ≡ z
    stepped_on n next e = sym (ap (λ (x : Reading ℕ). then x (λ (m place : ℕ). stepped_over l place k)) e) ∙ sym (stepped_more l p k left one_more) ∙ inv
