use mathlib.Core.Path.{◌∙◌, ap}
use Prim.Native.Nat.{ℕ}
use lib.ListN.{length}
use Rattle.fragments.specs.Texts.{decimal, refusal_of}
use native.Mathlib.Omega.{arith}
use Rattle.envelope.proofs.Puts.{put_then}
use Rattle.fragments.proofs.Lines.{length_refusal}
use Rattle.fragments.proofs.reporting.put_refusal.Goals as goal

pub put_text-a-requires : goal.put_text-a-requires
put_text-a-requires c = omega (arith, length_refusal c.args.r c.args.begin)

pub put_decimal-b-requires : goal.put_decimal-b-requires
put_decimal-b-requires c =
    omega (arith, length_refusal c.args.r c.args.begin, c.number.ensures, c.put_text-a.ensures.place, c.put_text-a.auto.out, ap (λ (n : ℕ). length (decimal n)) c.number.ensures)

pub put_text-c-requires : goal.put_text-c-requires
put_text-c-requires c =
    omega (arith, length_refusal c.args.r c.args.begin, c.put_text-a.ensures.place, c.put_text-a.auto.out, c.put_decimal-b.ensures.place, c.put_decimal-b.auto.out, ap (λ (n : ℕ). length (decimal n)) c.number.ensures)

pub put_decimal-d-requires : goal.put_decimal-d-requires
put_decimal-d-requires c =
    omega (arith, length_refusal c.args.r c.args.begin, c.put_text-a.ensures.place, c.put_text-a.auto.out, c.put_decimal-b.ensures.place, c.put_decimal-b.auto.out, c.put_text-c.ensures.place, c.put_text-c.auto.out, ap (λ (n : ℕ). length (decimal n)) c.number.ensures)

pub put_text-requires : goal.put_text-requires
put_text-requires c =
    omega (arith, length_refusal c.args.r c.args.begin, c.put_text-a.ensures.place, c.put_text-a.auto.out, c.put_decimal-b.ensures.place, c.put_decimal-b.auto.out, c.put_text-c.ensures.place, c.put_text-c.auto.out, c.put_decimal-d.ensures.place, c.put_decimal-d.auto.out, ap (λ (n : ℕ). length (decimal n)) c.number.ensures)

pub shape_of-out : goal.shape_of-out
shape_of-out c =
    c.put_text.auto.out ∙
    (c.put_decimal-d.auto.out ∙ (c.put_text-c.auto.out ∙ (c.put_decimal-b.auto.out ∙ c.put_text-a.auto.out)))

pub returns : goal.returns
unfolding refusal_of
returns c =
    rw (← c.number.ensures) (put_then _ _ _ _ _ _ _ _ c.put_text-a.ensures (put_then _ _ _ _ _ _ _ _
    c.put_decimal-b.ensures (put_then _ _ _ _ _ _ _ _ c.put_text-c.ensures
    (put_then _ _ _ _ _ _ _ _ c.put_decimal-d.ensures c.put_text.ensures))))
