use mathlib.Core.Path.{◌∙◌}
use native.Mathlib.Omega.{arith}
use Rattle.fragments.specs.Texts.{end_of}
use Rattle.envelope.proofs.Puts.{put_then}
use Rattle.fragments.proofs.Lines.{length_end}
use Rattle.fragments.proofs.reporting.put_end.Goals as goal

pub put_text-a-requires : goal.put_text-a-requires
put_text-a-requires c = omega (arith, length_end c.args.read)

pub put_decimal-b-requires : goal.put_decimal-b-requires
put_decimal-b-requires c =
    omega (arith, length_end c.args.read, c.put_text-a.ensures.place, c.put_text-a.auto.out)

pub put_text-requires : goal.put_text-requires
put_text-requires c =
    omega (
      arith,
      length_end c.args.read,
      c.put_text-a.ensures.place,
      c.put_text-a.auto.out,
      c.put_decimal-b.ensures.place,
      c.put_decimal-b.auto.out,
    )

pub shape_of-out : goal.shape_of-out
shape_of-out c = c.put_text.auto.out ∙ (c.put_decimal-b.auto.out ∙ c.put_text-a.auto.out)

pub returns : goal.returns
unfolding end_of
returns c =
    put_then _ _ _ _ _ _ _ _ c.put_text-a.ensures
    (put_then _ _ _ _ _ _ _ _ c.put_decimal-b.ensures c.put_text.ensures)
