use mathlib.Core.Path.{◌∙◌}
use native.Mathlib.Omega.{arith}
use Rattle.fragments.specs.Texts.{line_of}
use Rattle.envelope.proofs.Puts.{put_then}
use Rattle.fragments.proofs.Lines.{length_line}
use Rattle.fragments.proofs.reporting.put_line.Goals as goal

pub put_decimal-a-requires : goal.put_decimal-a-requires
put_decimal-a-requires c =
    omega (
      arith,
      length_line c.args.kind c.args.job
          c.args.bits,
    )

pub put_text-b-requires : goal.put_text-b-requires
put_text-b-requires c =
    omega (
      arith,
      length_line c.args.kind c.args.job c.args.bits,
      c.put_decimal-a.ensures.place,
      c.put_decimal-a.auto.out,
    )

pub put_decimal-c-requires : goal.put_decimal-c-requires
put_decimal-c-requires c =
    omega (
      arith,
      length_line c.args.kind c.args.job c.args.bits,
      c.put_decimal-a.ensures.place,
      c.put_decimal-a.auto.out,
      c.put_text-b.ensures.place,
      c.put_text-b.auto.out,
    )

pub put_text-d-requires : goal.put_text-d-requires
put_text-d-requires c =
    omega (
      arith,
      length_line c.args.kind c.args.job c.args.bits,
      c.put_decimal-a.ensures.place,
      c.put_decimal-a.auto.out,
      c.put_text-b.ensures.place,
      c.put_text-b.auto.out,
      c.put_decimal-c.ensures.place,
      c.put_decimal-c.auto.out,
    )

pub put_decimal-e-requires : goal.put_decimal-e-requires
put_decimal-e-requires c =
    omega (
      arith,
      length_line c.args.kind c.args.job c.args.bits,
      c.put_decimal-a.ensures.place,
      c.put_decimal-a.auto.out,
      c.put_text-b.ensures.place,
      c.put_text-b.auto.out,
      c.put_decimal-c.ensures.place,
      c.put_decimal-c.auto.out,
      c.put_text-d.ensures.place,
      c.put_text-d.auto.out,
    )

pub put_text-requires : goal.put_text-requires
put_text-requires c =
    omega (
      arith,
      length_line c.args.kind c.args.job c.args.bits,
      c.put_decimal-a.ensures.place,
      c.put_decimal-a.auto.out,
      c.put_text-b.ensures.place,
      c.put_text-b.auto.out,
      c.put_decimal-c.ensures.place,
      c.put_decimal-c.auto.out,
      c.put_text-d.ensures.place,
      c.put_text-d.auto.out,
      c.put_decimal-e.ensures.place,
      c.put_decimal-e.auto.out,
    )

pub shape_of-out : goal.shape_of-out
shape_of-out c =
    c.put_text.auto.out ∙ (c.put_decimal-e.auto.out ∙ (c.put_text-d.auto.out ∙
    (c.put_decimal-c.auto.out ∙ (c.put_text-b.auto.out ∙ c.put_decimal-a.auto.out))))

pub returns : goal.returns
unfolding line_of
returns c =
    put_then _ _ _ _ _ _ _ _ c.put_decimal-a.ensures (put_then _ _ _ _ _ _ _ _ c.put_text-b.ensures (put_then _
    _ _ _ _ _ _ _ c.put_decimal-c.ensures (put_then _ _ _ _ _ _ _ _ c.put_text-d.ensures
    (put_then _ _ _ _ _ _ _ _ c.put_decimal-e.ensures c.put_text.ensures))))
