use native.Mathlib.Omega.{arith}
use mathlib.Core.Path.{sym, ◌∙◌}
use Rattle.envelope.proofs.Numbers.{AllBytes}
use Rattle.fragments.proofs.Unfinished.{lacks_kind, lacks_job, lacks_size, lacks_body, number_within}
use Rattle.fragments.proofs.missing.lacking.Goals as goal

pub returns-in_default : goal.returns-in_default
returns-in_default c = lacks_kind _ _ c.read_number.ensures _ c.in_default.is

pub returns-in_default-read_number : goal.returns-in_default-read_number
returns-in_default-read_number c =
    lacks_job _ _ c.read_number.ensures _ _ c.in-Ok.is _
    c.read_number-2.ensures _ c.in_default-read_number.is

pub returns-in_default-read_number-2 : goal.returns-in_default-read_number-2
returns-in_default-read_number-2 c =
    lacks_size _ _ c.read_number.ensures _ _ c.in-Ok.is _
    c.read_number-2.ensures _ _ c.in-Ok-read_number.is _
    c.read_number-3.ensures _ c.in_default-read_number-2.is

pub overflow_sub-s : goal.overflow_sub-s
overflow_sub-s c =
    let bytes : AllBytes c.args.s.now = λ k. omega (arith, c.type_inv.s k) in
    number_within _ _ _ _ _ bytes c.read_number-3.ensures c.in-Ok-read_number-2.is

pub returns : goal.returns
returns c =
    let bytes : AllBytes c.args.s.now = λ k. omega (arith, c.type_inv.s k) in
    omega (
      arith,
      c.saturating_sub.ensures,
      number_within _ _ _ _ _ bytes c.read_number-3.ensures
          c.in-Ok-read_number-2.is,
      lacks_body _ _ c.read_number.ensures _ _ c.in-Ok.is
          _ c.read_number-2.ensures _ _ c.in-Ok-read_number.is _
          c.read_number-3.ensures _ _ _ c.in-Ok-read_number-2.is c.bytes_for.ensures,
    )
