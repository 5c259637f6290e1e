use Rattle.std.proofs.Common.{rules}
use Rattle.apdu.specs.Pdus.{lent}
use Rattle.apdu.specs.Encoding.{alternative, mode_bits}
use Rattle.apdu.specs.declared.Kind.TheVariants.{Start}
use mathlib.Core.Path.{ap, sym, ◌∙◌}
use mathlib.Core.List.{append_assoc}
use native.Mathlib.Omega.{arith}
use Prim.Native.Nat.{◌^◌, ◌≤◌}
use lib.Pow.{pow_mono}
use Rattle.apdu.specs.Writing.{write_out}
use Rattle.apdu.proofs.Writers.{there_lt, may_write, turned_away}
use Rattle.apdu.proofs.InPlaceWriters.{marked, marked_lt}
use Rattle.apdu.proofs.in_place.put_start_in_place.Goals as goal

pub returns-in_err-writable : goal.returns-in_err-writable
returns-in_err-writable c = turned_away _ _ _ c.writable.ensures _ _ _ _ c.in_err-writable.was (search rules) (λ f. rw (sym c.mode_fits.ensures ∙ f))

pub start_front-front-requires : goal.start_front-front-requires
start_front-front-requires c = (may_write _ _ _ c.writable.ensures _ _ c.mode_fits.ensures c.in_ok-writable.was).right

pub overflow_mul-number : goal.overflow_mul-number
overflow_mul-number c =
    let few : 2 ^ c.start_front-front.result.width ≤ 2 ^ 5 = pow_mono {i = c.start_front-front.result.width} {j = 5} c.start_front-front.ensures.0.0 in
    omega (arith, few, c.start_front-front.ensures.0.1)

pub overflow_add-number : goal.overflow_add-number
overflow_add-number c =
    let few : 2 ^ c.start_front-front.result.width ≤ 2 ^ 5 = pow_mono {i = c.start_front-front.result.width} {j = 5} c.start_front-front.ensures.0.0 in
    omega (arith, few, c.start_front-front.ensures.0.1, c.presence.ensures, there_lt c.args.d.message)

pub write_in_place-requires : goal.write_in_place-requires
write_in_place-requires c = (
  omega (arith, c.start_front-front.ensures.0.0),
  marked_lt c.start_front-front.result.width
      c.start_front-front.result.number c.presence.result c.args.d.message c.presence.ensures
      c.start_front-front.ensures.0.1,
)

pub returns : goal.returns
returns c =
    let ok = may_write _ _ _ c.writable.ensures _ _ c.mode_fits.ensures c.in_ok-writable.was in
    rw ok.right (
    c.write_in_place.ensures ∙ ap (write_out _ _) (marked c.start_front-front.result.width
    c.start_front-front.result.number c.presence.result c.args.d.message c.presence.ensures
    (lent c.args.msgs.now) _ c.start_front-front.ensures.1 ∙ append_assoc
    (alternative c.args.pdus Start) (mode_bits c.args.pdus c.args.m) _))
