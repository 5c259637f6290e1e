use mathlib.Core.Path.{◌≡◌, sym, ◌∙◌}
use Rattle.bits.proofs.Bytes.{bits_to_is}
use Rattle.std.proofs.Common.{rules}
use Rattle.std.specs.Prelude.{Err}
use Rattle.inplace.proofs.Bodies.{message_spanned, message_after}
use Rattle.inplace.proofs.message_span.Goals as goal

pub returns-in_err-next : goal.returns-in_err-next
returns-in_err-next c =
    let e : c.from_residual-in_err-next.result ≡ Err c.in_err-next.field-0.0 = search rules in
    rw (message_spanned _ _ _ _ c.read_header.ensures _ _ c.in_ok-from.was _ _ c.body_end.ensures, c.in_err-next.was) e

pub overflow_sub-result : goal.overflow_sub-result
overflow_sub-result c =
    message_after _ _ _ _ c.read_header.ensures _ _ c.in_ok-from.was _ _ c.body_end.ensures _ (bits_to_is _ _) c.in_ok-next.was

pub returns : goal.returns
returns c = rw (message_spanned _ _ _ _ c.read_header.ensures _ _ c.in_ok-from.was _ _ c.body_end.ensures, c.in_ok-next.was)
