use native.Mathlib.Omega.{arith}
use Prim.Native.Nat.{◌+◌}
use Rattle.fields.proofs.Writers.{led_put, length_short, length_long}
use Rattle.fields.proofs.strings.put_counted.Goals as goal

pub returns-then-n-lt128 : goal.returns-then-n-lt128
returns-then-n-lt128 c =
    led_put _ _ _ _ _ _ _ _ _ _ c.requires.0 c.requires.1 8 c.args.n c.args.n (omega arith) (omega arith)
    (length_short _ c.if-n-lt128.true) c.put_led.ensures

pub returns : goal.returns
returns c =
    led_put _ _ _ _ _ _ _ _ _ _ c.requires.0 c.requires.1 16 (32768 + c.args.n) c.args.n (omega arith)
    (omega arith) (length_long _ c.if-n-lt128.false) c.put_led-2.ensures
