use Rattle.step.proofs.Calling.{led_out}
use Rattle.step.proofs.call.hand.Goals as goal

pub returns : goal.returns
returns c =
    led_out _ _ _ _ _ _ _ _ _ _ c.requires.0 c.requires.1 c.requires.2 c.requires.3 c.put_led.ensures
    c.unwrap_or-n.ensures c.pad.ensures
