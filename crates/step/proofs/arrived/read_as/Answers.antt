use Rattle.step.proofs.Runs.{start_needs, send_needs, forward_needs}
use Rattle.step.proofs.arrived.read_as.Goals as goal

pub body_of-requires : goal.body_of-requires
body_of-requires c =
    start_needs _ _ _ _ _ c.read_apdu.ensures c.in-Ok-Start.is _ _ _ c.start_at.ensures c.in-Ok-Start.field-0-is

pub body_of-requires-in-Ok-Send : goal.body_of-requires-in-Ok-Send
body_of-requires-in-Ok-Send c =
    send_needs _ _ _ _ _ c.read_apdu.ensures c.in-Ok-Send.is _ _ c.send_at.ensures c.in-Ok-Send.field-0-is

pub forward_of-requires : goal.forward_of-requires
forward_of-requires c = forward_needs _ _ _ _ _ c.read_apdu.ensures c.in-Ok-Forward.is _ c.in-Ok-Forward.field-0-is
