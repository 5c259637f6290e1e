use mathlib.Core.Path.{◌∙◌}
use Rattle.protected.proofs.Leaves.{found_is}
use Rattle.protected.proofs.reading.read_found.Goals as goal

pub returns-in-Ok-AbortUser : goal.returns-in-Ok-AbortUser
returns-in-Ok-AbortUser c = c.bare-in-Ok-AbortUser.ensures ∙ found_is _ _ _ _ _ c.read_apdu.ensures c.in-Ok-AbortUser.is c.in-Ok-AbortUser.field-0-is

pub returns-in-Ok-AbortProvider : goal.returns-in-Ok-AbortProvider
returns-in-Ok-AbortProvider c = c.bare-in-Ok-AbortProvider.ensures ∙ found_is _ _ _ _ _ c.read_apdu.ensures c.in-Ok-AbortProvider.is c.in-Ok-AbortProvider.field-0-is

pub returns-in-Ok-Start : goal.returns-in-Ok-Start
returns-in-Ok-Start c = rw c.content_of.ensures (found_is _ _ _ _ _ c.read_apdu.ensures c.in-Ok-Start.is c.in-Ok-Start.field-0-is)

pub returns-in-Ok-Send : goal.returns-in-Ok-Send
returns-in-Ok-Send c = rw c.content_of-in-Ok-Send.ensures (found_is _ _ _ _ _ c.read_apdu.ensures c.in-Ok-Send.is c.in-Ok-Send.field-0-is)

pub returns-in-Ok-Forward : goal.returns-in-Ok-Forward
returns-in-Ok-Forward c = c.forward_run.ensures ∙ found_is _ _ _ _ _ c.read_apdu.ensures c.in-Ok-Forward.is c.in-Ok-Forward.field-0-is

pub returns-in-Ok-ForwardResponse : goal.returns-in-Ok-ForwardResponse
returns-in-Ok-ForwardResponse c = c.bare-in-Ok-ForwardResponse.ensures ∙ found_is _ _ _ _ _ c.read_apdu.ensures c.in-Ok-ForwardResponse.is c.in-Ok-ForwardResponse.field-0-is
