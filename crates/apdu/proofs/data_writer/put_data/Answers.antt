use mathlib.Core.Path.{ap, ◌∙◌}
use Rattle.apdu.specs.Writing.{write_out}
use Rattle.apdu.proofs.Writers.{unled}
use Rattle.apdu.proofs.data_writer.put_data.Goals as goal

pub returns : goal.returns
returns c = c.write_data.ensures ∙ ap (write_out _ _) (unled _)
