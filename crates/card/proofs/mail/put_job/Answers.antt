use mathlib.Core.Path.{◌∙◌}
use Rattle.card.proofs.Answered.{job_whole}
use Rattle.card.proofs.mail.put_job.Goals as goal

pub returns : goal.returns
returns c = c.put_eight.ensures ∙ job_whole c.args.job.now c.args.number c.requires
