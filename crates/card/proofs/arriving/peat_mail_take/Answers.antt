use Rattle.card.proofs.Arrived.{no_job, took_as}
use Rattle.card.proofs.arriving.peat_mail_take.Goals as goal

pub returns-then-job-ne-JOB_BYTES : goal.returns-then-job-ne-JOB_BYTES
returns-then-job-ne-JOB_BYTES c = no_job _ _ _ c.if-job-ne-JOB_BYTES.true

pub returns : goal.returns
returns c =
    took_as _ _ _ _ _ _ _ c.if-job-ne-JOB_BYTES.false c.take-t.ensures c.put_taken_job.ensures
    c.taken_number.ensures
