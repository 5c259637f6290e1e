use mathlib.Core.Path.{refl}
use Rattle.fragments.proofs.Storing.{head_put, eight_is}
use Rattle.fragments.proofs.stored.put_head.Goals as goal

pub returns : goal.returns
returns c =
    head_put _ _ _ _ _ _ _ _ refl (eight_is _ _ c.to_be_bytes-back.ensures) c.put_bytes.ensures
    c.put_bytes-2.ensures
