use mathlib.Core.Path.{refl}
use Rattle.inner.proofs.HeaderRead.{numbers_say}
use Rattle.inner.proofs.header.header_from.Goals as goal

pub returns : goal.returns
returns c = (refl, refl, refl, numbers_say c.args.w c.requires.1)
