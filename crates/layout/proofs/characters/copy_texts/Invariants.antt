use Rattle.bits.specs.Bits.{bits_to}
use Rattle.layout.proofs.Texts.{Taken}
use Rattle.layout.proofs.characters.copy_texts.Given as goal

abbrev pub invariant-loop-i : goal.invariant-loop-i
invariant-loop-i l = Taken (bits_to l.s l.end) l.counts l.starts l.initial.text l.i l.t l.text
