-- The numbers that the calls of arriving envelopes answer: what they say of a finished one can be taken out of them again.
-- Assumes nothing.
use mathlib.Core.Path.{◌≡◌, sym, ap, ◌∙◌}
use mathlib.Core.List.{List}
use Prim.Native.Nat.{ℕ}
use native.Mathlib.Omega.{arith}
use borrow.Author.Tests.{eq-eqb, ne_eqb}
use lib.ListN.{length}
use Rattle.std.specs.Prelude.{Ok}
use Rattle.envelope.specs.Envelopes.{most_bits}
use Rattle.envelope.specs.declared.Envelope.{Envelope}
use Rattle.envelope.proofs.Numbers.{AllBytes}
use Rattle.envelope.proofs.Sizes.{largest_is}
use Rattle.fragments.specs.declared.Taken.TheVariants.{Whole}
use Rattle.fragments.specs.Mail.{Taking}
use Rattle.fragments.specs.Record.{After, after, take_at}
use Rattle.fragments.proofs.Answers.{answer_small}
use Rattle.fragments.proofs.Calls.{sized}
use Rattle.card.specs.Mail.{job_bytes}
use Rattle.layout.specs.Calls.{sent}
use Rattle.card.specs.Arriving.{taken_number, arrived, job_by, took, take_mail}
use Rattle.card.proofs.Answered.{Says, parts}

-- as two of the calls have them
pub arrived_as : (n : ℕ) (t : Taking) (b : List ℕ) (x : After) → n ≡ taken_number t → after t b ≡ x → sent n b ≡ arrived x
arrived_as n t b x p q = rw (p, ← q)

-- as `peat_mail_take` has them
pub no_job : (b f j : List ℕ) → (length j ≡ job_bytes → ⊥) → took 2 b j ≡ take_mail b f j
unfolding take_mail
no_job b f j h = rw (ne_eqb (length j) job_bytes h)

pub took_as : (b f j z k : List ℕ) (n : ℕ) (t : Taking) → length j ≡ job_bytes → after t z ≡ take_at most_bits b f
    → k ≡ job_by j t → n ≡ taken_number t → took n z k ≡ take_mail b f j
unfolding take_mail
took_as b f j z k n t h e p q = rw (eq-eqb (length j) job_bytes h, ← e, p, q)

-- a finished envelope and the bytes that it took are all in the number
pub finished_said : (b f : List ℕ) (e : Envelope) (n : ℕ) → AllBytes b → AllBytes f → (take_at most_bits b f).answer ≡ Ok (Whole e n) → Says (taken_number (take_at most_bits b f).answer) (record { kind = e.kind; job = e.job; bits = e.bits; body = e.body; next = n })
unfolding taken_number
finished_said b f e n x y p =
    let s = answer_small most_bits sized e n b f x y p in
    rw p (parts (record { kind = e.kind; job = e.job; bits = e.bits; body = e.body; next = n }) (omega arith) (omega arith) (omega (arith, largest_is)) (omega (arith, largest_is)))
