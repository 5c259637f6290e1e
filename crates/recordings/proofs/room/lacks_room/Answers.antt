use mathlib.Core.Path.{sym, ◌∙◌}
use native.Mathlib.Omega.{arith}
use Rattle.envelope.specs.Envelopes.{most_bits}
use Rattle.envelope.proofs.Numbers.{AllBytes}
use Rattle.recordings.specs.Recordings.{jobs}
use Rattle.recordings.proofs.Enough.{first_fits, second_fits, third_fits, lacks_none, lacks_first, lacks_second, lacks_third}
use Rattle.recordings.proofs.room.lacks_room.Goals as goal

pub is_enough-requires : goal.is_enough-requires
is_enough-requires c = c.requires.0

pub is_enough-requires-then-is_enough : goal.is_enough-requires-then-is_enough
is_enough-requires-then-is_enough c = c.requires.1

pub overflow_add-first : goal.overflow_add-first
overflow_add-first c = omega (arith, c.requires.0, c.requires.1)

pub is_enough-requires-then-is_enough-2 : goal.is_enough-requires-then-is_enough-2
is_enough-requires-then-is_enough-2 c = omega (arith, c.requires.0, c.requires.1)

pub returns-then-is_enough-3 : goal.returns-then-is_enough-3
returns-then-is_enough-3 c =
    let one : AllBytes c.args.first.now = λ k. omega (arith, c.type_inv.first k) in
    let two : AllBytes c.args.second.now = λ k. omega (arith, c.type_inv.second k) in
    lacks_none (jobs most_bits c.args.first.now)
    (jobs most_bits c.args.second.now) c.args.left.now
    c.args.right.now c.args.twice.now (first_fits most_bits
    c.args.first.now c.args.second.now one two
    c.args.left.now
    (sym c.is_enough.ensures ∙ c.if-is_enough.true)) (second_fits most_bits
    c.args.first.now c.args.second.now one two
    c.args.right.now (sym c.is_enough-then-is_enough.ensures ∙ c.if-is_enough-2.true)) (
    third_fits most_bits c.args.first.now c.args.second.now
    one two c.args.twice.now
    (sym c.is_enough-then-is_enough-2.ensures ∙ c.if-is_enough-3.true))

pub count_jobs-c-requires : goal.count_jobs-c-requires
count_jobs-c-requires c = (c.requires.0, c.requires.1, c.requires.2, c.requires.3, c.requires.4)

pub returns-then-left-c : goal.returns-then-left-c
returns-then-left-c c =
    lacks_first (jobs most_bits c.args.first.now) (jobs most_bits c.args.second.now) c.args.left.now
    c.args.right.now c.args.twice.now c.count_jobs-c.result c.count_jobs-c.ensures
    c.if-left-c.true

pub returns-then-right-c : goal.returns-then-right-c
returns-then-right-c c =
    lacks_second (jobs most_bits c.args.first.now) (jobs most_bits c.args.second.now) c.args.left.now
    c.args.right.now c.args.twice.now c.count_jobs-c.result c.count_jobs-c.ensures
    c.if-left-c.false c.if-right-c.true

pub returns : goal.returns
returns c =
    lacks_third (jobs most_bits c.args.first.now) (jobs most_bits c.args.second.now) c.args.left.now
    c.args.right.now c.args.twice.now c.count_jobs-c.result c.count_jobs-c.ensures
    c.if-left-c.false c.if-right-c.false
