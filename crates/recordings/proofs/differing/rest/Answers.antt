use Rattle.envelope.specs.Envelopes.{most_bits}
use Rattle.recordings.proofs.Differences.{rest_over_first, rest_over_second, rest_within, rest_refused, rest_differs, rest_second, rest_first}
use Rattle.recordings.proofs.differing.rest.Goals as goal

pub returns-then-m-gt-MOST : goal.returns-then-m-gt-MOST
returns-then-m-gt-MOST c = rest_over_first most_bits c.args.first.now c.args.second.now c.if-m-gt-MOST.true

pub returns-then-n-gt-MOST : goal.returns-then-n-gt-MOST
returns-then-n-gt-MOST c =
    rest_over_second most_bits c.args.first.now c.args.second.now c.if-m-gt-MOST.false
    c.if-n-gt-MOST.true

pub returns-in_default : goal.returns-in_default
returns-in_default c =
    rest_within most_bits c.args.first.now c.args.second.now _ c.if-m-gt-MOST.false
    c.if-n-gt-MOST.false (rest_refused most_bits c.args.first.now c.args.second.now
    c.search.result _ c.search.ensures c.in_default.is)

pub returns-in_default-first_difference : goal.returns-in_default-first_difference
returns-in_default-first_difference c =
    rest_within most_bits c.args.first.now c.args.second.now _ c.if-m-gt-MOST.false
    c.if-n-gt-MOST.false (rest_differs most_bits c.args.first.now c.args.second.now
    c.search.result c.first_difference.result _ c.search.ensures
    c.in-Ok.is c.first_difference.ensures c.in_default-first_difference.is)

pub returns-then-m-n : goal.returns-then-m-n
returns-then-m-n c =
    rest_within most_bits c.args.first.now c.args.second.now _ c.if-m-gt-MOST.false
    c.if-n-gt-MOST.false (rest_second most_bits c.args.first.now c.args.second.now
    c.search.result c.first_difference.result c.search.ensures c.in-Ok.is
    c.first_difference.ensures c.in-None.is c.if-m-n.true)

pub returns : goal.returns
returns c =
    rest_within most_bits c.args.first.now c.args.second.now _ c.if-m-gt-MOST.false
    c.if-n-gt-MOST.false (rest_first most_bits c.args.first.now c.args.second.now
    c.search.result c.first_difference.result c.search.ensures c.in-Ok.is
    c.first_difference.ensures c.in-None.is c.if-m-n.false)
