use borrow.Author.Rules.{rules}
use Rattle.envelope.specs.Envelopes.{most_bits}
use Rattle.recordings.specs.Recordings.{jobs}
use Rattle.recordings.proofs.Calls.{over_first, over_second, stops, room, done, all_fit, unstopped}
use Rattle.recordings.proofs.comparing.compare.Goals as goal

pub returns-then-first-gt-MOST : goal.returns-then-first-gt-MOST
returns-then-first-gt-MOST c =
    over_first most_bits c.args.first.now c.args.second.now c.args.left.now c.args.right.now
    c.args.twice.now _ c.if-first-gt-MOST.true c.refused_with.ensures

pub returns-then-second-gt-MOST : goal.returns-then-second-gt-MOST
returns-then-second-gt-MOST c =
    over_second most_bits c.args.first.now c.args.second.now c.args.left.now c.args.right.now
    c.args.twice.now _ c.if-first-gt-MOST.false c.if-second-gt-MOST.true c.refused_with-then-second-gt-MOST.ensures

pub returns-in-Err : goal.returns-in-Err
returns-in-Err c =
    stops most_bits c.args.first.now c.args.second.now c.args.left.now c.args.right.now
    c.args.twice.now _ c.search.result _ c.if-first-gt-MOST.false c.if-second-gt-MOST.false
    c.search.ensures c.in-Err.is c.stop_answer.ensures

pub lacks_room-requires : goal.lacks_room-requires
lacks_room-requires c =
    (c.if-first-gt-MOST.false, c.if-second-gt-MOST.false, search rules, search rules, search rules)

pub returns-then-lacks_room : goal.returns-then-lacks_room
returns-then-lacks_room c =
    room most_bits c.args.first.now c.args.second.now c.args.left.now c.args.right.now
    c.args.twice.now _ c.search.result c.lacks_room.result
    c.if-first-gt-MOST.false c.if-second-gt-MOST.false c.search.ensures (unstopped _ c.in_default.not-Err)
    c.lacks_room.ensures c.if-lacks_room.true c.refused_with-then-lacks_room.ensures

pub write_jobs-c-requires : goal.write_jobs-c-requires
write_jobs-c-requires c =
    let f = all_fit (jobs most_bits c.args.first.now) (jobs most_bits c.args.second.now) c.args.left.now c.args.right.now c.args.twice.now c.lacks_room.result c.lacks_room.ensures c.if-lacks_room.false in (c.if-first-gt-MOST.false, c.if-second-gt-MOST.false, search rules, search rules, search rules, f.first, f.second, f.third)

pub returns : goal.returns
returns c =
    done most_bits c.args.first.now c.args.second.now c.args.left.now c.args.right.now
    c.args.twice.now _ c.search.result c.lacks_room.result
    c.write_jobs-c.result c.first_difference-d.result _ _ _ c.if-first-gt-MOST.false c.if-second-gt-MOST.false
    c.search.ensures (unstopped _ c.in_default.not-Err) c.lacks_room.ensures c.if-lacks_room.false
    c.write_jobs-c.ensures.0 c.write_jobs-c.ensures.1 c.write_jobs-c.ensures.2
    c.write_jobs-c.ensures.3 c.first_difference-d.ensures c.report_of.ensures
