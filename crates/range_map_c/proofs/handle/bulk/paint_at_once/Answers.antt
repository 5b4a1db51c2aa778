use Rattle.std.proofs.Common.{rules}
use Rattle.range_map_c.specs.Tables.{rows}
use Rattle.range_map_c.proofs.Parts.{none_part, refused_part, status_word}
use Rattle.range_map_c.proofs.handle.bulk.paint_at_once.Goals as goal

pub returns-in-Err-clause-err : goal.returns-in-Err-clause-err
returns-in-Err-clause-err c = rw c.in_hand.ensures.kept (none_part (rows c.args.lo.now c.args.hi.now c.args.value.now) c.args.map.now.entries c.in_hand.ensures.range_map)

pub returns-clause-err : goal.returns-clause-err
returns-clause-err c = rw (status_word c.hand_out.result c.hand_out.ensures.status)
    (refused_part c.hand_out.result (rows c.args.lo.now c.args.hi.now c.args.value.now) c.args.map.now.entries c.as_ref.follows.lender-at-none.entries c.hand_out.new.out.entries c.in_hand.ensures.range_map
    c.hand_out.ensures.err (search rules))
