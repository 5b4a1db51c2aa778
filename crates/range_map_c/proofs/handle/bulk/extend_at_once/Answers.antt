use Rattle.std.proofs.Common.{rules}
use Rattle.range_map_c.proofs.Parts.{refused_part, status_word}
use Rattle.range_map_c.proofs.handle.bulk.extend_at_once.Goals as goal

pub returns-clause-err : goal.returns-clause-err
returns-clause-err c = rw (status_word c.hand_out.result c.hand_out.ensures.status)
    (refused_part c.hand_out.result c.args.other.now.entries c.args.map.now.entries c.as_ref.follows.lender-at-none.entries c.hand_out.new.out.entries c.in_hand.ensures.range_map c.hand_out.ensures.err (search rules))
