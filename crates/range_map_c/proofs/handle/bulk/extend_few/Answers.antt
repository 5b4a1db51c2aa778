use Rattle.range_map_c.proofs.Parts.{ok_by, err_by, union_in_turn, part_in_turn}
use Rattle.range_map_c.proofs.handle.bulk.extend_few.Goals as goal

pub returns-clause-ok : goal.returns-clause-ok
returns-clause-ok c = ok_by c.extend_with.result (union_in_turn c.args.other.now.entries c.args.map.now.entries c.extend_with.new.self.entries c.in_hand.ensures c.in_hand-2.ensures) c.extend_with.ensures.ok

pub returns-clause-err : goal.returns-clause-err
returns-clause-err c = err_by c.extend_with.result (part_in_turn c.args.other.now.entries c.args.map.now.entries c.extend_with.new.self.entries c.in_hand.ensures) c.extend_with.ensures.err
