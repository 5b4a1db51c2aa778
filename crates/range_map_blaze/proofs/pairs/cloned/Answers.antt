use Rattle.range_map_blaze.proofs.Words.{refl, Bor}
use Rattle.range_map_blaze.proofs.BorrowedValues.{cloned_more}
use Rattle.range_map_blaze.proofs.pairs.cloned.Goals as goal

pub loop-start-preserved : goal.loop-start-preserved
loop-start-preserved g c =
    let x : g.row.T.Denot × g.row.T.Denot × Bor g.row.V.Denot = (c.in-Some.start, c.in-Some.end, c.in-Some.value) in
    let pushed = c.in_ok-push_clone.ensures in
    let y : g.row.T.Denot × g.row.T.Denot × g.row.V.Denot = (c.in-Some.start, c.in-Some.end, pushed.0) in
    cloned_more g.V.PartialEq.eq g.T.Integer.rank c.loop-start.yielded c.loop-start.entries.items _ x y pushed.2 refl refl pushed.1 c.loop-start.invariant
