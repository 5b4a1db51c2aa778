use Rattle.range_map_multi.proofs.Words.{arith, IfOk-weaker}
use Rattle.range_map_multi.proofs.OfTwo.{two_taken, difference_as_many}
use Rattle.range_map_multi.proofs.owned_differences.owned_symmetric_difference.Goals as goal

pub returns-then-len-eq2 : goal.returns-then-len-eq2
returns-then-len-eq2 g c =
    let left = c.remove-left.result in
    let right = c.remove-right.result in
    let all = two_taken (λ m. m.entries) c.args.maps.items c.remove-left.new.self.items left right (omega (arith, c.args.maps.ok.0, c.if-len-eq2.true, c.len.ensures)) c.remove-left.ensures.value c.remove-left.ensures.by_index.2 c.remove-right.ensures.value in
    IfOk-weaker c.bitxor.result _ _
    (λ new made. (difference_as_many g.V.PartialEq.eq g.met.V.Eq.laws g.T.Integer.low g.T.Integer.high left.entries right.entries new.entries _ all made.0, made.1)) c.bitxor.ensures
