use Rattle.blaze_streams.proofs.Words.{◌<◌, length, map, arith, length-map, IfOk-weaker}
use Rattle.blaze_streams.proofs.RowParts.{halves, both_given}
use Rattle.blaze_streams.proofs.merge.rounds.+merged.Goals as goal

pub returns : goal.returns
returns g t c =
    let left = g.I.SortedDisjointMap.left in
    let first = c.split_off.new.self in
    let second = c.in_ok-second.second in
    let some_first : 0 < length (map left first.items) = omega (arith, length-map first.items left, first.ok.0, c.in_ok-second.ensures.len, c.if-len-lt4.false, c.len.ensures, c.len-2.ensures) in
    let some_second : 0 < length (map left second.items) = omega (arith, length-map second.items left, second.ok.0, c.in_ok-second.ensures.tail_len, c.if-len-lt4.false, c.len.ensures, c.len-2.ensures) in
    IfOk-weaker c.merge.result _ _
    (λ new both. both_given g.O.Operation.gives (map left first.items) (map left second.items) _ _ _ new (halves left _ _ _ _ c.in_ok-second.ensures.items c.in_ok-second.ensures.tail) some_first some_second c.in_ok-left.ensures c.in_ok-right.ensures both) c.merge.ensures
