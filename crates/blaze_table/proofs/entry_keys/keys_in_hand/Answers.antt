use Rattle.blaze_table.proofs.Words.{sym, subst, drop_all, AreKeys, shown_list, from_index}
use Rattle.blaze_table.proofs.entry_keys.keys_in_hand.Goals as goal

pub loop-start-init : goal.loop-start-init
loop-start-init g c = λ h. h

pub loop-start-preserved : goal.loop-start-preserved
loop-start-preserved g c = λ h.
    let rank = g.T.Integer.rank in
    let all = c.args.entries.now in
    let here = from_index all c.loop-start.start-index c.loop-start-item.result c.loop-start-test.true c.loop-start-item.is in
    c.loop-start.invariant (subst (λ es. AreKeys g.T.Integer.low g.T.Integer.high (shown_list rank es)) (sym here) (c.in_hand.ensures.from, c.in_hand-in-loop-start.ensures.to, h))

pub returns : goal.returns
returns g c = c.loop-start.invariant (subst (λ es. AreKeys g.T.Integer.low g.T.Integer.high (shown_list g.T.Integer.rank es)) (sym (drop_all c.loop-start.start-index c.args.entries.now c.loop-start-test.false)) tt)
