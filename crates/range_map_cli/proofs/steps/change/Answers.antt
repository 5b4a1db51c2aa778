use Rattle.range_map_cli.proofs.Words.{rules, Fill, KeepBelow, KeepFrom, Wrote}
use Rattle.range_map_cli.proofs.Stepping.Kinds.{combined_answer, combines}
use Rattle.range_map_cli.proofs.Stepping.Stepped.{answered, changed_is, fill_at, stepped}
use Rattle.range_map_cli.proofs.steps.change.Goals as goal

pub returns-in_ok-changed-in-Fill-clause-stepped : goal.returns-in_ok-changed-in-Fill-clause-stepped
returns-in_ok-changed-in-Fill-clause-stepped g c =
    let p = fill_at g.V.PartialEq.eq _ _ c.in-Fill.value (g.T.Integer.rank c.in-Fill.start) (g.T.Integer.rank c.in-Fill.end) _ _ _ _ (search rules) (search rules) (c.in_ok-changed-in-Fill.ensures.ok c.new.ensures.exhausted) in
    stepped g.V.PartialEq.eq g.T.Integer.rank _ _ _ (Fill c.in-Fill.start c.in-Fill.end c.in-Fill.value) _ _ c.in-Fill.is (record { range_map = p.range_map; content = p.content })

pub returns-in_ok-changed-in-Fill-clause-answer : goal.returns-in_ok-changed-in-Fill-clause-answer
returns-in_ok-changed-in-Fill-clause-answer g c =
    let p = fill_at g.V.PartialEq.eq _ _ c.in-Fill.value (g.T.Integer.rank c.in-Fill.start) (g.T.Integer.rank c.in-Fill.end) _ _ _ _ (search rules) (search rules) (c.in_ok-changed-in-Fill.ensures.ok c.new.ensures.exhausted) in
    answered g.V.PartialEq.eq g.T.Integer.rank _ _ _ (Fill c.in-Fill.start c.in-Fill.end c.in-Fill.value) _ (Wrote c.in_ok-changed-in-Fill.changed) c.in-Fill.is
    (changed_is g.V.PartialEq.eq _ _ c.in_ok-changed-in-Fill.changed _ _ _ (c.lengths_are_mapped.ensures _ _ _ c.in_hand.ensures) (c.lengths_are_mapped.ensures _ _ _ p.range_map) p.content c.in_ok-changed-in-Fill.ensures.changed)

pub combined-requires-clause-combines : goal.combined-requires-clause-combines
combined-requires-clause-combines g c = combines c.args.step c.requires.no_edit c.in_default.not-Fill c.in_default.not-Clear c.in_default.not-KeepBelow c.in_default.not-KeepFrom

pub returns-in_ok-new-in_default-clause-answer : goal.returns-in_ok-new-in_default-clause-answer
returns-in_ok-new-in_default-clause-answer g c = combined_answer g.V.PartialEq.eq g.T.Integer.rank _ _ c.args.step _ (combines c.args.step c.requires.no_edit c.in_default.not-Fill c.in_default.not-Clear c.in_default.not-KeepBelow c.in_default.not-KeepFrom)

pub returns-in_ok-split_off-in-KeepBelow-clause-stepped : goal.returns-in_ok-split_off-in-KeepBelow-clause-stepped
returns-in_ok-split_off-in-KeepBelow-clause-stepped g c =
    let p = c.in_ok-split_off-in-KeepBelow.ensures.ok in
    stepped g.V.PartialEq.eq g.T.Integer.rank _ _ _ (KeepBelow c.in-KeepBelow.key) _ _ c.in-KeepBelow.is (record { range_map = p.below_range_map; content = p.below_content })

pub returns-in_ok-from-in-KeepFrom-clause-stepped : goal.returns-in_ok-from-in-KeepFrom-clause-stepped
returns-in_ok-from-in-KeepFrom-clause-stepped g c =
    let p = c.in_ok-from-in-KeepFrom.ensures.ok in
    stepped g.V.PartialEq.eq g.T.Integer.rank _ _ _ (KeepFrom c.in-KeepFrom.key) _ _ c.in-KeepFrom.is (record { range_map = p.from_range_map; content = p.from_content })
