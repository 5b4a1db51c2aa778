use Rattle.range_map_cli.proofs.Words.{rules, Paint, Insert, Remove, PopFirst, PopLast, Wrote, Old, Popped}
use Rattle.range_map_cli.proofs.Stepping.Kinds.{no_edit}
use Rattle.range_map_cli.proofs.Stepping.Stepped.{answered, changed_is, cut_alone, cut_counted, paint_at, same_back, stepped}
use Rattle.range_map_cli.proofs.steps.take_step.Goals as goal

pub returns-in_ok-changed-in-Paint-clause-stepped : goal.returns-in_ok-changed-in-Paint-clause-stepped
returns-in_ok-changed-in-Paint-clause-stepped g c =
    let p = paint_at g.V.PartialEq.eq _ _ c.in-Paint.value (g.T.Integer.rank c.in-Paint.start) (g.T.Integer.rank c.in-Paint.end) _ _ _ _ (search rules) (search rules) (c.in_ok-changed-in-Paint.ensures.ok c.new.ensures.exhausted) in
    stepped g.V.PartialEq.eq g.T.Integer.rank _ _ _ (Paint c.in-Paint.start c.in-Paint.end c.in-Paint.value) _ _ c.in-Paint.is (record { range_map = p.range_map; content = p.content })

pub returns-in_ok-changed-in-Paint-clause-answer : goal.returns-in_ok-changed-in-Paint-clause-answer
returns-in_ok-changed-in-Paint-clause-answer g c =
    let p = paint_at g.V.PartialEq.eq _ _ c.in-Paint.value (g.T.Integer.rank c.in-Paint.start) (g.T.Integer.rank c.in-Paint.end) _ _ _ _ (search rules) (search rules) (c.in_ok-changed-in-Paint.ensures.ok c.new.ensures.exhausted) in
    answered g.V.PartialEq.eq g.T.Integer.rank _ _ _ (Paint c.in-Paint.start c.in-Paint.end c.in-Paint.value) _ (Wrote c.in_ok-changed-in-Paint.changed) c.in-Paint.is
    (changed_is g.V.PartialEq.eq _ _ c.in_ok-changed-in-Paint.changed _ _ _ (c.lengths_are_mapped.ensures _ _ _ c.in_hand.ensures) (c.lengths_are_mapped.ensures _ _ _ p.range_map) p.content c.in_ok-changed-in-Paint.ensures.changed)

pub returns-in_ok-old-in-Insert-clause-stepped : goal.returns-in_ok-old-in-Insert-clause-stepped
returns-in_ok-old-in-Insert-clause-stepped g c =
    let p = c.in_ok-old-in-Insert.ensures.ok in
    stepped g.V.PartialEq.eq g.T.Integer.rank _ _ _ (Insert c.in-Insert.key c.in-Insert.value) _ _ c.in-Insert.is (record { range_map = p.range_map; content = p.content })

pub returns-in_ok-old-in-Insert-clause-answer : goal.returns-in_ok-old-in-Insert-clause-answer
returns-in_ok-old-in-Insert-clause-answer g c =
    answered g.V.PartialEq.eq g.T.Integer.rank _ _ _ (Insert c.in-Insert.key c.in-Insert.value) _ (Old c.in_ok-old-in-Insert.old) c.in-Insert.is (same_back g.V.PartialEq.eq g.met.V.Eq.laws _ _ c.in_ok-old-in-Insert.ensures.value)

pub returns-in_ok-old-in-Remove-clause-stepped : goal.returns-in_ok-old-in-Remove-clause-stepped
returns-in_ok-old-in-Remove-clause-stepped g c =
    let p = c.in_ok-old-in-Remove.ensures.ok in
    stepped g.V.PartialEq.eq g.T.Integer.rank _ _ _ (Remove c.in-Remove.key) _ _ c.in-Remove.is (record { range_map = p.range_map; content = p.content })

pub returns-in_ok-old-in-Remove-clause-answer : goal.returns-in_ok-old-in-Remove-clause-answer
returns-in_ok-old-in-Remove-clause-answer g c =
    answered g.V.PartialEq.eq g.T.Integer.rank _ _ _ (Remove c.in-Remove.key) _ (Old c.in_ok-old-in-Remove.old) c.in-Remove.is (same_back g.V.PartialEq.eq g.met.V.Eq.laws _ _ c.in_ok-old-in-Remove.ensures.value)

pub returns-in_ok-popped-in-PopFirst-clause-stepped : goal.returns-in_ok-popped-in-PopFirst-clause-stepped
returns-in_ok-popped-in-PopFirst-clause-stepped g c =
    let p = c.in_ok-popped-in-PopFirst.ensures.ok in
    stepped g.V.PartialEq.eq g.T.Integer.rank _ _ _ PopFirst _ _ c.in-PopFirst.is (record { range_map = p.range_map; content = p.content })

pub returns-in_ok-popped-in-PopFirst-clause-answer : goal.returns-in_ok-popped-in-PopFirst-clause-answer
returns-in_ok-popped-in-PopFirst-clause-answer g c =
    answered g.V.PartialEq.eq g.T.Integer.rank _ _ _ PopFirst _ (Popped c.in_ok-popped-in-PopFirst.popped) c.in-PopFirst.is c.in_ok-popped-in-PopFirst.ensures.pair

pub returns-in_ok-popped-in-PopLast-clause-stepped : goal.returns-in_ok-popped-in-PopLast-clause-stepped
returns-in_ok-popped-in-PopLast-clause-stepped g c =
    let p = c.in_ok-popped-in-PopLast.ensures.ok in
    stepped g.V.PartialEq.eq g.T.Integer.rank _ _ _ PopLast _ _ c.in-PopLast.is (record { range_map = p.range_map; content = p.content })

pub returns-in_ok-popped-in-PopLast-clause-answer : goal.returns-in_ok-popped-in-PopLast-clause-answer
returns-in_ok-popped-in-PopLast-clause-answer g c =
    answered g.V.PartialEq.eq g.T.Integer.rank _ _ _ PopLast _ (Popped c.in_ok-popped-in-PopLast.popped) c.in-PopLast.is c.in_ok-popped-in-PopLast.ensures.pair

pub change-requires-clause-no_edit : goal.change-requires-clause-no_edit
change-requires-clause-no_edit g c = no_edit c.args.step c.in_default.not-Paint c.in_default.not-Insert c.in_default.not-Remove c.in_default.not-PopFirst c.in_default.not-PopLast

pub returns-in_default-clause-counted : goal.returns-in_default-clause-counted
returns-in_default-clause-counted g c = λ edit. absurd (no_edit c.args.step c.in_default.not-Paint c.in_default.not-Insert c.in_default.not-Remove c.in_default.not-PopFirst c.in_default.not-PopLast edit)

pub returns-in_default-clause-alone : goal.returns-in_default-clause-alone
returns-in_default-clause-alone g c = λ edit. absurd (no_edit c.args.step c.in_default.not-Paint c.in_default.not-Insert c.in_default.not-Remove c.in_default.not-PopFirst c.in_default.not-PopLast edit)

pub returns-in_default-clause-err_counted : goal.returns-in_default-clause-err_counted
returns-in_default-clause-err_counted g c = λ edit. absurd (no_edit c.args.step c.in_default.not-Paint c.in_default.not-Insert c.in_default.not-Remove c.in_default.not-PopFirst c.in_default.not-PopLast edit)

pub returns-in_ok-changed-in-Paint-clause-counted : goal.returns-in_ok-changed-in-Paint-clause-counted
returns-in_ok-changed-in-Paint-clause-counted g c = λ edit. c.in_ok-changed-in-Paint.ensures.counted

pub returns-in_ok-changed-in-Paint-clause-alone : goal.returns-in_ok-changed-in-Paint-clause-alone
returns-in_ok-changed-in-Paint-clause-alone g c = λ edit empty. (c.in_ok-changed-in-Paint.ensures.ok c.new.ensures.exhausted).alone empty

pub returns-in_ok-old-in-Insert-clause-counted : goal.returns-in_ok-old-in-Insert-clause-counted
returns-in_ok-old-in-Insert-clause-counted g c = λ edit. c.in_ok-old-in-Insert.ensures.counted

pub returns-in_ok-old-in-Insert-clause-alone : goal.returns-in_ok-old-in-Insert-clause-alone
returns-in_ok-old-in-Insert-clause-alone g c = λ edit empty. c.in_ok-old-in-Insert.ensures.ok.alone empty

pub returns-in_ok-old-in-Remove-clause-counted : goal.returns-in_ok-old-in-Remove-clause-counted
returns-in_ok-old-in-Remove-clause-counted g c = λ edit. cut_counted c.args.map.now c.remove.new.self c.in_ok-old-in-Remove.ensures.counted

pub returns-in_ok-old-in-Remove-clause-alone : goal.returns-in_ok-old-in-Remove-clause-alone
returns-in_ok-old-in-Remove-clause-alone g c = λ edit empty. cut_alone c.args.map.now c.remove.new.self c.in_ok-old-in-Remove.ensures.counted empty

pub returns-in_ok-popped-in-PopFirst-clause-counted : goal.returns-in_ok-popped-in-PopFirst-clause-counted
returns-in_ok-popped-in-PopFirst-clause-counted g c = λ edit. cut_counted c.args.map.now c.pop_first.new.map c.in_ok-popped-in-PopFirst.ensures.counted

pub returns-in_ok-popped-in-PopFirst-clause-alone : goal.returns-in_ok-popped-in-PopFirst-clause-alone
returns-in_ok-popped-in-PopFirst-clause-alone g c = λ edit empty. cut_alone c.args.map.now c.pop_first.new.map c.in_ok-popped-in-PopFirst.ensures.counted empty

pub returns-in_ok-popped-in-PopLast-clause-counted : goal.returns-in_ok-popped-in-PopLast-clause-counted
returns-in_ok-popped-in-PopLast-clause-counted g c = λ edit. cut_counted c.args.map.now c.pop_last.new.map c.in_ok-popped-in-PopLast.ensures.counted

pub returns-in_ok-popped-in-PopLast-clause-alone : goal.returns-in_ok-popped-in-PopLast-clause-alone
returns-in_ok-popped-in-PopLast-clause-alone g c = λ edit empty. cut_alone c.args.map.now c.pop_last.new.map c.in_ok-popped-in-PopLast.ensures.counted empty
