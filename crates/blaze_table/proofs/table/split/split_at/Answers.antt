use Rattle.blaze_table.proofs.Words.{◌∙◌, sym, refl, rules, le_fails, below, from, IsSplitOf}
use Rattle.blaze_table.proofs.Neighbours.Holders.{entry_containing}
use Rattle.blaze_table.proofs.Cuts.Parts.{if_kept}
use Rattle.blaze_table.proofs.Cuts.SplitEdits.{split_behind, split_above, if_split}
use Rattle.blaze_table.proofs.table.split.split_at.Goals as goal
use Rattle.blaze_table.proofs.table.split.split_at.Goals.{in_default-via-in-Some+else-is_at_most, in_default-via-in_default}

pub returns-in_default-clause-split : goal.returns-in_default-clause-split
returns-in_default-clause-split g c =
    let eq = g.V.PartialEq.eq in
    let laws = g.met.V.Eq.laws in
    let k = g.T.Integer.rank c.args.key in
    let es = c.args.entries.now.counted.entries in
    let parts : IsSplitOf eq k es (below k es) (from k es) = elim c.in_default.branch [
      | in_default-via-in-Some+else-is_at_most w ↦ split_behind eq laws k g.T.Integer.high es _ _
          (entry_containing eq k g.T.Integer.high es g.T.Integer.low _ _ c.in_hand.ensures c.requires.canonical w.in-Some.ensures) (le_fails _ _ (sym w.is_at_most.ensures ∙ w.if-is_at_most.false))
      | in_default-via-in_default w ↦ split_above eq laws k g.T.Integer.high es g.T.Integer.low c.in_hand.ensures c.requires.canonical w.in_default.ensures
    ] in
    if_split eq laws k g.T.Integer.high es (λ o. o.counted) c.split_off.result c.args.entries.now.counted c.split_off.new.self.counted refl parts c.split_off.ensures.below c.split_off.ensures.from

pub returns-in-Some-clause-split : goal.returns-in-Some-clause-split
returns-in-Some-clause-split g c = search rules

pub returns-in_default-clause-kept : goal.returns-in_default-clause-kept
returns-in_default-clause-kept g c = if_kept (λ o. o.counted) (g.T.Integer.rank c.args.key) c.args.entries.now.counted.entries c.split_off.result c.split_off.ensures.from

pub returns-in-Some-clause-kept : goal.returns-in-Some-clause-kept
returns-in-Some-clause-kept g c = search rules
