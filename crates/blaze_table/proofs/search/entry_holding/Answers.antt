use Rattle.blaze_table.proofs.Words.{arith, ap, option_map, ◌∙◌, ◌≤ℤ◌, ◌<ℤ◌, ints, shown_entry, never_equal}
use Rattle.blaze_table.proofs.Neighbours.NextEntries.{holding_none, holding_some, holding_not}
use Rattle.blaze_table.proofs.search.entry_holding.Goals as goal

pub returns-in_err-found : goal.returns-in_err-found
returns-in_err-found g c =
    ap (option_map (shown_entry g.T.Integer.rank (λ v. v.now))) c.from_residual.ensures
    ∙ holding_none never_equal (g.T.Integer.rank c.args.key) g.T.Integer.low g.T.Integer.high _ c.requires c.in_hand.ensures c.in_err-found.ensures

pub returns-then-is_at_most : goal.returns-then-is_at_most
returns-then-is_at_most g c =
    let rank = g.T.Integer.rank in
    let up : rank c.args.key ≤ℤ rank c.in_ok-found.found.1 = grind (arith, ints, c.is_at_most.ensures, c.if-is_at_most.true) in
    holding_some never_equal (rank c.args.key) g.T.Integer.low g.T.Integer.high _ c.requires c.in_hand.ensures (shown_entry rank (λ v. v.now) c.in_ok-found.found) c.in_ok-found.ensures up

pub returns-else-is_at_most : goal.returns-else-is_at_most
returns-else-is_at_most g c =
    let rank = g.T.Integer.rank in
    let over : rank c.in_ok-found.found.1 <ℤ rank c.args.key = grind (arith, ints, c.is_at_most.ensures, c.if-is_at_most.false) in
    holding_not never_equal (rank c.args.key) g.T.Integer.low g.T.Integer.high _ c.requires c.in_hand.ensures (shown_entry rank (λ v. v.now) c.in_ok-found.found) c.in_ok-found.ensures over
