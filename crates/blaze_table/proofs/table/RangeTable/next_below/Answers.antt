use Rattle.blaze_table.proofs.Words.{arith, ap, option_map, ◌≤ℤ◌, ◌<ℤ◌, ◌∙◌, find, reverse, int_lt, ints, CountedEntries, shown_entry}
use Rattle.blaze_table.proofs.Neighbours.NextEntries.{below_none_is, below_here, below_before}
use Rattle.blaze_table.proofs.table.RangeTable.next_below.Goals as goal

pub returns-in_err-found : goal.returns-in_err-found
returns-in_err-found g c =
    let rank = g.T.Integer.rank in
    ap (option_map (shown_entry rank (λ v. v.now))) c.from_residual.ensures
    ∙ below_none_is g.V.PartialEq.eq (rank c.args.key) g.T.Integer.low g.T.Integer.high _ c.self.invariant.canonical c.in_hand.ensures c.in_err-found.ensures
    ∙ ap (λ (s : CountedEntries g.row.V.Denot). find (λ e. int_lt e.hi (rank c.args.key)) (reverse s.entries)) c.self.view_is

pub returns-then-is_below : goal.returns-then-is_below
returns-then-is_below g c =
    let rank = g.T.Integer.rank in
    let under : rank c.in_ok-found.found.1 <ℤ rank c.args.key = grind (arith, ints, c.is_below.ensures, c.if-is_below.true) in
    below_here g.V.PartialEq.eq (rank c.args.key) g.T.Integer.low g.T.Integer.high _ c.self.invariant.canonical c.in_hand.ensures (shown_entry rank (λ v. v.now) c.in_ok-found.found) c.in_ok-found.ensures under
    ∙ ap (λ (s : CountedEntries g.row.V.Denot). find (λ e. int_lt e.hi (rank c.args.key)) (reverse s.entries)) c.self.view_is

pub returns-else-is_below : goal.returns-else-is_below
returns-else-is_below g c =
    let rank = g.T.Integer.rank in
    let reaches : rank c.args.key ≤ℤ rank c.in_ok-found.found.1 = grind (arith, ints, c.is_below.ensures, c.if-is_below.false) in
    c.below.ensures
    ∙ below_before g.V.PartialEq.eq (rank c.args.key) g.T.Integer.low g.T.Integer.high _ c.self.invariant.canonical c.in_hand.ensures (shown_entry rank (λ v. v.now) c.in_ok-found.found) c.in_ok-found.ensures reaches
    ∙ ap (λ (s : CountedEntries g.row.V.Denot). find (λ e. int_lt e.hi (rank c.args.key)) (reverse s.entries)) c.self.view_is
