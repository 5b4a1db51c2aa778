use Rattle.blaze_table.proofs.Words.{◌≡◌, ℤ, None, arith, inr, subst, sym, ints, IsSome, CountedEntries, at, shown_entry}
use Rattle.blaze_table.proofs.Neighbours.Between.{below_clear, below_ends, between, below_there}
use Rattle.blaze_table.proofs.table.RangeTable.gap_start.Goals as goal

pub add_one-requires : goal.add_one-requires
add_one-requires g c = record {
  below =
      let rank = g.T.Integer.rank in
      let unmapped = subst (λ (s : CountedEntries g.row.V.Denot). at s.entries (rank c.args.key) ≡ None) (sym c.self.view_is) c.requires in
      let ends = below_ends g.V.PartialEq.eq (rank c.args.key) g.T.Integer.low g.T.Integer.high _ c.self.invariant.canonical c.in_hand.ensures unmapped (shown_entry rank (λ v. v.now) c.in-Some.found) c.in-Some.ensures in
      omega (arith, ints, ends, c.in_hand-2.ensures.to);
}

pub returns-in-Some-clause-reaches : goal.returns-in-Some-clause-reaches
returns-in-Some-clause-reaches g c =
    let rank = g.T.Integer.rank in
    let unmapped = subst (λ (s : CountedEntries g.row.V.Denot). at s.entries (rank c.args.key) ≡ None) (sym c.self.view_is) c.requires in
    let ends = below_ends g.V.PartialEq.eq (rank c.args.key) g.T.Integer.low g.T.Integer.high _ c.self.invariant.canonical c.in_hand.ensures unmapped (shown_entry rank (λ v. v.now) c.in-Some.found) c.in-Some.ensures in
    omega (arith, ints, ends, c.add_one.ensures)

pub returns-in-Some-clause-clear : goal.returns-in-Some-clause-clear
returns-in-Some-clause-clear g c j l m =
    let rank = g.T.Integer.rank in
    let unmapped = subst (λ (s : CountedEntries g.row.V.Denot). at s.entries (rank c.args.key) ≡ None) (sym c.self.view_is) c.requires in
    subst (λ (s : CountedEntries g.row.V.Denot). at s.entries j ≡ None) c.self.view_is
    (between g.V.PartialEq.eq (rank c.args.key) g.T.Integer.low g.T.Integer.high _ c.self.invariant.canonical c.in_hand.ensures unmapped (shown_entry rank (λ v. v.now) c.in-Some.found) c.in-Some.ensures j
    (omega (arith, ints, c.add_one.ensures)) m)

pub returns-in-Some-clause-least : goal.returns-in-Some-clause-least
returns-in-Some-clause-least g c =
    let rank = g.T.Integer.rank in
    let es = c.self.inside.entries.counted.entries in
    let unmapped = subst (λ (s : CountedEntries g.row.V.Denot). at s.entries (rank c.args.key) ≡ None) (sym c.self.view_is) c.requires in
    let there = below_there g.V.PartialEq.eq (rank c.args.key) g.T.Integer.low g.T.Integer.high es c.self.invariant.canonical c.in_hand.ensures unmapped (shown_entry rank (λ v. v.now) c.in-Some.found) c.in-Some.ensures in
    let here = subst (λ (s : CountedEntries g.row.V.Denot). IsSome (at s.entries (rank c.in-Some.found.1))) c.self.view_is there in
    inr (subst (λ (k : ℤ). IsSome (at c.args.self.now.entries k)) (omega (arith, ints, c.add_one.ensures)) here)

pub returns-in-None-clause-clear : goal.returns-in-None-clause-clear
returns-in-None-clause-clear g c j l m =
    let unmapped = subst (λ (s : CountedEntries g.row.V.Denot). at s.entries (g.T.Integer.rank c.args.key) ≡ None) (sym c.self.view_is) c.requires in
    subst (λ (s : CountedEntries g.row.V.Denot). at s.entries j ≡ None) c.self.view_is
    (below_clear g.V.PartialEq.eq (g.T.Integer.rank c.args.key) g.T.Integer.low g.T.Integer.high _ c.self.invariant.canonical c.in_hand.ensures unmapped c.in-None.ensures j m)
