use Rattle.blaze_table.proofs.Words.{ℤ, arith, inr, subst, sym, ints, IsSome, StartsAscend, IsCanonical, CountedEntries, at, shown_entry}
use Rattle.blaze_table.proofs.Neighbours.Between.{above_gap}
use Rattle.blaze_table.proofs.table.RangeTable.gap_end.Goals as goal

pub sub_one-requires : goal.sub_one-requires
sub_one-requires g c = record {
  above =
      let rank = g.T.Integer.rank in
      let canonical = subst (λ (s : CountedEntries g.row.V.Denot). IsCanonical g.V.PartialEq.eq s.entries) c.self.view_is c.self.invariant.canonical in
      let keys = subst (λ (s : CountedEntries g.row.V.Denot). StartsAscend g.T.Integer.low g.T.Integer.high s.entries) c.self.view_is c.in_hand.ensures in
      let starts = (above_gap g.V.PartialEq.eq (rank c.args.key) g.T.Integer.low g.T.Integer.high _ canonical keys c.requires).starts (shown_entry rank (λ v. v.now) c.in-Some.found) (sym c.in-Some.ensures) in
      omega (arith, ints, starts, c.in_hand-2.ensures.from);
}

pub returns-in-Some-clause-reaches : goal.returns-in-Some-clause-reaches
returns-in-Some-clause-reaches g c =
    let rank = g.T.Integer.rank in
    let canonical = subst (λ (s : CountedEntries g.row.V.Denot). IsCanonical g.V.PartialEq.eq s.entries) c.self.view_is c.self.invariant.canonical in
    let keys = subst (λ (s : CountedEntries g.row.V.Denot). StartsAscend g.T.Integer.low g.T.Integer.high s.entries) c.self.view_is c.in_hand.ensures in
    let starts = (above_gap g.V.PartialEq.eq (rank c.args.key) g.T.Integer.low g.T.Integer.high _ canonical keys c.requires).starts (shown_entry rank (λ v. v.now) c.in-Some.found) (sym c.in-Some.ensures) in
    omega (arith, ints, starts, c.sub_one.ensures)

pub returns-in-Some-clause-clear : goal.returns-in-Some-clause-clear
returns-in-Some-clause-clear g c j l m =
    let rank = g.T.Integer.rank in
    let canonical = subst (λ (s : CountedEntries g.row.V.Denot). IsCanonical g.V.PartialEq.eq s.entries) c.self.view_is c.self.invariant.canonical in
    let keys = subst (λ (s : CountedEntries g.row.V.Denot). StartsAscend g.T.Integer.low g.T.Integer.high s.entries) c.self.view_is c.in_hand.ensures in
    (above_gap g.V.PartialEq.eq (rank c.args.key) g.T.Integer.low g.T.Integer.high _ canonical keys c.requires).clear (shown_entry rank (λ v. v.now) c.in-Some.found) (sym c.in-Some.ensures) j l
    (omega (arith, ints, c.sub_one.ensures))

pub returns-in-Some-clause-greatest : goal.returns-in-Some-clause-greatest
returns-in-Some-clause-greatest g c =
    let rank = g.T.Integer.rank in
    let canonical = subst (λ (s : CountedEntries g.row.V.Denot). IsCanonical g.V.PartialEq.eq s.entries) c.self.view_is c.self.invariant.canonical in
    let keys = subst (λ (s : CountedEntries g.row.V.Denot). StartsAscend g.T.Integer.low g.T.Integer.high s.entries) c.self.view_is c.in_hand.ensures in
    let there = (above_gap g.V.PartialEq.eq (rank c.args.key) g.T.Integer.low g.T.Integer.high _ canonical keys c.requires).there (shown_entry rank (λ v. v.now) c.in-Some.found) (sym c.in-Some.ensures) in
    inr (subst (λ (k : ℤ). IsSome (at c.args.self.now.entries k)) (omega (arith, ints, c.sub_one.ensures)) there)

pub returns-in-None-clause-clear : goal.returns-in-None-clause-clear
returns-in-None-clause-clear g c j l m =
    let canonical = subst (λ (s : CountedEntries g.row.V.Denot). IsCanonical g.V.PartialEq.eq s.entries) c.self.view_is c.self.invariant.canonical in
    let keys = subst (λ (s : CountedEntries g.row.V.Denot). StartsAscend g.T.Integer.low g.T.Integer.high s.entries) c.self.view_is c.in_hand.ensures in
    (above_gap g.V.PartialEq.eq (g.T.Integer.rank c.args.key) g.T.Integer.low g.T.Integer.high _ canonical keys c.requires).none (sym c.in-None.ensures) j l
