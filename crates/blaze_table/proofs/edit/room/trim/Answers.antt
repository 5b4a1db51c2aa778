use Rattle.blaze_table.proofs.Words.{◌++◌, ◌<ℤ◌, ap, subst, sym, ◌∙◌, arith, ints, option_map, le_holds, le_fails, CountedEntries, below, from, shown_ends, halves, IsPredecessor}
use Rattle.blaze_entries.proofs.EditLists.{length-with_end}
use Rattle.blaze_table.proofs.Neighbours.Growing.{trim_short, trim_long, trim_starts}
use Rattle.blaze_table.proofs.Walks.Worked.{worked_none, worked_edited}
use Rattle.blaze_table.proofs.edit.room.trim.Goals as goal

pub sub_one-requires : goal.sub_one-requires
sub_one-requires g c = record {
  above =
      let rank = g.T.Integer.rank in
      let es = c.args.entries.now.entries in
      let under : rank c.in-Some.found.start <ℤ rank c.args.lo =
      trim_starts g.V.PartialEq.eq (rank c.args.lo) g.T.Integer.low g.T.Integer.high es c.in_hand.ensures c.requires.canonical _ _
      (subst (λ o. IsPredecessor (rank c.args.lo) (below (rank c.args.lo) es) (option_map (shown_ends rank) o)) c.in-Some.is c.requires.predecessor) in
      omega (arith, ints, under, c.in_hand-then-is_at_most.ensures.from);
}

pub returns-then-is_at_most-clause-entries : goal.returns-then-is_at_most-clause-entries
returns-then-is_at_most-clause-entries g c =
    let rank = g.T.Integer.rank in
    let es = c.args.entries.now.entries in
    ap (λ (s : CountedEntries g.row.V.Denot). s.entries) c.set_end.ensures
    ∙ trim_long g.V.PartialEq.eq (rank c.args.lo) g.T.Integer.low g.T.Integer.high es c.in_hand.ensures c.requires.canonical _ _
    (subst (λ o. IsPredecessor (rank c.args.lo) (below (rank c.args.lo) es) (option_map (shown_ends rank) o)) c.in-Some.is c.requires.predecessor) (rank c.sub_one.result) (omega (arith, ints, c.sub_one.ensures)) (le_holds _ _ (sym c.is_at_most.ensures ∙ c.if-is_at_most.true))

pub returns-then-is_at_most-clause-worked : goal.returns-then-is_at_most-clause-worked
returns-then-is_at_most-clause-worked g c =
    worked_edited 0 0 c.args.entries.now c.args.entries.now c.set_end.new.self _ (worked_none 0 0 c.args.entries.now) c.set_end.ensures
    (length-with_end (g.T.Integer.rank c.in-Some.found.start) (g.T.Integer.rank c.sub_one.result) c.args.entries.now.entries)

pub returns-else-is_at_most-clause-entries : goal.returns-else-is_at_most-clause-entries
returns-else-is_at_most-clause-entries g c =
    let rank = g.T.Integer.rank in
    let es = c.args.entries.now.entries in
    trim_short g.V.PartialEq.eq (rank c.args.lo) g.T.Integer.low g.T.Integer.high es c.in_hand.ensures c.requires.canonical _ _
    (subst (λ o. IsPredecessor (rank c.args.lo) (below (rank c.args.lo) es) (option_map (shown_ends rank) o)) c.in-Some.is c.requires.predecessor) (le_fails _ _ (sym c.is_at_most.ensures ∙ c.if-is_at_most.false))

pub returns-in_default-clause-entries : goal.returns-in_default-clause-entries
returns-in_default-clause-entries g c =
    let rank = g.T.Integer.rank in
    let lo = rank c.args.lo in
    let es = c.args.entries.now.entries in
    let predecessor = subst (λ o. IsPredecessor lo (below lo es) (option_map (shown_ends rank) o)) c.in_default.is c.requires.predecessor in
    halves lo g.T.Integer.low g.T.Integer.high es c.in_hand.ensures ∙ ap (λ xs. xs ++ from lo es) (sym predecessor)
