use Rattle.blaze_table.proofs.Words.{map, sym, subst, ap, ◌∙◌, CountedEntries, entry, at, IsFilled, IsMappedFrom, IsCounted, range_map}
use Rattle.blaze_table.proofs.Fills.Filled.{filled_none}
use Rattle.blaze_table.proofs.Fills.Fillings.{filled_whole, gap_is_not_held}
use Rattle.blaze_table.proofs.Fills.Ordered.{ordered_of}
use Rattle.blaze_table.proofs.Walks.Worked.{counted_then}
use Rattle.blaze_table.proofs.table.RangeTable.fill_absent.Goals as goal

pub first_gap-requires-clause-ordered : goal.first_gap-requires-clause-ordered
first_gap-requires-clause-ordered g c = ordered_of g.V.PartialEq.eq c.self.inside.entries.counted.entries c.self.invariant.canonical

pub returns-in_default-clause-ok : goal.returns-in_default-clause-ok
returns-in_default-clause-ok g c =
    let rank = g.T.Integer.rank in
    let eq = g.V.PartialEq.eq in
    let p = entry (rank c.args.lo) (rank c.args.hi) c.args.value in
    subst (λ (s : CountedEntries g.row.V.Denot). IsFilled eq g.T.Integer.low g.T.Integer.high p s.entries s.entries) c.self.view_is
    (filled_none eq g.met.V.Eq.laws g.T.Integer.low g.T.Integer.high (rank c.args.lo) (rank c.args.hi) c.args.value _ (range_map eq g.met.V.Eq.laws g.T.Integer.low g.T.Integer.high _ _ c.self.invariant) c.in_default.ensures)

pub returns-in-Ok-clause-ok : goal.returns-in-Ok-clause-ok
returns-in-Ok-clause-ok g c =
    let rank = g.T.Integer.rank in
    let eq = g.V.PartialEq.eq in
    let p = entry (rank c.args.lo) (rank c.args.hi) c.args.value in
    let new = c.join_all.new.entries.entries in
    subst (λ (s : CountedEntries g.row.V.Denot). IsFilled eq g.T.Integer.low g.T.Integer.high p s.entries new) c.self.view_is
    (filled_whole eq g.met.V.Eq.laws g.T.Integer.low g.T.Integer.high (rank c.args.lo) (rank c.args.hi) (rank c.in-Some.first.start) (rank c.in-Some.first.end) c.args.value
    (map rank c.insert_all.new.made.starts.items) (map rank c.insert_all.new.made.join_keys.items)
    c.self.inside.entries.counted.entries c.insert_all.new.entries.counted.entries new c.self.invariant.canonical c.in-Some.ensures.gap c.in-Ok.ensures.filled
    c.join_all.ensures.joined.same c.join_all.ensures.joined.kept c.join_all.ensures.joined.canonical c.join_all.ensures.joined.are_keys)

pub returns-in-Ok-clause-held : goal.returns-in-Ok-clause-held
returns-in-Ok-clause-held g c s =
    let rank = g.T.Integer.rank in
    absurd (gap_is_not_held g.V.PartialEq.eq g.met.V.Eq.laws c.self.inside.entries.counted.entries (rank c.args.lo) (rank c.args.hi) (rank c.in-Some.first.start) (rank c.in-Some.first.end) c.in-Some.ensures.gap
    (subst (λ (s : CountedEntries g.row.V.Denot). IsMappedFrom (at s.entries) (rank c.args.lo) (rank c.args.hi)) (sym c.self.view_is) s))

pub returns-in-Err-clause-held : goal.returns-in-Err-clause-held
returns-in-Err-clause-held g c s =
    let rank = g.T.Integer.rank in
    absurd (gap_is_not_held g.V.PartialEq.eq g.met.V.Eq.laws c.self.inside.entries.counted.entries (rank c.args.lo) (rank c.args.hi) (rank c.in-Some.first.start) (rank c.in-Some.first.end) c.in-Some.ensures.gap
    (subst (λ (s : CountedEntries g.row.V.Denot). IsMappedFrom (at s.entries) (rank c.args.lo) (rank c.args.hi)) (sym c.self.view_is) s))

pub returns-in-Err-clause-err : goal.returns-in-Err-clause-err
returns-in-Err-clause-err g c = c.take_back.ensures.entries ∙ c.in-Err.ensures.back.taken ∙ ap (λ (s : CountedEntries g.row.V.Denot). s.entries) c.self.view_is

pub returns-in-Err-clause-counted : goal.returns-in-Err-clause-counted
returns-in-Err-clause-counted g c =
    subst (λ (s : CountedEntries g.row.V.Denot). IsCounted s c.take_back.new.entries) c.self.view_is
    (counted_then c.self.inside.entries.counted c.insert_all.new.entries.counted c.take_back.new.entries c.insert_all.ensures.counted c.take_back.ensures.counted)
