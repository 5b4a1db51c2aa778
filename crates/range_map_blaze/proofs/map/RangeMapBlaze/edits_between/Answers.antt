use Rattle.range_map_blaze.proofs.Words.{subst, IfOk, shown_option, CountedEntries, shown_list, AreEdits, KeepsValues}
use Rattle.std.specs.Prelude.{IsOk}
use Rattle.range_map_blaze.proofs.map.RangeMapBlaze.edits_between.Goals as goal

pub returns-clause-edits : goal.returns-clause-edits
returns-clause-edits g c =
    let rank = g.T.Integer.rank in
    subst (λ (s : CountedEntries g.row.V.Denot). IfOk c.edits_of.result (λ edits. AreEdits (λ a. shown_option (λ v. v.now) a.0) g.F.FnMut g.V.PartialEq.eq (rank c.args.start) (rank c.args.end) c.args.f s.entries (shown_list rank edits.items))) c.self.view_is
    c.edits_of.ensures.edits

pub returns-clause-steady : goal.returns-clause-steady
returns-clause-steady g c =
    let rank = g.T.Integer.rank in
    subst (λ (s : CountedEntries g.row.V.Denot). KeepsValues (λ a. shown_option (λ v. v.now) a.0) g.F.FnMut g.V.PartialEq.eq (rank c.args.start) (rank c.args.end) c.args.f s.entries → IsOk c.edits_of.result) c.self.view_is
    c.edits_of.ensures.steady
