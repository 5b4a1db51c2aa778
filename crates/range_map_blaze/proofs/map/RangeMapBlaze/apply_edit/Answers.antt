use Rattle.range_map_blaze.proofs.Words.{OnOk, subst, CountedEntries, IsRangeCut, entry, IsPainted}
use Rattle.range_map_blaze.proofs.Edits.Applied.{cut_where, painted_edit}
use Rattle.range_map_blaze.proofs.map.RangeMapBlaze.apply_edit.Goals as goal

pub returns-in_ok-paint-in-Some-clause-ok : goal.returns-in_ok-paint-in-Some-clause-ok
returns-in_ok-paint-in-Some-clause-ok g c =
    let rank = g.T.Integer.rank in
    let eq = g.V.PartialEq.eq in
    let low = g.T.Integer.low in
    let high = g.T.Integer.high in
    let new = c.paint.new.self.entries in
    rw c.in-Some.is
    (painted_edit eq g.met.V.Eq.laws low high (rank c.args.start) (rank c.args.end) c.in-Some.value c.args.self.now.entries new
    (subst (λ (s : CountedEntries g.row.V.Denot). IsPainted eq low high (entry (rank c.args.start) (rank c.args.end) c.in-Some.value) s.entries new) c.self.view_is c.in_ok-paint-in-Some.ensures.ok))

pub returns-in-None-clause-ok : goal.returns-in-None-clause-ok
returns-in-None-clause-ok g c =
    let rank = g.T.Integer.rank in
    let eq = g.V.PartialEq.eq in
    let low = g.T.Integer.low in
    let high = g.T.Integer.high in
    rw c.in-None.is
    (cut_where eq g.met.V.Eq.laws low high (rank c.args.start) (rank c.args.end) c.args.self.now.entries c.cut_range.new.self.entries c.cut_range.result
    (subst (λ (s : CountedEntries g.row.V.Denot). OnOk c.cut_range.result (IsRangeCut eq low high (rank c.args.start) (rank c.args.end) s.entries c.cut_range.new.self.entries)) c.self.view_is c.cut_range.ensures.ok))
