use Rattle.blaze_table.proofs.Words.{if_err, ◌-◌, length, subst, ap, arith, slice_get, CountedEntries, IsLastKeyRemoved, IsAmongOthers, IfSome, cut_map}
use Rattle.blaze_table.proofs.Cuts.Ends.{last_refused, last_there}
use Rattle.blaze_table.proofs.table.RangeTable.pop_last.Goals as goal

pub returns-in_err-key-clause-refused : goal.returns-in_err-key-clause-refused
returns-in_err-key-clause-refused g c =
    let long = ap (λ (s : CountedEntries g.row.V.Denot). length s.entries) c.self.view_is in
    if_err c.from_residual.result
    (last_refused g.V.PartialEq.eq c.args.self.now.entries (λ z. omega (arith, c.len.ensures, c.if-len-eq0.false, long, z))
    (subst (λ (s : CountedEntries g.row.V.Denot). IfSome (slice_get s.entries (length s.entries - 1)) (λ e. IsAmongOthers e.hi s.entries)) c.self.view_is c.in_err-key.ensures.refused))

pub returns-clause-ok : goal.returns-clause-ok
returns-clause-ok g c =
    let rank = g.T.Integer.rank in
    let eq = g.V.PartialEq.eq in
    let new = c.cut_last.new.entries.entries in
    let e = c.in_ok-key.ensures.cut in
    subst (λ (s : CountedEntries g.row.V.Denot). IsLastKeyRemoved eq g.T.Integer.low g.T.Integer.high (rank c.in_ok-key.key) c.in_ok-key.value s.entries new) c.self.view_is
    (record { last = e.last; equal = e.cut.value; cut = cut_map eq g.met.V.Eq.laws g.T.Integer.low g.T.Integer.high _ (rank c.in_ok-key.key) _ _ new e.cut })

pub cut_last-requires-clause-last : goal.cut_last-requires-clause-last
cut_last-requires-clause-last g c = last_there g.V.PartialEq.eq c.self.inside.entries.counted.entries (λ z. omega (arith, c.len.ensures, c.if-len-eq0.false, z))
