use Rattle.range_map_blaze.proofs.Words.{◌≡◌, refl, sym, subst, if_err, counted_none, CountedEntries, IsChosen, IsRangeCut, left_with_right, uncounted, one_range}
use Rattle.blaze_table.specs.Work.{IsCountedCut, IsRefused}
use Rattle.range_map_blaze.proofs.TakenBack.{keys_taken}
use Rattle.range_map_blaze.proofs.map.RangeMapBlaze.middle_part.Goals as goal

-- no edit, as a failed one
refused_itself : {V : Type 0} (s : CountedEntries V) → IsRefused s s
refused_itself s = record { same = refl; counted = counted_none s }

pub returns-in_err-taken-clause-err : goal.returns-in_err-taken-clause-err
returns-in_err-taken-clause-err g c = if_err c.from_residual.result (refused_itself c.args.self.now)

pub returns-in_err-cut_range-clause-err : goal.returns-in_err-cut_range-clause-err
returns-in_err-cut_range-clause-err g c =
    if_err c.from_residual-in_err-cut_range.result (subst (λ (s : CountedEntries g.row.V.Denot). IsRefused s c.cut_range.new.self) c.self.view_is c.in_err-cut_range.ensures.err)

pub returns-clause-ok : goal.returns-clause-ok
returns-clause-ok g c =
    let eq = g.V.PartialEq.eq in
    let low = g.T.Integer.low in
    let high = g.T.Integer.high in
    let l = g.T.Integer.rank c.args.start in
    let h = g.T.Integer.rank c.args.end in
    keys_taken eq g.met.V.Eq.laws low high l h c.args.self.now.entries _ _
    (subst (λ (s : CountedEntries g.row.V.Denot). IsRangeCut eq low high l h s.entries c.cut_range.new.self.entries) c.self.view_is c.in_ok-cut_range.ensures.ok)
    (subst (λ (s : CountedEntries g.row.V.Denot). IsChosen eq low high left_with_right c.args.self.now.entries (one_range l h) s.entries) (sym c.uncounted.ensures) c.in_ok-taken.ensures)

pub returns-clause-uncounted : goal.returns-clause-uncounted
returns-clause-uncounted g c = subst (λ (s : CountedEntries g.row.V.Denot). s ≡ uncounted s.entries) (sym c.uncounted.ensures) refl

pub returns-clause-counted : goal.returns-clause-counted
returns-clause-counted g c = subst (λ (s : CountedEntries g.row.V.Denot). IsCountedCut s c.cut_range.new.self) c.self.view_is c.in_ok-cut_range.ensures.counted
