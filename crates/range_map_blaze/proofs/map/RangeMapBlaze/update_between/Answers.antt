use Rattle.range_map_blaze.proofs.Words.{shown_option}
use Rattle.range_map_blaze.proofs.Edits.Applied.{edits_wider, part_where, updated_where}
use Rattle.range_map_blaze.proofs.Edits.Pieces.{steady_answers}
use Rattle.range_map_blaze.proofs.map.RangeMapBlaze.update_between.Goals as goal

pub apply_edits-requires-clause-edits : goal.apply_edits-requires-clause-edits
apply_edits-requires-clause-edits g c =
    edits_wider g.V.PartialEq.eq g.met.V.Eq.laws g.T.Integer.low g.T.Integer.high _ _ _ c.in_hand.ensures.from c.in_hand-2.ensures.to c.in_ok-edits.ensures.edits.range_map

pub returns-clause-ok : goal.returns-clause-ok
returns-clause-ok g c = updated_where g.V.PartialEq.eq g.met.V.Eq.laws g.T.Integer.low g.T.Integer.high (λ a. shown_option (λ v. v.now) a.0) g.F.FnMut _ _ _ _ _ _ c.in_ok-edits.ensures.edits c.apply_edits.result c.apply_edits.ensures.ok

pub returns-clause-err : goal.returns-clause-err
returns-clause-err g c = part_where g.V.PartialEq.eq g.met.V.Eq.laws g.T.Integer.low g.T.Integer.high (λ a. shown_option (λ v. v.now) a.0) g.F.FnMut _ _ _ _ _ _ c.in_ok-edits.ensures.edits c.apply_edits.result c.apply_edits.ensures.err

-- where each call returns the old value, there is no edit
pub returns-clause-steady : goal.returns-clause-steady
returns-clause-steady g c = λ keeps.
    let edits = c.in_ok-edits.ensures.edits in
    c.apply_edits.ensures.none (edits.same (steady_answers (λ a. shown_option (λ v. v.now) a.0) g.F.FnMut g.V.PartialEq.eq g.met.V.Eq.laws _ _ _ _ edits.answers edits.asked keeps))
