use Rattle.blaze_table.proofs.Words.{if_err, refl, ap, sym, subst, IsSome, IsManyCloned, CountedEntries, IsListWithoutKey}
use Rattle.blaze_table.proofs.Cuts.CutEdits.{has_key, among_others, found, value_removed, whole_cut}
use Rattle.blaze_table.proofs.cut.cut_key.Goals as goal

pub returns-in-Some-clause-refused : goal.returns-in-Some-clause-refused
returns-in-Some-clause-refused g c =
    let eq = g.V.PartialEq.eq in
    let laws = g.met.V.Eq.laws in
    let k = g.T.Integer.rank c.args.key in
    let es = c.args.entries.now.entries in
    let h = has_key eq laws k g.T.Integer.low g.T.Integer.high es c.in_hand.ensures c.requires.canonical _ c.requires.held in
    let many = subst (IsManyCloned g.V.Clone.is_clone h.of) c.in-Some.is h.holds.1 in
    if_err c.cut_shared.result (among_others eq laws k g.T.Integer.low g.T.Integer.high es c.in_hand.ensures c.requires.canonical h.of h.last h.up many.0)

pub remove-requires : goal.remove-requires
remove-requires g c = record {
  present =
      let rank = g.T.Integer.rank in
      let k = rank c.args.key in
      let es = c.args.entries.now.entries in
      let h = has_key g.V.PartialEq.eq g.met.V.Eq.laws k g.T.Integer.low g.T.Integer.high es c.in_hand.ensures c.requires.canonical _ c.requires.held in
      let one = subst (IsManyCloned g.V.Clone.is_clone h.of) c.in-None.is h.holds.1 in
      subst (λ o. IsSome o) (sym (found g.V.PartialEq.eq g.met.V.Eq.laws k g.T.Integer.low g.T.Integer.high es c.in_hand.ensures c.requires.canonical h.of h.last h.up one)) refl;
}

pub returns-in-None-clause-cut : goal.returns-in-None-clause-cut
returns-in-None-clause-cut g c =
    let eq = g.V.PartialEq.eq in
    let laws = g.met.V.Eq.laws in
    let low = g.T.Integer.low in
    let high = g.T.Integer.high in
    let k = g.T.Integer.rank c.args.key in
    let es = c.args.entries.now.entries in
    let h = has_key eq laws k low high es c.in_hand.ensures c.requires.canonical _ c.requires.held in
    let one = subst (IsManyCloned g.V.Clone.is_clone h.of) c.in-None.is h.holds.1 in
    record {
      cut = subst (IsListWithoutKey eq k es) (sym (ap (λ (s : CountedEntries g.row.V.Denot). s.entries) c.remove.ensures.entries)) (whole_cut eq laws k low high es c.in_hand.ensures c.requires.canonical h.of h.last h.up one);
      value = value_removed eq laws k low high es c.in_hand.ensures c.requires.canonical h.of h.last h.up one c.remove.result c.remove.ensures.value;
    }
