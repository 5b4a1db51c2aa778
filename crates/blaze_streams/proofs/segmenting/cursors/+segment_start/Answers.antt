use Rattle.blaze_streams.proofs.Words.{◌∙◌, ap, nat_eq, subst, sym, option_map, AllCanonical, first_key, first_keys, lesser}
use Rattle.blaze_streams.proofs.segmenting.cursors.+segment_start.Goals as goal

pub returns-in-Some-clause-first : goal.returns-in-Some-clause-first
returns-in-Some-clause-first g t c =
    c.lesser_of.ensures ∙ ap (λ k. lesser k (option_map g.T.Integer.rank c.segment_start.result)) c.first.ensures.first
    ∙ ap (lesser (first_key c.in-Some.list.now)) c.segment_start.ensures.first ∙ ap first_keys (sym c.in-Some.ensures.cases.0)

pub returns-in-Some-clause-canonical : goal.returns-in-Some-clause-canonical
returns-in-Some-clause-canonical g t c = subst (AllCanonical nat_eq) (sym c.in-Some.ensures.cases.0) (c.first.ensures.canonical, c.segment_start.ensures.canonical)
