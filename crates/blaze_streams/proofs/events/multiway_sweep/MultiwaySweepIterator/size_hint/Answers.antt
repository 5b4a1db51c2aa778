use Rattle.blaze_streams.proofs.Words.{◌∙◌, ℕ, Option, Some, ap, arith, length, sym, length-map}
use Rattle.blaze_streams.proofs.events.multiway_sweep.MultiwaySweepIterator.size_hint.Goals as goal

pub returns-clause-exact : goal.returns-clause-exact
returns-clause-exact g c = ap (λ n. (n, Some n)) (c.len-len.ensures ∙ c.self.inside.rest.rest.ok.0 ∙ sym (length-map _ _) ∙ ap length c.self.view_is)

pub returns-clause-lower : goal.returns-clause-lower
returns-clause-lower g c _ = omega (arith, ap (λ (p : ℕ × Option ℕ). p.0) (returns-clause-exact g c))

pub returns-clause-upper : goal.returns-clause-upper
returns-clause-upper g c = (tt, omega (arith, ap (λ (p : ℕ × Option ℕ). p.0) (returns-clause-exact g c)))
