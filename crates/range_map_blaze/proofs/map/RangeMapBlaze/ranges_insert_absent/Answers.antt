use Rattle.range_map_blaze.proofs.Words.{◌≡◌, ap, subst, arith, IfOk, ◌↔◌, IsTrue, ints, keys_in, CountedEntries}
use Rattle.range_map_blaze.proofs.Paints.FilledFrom.{filled_nowhere, filled_somewhere}
use Rattle.range_map_blaze.proofs.map.RangeMapBlaze.ranges_insert_absent.Goals as goal

pub returns-in-Some-clause-none : goal.returns-in-Some-clause-none
returns-in-Some-clause-none g c = λ told below. let ends = c.in-Some.ensures.ranks told in absurd (omega (arith, ints, ends.0, ends.1, c.in-Some.ensures.order))

-- bounds that name no key
pub returns-clause-ok : goal.returns-clause-ok
returns-clause-ok g c = λ told. filled_nowhere g.V.PartialEq.eq g.met.V.Eq.laws g.T.Integer.low g.T.Integer.high _ _ (c.in-None.ensures.ranks told) c.in_hand.ensures

pub returns-in-Some-clause-somewhere : goal.returns-in-Some-clause-somewhere
returns-in-Some-clause-somewhere g c =
    filled_somewhere g.V.PartialEq.eq g.T.Integer.low g.T.Integer.high _ _ _ _ _ (ap (λ (s : CountedEntries g.row.V.Denot). s.entries) c.self.view_is) c.fill_absent.ensures.ok

pub returns-in-Some-clause-changed : goal.returns-in-Some-clause-changed
returns-in-Some-clause-changed g c =
    subst (λ old. IfOk c.fill_absent.result (λ changed. IsTrue changed ↔ (¬ (keys_in c.fill_absent.new.self.entries ≡ keys_in old)))) (ap (λ (s : CountedEntries g.row.V.Denot). s.entries) c.self.view_is) c.fill_absent.ensures.changed
