use Rattle.blaze_iters.proofs.Words.{◌≤◌, length, None, ap, subst, ranges_then}
use Rattle.blaze_iters.proofs.Joined.{some_left, one_of}
use Rattle.blaze_iters.proofs.tables.key_ranges.KeyRangesIterator.size_hint.Goals as goal

pub returns-in-Some-clause-lower : goal.returns-in-Some-clause-lower
returns-in-Some-clause-lower g c = λ _. subst (λ l. 1 ≤ length l) c.self.view_is (some_left g.T.Integer.rank c.self.inside.open c.in-Some.field-0 (ranges_then g.T.Integer.rank (g.I.EntryEnds.left c.self.inside.entries) c.self.inside.back) c.in-Some.is)

pub returns-in-Some-clause-exact : goal.returns-in-Some-clause-exact
returns-in-Some-clause-exact g c = ap (λ n. (n, None)) (one_of (length c.args.self.now) (returns-in-Some-clause-lower g c tt))
