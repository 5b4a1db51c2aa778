use Rattle.blaze_iters.proofs.Words.{◌≡◌, [], length, ap, unwrap_or, shown_left}
use Rattle.blaze_iters.proofs.Steps.{whole_within}
use Rattle.blaze_iters.proofs.into_iter_map.IntoIterMap.unopened_len.Goals as goal

pub returns-in-Some-clause-bound : goal.returns-in-Some-clause-bound
returns-in-Some-clause-bound g c =
    let s = shown_left g.T.Integer.rank (λ v. v) c.self.inside.front (unwrap_or c.self.inside.inner []) c.self.inside.back in
    let within = whole_within g.T.Integer.of_rank (λ es. es) s c.self.invariant.1 in
    let whole : length (unwrap_or c.self.inside.inner []) ≡ length c.in-Some.ranges = ap (λ o. length (unwrap_or o [])) c.in-Some.is in
    rw (← c.self.view_is, c.len.ensures.value) (rw whole at within)
