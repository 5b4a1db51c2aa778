use Rattle.blaze_iters.proofs.Words.{[], Some, refl, unwrap_or}
use Rattle.blaze_iters.proofs.Steps.{next_back_like, keeps_last}
use Rattle.blaze_iters.proofs.into_iter_map.IntoIterMap.take_last_pair.Goals as goal

pub returns-in-Some : goal.returns-in-Some
returns-in-Some g c =
    let t = c.in-Some.ensures in
    rw (← c.self.view_is) (
    next_back_like g.T.Integer.rank g.T.Integer.of_rank g.V.PartialEq.eq c.self.inside.back (unwrap_or c.self.inside.inner []) c.self.inside.front _ refl (rw t.1 tt)
    (keeps_last g.T.Integer.rank g.T.Integer.of_rank (λ v. v) c.self.inside.back (λ es. es) (unwrap_or c.self.inside.inner []) c.self.inside.front t.0 t.1) (Some c.in-Some.given) c.last_cloned.new.opened t)

pub returns : goal.returns
returns g c =
    let taken = c.take_last in
    rw (← c.self.view_is, c.in_default.ensures.0) (
    next_back_like g.T.Integer.rank g.T.Integer.of_rank g.V.PartialEq.eq taken.result (unwrap_or taken.new.inner []) taken.new.front _ taken.ensures.left taken.ensures.none taken.ensures.opens
    c.last_cloned-2.result c.last_cloned-2.new.opened c.last_cloned-2.ensures)
