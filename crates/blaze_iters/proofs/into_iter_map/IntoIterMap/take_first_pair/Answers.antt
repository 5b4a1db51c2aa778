use Rattle.blaze_iters.proofs.Words.{[], Some, refl, unwrap_or}
use Rattle.blaze_iters.proofs.Steps.{next_like, keeps_first}
use Rattle.blaze_iters.proofs.into_iter_map.IntoIterMap.take_first_pair.Goals as goal

pub returns-in-Some : goal.returns-in-Some
returns-in-Some g c =
    let t = c.in-Some.ensures in
    rw (← c.self.view_is) (
    next_like g.T.Integer.rank g.T.Integer.of_rank g.V.PartialEq.eq c.self.inside.front (unwrap_or c.self.inside.inner []) c.self.inside.back _ refl (rw t.1 tt)
    (keeps_first g.T.Integer.rank g.T.Integer.of_rank (λ v. v) c.self.inside.front (λ es. es) (unwrap_or c.self.inside.inner []) c.self.inside.back t.0 t.1) (Some c.in-Some.given) c.first_cloned.new.opened t)

pub returns : goal.returns
returns g c =
    let taken = c.take_first in
    rw (← c.self.view_is, c.in_default.ensures.0) (
    next_like g.T.Integer.rank g.T.Integer.of_rank g.V.PartialEq.eq taken.result (unwrap_or taken.new.inner []) taken.new.back _ taken.ensures.left taken.ensures.none taken.ensures.opens
    c.first_cloned-2.result c.first_cloned-2.new.opened c.first_cloned-2.ensures)
