use Rattle.blaze_iters.proofs.Words.{[], Some, refl, unwrap_or}
use Rattle.blaze_iters.proofs.Steps.{next_back_key, keeps_last}
use Rattle.blaze_iters.proofs.into_iter_map.IntoIterMap.next_back_key.Goals as goal

pub returns-in-Some : goal.returns-in-Some
returns-in-Some g c =
    let t = c.in-Some.ensures in
    rw (← c.self.view_is) (
    next_back_key g.T.Integer.rank g.T.Integer.of_rank (λ v. v) c.self.inside.back (λ es. es) (unwrap_or c.self.inside.inner []) c.self.inside.front _ refl (rw t.1 tt)
    (keeps_last g.T.Integer.rank g.T.Integer.of_rank (λ v. v) c.self.inside.back (λ es. es) (unwrap_or c.self.inside.inner []) c.self.inside.front t.0 t.1) (Some c.in-Some.key) c.last_key.new.opened t)

pub returns : goal.returns
returns g c =
    let taken = c.take_last in
    rw (← c.self.view_is, c.in_default.ensures.0) (
    next_back_key g.T.Integer.rank g.T.Integer.of_rank (λ v. v) taken.result (λ es. es) (unwrap_or taken.new.inner []) taken.new.front _ taken.ensures.left taken.ensures.none taken.ensures.opens
    c.last_key-2.result c.last_key-2.new.opened c.last_key-2.ensures)
