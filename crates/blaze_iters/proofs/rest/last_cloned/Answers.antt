use Rattle.blaze_iters.proofs.Words.{◌≡◌, ◌<ℤ◌, refl, sym, ap, arith, ints, unwrap_or}
use Rattle.blaze_iters.proofs.rest.last_cloned.Goals as goal

pub returns-in-None : goal.returns-in-None
returns-in-None g c =
    let e = c.in_ok-rest.rest.now in
    let key = g.met.T.Integer.ranked.one_key e.end c.in_hand.ensures.from c.in_hand.ensures.to in
    let same : c.in_ok-end-in-None.field-0 ≡ e = ap (λ o. unwrap_or o e) c.in_ok-end-in-None.ensures.value in
    (e, sym c.in_ok-rest.ensures.value, (ap (λ r. r.end) same, rw same (g.met.V.Eq.laws.refl e.value), key, rw c.take.ensures.after c.in-None.ensures))

pub returns-in-Ok : goal.returns-in-Ok
returns-in-Ok g c =
    let e = c.in_ok-rest.rest.now in
    let key = g.met.T.Integer.ranked.one_key e.end c.in_hand.ensures.from c.in_hand.ensures.to in
    (e, sym c.in_ok-rest.ensures.value, (refl, c.requires.alike e.value c.in-Ok.copy c.in-Ok.ensures.cases, key, (c.in-Some.ensures.0, c.in-Some.ensures.1, refl, refl)))

pub returns-in-Err : goal.returns-in-Err
returns-in-Err g c =
    let e = c.in_ok-rest.rest.now in
    let several : g.T.Integer.rank e.start <ℤ g.T.Integer.rank e.end = let next = c.in-Some.ensures.0 in let first = c.in-Some.ensures.1 in omega (arith, ints) in
    (e, sym c.in_ok-rest.ensures.value, (several, refl))
