use Rattle.blaze_iters.proofs.Words.{◌≡◌, refl, sym, ◌∙◌, ap, unwrap_or}
use Rattle.blaze_iters.proofs.rest.first_pair.Goals as goal

pub returns : goal.returns
returns g c =
    let e = c.in_ok-value.field-0.now in
    let key = c.in_ok-key.ensures in
    let same : key.0 ≡ e = ap (λ o. unwrap_or o e) (sym (c.in_ok-value.ensures.value ∙ key.1)) in
    (e, sym c.in_ok-value.ensures.value, rw (← same, key.2) refl, rw same at key.3, rw same at key.4)
