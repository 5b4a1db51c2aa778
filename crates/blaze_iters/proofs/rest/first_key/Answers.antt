use Rattle.blaze_iters.proofs.Words.{refl, sym}
use Rattle.blaze_iters.proofs.rest.first_key.Goals as goal
use Rattle.blaze_iters.proofs.rest.first_key.Goals.{in-Some, in-None+in-Some-1, in-None+in-None-1}

pub returns : goal.returns
returns g c =
    let opened = sym c.in_ok-rest.ensures.value in
    let key = g.met.T.Integer.ranked.one_key c.in_ok-rest.rest.now.start c.in_hand.ensures.from c.in_hand.ensures.to in (
      c.in_ok-rest.rest.now,
      opened,
      refl,
      key,
      elim c.match-second.branch [
        | in-Some w ↦ rw w.opened-is (w.in-Some.ensures.0, w.in-Some.ensures.1, refl, refl)
        | in-None+in-Some-1 w ↦ rw w.opened-is w.in-None.ensures
        | in-None+in-None-1 w ↦ rw w.opened-is w.in-None.ensures
      ],
    )
