use Rattle.blaze_table.proofs.Words.{common_steps, ◌≡◌, ◌∷◌, true, false, sym, ◌∙◌, subst, rules, arith, IsTrue, shown_list, AreApart, key_after}
use Rattle.blaze_table.proofs.sweep.ascending.is_ascending.Goals as goal

never_equal : IsTrue false → ⊥
never_equal t = cc

pub returns-then-not-follows : goal.returns-then-not-follows
returns-then-not-follows g c =
    let rank = g.T.Integer.rank in
    let split : c.loop-pair.rest.now ≡ c.in-Some.pair.now ∷ c.in-Some.others.now = search rules in (
      λ t. absurd (never_equal t),
      λ a.
          let rest = subst (λ xs. AreApart (key_after rank g.T.Integer.low c.loop-pair.last) (shown_list rank xs)) split (c.loop-pair.invariant.1 a) in
          let follows : c.follows.result ≡ true = c.follows.ensures.1 (rest.0, rest.1) in
          sym c.if-not-follows.true ∙ follows,
    )

pub returns : goal.returns
returns g c = grind (arith, common_steps)
