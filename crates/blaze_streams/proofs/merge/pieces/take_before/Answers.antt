use Rattle.blaze_int.proofs.Comparisons.{le_holds}
use Rattle.blaze_streams.proofs.Words.{◌≡◌, ◌∙◌, ℤ, ◌≤ℤ◌, List, [], ◌∷◌, Option, Some, None, refl, sym, ap, subst, cond, arith, ints, option_map, le_true, le_fails, range_in, first_entry, Entry, first_key, lesser}
use Rattle.blaze_streams.proofs.Taken.{end_bounded, end_whole, ends, has_end, taken_alone}
use Rattle.blaze_streams.proofs.merge.pieces.take_before.Goals.{in-None, in-Some-bound+else-is_at_most}
use Rattle.blaze_streams.proofs.merge.pieces.take_before.Goals as goal

-- the lesser of a key and the first key of an empty list
before_none : {A : Type 0} (L : List (Entry A)) (o : Option ℤ) → None ≡ option_map range_in (first_entry L) → lesser o (first_key L) ≡ o
before_none [] None p = refl
before_none [] (Some a) p = refl
before_none (e ∷ es) o p = cc

-- the lesser of a key and the first key of a list that does not start below it
before_first : {A : Type 0} (l x b : ℤ) (L : List (Entry A)) (o : Option ℤ) → Some (l, x) ≡ option_map range_in (first_entry L) → Some b ≡ o → b ≤ℤ l → lesser o (first_key L) ≡ o
before_first l x b [] o p q h = cc
before_first l x b (e ∷ es) o p q h = subst (λ z. lesser z (Some e.lo) ≡ z) q (ap (λ c. Some (cond c b e.lo)) (le_true b e.lo (omega (arith, ints, (ends e l x p).0))))

pub returns-in_default-clause-taken : goal.returns-in_default-clause-taken
returns-in_default-clause-taken g c = (refl, before_none c.args.cursor.now _ c.in_default.ensures.ends)

pub returns-then-is_at_most-clause-taken : goal.returns-then-is_at_most-clause-taken
returns-then-is_at_most-clause-taken g c = (refl, before_first _ _ _ c.args.cursor.now _ c.in-Some.ensures.ends c.in-Some-bound.ensures.first (le_holds _ _ (sym c.is_at_most.ensures ∙ c.if-is_at_most.true)))

pub take-requires-clause-has : goal.take-requires-clause-has
take-requires-clause-has g c =
    let rank = g.T.Integer.rank in
    let eqa = g.VC.Value.PartialEq.eq in
    let eqb = g.VCO.Value.PartialEq.eq in
    has_end eqa eqb _ _ c.args.cursor.now c.args.other.now (rank c.match-bound.end) c.in-Some.ensures.ends (elim c.match-bound.branch [
      | in-None w ↦ end_whole eqa eqb _ _ _ _ _ c.range.ensures.canonical c.in-Some.ensures.ends (sym (ap (option_map rank) w.in-None.is) ∙ c.first-bound.ensures.first) (ap rank w.end-is)
      | in-Some-bound+else-is_at_most w ↦ end_bounded eqa eqb _ _ _ _ _ _ _ c.range.ensures.canonical c.in-Some.ensures.ends w.in-Some-bound.ensures.first (le_fails _ _ (sym w.is_at_most.ensures ∙ w.if-is_at_most.false)) w.sub_one.ensures (ap rank w.end-is ∙ w.lesser-end.ensures)
    ])

pub returns-clause-taken : goal.returns-clause-taken
returns-clause-taken g c =
    let rank = g.T.Integer.rank in
    let eqa = g.VC.Value.PartialEq.eq in
    let eqb = g.VCO.Value.PartialEq.eq in
    taken_alone eqa eqb _ _ c.args.cursor.now c.take.new.self c.args.other.now (rank c.match-bound.end) _ c.range.ensures.canonical c.first-bound.ensures.canonical c.in-Some.ensures.ends (elim c.match-bound.branch [
      | in-None w ↦ end_whole eqa eqb _ _ _ _ _ c.range.ensures.canonical c.in-Some.ensures.ends (sym (ap (option_map rank) w.in-None.is) ∙ c.first-bound.ensures.first) (ap rank w.end-is)
      | in-Some-bound+else-is_at_most w ↦ end_bounded eqa eqb _ _ _ _ _ _ _ c.range.ensures.canonical c.in-Some.ensures.ends w.in-Some-bound.ensures.first (le_fails _ _ (sym w.is_at_most.ensures ∙ w.if-is_at_most.false)) w.sub_one.ensures (ap rank w.end-is ∙ w.lesser-end.ensures)
    ]) c.in_ok-carrier.ensures.carrier c.take.ensures.rest
