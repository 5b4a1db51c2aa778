use Rattle.blaze_streams.proofs.Words.{◌≡◌, ◌∙◌, ◌++◌, [], ◌∷◌, List, map, refl, ap, subst, sym, arith, nil_from_length, IfOk-weaker, GivesEach}
use Rattle.blaze_streams.proofs.RowParts.{both_given}
use Rattle.blaze_streams.proofs.merge.rounds.merged_few.Goals as goal

-- what was taken from the end of a list
taken : {A : Type 0} (all rest is : List A) (last : A) → all ≡ rest ++ last ∷ [] → rest ≡ is → all ≡ is ++ last ∷ []
taken all rest is last p q = p ∙ ap (λ l. l ++ last ∷ []) q

pub returns-in-Some-pop-2 : goal.returns-in-Some-pop-2
returns-in-Some-pop-2 g c =
    let left = g.I.SortedDisjointMap.left in
    let gives = g.O.Operation.gives in
    let one = g.met.O.Operation.of_one in
    let first = c.in-Some-pop-2.first in
    let middle = c.in-Some-pop.middle in
    let last = c.in-Some.last in
    let none : c.pop-3.new.self.items ≡ [] = nil_from_length c.pop-3.new.self.items (omega (arith, c.requires.few, c.in-Some.ensures.cases, c.in-Some-pop.ensures.cases, c.in-Some-pop-2.ensures.cases, c.pop-3.new.self.ok.0)) in
    let all = taken _ _ _ last c.in-Some.ensures.items (taken _ _ _ middle c.in-Some-pop.ensures.items (taken _ _ _ first c.in-Some-pop-2.ensures.items none)) in
    let both : GivesEach gives (left middle ∷ left last ∷ []) c.in_ok-both.both = both_given gives (left middle ∷ []) (left last ∷ []) _ (left middle) (left last) _ refl (omega arith) (omega arith) (λ k. one _) (λ k. one _) c.in_ok-both.ensures in
    IfOk-weaker c.merge-in-Some-pop-2.result _ _
    (λ new three. both_given gives (left first ∷ []) (left middle ∷ left last ∷ []) _ (left first) c.in_ok-both.both new (sym (ap (map left) all)) (omega arith) (omega arith) (λ k. one _) both three) c.merge-in-Some-pop-2.ensures

pub returns : goal.returns
returns g c =
    let left = g.I.SortedDisjointMap.left in
    let one = g.met.O.Operation.of_one in
    let middle = c.in-Some-pop.middle in
    let last = c.in-Some.last in
    let none : c.pop-2.new.self.items ≡ [] = nil_from_length c.pop-2.new.self.items (omega (arith, c.in-None.ensures.cases, c.pop-2.new.self.ok.0)) in
    let all = taken _ _ _ last c.in-Some.ensures.items (taken _ _ _ middle c.in-Some-pop.ensures.items none) in
    both_given g.O.Operation.gives (left middle ∷ []) (left last ∷ []) _ (left middle) (left last) _ (sym (ap (map left) all)) (omega arith) (omega arith) (λ k. one _) (λ k. one _) c.in_ok-both.ensures

pub returns-in_default-pop : goal.returns-in_default-pop
returns-in_default-pop g c =
    let left = g.I.SortedDisjointMap.left in
    let gives = g.O.Operation.gives in
    let last = c.in-Some.last in
    let none : c.pop.new.self.items ≡ [] = nil_from_length c.pop.new.self.items (omega (arith, c.in_default-pop.ensures.cases, c.pop.new.self.ok.0)) in
    let all = taken _ _ _ last c.in-Some.ensures.items none in
    IfOk-weaker c.list_of.result _ _
    (λ list is. subst (λ ls. GivesEach gives (map left ls) list) (sym all) (subst (GivesEach gives (left last ∷ [])) (sym is) (λ k. g.met.O.Operation.of_one _))) c.list_of.ensures
