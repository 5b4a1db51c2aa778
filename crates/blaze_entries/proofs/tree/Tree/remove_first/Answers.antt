use Rattle.blaze_entries.proofs.Words.{◌≡◌, List, [], ◌∷◌, refl, slice_get, IsSome, MatchOption-at_some, MatchOption-at_none, Entry, shown_entry}
use Rattle.blaze_entries.proofs.Steps.{first_node_taken, taken_is_full, answers_taken, rest_is_held, pops_first}
use Rattle.blaze_entries.proofs.tree.Tree.remove_first.Goals as goal

pub given-requires : goal.given-requires
given-requires g c =
    let step = pops_first c.self.inside.nodes.entries c.pop_first.result c.pop_first.new.self.entries c.pop_first.ensures.variant c.pop_first.ensures.removal c.pop_first.ensures.unchanged in
    taken_is_full (first_node_taken g.T.Integer.rank (λ p. p) _ c.pop_first.result _ c.self.invariant.full step)

pub invariant_of-self : goal.invariant_of-self
invariant_of-self g c =
    let step = pops_first c.self.inside.nodes.entries c.pop_first.result c.pop_first.new.self.entries c.pop_first.ensures.variant c.pop_first.ensures.removal c.pop_first.ensures.unchanged in
    rest_is_held (first_node_taken g.T.Integer.rank (λ p. p) _ c.pop_first.result _ c.self.invariant.full step) g.T.Integer.low g.T.Integer.high c.self.invariant.ascend

pub unreachable-requires : goal.unreachable-requires
unreachable-requires g c =
    let step = pops_first c.self.inside.nodes.entries c.pop_first.result c.pop_first.new.self.entries c.pop_first.ensures.variant c.pop_first.ensures.removal c.pop_first.ensures.unchanged in
    let none = MatchOption-at_none _ _ c.in-None.is (answers_taken (first_node_taken g.T.Integer.rank (λ p. p) _ c.pop_first.result _ c.self.invariant.full step) (shown_entry g.T.Integer.rank (λ v. v)) c.given.result c.given.ensures c.self.view_is) in
    no_first c.args.self.now none.0 c.requires.present
  where
    no_first : {V : Type 0} (es : List (Entry V)) → es ≡ [] → IsSome (slice_get es 0) → ⊥
    no_first [] q i = cc
    no_first (e ∷ es) q i = cc

pub returns : goal.returns
returns g c =
    let rank = g.T.Integer.rank in
    let step = pops_first c.self.inside.nodes.entries c.pop_first.result c.pop_first.new.self.entries c.pop_first.ensures.variant c.pop_first.ensures.removal c.pop_first.ensures.unchanged in
    record {
      first = shown_entry rank (λ v. v) (c.in-Some.field-0-0, c.in-Some.field-0-1, c.in-Some.value);
      removed = MatchOption-at_some _ _ _ c.in-Some.is (answers_taken (first_node_taken rank (λ p. p) _ c.pop_first.result _ c.self.invariant.full step) (shown_entry rank (λ v. v)) c.given.result c.given.ensures c.self.view_is);
      value = refl;
    }
