use Rattle.blaze_entries.proofs.Words.{◌≡◌, ◌-◌, length, List, [], ◌∷◌, refl, slice_get, IsSome, MatchOption-at_some, MatchOption-at_none, Entry, shown_entry}
use Rattle.blaze_entries.proofs.Steps.{last_node_taken, taken_is_full, answers_taken, front_is_held, pops_last}
use Rattle.blaze_entries.proofs.tree.Tree.remove_last.Goals as goal

pub given-requires : goal.given-requires
given-requires g c =
    let step = pops_last c.self.inside.nodes.entries c.pop_last.result c.pop_last.new.self.entries c.pop_last.ensures.variant c.pop_last.ensures.removal c.pop_last.ensures.unchanged in
    taken_is_full (last_node_taken g.T.Integer.rank (λ p. p) _ c.pop_last.result _ c.self.invariant.full step)

pub invariant_of-self : goal.invariant_of-self
invariant_of-self g c =
    let step = pops_last c.self.inside.nodes.entries c.pop_last.result c.pop_last.new.self.entries c.pop_last.ensures.variant c.pop_last.ensures.removal c.pop_last.ensures.unchanged in
    front_is_held (last_node_taken g.T.Integer.rank (λ p. p) _ c.pop_last.result _ c.self.invariant.full step) g.T.Integer.low g.T.Integer.high c.self.invariant.ascend

pub unreachable-requires : goal.unreachable-requires
unreachable-requires g c =
    let step = pops_last c.self.inside.nodes.entries c.pop_last.result c.pop_last.new.self.entries c.pop_last.ensures.variant c.pop_last.ensures.removal c.pop_last.ensures.unchanged in
    let none = MatchOption-at_none _ _ c.in-None.is (answers_taken (last_node_taken g.T.Integer.rank (λ p. p) _ c.pop_last.result _ c.self.invariant.full step) (shown_entry g.T.Integer.rank (λ v. v)) c.given.result c.given.ensures c.self.view_is) in
    no_last c.args.self.now none.0 c.requires.present
  where
    no_last : {V : Type 0} (es : List (Entry V)) → es ≡ [] → IsSome (slice_get es (length es - 1)) → ⊥
    no_last [] q i = cc
    no_last (e ∷ es) q i = cc

pub returns : goal.returns
returns g c =
    let rank = g.T.Integer.rank in
    let step = pops_last c.self.inside.nodes.entries c.pop_last.result c.pop_last.new.self.entries c.pop_last.ensures.variant c.pop_last.ensures.removal c.pop_last.ensures.unchanged in
    record {
      last = shown_entry rank (λ v. v) (c.in-Some.field-0-0, c.in-Some.field-0-1, c.in-Some.value);
      removed = MatchOption-at_some _ _ _ c.in-Some.is (answers_taken (last_node_taken rank (λ p. p) _ c.pop_last.result _ c.self.invariant.full step) (shown_entry rank (λ v. v)) c.given.result c.given.ensures c.self.view_is);
      value = refl;
    }
