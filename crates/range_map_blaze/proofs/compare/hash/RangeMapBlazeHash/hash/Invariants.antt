use Rattle.range_map_blaze.proofs.Words.{◌≡◌, flat_map, fold, entry_input}
use Rattle.range_map_blaze.proofs.compare.hash.RangeMapBlazeHash.hash.Given as goal

-- the state after the writes for what is left is that for all entries
abbrev pub invariant-loop-start : goal.invariant-loop-start
invariant-loop-start g l =
    (goal.iterator-loop-start g).can_next l.start-iterator
    × (goal.iterator-loop-start g).is_finite l.start-iterator
    × (fold g.H.Hasher.write l.state (flat_map (entry_input (λ k. g.T.Hash.hash_input (g.T.Integer.of_rank k)) g.V.Hash.hash_input) l.start-iterator)
    ≡ fold g.H.Hasher.write l.initial.state (flat_map (entry_input (λ k. g.T.Hash.hash_input (g.T.Integer.of_rank k)) g.V.Hash.hash_input) l.self.entries))
