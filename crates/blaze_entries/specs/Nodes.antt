-- A tree's nodes as entries, with the keys given by their ranks. A node's value is an `Option`, since a node may be
-- empty during a call. The entries of a list of nodes are those of the full ones.
use Rattle.std.specs.Prelude.{◌≡◌, ℤ, List, [], ◌∷◌, map, Option, Some, None}
use Rattle.std.specs.Map.Iter.{deref_pair}
use denote.Ref.{Bor}
use Rattle.blaze_entries.specs.Entries.{Entry, entry}
use Rattle.blaze_entries.specs.Starts.{StartsAscend}
use Rattle.blaze_entries.specs.declared.node.EndValue.{EndValue}

-- a start with its node, as an entry
abbrev pub shown_node : {T V : Type 0} → (T → ℤ) → T × EndValue T V → Entry V
shown_node rank p = entry (rank p.0) (rank p.1.end) p.1.value

-- the start and the node of an entry, given as (first key, last key, value)
abbrev pub node_of : {T V : Type 0} → T × T × V → T × EndValue T (Option V)
node_of e = (e.0, record { end = e.1; value = Some e.2 })

abbrev pub shown_nodes : {T V : Type 0} → (T → ℤ) → List (T × EndValue T V) → List (Entry V)
shown_nodes rank nodes = map (shown_node rank) nodes

-- a borrowed start with its borrowed node, as an entry
abbrev pub shown_borrowed_node : {T V : Type 0} → (T → ℤ) → Bor T × Bor (EndValue T V) → Entry V
shown_borrowed_node rank p = shown_node rank (deref_pair p)

-- the node at a start, as an entry
abbrev pub shown_node_at : {T V : Type 0} → (T → ℤ) → T → EndValue T V → Entry V
shown_node_at rank k node = shown_node rank (k, node)

-- an entry, as a full node
abbrev pub full_node : {V : Type 0} → Entry V → Entry (Option V)
full_node e = entry e.lo e.hi (Some e.value)

-- a node before entries: it adds an entry if it is full
abbrev pub node_before : {V : Type 0} → ℤ → ℤ → Option V → List (Entry V) → List (Entry V)
node_before l h None es = es
node_before l h (Some v) es = entry l h v ∷ es

-- the entries of the full nodes
abbrev pub full : {V : Type 0} → List (Entry (Option V)) → List (Entry V)
full [] = []
full (p ∷ ps) = node_before p.lo p.hi p.value (full ps)

-- the entries of a tree's nodes
abbrev pub entries_of : {T V : Type 0} → (T → ℤ) → List (T × EndValue T (Option V)) → List (Entry V)
entries_of rank nodes = full (shown_nodes rank nodes)

-- each node is full
pub record AreFull {V : Type 0} (ps : List (Entry (Option V))) : Type 0 where
  pub held : ps ≡ map full_node (full ps)

-- each node is full, and the starts ascend, from low to high
pub record AreHeld {V : Type 0} (low high : ℤ) (ps : List (Entry (Option V))) : Type 0 where
  pub ascend : StartsAscend low high (full ps)
  pub full : AreFull ps
