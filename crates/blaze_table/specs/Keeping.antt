-- Keys appended to a list one by one, in terms of this crate's own functions. No public clause uses them.
use Rattle.std.specs.Prelude.{◌≡◌, ℤ, Bool, true, List, [], ◌∷◌, ◌++◌, length}
use Rattle.std.specs.List.{items_where_true}
use Rattle.std.specs.List.Retain.{ReturnsInTurn}
use Rattle.blaze_entries.specs.Entries.{Entry, entry, at, SameOption}
use Rattle.blaze_entries.specs.Canonical.{IsCanonical, AreKeys}
use Rattle.blaze_entries.specs.Pairs.{value_at}
use Rattle.blaze_entries.specs.Splice.{glue, IsBelow}

-- the list with the key k appended, with a value equal to v
pub record AddsKey {V : Type 0} (eq : V → V → Bool) (k : ℤ) (v : V) (old new : List (Entry V)) : Type 0 where
  pub value : V
  pub like : eq v value ≡ true
  pub glued : new ≡ glue eq old (entry k k value ∷ [])

module _ {F T V : Type 0} (R : F → T × V → Bool → F → Type 0) (f : F) (rank : T → ℤ) (eq : V → V → Bool) (low high : ℤ) where
  -- the closure was called with each pair, and the list, which ends below b, has the pairs for which it returned true
  pub record IsKept (pairs : List (T × V)) (b : ℤ) (es : List (Entry V)) : Type 0 where
    pub answers : List Bool
    pub long : length answers ≡ length pairs
    pub returns : ReturnsInTurn R f answers pairs f
    pub canonical : IsCanonical eq es
    pub are_keys : AreKeys low high es
    pub below : IsBelow b es
    pub content : (k : ℤ) → SameOption eq (at es k) (value_at rank (items_where_true answers pairs) k)

  -- after calls with more pairs, of keys from a to below b, the new list also has those for which the closure returned
  -- true
  abbrev pub KeepsMore : List (T × V) → ℤ → ℤ → List (Entry V) → List (Entry V) → Type 0
  KeepsMore more a b old new = (pairs : List (T × V)) → IsKept pairs a old → IsKept (pairs ++ more) b new
