-- The values of pairs, by their positions, in terms of this crate's own functions. No public clause uses them.
use Rattle.std.specs.Prelude.{◌≡◌, ℕ, ◌-◌, length, ℤ, Bool, List, [], ◌∷◌, Option, Some, None, slice_get, slice_set}
use Rattle.std.specs.Option.{option_map}
use Rattle.blaze_entries.specs.Entries.{Entry, entry, SameOption}
use Rattle.blaze_entries.specs.Splice.{glue}
use Rattle.blaze_table.specs.declared.sweep.pair_value.PairValue.{PairValue}
use Rattle.blaze_table.specs.declared.sweep.pair_value.PairValue.TheVariants.{Present, Moved}
use Rattle.blaze_table.specs.declared.sweep.placed.Placed.{Placed}

-- the value of a pair, not moved
abbrev pub unmoved_value : {T V : Type 0} → Placed T V → PairValue V
unmoved_value p = Present p.value

-- the value, if it was not moved, or else the value of the entry that has it
abbrev pub value_of_pair : {V : Type 0} → List (Entry V) → Option (PairValue V) → Option V
value_of_pair entries None = None
value_of_pair entries (Some (Present v)) = Some v
value_of_pair entries (Some (Moved i)) = option_map (λ e. e.value) (slice_get entries i)

abbrev pub value_in : {V : Type 0} → List (Entry V) → List (PairValue V) → ℕ → Option V
value_in entries values index = value_of_pair entries (slice_get values index)

-- the value at the index was moved to the entry at position n
abbrev pub moved_to : {V : Type 0} → ℕ → List (PairValue V) → ℕ → List (PairValue V)
moved_to n values index = slice_set values index (Moved n)

-- the value at the index was appended to the entries, and the last entry has it
pub record PutsPiece {V : Type 0} (eq : V → V → Bool) (l h : ℤ) (index : ℕ) (old new : List (Entry V)) (values left : List (PairValue V)) : Type 0 where
  pub value : V
  pub alike : SameOption eq (Some value) (value_in old values index)
  pub glued : new ≡ glue eq old (entry l h value ∷ [])
  pub moved : left ≡ moved_to (length new - 1) values index
