-- What the hash of a range map writes.
use Rattle.std.specs.Prelude.{◌≡◌, ℕ, ℤ, Bool, true, List, ◌++◌}
use Rattle.std.specs.Cmp.{signed_Decides}
use Rattle.std.specs.Hash.{same_Alike, on_Alike, and-Alike, items_Alike}
use Rattle.std.specs.Hash as fed
use Rattle.blaze_entries.specs.Entries.{Entry}
use Rattle.blaze_entries.specs.Equality.{same_entries}

module _ {V : Type 0} (key : ℤ → List (List ℕ)) (value : V → List (List ℕ)) where
  -- an entry's two ends, and then its value
  abbrev pub entry_input : Entry V → List (List ℕ)
  entry_input e = key e.lo ++ key e.hi ++ value e.value

  -- the number of entries, and then each entry
  abbrev pub entries_input : List (Entry V) → List (List ℕ)
  entries_input = fed.slice entry_input

  -- equal lists write the same, where equal values do
  pub equal_entries_input : (eq : V → V → Bool) → ((x y : V) → eq x y ≡ true → value x ≡ value y) → (es fs : List (Entry V)) → same_entries eq es fs ≡ true → entries_input es ≡ entries_input fs
  equal_entries_input eq alike =
      (items_Alike (and-Alike (and-Alike (on_Alike (λ (e : Entry V). e.lo) (same_Alike key signed_Decides)) (on_Alike (λ (e : Entry V). e.hi) (same_Alike key signed_Decides))) (on_Alike (λ (e : Entry V). e.value) (record { fed = alike })))).fed
