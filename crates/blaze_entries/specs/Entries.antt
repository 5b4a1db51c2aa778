-- A range map as a list of entries, and its content: the value at each key. Keys are given by their ranks.
use Rattle.std.specs.Prelude.{◌≡◌, ℤ, int_le, Bool, true, ◌&&◌, if◌then◌else◌, List, [], ◌∷◌, map, Option, Some, None, refl}
use Rattle.std.specs.Option.{option_map}
use denote.Ref.{Bor}
use Rattle.std.specs.Coded.{Coded, code_by, coded×, coded_ℤ}
use Rattle.blaze_entries.specs.declared.range_entry.RangeEntry.{RangeEntry}

-- an entry: the keys from lo to hi have the value
pub record Entry (V : Type 0) : Type 0 where
  pub lo : ℤ
  pub hi : ℤ
  pub value : V

abbrev pub entry : {V : Type 0} → ℤ → ℤ → V → Entry V
entry l h v = record { lo = l; hi = h; value = v }

-- an entry is stored as the tuple of its fields
abbrev pub entry_code : {V : Type 0} → Coded V → Coded (Entry V)
entry_code {V} v =
    code_by (ℤ × (ℤ × V)) (coded× coded_ℤ (coded× coded_ℤ v)) (λ e. (e.lo, (e.hi, e.value)))
    (λ p. record { lo = p.0; hi = p.1.0; value = p.1.1 }) (λ _. refl)

-- a first key, a last key and a representation of a value, as an entry
abbrev pub shown_entry : {T R V : Type 0} → (T → ℤ) → (R → V) → T × T × R → Entry V
shown_entry rank shown p = record { lo = rank p.0; hi = rank p.1; value = shown p.2 }

-- a list of first keys, last keys and values, as entries
abbrev pub shown_list : {T V : Type 0} → (T → ℤ) → List (T × T × V) → List (Entry V)
shown_list rank entries = map (shown_entry rank (λ v. v)) entries

-- the result of a lookup, with a borrowed value, as an entry
abbrev pub shown_borrowed : {T V : Type 0} → (T → ℤ) → Option (T × T × Bor V) → Option (Entry V)
shown_borrowed rank found = option_map (shown_entry rank (λ v. v.now)) found

-- an entry that one function passes to another
abbrev pub shown_range_entry : {T R V : Type 0} → (T → ℤ) → (R → V) → RangeEntry T R → Entry V
shown_range_entry rank shown e = record { lo = rank e.start; hi = rank e.end; value = shown e.value }

-- the entry's range contains the key
abbrev pub holds : {V : Type 0} → Entry V → ℤ → Bool
holds e k = int_le e.lo k && int_le k e.hi

-- the content of a list: the value at a key is that of the first entry whose range contains it
abbrev pub at : {V : Type 0} → List (Entry V) → ℤ → Option V
at [] k = None
at (e ∷ es) k = if holds e k then Some e.value else at es k

-- the first entry whose range contains the key
abbrev pub entry_at : {V : Type 0} → List (Entry V) → ℤ → Option (Entry V)
entry_at [] k = None
entry_at (e ∷ es) k = if holds e k then Some e else entry_at es k

-- both options are `None`, or both have values and these are equal
abbrev pub SameOption : {V : Type 0} → (V → V → Bool) → Option V → Option V → Type 0
SameOption eq None None = Unit {0}
SameOption eq None (Some y) = ⊥
SameOption eq (Some x) None = ⊥
SameOption eq (Some x) (Some y) = eq x y ≡ true

-- the same content: at each key both lists have no value, or equal values
abbrev pub SameContent : {V : Type 0} → (V → V → Bool) → List (Entry V) → List (Entry V) → Type 0
SameContent eq L M = (k : ℤ) → SameOption eq (at L k) (at M k)

-- position by position, the ranges are equal and the values are equal
abbrev pub SameEntries : {V : Type 0} → (V → V → Bool) → List (Entry V) → List (Entry V) → Type 0
SameEntries eq [] [] = Unit {0}
SameEntries eq [] (f ∷ fs) = ⊥
SameEntries eq (e ∷ es) [] = ⊥
SameEntries eq (e ∷ es) (f ∷ fs) = (e.lo ≡ f.lo) × (e.hi ≡ f.hi) × (eq e.value f.value ≡ true) × SameEntries eq es fs
