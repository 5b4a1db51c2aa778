-- What a closure returns when it is called at entries, and where it may be called.
use Rattle.std.specs.Prelude.{◌≡◌, ℤ, Bool, false, List, ◌∷◌, ◌++◌}
use Rattle.std.specs.Borrow.{Bor}
use Rattle.std.specs.Fn.{Mut, Called, Takes}
use Rattle.std.specs.List.{FoldsTo}
use Rattle.std.specs.Range.{range_inclusive_start, range_inclusive_end, range_inclusive_exhausted}
use Rattle.std.specs.declared.ops.RangeInclusive.{RangeInclusive}
use Rattle.blaze_entries.specs.Entries.{Entry}

module _ {F T V : Type 0} (rank : T → ℤ) (g : Mut F (Bor (RangeInclusive T) × (Bor V × Unit {0})) Bool) where
  -- the borrowed range and value are those of the entry
  pub record IsShown (e : Entry V) (range : Bor (RangeInclusive T)) (value : Bor V) : Type 0 where
    pub starts : rank (range_inclusive_start range.now) ≡ e.lo
    pub ends : rank (range_inclusive_end range.now) ≡ e.hi
    pub whole : range_inclusive_exhausted range.now ≡ false
    pub stored : value.now ≡ e.value

  -- a call of f at the entry's range and value may return r and leave f as f'
  pub record AnswersAt (f : F) (e : Entry V) (r : Bool) (f' : F) : Type 0 where
    pub range : Bor (RangeInclusive T)
    pub value : Bor V
    pub shown : IsShown e range value
    pub called : Called g f (range, (value, tt)) r f'

  -- f may be called at the entry's range and value
  abbrev pub TakesEntry : F → Entry V → Type 0
  TakesEntry f e = (range : Bor (RangeInclusive T)) (value : Bor V) → IsShown e range value → Takes g f (range, (value, tt))

  -- a call of f at the entry may leave f as f'
  abbrev pub SomeCallAt : F → Entry V → F → Type 0
  SomeCallAt f e f' = (r : Bool) × AnswersAt f e r f'

  -- f may be called at each entry in turn, in the state that the earlier calls leave
  pub record IsCallableAtEach (f : F) (es : List (Entry V)) : Type 0 where
    pub at : (before after : List (Entry V)) (e : Entry V) (f' : F) → es ≡ before ++ e ∷ after → FoldsTo SomeCallAt f before f' → TakesEntry f' e
