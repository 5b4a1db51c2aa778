-- The results of a closure at values, with one call for each, and the values with which it may be called.
use Rattle.std.specs.Prelude.{◌≡◌, ℤ, Bool, List, [], ◌∷◌, ◌++◌, length, map}
use Rattle.std.specs.Fn.{Mut, Called, Takes}
use Rattle.std.specs.List.{FoldsTo, zip}
use Rattle.blaze_entries.specs.Entries.{Entry, entry, at, SameOption}
use Rattle.blaze_entries.specs.Canonical.{IsRangeMap}

-- the values of entries, in order
abbrev pub values : {V : Type 0} → List (Entry V) → List V
values es = map (λ e. e.value) es

-- the entries, each with a result instead of its value
abbrev pub entries_with_results : {V W : Type 0} → List (Entry V) → List W → List (Entry W)
entries_with_results es answers = map (λ c. entry c.0.lo c.0.hi c.1) (zip es answers)

-- P is true of the value of each entry
abbrev pub EachValue : {V : Type 0} → (V → Type 0) → List (Entry V) → Type 0
EachValue P [] = Unit {0}
EachValue P (e ∷ es) = P e.value × EachValue P es

-- `shows` is the value that the arguments of a call represent
module _ {F A V W : Type 0} (shows : A → V) (g : Mut F A W) where
  -- a call of f with arguments that represent v may return w and leave f as f'
  pub record AnswersAtValue (f : F) (v : V) (w : W) (f' : F) : Type 0 where
    pub arguments : A
    pub shown : shows arguments ≡ v
    pub called : Called g f arguments w f'

  -- f may be called with arguments that represent v
  abbrev pub TakesValue : F → V → Type 0
  TakesValue f v = (arguments : A) → shows arguments ≡ v → Takes g f arguments

  -- a call of f at v may leave f as f'
  abbrev pub SomeCallAtValue : F → V → F → Type 0
  SomeCallAtValue f v f' = (w : W) × AnswersAtValue f v w f'

  -- f may be called at each value in turn, in the state that the earlier calls leave
  pub record IsCallableAtEachValue (f : F) (vs : List V) : Type 0 where
    pub at : (before after : List V) (v : V) (f' : F) → vs ≡ before ++ v ∷ after → FoldsTo SomeCallAtValue f before f' → TakesValue f' v

  -- the results of f at the values: one for each, in order, each in the state that the earlier calls leave
  pub record AnswersInTurn (f : F) (vs : List V) (answers : List W) : Type 0 where
    pub last : F
    pub count : length answers ≡ length vs
    pub calls : FoldsTo (λ j c k. AnswersAtValue j c.0 c.1 k) f (zip vs answers) last

  -- a range map that has at each key of an entry the result of f at that entry, and no value at other keys
  pub record IsTransformed (eq : W → W → Bool) (low high : ℤ) (f : F) (entries : List (Entry V)) (new : List (Entry W)) : Type 0 where
    pub answers : List W
    pub in_turn : AnswersInTurn f (values entries) answers
    pub range_map : IsRangeMap eq low high new
    pub content : (k : ℤ) → SameOption eq (at new k) (at (entries_with_results entries answers) k)
