-- The meaning of steps: functions from contents to contents. A content gives each key, by its rank, its value or none.
use Rattle.blaze_int.specs.Unsigned.{nat_of}
use Rattle.std.specs.Option.{option_xor}
use Rattle.std.specs.Prelude.{◌≡◌, ◌⊎◌, ℕ, zero, suc, ◌*◌, ◌+◌, ◌≤◌, ◌<◌, ℤ, pos, ◌+ℤ◌, ◌-ℤ◌, int_le, Bool, true, ◌&&◌, not, ◌==◌, if◌then◌else◌, is_some, List, [], ◌∷◌, length, take, Option, Some, None}
use Rattle.blaze_entries.specs.Counted.{CountedEntries}
use Rattle.blaze_entries.specs.Entries.{Entry, at, SameOption}
use Rattle.blaze_entries.specs.Canonical.{IsRangeMap}
use Rattle.blaze_entries.specs.Chosen.{right_first, left_with_right, left_alone}
use Rattle.blaze_entries.specs.Complement.{value_if_none}
use Rattle.blaze_entries.specs.Count.{mapped_keys}
use Rattle.blaze_entries.specs.Cut.{cut_at, below_at, from_at}
use Rattle.blaze_table.specs.Filled.{filled_content}
use Rattle.blaze_entries.specs.Painted.{painted_content}
use Rattle.blaze_table.specs.Work.{IsCounted}
use Rattle.range_map_cli.specs.declared.step.Step.{Step}
use Rattle.range_map_cli.specs.declared.step.Step.TheVariants.{Paint, Fill, Insert, Remove, PopFirst, PopLast, Clear, KeepBelow, KeepFrom, Or, And, Minus, Xor, AndSet, MinusSet, ComplementWith}
use Rattle.range_map_cli.specs.declared.step.Answer.{Answer}
use Rattle.range_map_cli.specs.declared.step.Answer.TheVariants.{Wrote, Old, Popped, Done}

-- ---- the least and the greatest key

-- the least of the n keys from a on that has a value
unfoldable pub least_mapped : {V : Type 0} → (ℤ → Option V) → ℤ → ℕ → Option ℤ
least_mapped content a zero = None
least_mapped content a (suc n) = if is_some (content a) then Some a else least_mapped content (a +ℤ pos 1) n

-- the greatest of the n keys from b down that has a value
unfoldable pub greatest_mapped : {V : Type 0} → (ℤ → Option V) → ℤ → ℕ → Option ℤ
greatest_mapped content b zero = None
greatest_mapped content b (suc n) = if is_some (content b) then Some b else greatest_mapped content (b -ℤ pos 1) n

-- a key with its value, if it has one
abbrev pub pair_of : {V : Type 0} → ℤ → Option V → Option (ℤ × V)
pair_of k None = None
pair_of k (Some v) = Some (k, v)

-- a key, if there is one, with its value
abbrev pub key_with_value : {V : Type 0} → (ℤ → Option V) → Option ℤ → Option (ℤ × V)
key_with_value content None = None
key_with_value content (Some k) = pair_of k (content k)

-- the content without a key, if there is one
abbrev pub without_key : {V : Type 0} → Option ℤ → (ℤ → Option V) → ℤ → Option V
without_key None content j = content j
without_key (Some k) content j = cut_at k content j

-- the least key that has a value
abbrev pub first_mapped_key : {V : Type 0} → ℤ → ℤ → (ℤ → Option V) → Option ℤ
first_mapped_key low high content = least_mapped content low (nat_of (high -ℤ low +ℤ pos 1))

-- the greatest key that has a value
abbrev pub last_mapped_key : {V : Type 0} → ℤ → ℤ → (ℤ → Option V) → Option ℤ
last_mapped_key low high content = greatest_mapped content high (nat_of (high -ℤ low +ℤ pos 1))

-- a value on the keys that have none, and none on the others
abbrev pub complemented : {V : Type 0} → ℤ → ℤ → V → (ℤ → Option V) → ℤ → Option V
complemented low high v content k = if int_le low k && int_le k high then value_if_none v (content k) else None

-- a range map has the content of the old one without a key, if there is one
pub record IsWithout {V : Type 0} (eq : V → V → Bool) (low high : ℤ) (key : Option ℤ) (old new : List (Entry V)) : Type 0 where
  pub range_map : IsRangeMap eq low high new
  pub content : (k : ℤ) → SameOption eq (at new k) (without_key key (at old) k)

module _ {T V L : Type 0} (rank : T → ℤ) (low high : ℤ) where
  -- ---- one step

  -- the content after a step
  abbrev pub content_after : Step T V L → (ℤ → Option V) → ℤ → Option V
  content_after (Paint lo hi v) content = painted_content (rank lo) (rank hi) v content
  content_after (Fill lo hi v) content = filled_content (rank lo) (rank hi) v content
  content_after (Insert k v) content = painted_content (rank k) (rank k) v content
  content_after (Remove k) content = cut_at (rank k) content
  content_after PopFirst content = without_key (first_mapped_key low high content) content
  content_after PopLast content = without_key (last_mapped_key low high content) content
  content_after Clear content = λ _. None
  content_after (KeepBelow k) content = below_at (rank k) content
  content_after (KeepFrom k) content = from_at (rank k) content
  content_after (Or other) content = λ k. right_first (content k) (at other.entries k)
  content_after (And other) content = λ k. left_with_right (at other.entries k) (content k)
  content_after (Minus other) content = λ k. left_alone (content k) (at other.entries k)
  content_after (Xor other) content = λ k. option_xor (content k) (at other.entries k)
  content_after (AndSet keys) content = λ k. left_with_right (content k) (at keys k)
  content_after (MinusSet keys) content = λ k. left_alone (content k) (at keys k)
  content_after (ComplementWith v) content = complemented low high v content

  -- the answer of a step on a content: keys are given by their ranks
  abbrev pub answer : Step T V L → (ℤ → Option V) → Answer ℤ V
  answer (Paint lo hi v) content = Wrote (not (mapped_keys low high (painted_content (rank lo) (rank hi) v content) == mapped_keys low high content))
  answer (Fill lo hi v) content = Wrote (not (mapped_keys low high (filled_content (rank lo) (rank hi) v content) == mapped_keys low high content))
  answer (Insert k v) content = Old (content (rank k))
  answer (Remove k) content = Old (content (rank k))
  answer PopFirst content = Popped (key_with_value content (first_mapped_key low high content))
  answer PopLast content = Popped (key_with_value content (last_mapped_key low high content))
  answer Clear content = Done
  answer (KeepBelow k) content = Done
  answer (KeepFrom k) content = Done
  answer (Or other) content = Done
  answer (And other) content = Done
  answer (Minus other) content = Done
  answer (Xor other) content = Done
  answer (AndSet keys) content = Done
  answer (MinusSet keys) content = Done
  answer (ComplementWith v) content = Done

  -- ---- a list of steps

  -- the content after the steps, one after another
  abbrev pub after_all : List (Step T V L) → (ℤ → Option V) → ℤ → Option V
  after_all [] content = content
  after_all (step ∷ steps) content = after_all steps (content_after step content)

  -- the answers of the steps, each on the content after those before it
  abbrev pub answers : List (Step T V L) → (ℤ → Option V) → List (Answer ℤ V)
  answers [] content = []
  answers (step ∷ steps) content = answer step content ∷ answers steps (content_after step content)

-- ---- answers compared

-- both none, or the same key with equal values
abbrev pub SamePair : {T V : Type 0} → (T → ℤ) → (V → V → Bool) → Option (T × V) → Option (ℤ × V) → Type 0
SamePair rank eq None None = Unit {0}
SamePair rank eq None (Some q) = ⊥
SamePair rank eq (Some p) None = ⊥
SamePair rank eq (Some p) (Some q) = (rank p.0 ≡ q.0) × (eq p.1 q.1 ≡ true)

-- an answer is the one that is meant: keys by their ranks, values by `==`
abbrev pub SameAnswer : {T V : Type 0} → (T → ℤ) → (V → V → Bool) → Answer T V → Answer ℤ V → Type 0
SameAnswer rank eq (Wrote changed) (Wrote meant) = changed ≡ meant
SameAnswer rank eq (Old value) (Old meant) = SameOption eq value meant
SameAnswer rank eq (Popped pair) (Popped meant) = SamePair rank eq pair meant
SameAnswer rank eq Done Done = Unit {0}
SameAnswer rank eq _ _ = ⊥

-- answer by answer
abbrev pub SameAnswers : {T V : Type 0} → (T → ℤ) → (V → V → Bool) → List (Answer T V) → List (Answer ℤ V) → Type 0
SameAnswers rank eq [] [] = Unit {0}
SameAnswers rank eq [] (b ∷ bs) = ⊥
SameAnswers rank eq (a ∷ given) [] = ⊥
SameAnswers rank eq (a ∷ given) (b ∷ bs) = SameAnswer rank eq a b × SameAnswers rank eq given bs

-- ---- a step on a range map

-- a range map has the content that the step means on the old one
pub record IsStepped {T V L : Type 0} (eq : V → V → Bool) (rank : T → ℤ) (low high : ℤ) (step : Step T V L) (old new : List (Entry V)) : Type 0 where
  pub range_map : IsRangeMap eq low high new
  pub content : (k : ℤ) → SameOption eq (at new k) (content_after rank low high step (at old) k)

-- a range map has the content that all the steps mean, one after another
pub record IsSteppedAll {T V L : Type 0} (eq : V → V → Bool) (rank : T → ℤ) (low high : ℤ) (steps : List (Step T V L)) (old new : List (Entry V)) : Type 0 where
  pub range_map : IsRangeMap eq low high new
  pub content : (k : ℤ) → SameOption eq (at new k) (after_all rank low high steps (at old) k)

-- an allocation failed in the step after the first so many, which were done
pub record IsRefusedAt {T V L : Type 0} (eq : V → V → Bool) (rank : T → ℤ) (low high : ℤ) (steps : List (Step T V L)) (at : ℕ) (old new : List (Entry V)) : Type 0 where
  pub within : (at < length steps) ⊎ (at ≡ 0)
  pub stepped : IsSteppedAll eq rank low high (take at steps) old new

-- the step makes a new map, of the map and another, of the map and a set, or by `complement_with`
abbrev pub Combines : {T V L : Type 0} → Step T V L → Type 0
Combines (Or other) = Unit {0}
Combines (And other) = Unit {0}
Combines (Minus other) = Unit {0}
Combines (Xor other) = Unit {0}
Combines (AndSet keys) = Unit {0}
Combines (MinusSet keys) = Unit {0}
Combines (ComplementWith v) = Unit {0}
Combines _ = ⊥

-- ---- work

-- the step is a paint, an insertion, a removal or a pop
abbrev pub IsEdit : {T V L : Type 0} → Step T V L → Type 0
IsEdit (Paint lo hi v) = Unit {0}
IsEdit (Insert k v) = Unit {0}
IsEdit (Remove k) = Unit {0}
IsEdit PopFirst = Unit {0}
IsEdit PopLast = Unit {0}
IsEdit _ = ⊥

-- all is counted; n edits insert at most two entries each, remove at most those and the old ones, and look up at most
-- so often
pub record IsCountedRun {V : Type 0} (n : ℕ) (old new : CountedEntries V) : Type 0 where
  pub counted : IsCounted old new
  pub puts : new.put_in ≤ old.put_in + 2 * n
  pub takes : new.taken_out ≤ old.taken_out + 2 * n + length old.entries
  pub looks : new.looks ≤ old.looks + 10 * n + 2 * length old.entries
