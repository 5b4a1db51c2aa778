-- The laws of a list's entries, of pairs painted one by one, of filling one map from another, of keys taken and put back, of joins of maps, and of
-- maps with the results of a closure at their values.
use Rattle.std.specs.Prelude.{◌≡◌, ℤ, ◌≤ℤ◌, Bool, List, ◌∷◌, ◌++◌, Option, IsSome}
use Rattle.std.specs.List.{Contains}
use Rattle.std.specs.Option.{is_some}
use Rattle.std.specs.Fn.{Mut}
use Rattle.blaze_entries.specs.Entries.{Entry, at, SameEntries}
use Rattle.blaze_entries.specs.Canonical.{IsRangeMap}
use Rattle.blaze_entries.specs.Count.{mapped_keys}
use Rattle.blaze_entries.specs.Run.{IsRun}
use Rattle.blaze_streams.specs.declared.segmenting.joins.JoinKind.TheVariants.{Inner, Left, Full}
use Rattle.blaze_streams.specs.Answers.{IsTransformed}
use Rattle.blaze_streams.specs.JoinAnswers.{IsJoined}
use Rattle.range_map_blaze.specs.Extended.{ArePaintedInTurn, IsExtended}
use Rattle.range_map_blaze.specs.FilledFrom.{IsFilledFrom}
use Rattle.range_map_blaze.specs.KeysTaken.{AreKeysTaken}
use Rattle.range_map_blaze.specs.Union.{IsUnion}

-- each entry of a range map's list is a run of its content
abbrev pub EntriesAreRuns : {V : Type 0} → (V → V → Bool) → ℤ → ℤ → Type 0
EntriesAreRuns {V} eq low high = (es : List (Entry V)) (e : Entry V) → IsRangeMap eq low high es → Contains es e → IsRun eq (at es) e.lo e.hi e.value

-- so is the entry that a walk over the list comes to, behind those that it has passed
abbrev pub WalkedEntriesAreRuns : {V : Type 0} → (V → V → Bool) → ℤ → ℤ → Type 0
WalkedEntriesAreRuns {V} eq low high = (es done rest : List (Entry V)) (e : Entry V) → IsRangeMap eq low high es → es ≡ done ++ e ∷ rest → IsRun eq (at es) e.lo e.hi e.value

-- pairs painted one by one give what painting them in order gives
abbrev pub PaintingInTurnExtends : {V : Type 0} → (V → V → Bool) → ℤ → ℤ → Type 0
PaintingInTurnExtends {V} eq low high = (pairs old new : List (Entry V)) → IsRangeMap eq low high old → ArePaintedInTurn eq low high pairs old new → IsExtended eq low high pairs old new

-- a map whose gaps are filled from another is the other with it painted over: the ranges are the same, and values equal
abbrev pub FillingIsUnion : {V : Type 0} → (V → V → Bool) → ℤ → ℤ → Type 0
FillingIsUnion {V} eq low high = (other old filled union : List (Entry V)) → IsFilledFrom eq low high other old filled → IsUnion eq low high other old union → SameEntries eq filled union

-- keys that are removed from a range map, and painted back entry by entry: the ranges are the same, and values equal
abbrev pub TakingIsUndone : {V : Type 0} → (V → V → Bool) → ℤ → ℤ → Type 0
TakingIsUndone {V} eq low high = (l h : ℤ) (old left taken back : List (Entry V)) → IsRangeMap eq low high old → AreKeysTaken eq low high l h old left taken → ArePaintedInTurn eq low high taken left back → SameEntries eq old back

-- two lists map the same keys, and so as many
pub record HaveSameKeys {V W : Type 0} (low high : ℤ) (entries : List (Entry V)) (new : List (Entry W)) : Type 0 where
  pub keys : (k : ℤ) → is_some (at new k) ≡ is_some (at entries k)
  pub count : mapped_keys low high (at new) ≡ mapped_keys low high (at entries)

-- a range map that has a value at every key
pub record IsUniversalMap {V : Type 0} (eq : V → V → Bool) (low high : ℤ) (entries : List (Entry V)) : Type 0 where
  pub range_map : IsRangeMap eq low high entries
  pub universal : (k : ℤ) → low ≤ℤ k → k ≤ℤ high → IsSome (at entries k)

-- the results of a closure at the values of a list are on the list's keys
abbrev pub AnswersAreOnItsKeys : {F A V W : Type 0} → (A → V) → Mut F A W → (W → W → Bool) → ℤ → ℤ → Type 0
AnswersAreOnItsKeys {F} {A} {V} {W} shows g eq low high = (f : F) (entries : List (Entry V)) (new : List (Entry W)) → IsTransformed shows g eq low high f entries new → HaveSameKeys low high entries new

-- `shows` gives the two lists' values that the arguments of a call stand for
module _ {F X W A B : Type 0} (shows : X → Option A × Option B) (g : Mut F X W) (eqa : A → A → Bool) (eqb : B → B → Bool) (eq : W → W → Bool) (low high : ℤ) where
  -- the results of a closure in a left join are on the left list's keys
  abbrev pub LeftJoinIsOnTheLeftKeys : Type 0
  LeftJoinIsOnTheLeftKeys = (f : F) (left : List (Entry A)) (right : List (Entry B)) (new : List (Entry W)) → IsJoined shows g eqa eqb low high Left eq f left right new → HaveSameKeys low high left new

  -- for two maps of every key, a full join and an inner join whose closures return the same have the same ranges, with equal
  -- values
  abbrev pub FullJoinIsInnerJoin : {G Y : Type 0} → (Y → Option A × Option B) → Mut G Y W → Type 0
  FullJoinIsInnerJoin {G} {Y} shows' g' = (f : F) (f' : G) (left : List (Entry A)) (right : List (Entry B)) (full inner : List (Entry W))
      → IsUniversalMap eqa low high left → IsUniversalMap eqb low high right
      → (of_full : IsJoined shows g eqa eqb low high Full eq f left right full) → (of_inner : IsJoined shows' g' eqa eqb low high Inner eq f' left right inner)
      → of_full.answered.answers ≡ of_inner.answered.answers → SameEntries eq full inner
