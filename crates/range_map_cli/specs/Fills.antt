-- Paints and fills in any order: the content after them, and the number of entries.
use Rattle.std.specs.Prelude.{◌≡◌, ℕ, ◌+◌, ℤ, List, [], ◌∷◌, All, Option}
use Rattle.std.specs.Option.{option_or}
use Rattle.blaze_table.specs.CanonicalOf.{keyed_count}
use Rattle.blaze_entries.specs.Entries.{Entry, entry, at}
use Rattle.blaze_entries.specs.Painted.{last_at, painted_in_order}
use Rattle.range_map_cli.specs.Steps.{after_all}
use Rattle.range_map_cli.specs.declared.step.Step.{Step}
use Rattle.range_map_cli.specs.declared.step.Step.TheVariants.{Paint, Fill}

-- The content after some entries are painted and others filled, each in their order, and in any order between the two. The
-- value at a key is that of the last painted entry whose range has it; without one, its old value; without that, the value of
-- the first filled entry whose range has it; else none.
abbrev pub painted_and_filled : {V : Type 0} → List (Entry V) → List (Entry V) → (ℤ → Option V) → ℤ → Option V
painted_and_filled paints fills content k = option_or (last_at paints k) (option_or (content k) (at fills k))

-- ---- of steps

-- the step is a paint or a fill
abbrev pub IsPaintOrFill : {T V L : Type 0} → Step T V L → Type 0
IsPaintOrFill (Paint lo hi v) = Unit {0}
IsPaintOrFill (Fill lo hi v) = Unit {0}
IsPaintOrFill _ = ⊥

module _ {T V L : Type 0} (rank : T → ℤ) where
  -- the ranges that the steps paint, in order, each with its value
  abbrev pub paints_of : List (Step T V L) → List (Entry V)
  paints_of [] = []
  paints_of (Paint lo hi v ∷ steps) = entry (rank lo) (rank hi) v ∷ paints_of steps
  paints_of (_ ∷ steps) = paints_of steps

  -- the ranges that they fill
  abbrev pub fills_of : List (Step T V L) → List (Entry V)
  fills_of [] = []
  fills_of (Fill lo hi v ∷ steps) = entry (rank lo) (rank hi) v ∷ fills_of steps
  fills_of (_ ∷ steps) = fills_of steps

  -- how many of these ranges have a key
  abbrev pub ranges_in : List (Step T V L) → ℕ
  ranges_in steps = keyed_count (paints_of steps) + keyed_count (fills_of steps)

-- ---- laws

-- without a filled entry it is painting in order
abbrev pub PaintsAloneAreInOrder : Type 0 → Type 0
PaintsAloneAreInOrder V = (paints : List (Entry V)) (content : ℤ → Option V) (k : ℤ)
    → painted_and_filled paints [] content k ≡ painted_in_order paints content k

-- it is the content after paints and fills that are done one after another
abbrev pub StepsPaintAndFill : {T : Type 0} → (V L : Type 0) → (T → ℤ) → ℤ → ℤ → Type 0
StepsPaintAndFill {T} V L rank low high = (steps : List (Step T V L)) (content : ℤ → Option V)
    → All IsPaintOrFill steps → (k : ℤ)
    → after_all rank low high steps content k
    ≡ painted_and_filled (paints_of rank steps) (fills_of rank steps) content k
