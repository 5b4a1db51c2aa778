-- What paints and fills in any order leave.
use Rattle.range_map_cli.proofs.Words.{option_or, ◌≡◌, ◌+◌, ◌-◌, ◌*◌, ◌≤◌, ℤ, Bool, cond, List, [], ◌∷◌, length, Option, Some, None, ◌∙◌, sym, ap, subst, arith, All, IsEquivalence, All-head, All-tail, or_assoc, or_none, keyed_count, Entry, entry, at, holds, SameOption, filled_content, last_at, painted_content, painted_in_order, canonical, painted_one, few_painted, fills_of, painted_and_filled, paints_of, ranges_in, IsPaintOrFill, PaintsAloneAreInOrder, StepsPaintAndFill, IsSteppedAll, Step, Paint, Fill, Insert, Remove, PopFirst, PopLast, Clear, KeepBelow, KeepFrom, Or, And, Minus, Xor, AndSet, MinusSet, ComplementWith}

module _ {V : Type 0} where
  -- one entry is painted first
  paint_first : (holds : Bool) (v : V) (later old fill : Option V) → option_or later (option_or (cond holds (Some v) old) fill) ≡ option_or (option_or later (cond holds (Some v) None)) (option_or old fill)
  paint_first holds v later old fill =
      let here = cond holds (Some v) None in
      ap (λ o. option_or later (option_or o fill)) (painted_one holds v old) ∙ ap (option_or later) (or_assoc here old fill) ∙ sym (or_assoc later here (option_or old fill))

  -- one entry is filled first
  fill_first : (holds : Bool) (v : V) (later old fill : Option V) → option_or later (option_or (option_or old (cond holds (Some v) None)) fill) ≡ option_or later (option_or old (cond holds (Some v) fill))
  fill_first holds v later old fill = ap (option_or later) (or_assoc old (cond holds (Some v) None) fill ∙ ap (option_or old) (sym (painted_one holds v fill)))

  pub paints_alone : PaintsAloneAreInOrder V
  paints_alone paints content k = ap (option_or (last_at paints k)) (or_none (content k))

-- ---- steps

module _ {T V L : Type 0} (rank : T → ℤ) (low high : ℤ) where
  pub steps_paint_and_fill : StepsPaintAndFill V L rank low high
  steps_paint_and_fill [] content all k = sym (or_none (content k))
  steps_paint_and_fill (Paint lo hi v ∷ steps) content all k =
      steps_paint_and_fill steps (painted_content (rank lo) (rank hi) v content) (All-tail IsPaintOrFill (Paint lo hi v) steps all) k
      ∙ paint_first (holds (entry (rank lo) (rank hi) v) k) v (last_at (paints_of rank steps) k) (content k) (at (fills_of rank steps) k)
  steps_paint_and_fill (Fill lo hi v ∷ steps) content all k =
      steps_paint_and_fill steps (filled_content (rank lo) (rank hi) v content) (All-tail IsPaintOrFill (Fill lo hi v) steps all) k
      ∙ fill_first (holds (entry (rank lo) (rank hi) v) k) v (last_at (paints_of rank steps) k) (content k) (at (fills_of rank steps) k)
  steps_paint_and_fill (Insert j v ∷ steps) content all k = absurd (All-head IsPaintOrFill (Insert j v) steps all)
  steps_paint_and_fill (Remove j ∷ steps) content all k = absurd (All-head IsPaintOrFill (Remove j) steps all)
  steps_paint_and_fill (PopFirst ∷ steps) content all k = absurd (All-head IsPaintOrFill PopFirst steps all)
  steps_paint_and_fill (PopLast ∷ steps) content all k = absurd (All-head IsPaintOrFill PopLast steps all)
  steps_paint_and_fill (Clear ∷ steps) content all k = absurd (All-head IsPaintOrFill Clear steps all)
  steps_paint_and_fill (KeepBelow j ∷ steps) content all k = absurd (All-head IsPaintOrFill (KeepBelow j) steps all)
  steps_paint_and_fill (KeepFrom j ∷ steps) content all k = absurd (All-head IsPaintOrFill (KeepFrom j) steps all)
  steps_paint_and_fill (Or other ∷ steps) content all k = absurd (All-head IsPaintOrFill (Or other) steps all)
  steps_paint_and_fill (And other ∷ steps) content all k = absurd (All-head IsPaintOrFill (And other) steps all)
  steps_paint_and_fill (Minus other ∷ steps) content all k = absurd (All-head IsPaintOrFill (Minus other) steps all)
  steps_paint_and_fill (Xor other ∷ steps) content all k = absurd (All-head IsPaintOrFill (Xor other) steps all)
  steps_paint_and_fill (AndSet keys ∷ steps) content all k = absurd (All-head IsPaintOrFill (AndSet keys) steps all)
  steps_paint_and_fill (MinusSet keys ∷ steps) content all k = absurd (All-head IsPaintOrFill (MinusSet keys) steps all)
  steps_paint_and_fill (ComplementWith v ∷ steps) content all k = absurd (All-head IsPaintOrFill (ComplementWith v) steps all)

-- ---- how many entries

module _ {V : Type 0} where
  -- the entries in the order in which paints alone give the same: the last filled one first
  abbrev under : List (Entry V) → List (Entry V) → List (Entry V)
  under [] paints = paints
  under (f ∷ fills) paints = under fills (f ∷ paints)

  last_under : (fills paints : List (Entry V)) (k : ℤ) → last_at (under fills paints) k ≡ option_or (last_at paints k) (at fills k)
  last_under [] paints k = sym (or_none (last_at paints k))
  last_under (f ∷ fills) paints k =
      last_under fills (f ∷ paints) k ∙ or_assoc (last_at paints k) (cond (holds f k) (Some f.value) None) (at fills k)
      ∙ ap (option_or (last_at paints k)) (sym (painted_one (holds f k) f.value (at fills k)))

  keyed_under : (fills paints : List (Entry V)) → keyed_count (under fills paints) ≡ keyed_count paints + keyed_count fills
  keyed_under [] paints = omega arith
  keyed_under (f ∷ fills) paints = omega (arith, keyed_under fills (f ∷ paints))

  -- where there was nothing
  as_paints : (paints fills : List (Entry V)) (k : ℤ) → painted_and_filled paints fills (at []) k ≡ painted_in_order (under fills paints) (at []) k
  as_paints paints fills k = sym (or_none (last_at (under fills paints) k) ∙ last_under fills paints k)

-- a map that was empty has at most 2n - 1 entries after paints and fills of which n have a key
pub few_filled : {T V L : Type 0} (eq : V → V → Bool) (laws : IsEquivalence eq) (rank : T → ℤ) (low high : ℤ) (steps : List (Step T V L)) (old new : List (Entry V)) → All IsPaintOrFill steps → old ≡ []
    → IsSteppedAll eq rank low high steps old new → length new ≤ 2 * ranges_in rank steps - 1
few_filled eq laws rank low high steps old new all none stepped =
    let paints = paints_of rank steps in
    let fills = fills_of rank steps in
    let few = few_painted eq laws (under fills paints) new (canonical eq laws new stepped.range_map.runs)
    (λ k. subst (SameOption eq (at new k)) (steps_paint_and_fill rank low high steps (at old) all k ∙ ap (λ es. painted_and_filled paints fills (at es) k) none ∙ as_paints paints fills k) (stepped.content k)) in
    omega (arith, few, keyed_under fills paints)
