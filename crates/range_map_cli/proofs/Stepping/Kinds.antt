-- Which steps are left where others are taken.
use Rattle.range_map_cli.proofs.Words.{◌≡◌, ℤ, Bool, Option, refl, answer, Combines, IsEdit, SameAnswer, Step, Paint, Fill, Insert, Remove, PopFirst, PopLast, Clear, KeepBelow, KeepFrom, Or, And, Minus, Xor, AndSet, MinusSet, ComplementWith, Done}

module _ {T V L : Type 0} where
  -- a step of none of the five kinds of edits is no edit
  pub no_edit : (step : Step T V L) → ((lo hi : T) (v : V) → step ≡ Paint lo hi v → ⊥) → ((k : T) (v : V) → step ≡ Insert k v → ⊥) → ((k : T) → step ≡ Remove k → ⊥)
      → (step ≡ PopFirst → ⊥) → (step ≡ PopLast → ⊥) → ¬ (IsEdit step)
  no_edit (Paint lo hi v) paint insert remove first last edit = paint lo hi v refl
  no_edit (Fill lo hi v) paint insert remove first last edit = edit
  no_edit (Insert k v) paint insert remove first last edit = insert k v refl
  no_edit (Remove k) paint insert remove first last edit = remove k refl
  no_edit PopFirst paint insert remove first last edit = first refl
  no_edit PopLast paint insert remove first last edit = last refl
  no_edit Clear paint insert remove first last edit = edit
  no_edit (KeepBelow k) paint insert remove first last edit = edit
  no_edit (KeepFrom k) paint insert remove first last edit = edit
  no_edit (Or other) paint insert remove first last edit = edit
  no_edit (And other) paint insert remove first last edit = edit
  no_edit (Minus other) paint insert remove first last edit = edit
  no_edit (Xor other) paint insert remove first last edit = edit
  no_edit (AndSet keys) paint insert remove first last edit = edit
  no_edit (MinusSet keys) paint insert remove first last edit = edit
  no_edit (ComplementWith v) paint insert remove first last edit = edit

  -- one that is neither an edit nor a fill, a clear or a split makes a new map
  pub combines : (step : Step T V L) → ¬ (IsEdit step) → ((lo hi : T) (v : V) → step ≡ Fill lo hi v → ⊥) → (step ≡ Clear → ⊥) → ((k : T) → step ≡ KeepBelow k → ⊥) → ((k : T) → step ≡ KeepFrom k → ⊥) → Combines step
  combines (Paint lo hi v) edit fill clear below from = absurd (edit tt)
  combines (Fill lo hi v) edit fill clear below from = absurd (fill lo hi v refl)
  combines (Insert k v) edit fill clear below from = absurd (edit tt)
  combines (Remove k) edit fill clear below from = absurd (edit tt)
  combines PopFirst edit fill clear below from = absurd (edit tt)
  combines PopLast edit fill clear below from = absurd (edit tt)
  combines Clear edit fill clear below from = absurd (clear refl)
  combines (KeepBelow k) edit fill clear below from = absurd (below k refl)
  combines (KeepFrom k) edit fill clear below from = absurd (from k refl)
  combines (Or other) edit fill clear below from = tt
  combines (And other) edit fill clear below from = tt
  combines (Minus other) edit fill clear below from = tt
  combines (Xor other) edit fill clear below from = tt
  combines (AndSet keys) edit fill clear below from = tt
  combines (MinusSet keys) edit fill clear below from = tt
  combines (ComplementWith v) edit fill clear below from = tt

  -- such a step answers that it is done
  pub combined_answer : (eq : V → V → Bool) (rank : T → ℤ) (low high : ℤ) (step : Step T V L) (content : ℤ → Option V) → Combines step → SameAnswer rank eq Done (answer rank low high step content)
  combined_answer eq rank low high (Paint lo hi v) content combines = absurd combines
  combined_answer eq rank low high (Fill lo hi v) content combines = absurd combines
  combined_answer eq rank low high (Insert k v) content combines = absurd combines
  combined_answer eq rank low high (Remove k) content combines = absurd combines
  combined_answer eq rank low high PopFirst content combines = absurd combines
  combined_answer eq rank low high PopLast content combines = absurd combines
  combined_answer eq rank low high Clear content combines = absurd combines
  combined_answer eq rank low high (KeepBelow k) content combines = absurd combines
  combined_answer eq rank low high (KeepFrom k) content combines = absurd combines
  combined_answer eq rank low high (Or other) content combines = tt
  combined_answer eq rank low high (And other) content combines = tt
  combined_answer eq rank low high (Minus other) content combines = tt
  combined_answer eq rank low high (Xor other) content combines = tt
  combined_answer eq rank low high (AndSet keys) content combines = tt
  combined_answer eq rank low high (MinusSet keys) content combines = tt
  combined_answer eq rank low high (ComplementWith v) content combines = tt
