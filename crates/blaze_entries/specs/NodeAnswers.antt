-- A closure over an entry, called at the entry's node: its results, and where it may be called.
use Rattle.std.specs.Prelude.{◌≡◌, ℤ, Bool, Option, Some}
use Rattle.std.specs.Borrow.{Bor}
use Rattle.std.specs.Fn.{Mut}
use Rattle.std.specs.declared.ops.RangeInclusive.{RangeInclusive}
use Rattle.blaze_entries.specs.Answers.{AnswersAt, TakesEntry}
use Rattle.blaze_entries.specs.Entries.{entry}
use Rattle.blaze_entries.specs.declared.node.EndValue.{EndValue}

module _ {F T V : Type 0} (rank : T → ℤ) (g : Mut F (Bor (RangeInclusive T) × (Bor V × Unit {0})) Bool) where
  -- the node is full, and f may be called at its entry's range and value
  pub record TakesNode (f : F) (start : T) (node : EndValue T (Option V)) : Type 0 where
    pub value : V
    pub full : node.value ≡ Some value
    pub taken : TakesEntry rank g f (entry (rank start) (rank node.end) value)

  -- a call of f at the range and value of the node's entry may return r and leave f as f'; the node is unchanged
  pub record AnswersAtNode (f : F) (start : T) (node : EndValue T (Option V)) (r : Bool) (left : EndValue T (Option V)) (f' : F) : Type 0 where
    pub value : V
    pub full : node.value ≡ Some value
    pub answers : AnswersAt rank g f (entry (rank start) (rank node.end) value) r f'
    pub stays : left ≡ node
