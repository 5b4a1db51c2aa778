-- Ranges that a call returns. None was iterated to its end, so a caller may iterate over all its keys.
use Rattle.std.specs.Prelude.{◌≡◌, false, List, Option, IfSome}
use Rattle.std.specs.Iterator.{YieldsFirstBy, YieldsLastBy}
use Rattle.std.specs.Range.{range_inclusive_exhausted}
use Rattle.std.specs.declared.ops.RangeInclusive.{RangeInclusive}

-- the range was not iterated to its end
abbrev pub IsWhole : {T : Type 0} → RangeInclusive T → Type 0
IsWhole range = range_inclusive_exhausted range ≡ false

module _ {T A B S : Type 0} (range : A → RangeInclusive T) (view : A → B) (rest : S → List B) where
  -- a call from s yielded the first remaining range, as `YieldsFirstBy` says, and the range is whole
  abbrev pub YieldsWholeFirst : S → Option A → S → Type 0
  YieldsWholeFirst s r t = YieldsFirstBy view rest s r t × IfSome r (λ a. IsWhole (range a))

  -- a call from s yielded the last remaining range, as `YieldsLastBy` says, and the range is whole
  abbrev pub YieldsWholeLast : S → Option A → S → Type 0
  YieldsWholeLast s r t = YieldsLastBy view rest s r t × IfSome r (λ a. IsWhole (range a))
