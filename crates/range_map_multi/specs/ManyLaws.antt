-- With two maps, the operations between many are those between two.
use Rattle.std.specs.Option.{option_xor}
use Rattle.std.specs.Prelude.{◌≡◌, ℤ, Bool, List, [], ◌∷◌, Option, is_some}
use Rattle.std.specs.Fn.{Mut}
use Rattle.std.specs.List.{list_all, list_any}
use Rattle.blaze_entries.specs.Entries.{Entry, SameEntries}
use Rattle.blaze_entries.specs.Chosen.{right_first, left_with_right, IsChosen}
use Rattle.blaze_streams.specs.declared.segmenting.joins.JoinKind.TheVariants.{Inner, Full}
use Rattle.blaze_streams.specs.JoinAnswers.{IsJoined}
use Rattle.blaze_streams.specs.Many.{last_value, last_of_all, last_of_odd, IsChosenOfMany}
use Rattle.range_map_multi.specs.ManyJoins.{IsManyJoined}

module _ {V : Type 0} (eq : V → V → Bool) (low high : ℤ) where
  -- the union of two maps has the same ranges as the right map over the left, with equal values
  abbrev pub UnionOfTwoIsOr : Type 0
  UnionOfTwoIsOr = (left right many two : List (Entry V)) → IsChosenOfMany eq low high last_value (left ∷ right ∷ []) many
      → IsChosen eq low high right_first left right two → SameEntries eq many two

  -- the intersection of two maps has the same ranges as the right map on the keys of the left, with equal values
  abbrev pub IntersectionOfTwoIsAnd : Type 0
  IntersectionOfTwoIsAnd = (left right many two : List (Entry V)) → IsChosenOfMany eq low high last_of_all (left ∷ right ∷ []) many
      → IsChosen eq low high left_with_right right left two → SameEntries eq many two

  -- the symmetric difference of two maps has the same ranges as the keys of exactly one of them, with equal values
  abbrev pub SymmetricDifferenceOfTwoIsXor : Type 0
  SymmetricDifferenceOfTwoIsXor = (left right many two : List (Entry V)) → IsChosenOfMany eq low high last_of_odd (left ∷ right ∷ []) many
      → IsChosen eq low high option_xor left right two → SameEntries eq many two

-- `shows` gives the row of the lists' values that the arguments of a call stand for, `shows'` those of two lists
module _ {F G X Y V W : Type 0} (shows : X → List (Option V)) (g : Mut F X W) (shows' : Y → Option V × Option V) (g' : Mut G Y W) (eqv : V → V → Bool) (eq : W → W → Bool) (low high : ℤ) where
  -- the inner join of two maps, as many, has the same ranges as that of one with the other, with equal values, where the
  -- closures return the same
  abbrev pub InnerJoinOfTwoIsInnerJoin : Type 0
  InnerJoinOfTwoIsInnerJoin = (f : F) (f' : G) (left right : List (Entry V)) (many two : List (Entry W))
      → (of_many : IsManyJoined shows g eqv low high (list_all is_some) eq f (left ∷ right ∷ []) many) → (of_two : IsJoined shows' g' eqv eqv low high Inner eq f' left right two)
      → of_many.answered.answers ≡ of_two.answered.answers → SameEntries eq many two

  -- the full join of two maps, as many, has the same ranges as that of one with the other, with equal values
  abbrev pub FullJoinOfTwoIsFullJoin : Type 0
  FullJoinOfTwoIsFullJoin = (f : F) (f' : G) (left right : List (Entry V)) (many two : List (Entry W))
      → (of_many : IsManyJoined shows g eqv low high (list_any is_some) eq f (left ∷ right ∷ []) many) → (of_two : IsJoined shows' g' eqv eqv low high Full eq f' left right two)
      → of_many.answered.answers ≡ of_two.answered.answers → SameEntries eq many two
