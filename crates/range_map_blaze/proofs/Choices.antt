-- What is chosen from two lists, carried along lists that are alike.
use Rattle.range_map_blaze.proofs.Words.{◌≡◌, ℤ, Bool, List, Option, Some, None, is_some, refl, subst, ◌∙◌, option_xor, IsEquivalence, same_trans, same_along, Entry, at, SameOption, SameEntries, right_first, left_alone, IsChosen, value_if_none, IsComplement, IsAlikeOff, content_as, back, chosen}
use Rattle.range_map_blaze.proofs.Streams.{range_map_as}

-- the choice looks at the right one's presence alone
without_keys : {V A B : Type 0} (x : Option V) (y : Option A) (z : Option B) → is_some y ≡ is_some z → left_alone x y ≡ left_alone x z
without_keys x None None p = refl
without_keys x None (Some b) p = cc
without_keys x (Some a) None p = cc
without_keys x (Some a) (Some b) p = refl

absent_keys : {V A B : Type 0} (w : V) (y : Option A) (z : Option B) → is_some y ≡ is_some z → value_if_none w y ≡ value_if_none w z
absent_keys w None None p = refl
absent_keys w None (Some b) p = cc
absent_keys w (Some a) None p = cc
absent_keys w (Some a) (Some b) p = refl

-- the keys that the ranges of a map's keys lack are those that the map lacks
pub complement_of : {V A B : Type 0} (eq : V → V → Bool) (low high : ℤ) (w : V) (ranges : List (Entry A)) (entries : List (Entry B)) (new : List (Entry V)) → ((k : ℤ) → is_some (at ranges k) ≡ is_some (at entries k)) → IsComplement eq low high w ranges new → IsComplement eq low high w entries new
complement_of eq low high w ranges entries new same c = record {
  range_map = c.range_map;
  content = λ k l h. subst (SameOption eq (at new k)) (absent_keys w (at ranges k) (at entries k) (same k)) (c.content k l h);
}

module _ {V : Type 0} (eq : V → V → Bool) (laws : IsEquivalence eq) (low high : ℤ) where
  -- a list that is like a chosen one
  pub chosen_as : {A B : Type 0} (choose : Option A → Option B → Option V) (left : List (Entry A)) (right : List (Entry B)) (es fs : List (Entry V)) → IsChosen eq low high choose left right es → SameEntries eq es fs → IsChosen eq low high choose left right fs
  chosen_as choose left right es fs c s = chosen (range_map_as eq laws low high es fs s c.range_map) (λ k. same_trans eq laws (at fs k) (at es k) (choose (at left k) (at right k)) (back eq laws es fs (content_as eq laws es fs s) k) (c.content k))

  -- the ranges of a map's keys serve as the map
  pub chosen_without : {A B : Type 0} (left : List (Entry V)) (ranges : List (Entry A)) (right : List (Entry B)) (new : List (Entry V)) → ((k : ℤ) → is_some (at ranges k) ≡ is_some (at right k)) → IsChosen eq low high left_alone left ranges new → IsChosen eq low high left_alone left right new
  chosen_without left ranges right new same c = chosen c.range_map (λ k. subst (SameOption eq (at new k)) (without_keys (at left k) (at ranges k) (at right k) (same k)) (c.content k))

  -- what is chosen off the keys of what some of the ranges have left of a map
  pub chosen_on : {A B : Type 0} (left rest : List (Entry V)) (ranges : List (Entry A)) (right : List (Entry B)) (new : List (Entry V)) → ((k : ℤ) → is_some (at ranges k) ≡ is_some (at right k)) → IsAlikeOff eq ranges left rest → IsChosen eq low high left_alone rest right new → IsChosen eq low high left_alone left right new
  chosen_on left rest ranges right new same off c = chosen c.range_map (λ k. same_trans eq laws (at new k) (left_alone (at rest k) (at right k)) (left_alone (at left k) (at right k)) (c.content k)
      (same_along eq (without_keys (at rest k) (at ranges k) (at right k) (same k)) (without_keys (at left k) (at ranges k) (at right k) (same k)) (off k)))

  -- cut out of a map that is like the left one
  off_like : {A : Type 0} (x y : Option V) (z : Option A) → SameOption eq x y → SameOption eq (left_alone y z) (left_alone x z)
  off_like None None None s = tt
  off_like None None (Some z) s = tt
  off_like None (Some y) z s = absurd s
  off_like (Some x) None z s = absurd s
  off_like (Some x) (Some y) None s = laws.symm y x ∙ s
  off_like (Some x) (Some y) (Some z) s = tt

  pub chosen_off : {A : Type 0} (left old : List (Entry V)) (right : List (Entry A)) (new : List (Entry V)) → SameEntries eq left old → IsChosen eq low high left_alone old right new → IsChosen eq low high left_alone left right new
  chosen_off left old right new s c = chosen c.range_map (λ k. same_trans eq laws (at new k) (left_alone (at old k) (at right k)) _ (c.content k) (off_like (at left k) (at old k) (at right k) (content_as eq laws left old s k)))

  -- painted over a map that is like the left one
  over_like : (x y z : Option V) → SameOption eq x y → SameOption eq (right_first y z) (right_first x z)
  over_like None None None s = s
  over_like None None (Some z) s = laws.refl z
  over_like None (Some y) z s = absurd s
  over_like (Some x) None z s = absurd s
  over_like (Some x) (Some y) None s = laws.symm y x ∙ s
  over_like (Some x) (Some y) (Some z) s = laws.refl z

  pub chosen_over : (left old right new : List (Entry V)) → SameEntries eq left old → IsChosen eq low high right_first old right new → IsChosen eq low high right_first left right new
  chosen_over left old right new s c = chosen c.range_map (λ k. same_trans eq laws (at new k) (right_first (at old k) (at right k)) _ (c.content k) (over_like (at left k) (at old k) (at right k) (content_as eq laws left old s k)))

  -- painted into a map that is like the right one
  right_like : (x y z : Option V) → SameOption eq y z → SameOption eq (right_first x z) (right_first x y)
  right_like None None None s = tt
  right_like (Some x) None None s = laws.refl x
  right_like x None (Some z) s = absurd s
  right_like x (Some y) None s = absurd s
  right_like x (Some y) (Some z) s = laws.symm z y ∙ s

  pub chosen_into : (left right old new : List (Entry V)) → SameEntries eq right old → IsChosen eq low high right_first left old new → IsChosen eq low high right_first left right new
  chosen_into left right old new s c = chosen c.range_map (λ k. same_trans eq laws (at new k) (right_first (at left k) (at old k)) _ (c.content k) (right_like (at left k) (at right k) (at old k) (content_as eq laws right old s k)))

  -- what each of two maps has off the other's keys, the one beside the other
  either_alone : (x y l r n : Option V) → SameOption eq l (left_alone x y) → SameOption eq r (left_alone y x) → SameOption eq n (right_first l r) → SameOption eq n (option_xor x y)
  either_alone None None None None n s t u = u
  either_alone None None l (Some r) n s t u = absurd t
  either_alone None None (Some l) None n s t u = absurd s
  either_alone None (Some y) l None n s t u = absurd t
  either_alone None (Some y) None (Some r) None s t u = absurd u
  either_alone None (Some y) (Some l) (Some r) n s t u = absurd s
  either_alone None (Some y) None (Some r) (Some n) s t u = same_trans eq laws (Some n) (Some r) (Some y) u t
  either_alone (Some x) None None r n s t u = absurd s
  either_alone (Some x) None (Some l) (Some r) n s t u = absurd t
  either_alone (Some x) None (Some l) None None s t u = absurd u
  either_alone (Some x) None (Some l) None (Some n) s t u = same_trans eq laws (Some n) (Some l) (Some x) u s
  either_alone (Some x) (Some y) None None n s t u = u
  either_alone (Some x) (Some y) (Some l) r n s t u = absurd s
  either_alone (Some x) (Some y) None (Some r) n s t u = absurd t

  pub both_alone : (left right left_off right_off new : List (Entry V)) → IsChosen eq low high left_alone left right left_off → IsChosen eq low high left_alone right left right_off → IsChosen eq low high right_first left_off right_off new → IsChosen eq low high option_xor left right new
  both_alone left right left_off right_off new l r u = chosen u.range_map (λ k. either_alone (at left k) (at right k) (at left_off k) (at right_off k) (at new k) (l.content k) (r.content k) (u.content k))

  -- of the values on the keys that exactly one of two maps has, either may be named first
  xor_turned : (x y : Option V) → option_xor x y ≡ option_xor y x
  xor_turned None None = refl
  xor_turned None (Some y) = refl
  xor_turned (Some x) None = refl
  xor_turned (Some x) (Some y) = refl

  pub either_first : (left right new : List (Entry V)) → IsChosen eq low high option_xor right left new → IsChosen eq low high option_xor left right new
  either_first left right new c = chosen c.range_map (λ k. subst (SameOption eq (at new k)) (xor_turned (at right k) (at left k)) (c.content k))
