-- What steps make of contents that are alike at each key.
use Rattle.range_map_cli.proofs.Words.{option_xor, ◌≡◌, ℤ, Bool, true, false, not, eqb, cond, List, [], ◌∷◌, ◌++◌, Option, Some, None, refl, ◌∙◌, ap, subst, int_le, int_lt, ◌&&◌, int_eq, IsEquivalence, same_itself, same_trans, same_or_left, is_some_alike, at, SameOption, right_first, left_with_right, left_alone, value_if_none, mapped_keys, filled_content, painted_content, content_after, after_all, answer, answers, first_mapped_key, last_mapped_key, pair_of, key_with_value, without_key, SameAnswer, SameAnswers, SamePair, Step, Paint, Fill, Insert, Remove, PopFirst, PopLast, Clear, KeepBelow, KeepFrom, Or, And, Minus, Xor, AndSet, MinusSet, ComplementWith, Answer, Wrote, Old, Popped, Done}
use Rattle.range_map_cli.proofs.Stepping.EndKeys.{first_alike, last_alike, mapped_alike}

module _ {V : Type 0} (eq : V → V → Bool) (laws : IsEquivalence eq) where
  same_cond : (b : Bool) (w x y z : Option V) → SameOption eq w y → SameOption eq x z → SameOption eq (cond b w x) (cond b y z)
  same_cond true w x y z p q = p
  same_cond false w x y z p q = q

  same_right_first : (a b x : Option V) → SameOption eq a b → SameOption eq (right_first a x) (right_first b x)
  same_right_first a b None s = s
  same_right_first a b (Some y) s = laws.refl y

  same_exactly_one : (a b x : Option V) → SameOption eq a b → SameOption eq (option_xor a x) (option_xor b x)
  same_exactly_one None None x s = same_itself eq laws x
  same_exactly_one None (Some b) x s = absurd s
  same_exactly_one (Some a) None x s = absurd s
  same_exactly_one (Some a) (Some b) None s = s
  same_exactly_one (Some a) (Some b) (Some y) s = tt

  -- the left one where the right is there: alike on the left, and on the right
  same_with_right : {B : Type 0} (a b : Option V) (x : Option B) → SameOption eq a b → SameOption eq (left_with_right a x) (left_with_right b x)
  same_with_right a b None s = tt
  same_with_right a b (Some y) s = s

  same_with_left : (x a b : Option V) → SameOption eq a b → SameOption eq (left_with_right x a) (left_with_right x b)
  same_with_left x None None s = tt
  same_with_left x None (Some b) s = absurd s
  same_with_left x (Some a) None s = absurd s
  same_with_left x (Some a) (Some b) s = same_itself eq laws x

  same_alone : {B : Type 0} (a b : Option V) (x : Option B) → SameOption eq a b → SameOption eq (left_alone a x) (left_alone b x)
  same_alone a b None s = s
  same_alone a b (Some y) s = tt

  same_absent : (v : V) (a b : Option V) → SameOption eq a b → SameOption eq (value_if_none v a) (value_if_none v b)
  same_absent v None None s = laws.refl v
  same_absent v None (Some b) s = absurd s
  same_absent v (Some a) None s = absurd s
  same_absent v (Some a) (Some b) s = tt

  same_without : (o : Option ℤ) (c d : ℤ → Option V) → ((k : ℤ) → SameOption eq (c k) (d k)) → (k : ℤ) → SameOption eq (without_key o c k) (without_key o d k)
  same_without None c d s k = s k
  same_without (Some j) c d s k = same_cond (int_eq k j) None (c k) None (d k) tt (s k)

  same_pair : (k : ℤ) (a b : Option V) → SameOption eq a b → SamePair (λ (j : ℤ). j) eq (pair_of k a) (pair_of k b)
  same_pair k None None s = tt
  same_pair k None (Some b) s = absurd s
  same_pair k (Some a) None s = absurd s
  same_pair k (Some a) (Some b) s = (refl, s)

  same_pairs : (o : Option ℤ) (c d : ℤ → Option V) → ((k : ℤ) → SameOption eq (c k) (d k)) → SamePair (λ (j : ℤ). j) eq (key_with_value c o) (key_with_value d o)
  same_pairs None c d s = tt
  same_pairs (Some k) c d s = same_pair k (c k) (d k) (s k)

  first_same : (low high : ℤ) (c d : ℤ → Option V) → ((k : ℤ) → SameOption eq (c k) (d k)) → first_mapped_key low high c ≡ first_mapped_key low high d
  first_same low high c d same = first_alike c d (λ k. is_some_alike eq (c k) (d k) (same k)) low _

  last_same : (low high : ℤ) (c d : ℤ → Option V) → ((k : ℤ) → SameOption eq (c k) (d k)) → last_mapped_key low high c ≡ last_mapped_key low high d
  last_same low high c d same = last_alike c d (λ k. is_some_alike eq (c k) (d k) (same k)) high _

  -- whether the number of keys changes
  changed_alike : (low high : ℤ) (c d new_c new_d : ℤ → Option V) → ((k : ℤ) → SameOption eq (c k) (d k)) → ((k : ℤ) → SameOption eq (new_c k) (new_d k))
      → not (eqb (mapped_keys low high new_c) (mapped_keys low high c)) ≡ not (eqb (mapped_keys low high new_d) (mapped_keys low high d))
  changed_alike low high c d new_c new_d same alike =
      ap not (ap (λ n. eqb n (mapped_keys low high c)) (mapped_alike new_c new_d (λ k. is_some_alike eq (new_c k) (new_d k) (alike k)) low _)
      ∙ ap (λ n. eqb (mapped_keys low high new_d) n) (mapped_alike c d (λ k. is_some_alike eq (c k) (d k) (same k)) low _))

  module _ {T L : Type 0} (rank : T → ℤ) (low high : ℤ) (c d : ℤ → Option V) (same : (k : ℤ) → SameOption eq (c k) (d k)) where
    -- the content after a step
    pub after_alike : (s : Step T V L) (k : ℤ) → SameOption eq (content_after rank low high s c k) (content_after rank low high s d k)
    after_alike (Paint lo hi v) k = same_cond (int_le (rank lo) k && int_le k (rank hi)) (Some v) (c k) (Some v) (d k) (laws.refl v) (same k)
    after_alike (Fill lo hi v) k = same_or_left eq laws (c k) (d k) (cond (int_le (rank lo) k && int_le k (rank hi)) (Some v) None) (same k)
    after_alike (Insert j v) k = same_cond (int_le (rank j) k && int_le k (rank j)) (Some v) (c k) (Some v) (d k) (laws.refl v) (same k)
    after_alike (Remove j) k = same_cond (int_eq k (rank j)) None (c k) None (d k) tt (same k)
    after_alike PopFirst k = subst (λ o. SameOption eq (without_key (first_mapped_key low high c) c k) (without_key o d k)) (first_same low high c d same) (same_without (first_mapped_key low high c) c d same k)
    after_alike PopLast k = subst (λ o. SameOption eq (without_key (last_mapped_key low high c) c k) (without_key o d k)) (last_same low high c d same) (same_without (last_mapped_key low high c) c d same k)
    after_alike Clear k = tt
    after_alike (KeepBelow j) k = same_cond (int_lt k (rank j)) (c k) None (d k) None (same k) tt
    after_alike (KeepFrom j) k = same_cond (int_le (rank j) k) (c k) None (d k) None (same k) tt
    after_alike (Or other) k = same_right_first (c k) (d k) (at other.entries k) (same k)
    after_alike (And other) k = same_with_left (at other.entries k) (c k) (d k) (same k)
    after_alike (Minus other) k = same_alone (c k) (d k) (at other.entries k) (same k)
    after_alike (Xor other) k = same_exactly_one (c k) (d k) (at other.entries k) (same k)
    after_alike (AndSet keys) k = same_with_right (c k) (d k) (at keys k) (same k)
    after_alike (MinusSet keys) k = same_alone (c k) (d k) (at keys k) (same k)
    after_alike (ComplementWith v) k = same_cond (int_le low k && int_le k high) (value_if_none v (c k)) None (value_if_none v (d k)) None (same_absent v (c k) (d k) (same k)) tt

    -- the answer
    pub answer_alike : (s : Step T V L) → SameAnswer (λ (j : ℤ). j) eq (answer rank low high s c) (answer rank low high s d)
    answer_alike (Paint lo hi v) = changed_alike low high c d (painted_content (rank lo) (rank hi) v c) (painted_content (rank lo) (rank hi) v d) same (after_alike (Paint lo hi v))
    answer_alike (Fill lo hi v) = changed_alike low high c d (filled_content (rank lo) (rank hi) v c) (filled_content (rank lo) (rank hi) v d) same (after_alike (Fill lo hi v))
    answer_alike (Insert j v) = same (rank j)
    answer_alike (Remove j) = same (rank j)
    answer_alike PopFirst = subst (λ o. SamePair (λ (j : ℤ). j) eq (key_with_value c (first_mapped_key low high c)) (key_with_value d o)) (first_same low high c d same) (same_pairs (first_mapped_key low high c) c d same)
    answer_alike PopLast = subst (λ o. SamePair (λ (j : ℤ). j) eq (key_with_value c (last_mapped_key low high c)) (key_with_value d o)) (last_same low high c d same) (same_pairs (last_mapped_key low high c) c d same)
    answer_alike Clear = tt
    answer_alike (KeepBelow j) = tt
    answer_alike (KeepFrom j) = tt
    answer_alike (Or other) = tt
    answer_alike (And other) = tt
    answer_alike (Minus other) = tt
    answer_alike (Xor other) = tt
    answer_alike (AndSet keys) = tt
    answer_alike (MinusSet keys) = tt
    answer_alike (ComplementWith v) = tt

  pair_trans : {T : Type 0} (rank : T → ℤ) (x : Option (T × V)) (y z : Option (ℤ × V)) → SamePair rank eq x y → SamePair (λ (j : ℤ). j) eq y z → SamePair rank eq x z
  pair_trans rank None None None p q = tt
  pair_trans rank None None (Some z) p q = absurd q
  pair_trans rank None (Some y) z p q = absurd p
  pair_trans rank (Some x) None z p q = absurd p
  pair_trans rank (Some x) (Some y) None p q = absurd q
  pair_trans rank (Some x) (Some y) (Some z) p q = (p.0 ∙ q.0, laws.congr x.1 y.1 z.1 p.1 ∙ q.1)

  -- an answer is what is meant, and so is what is meant elsewhere
  pub answer_trans : {T : Type 0} (rank : T → ℤ) (given : Answer T V) (a b : Answer ℤ V) → SameAnswer rank eq given a → SameAnswer (λ (j : ℤ). j) eq a b → SameAnswer rank eq given b
  answer_trans rank (Wrote x) (Wrote y) (Wrote z) p q = p ∙ q
  answer_trans rank (Old x) (Old y) (Old z) p q = same_trans eq laws x y z p q
  answer_trans rank (Popped x) (Popped y) (Popped z) p q = pair_trans rank x y z p q
  answer_trans rank Done Done Done p q = tt
  answer_trans rank (Wrote x) (Old y) b p q = absurd p
  answer_trans rank (Wrote x) (Popped y) b p q = absurd p
  answer_trans rank (Wrote x) Done b p q = absurd p
  answer_trans rank (Wrote x) (Wrote y) (Old z) p q = absurd q
  answer_trans rank (Wrote x) (Wrote y) (Popped z) p q = absurd q
  answer_trans rank (Wrote x) (Wrote y) Done p q = absurd q
  answer_trans rank (Old x) (Wrote y) b p q = absurd p
  answer_trans rank (Old x) (Popped y) b p q = absurd p
  answer_trans rank (Old x) Done b p q = absurd p
  answer_trans rank (Old x) (Old y) (Wrote z) p q = absurd q
  answer_trans rank (Old x) (Old y) (Popped z) p q = absurd q
  answer_trans rank (Old x) (Old y) Done p q = absurd q
  answer_trans rank (Popped x) (Wrote y) b p q = absurd p
  answer_trans rank (Popped x) (Old y) b p q = absurd p
  answer_trans rank (Popped x) Done b p q = absurd p
  answer_trans rank (Popped x) (Popped y) (Wrote z) p q = absurd q
  answer_trans rank (Popped x) (Popped y) (Old z) p q = absurd q
  answer_trans rank (Popped x) (Popped y) Done p q = absurd q
  answer_trans rank Done (Wrote y) b p q = absurd p
  answer_trans rank Done (Old y) b p q = absurd p
  answer_trans rank Done (Popped y) b p q = absurd p
  answer_trans rank Done Done (Wrote z) p q = absurd q
  answer_trans rank Done Done (Old z) p q = absurd q
  answer_trans rank Done Done (Popped z) p q = absurd q

  -- ---- one step more

  module _ {T L : Type 0} (rank : T → ℤ) (low high : ℤ) where
    pub after_more : (steps : List (Step T V L)) (s : Step T V L) (c : ℤ → Option V) → after_all rank low high (steps ++ s ∷ []) c ≡ content_after rank low high s (after_all rank low high steps c)
    after_more [] s c = refl
    after_more (t ∷ steps) s c = after_more steps s (content_after rank low high t c)

    pub answers_more : (steps : List (Step T V L)) (s : Step T V L) (c : ℤ → Option V) (given : List (Answer T V)) (a : Answer T V) → SameAnswers rank eq given (answers rank low high steps c)
        → SameAnswer rank eq a (answer rank low high s (after_all rank low high steps c)) → SameAnswers rank eq (given ++ a ∷ []) (answers rank low high (steps ++ s ∷ []) c)
    answers_more [] s c [] a p q = (q, tt)
    answers_more [] s c (b ∷ given) a p q = absurd p
    answers_more (t ∷ steps) s c [] a p q = absurd p
    answers_more (t ∷ steps) s c (b ∷ given) a p q = (p.0, answers_more steps s (content_after rank low high t c) given a p.1 q)
