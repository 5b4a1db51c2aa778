-- The gaps of a range get a value one by one.
use Rattle.blaze_table.proofs.Words.{none_is_not, option_or, ◌≡◌, ℕ, ℤ, pos, ◌+ℤ◌, ◌-ℤ◌, ◌≤ℤ◌, ◌<ℤ◌, Bool, true, false, cond, List, [], Option, Some, None, refl, ◌∙◌, sym, ap, subst, arith, inl, inr, ◌↔◌, IsSome, IsTrue, IsEquivalence, Contains, ints, by_lt_z, same_along, same_itself, same_trans, some_of_same, none_of_same, AreKeys, IsCanonical, Entry, entry, at, holds, SameOption, SameContent, filled_content, AreStartsKept, IsFilled, IsMappedFrom, IsFirstGap, never_equal, IsBeside, IsFilledBut, IsFilling, IsGapFilled, IsJoinedBut, IsOrdered, IsOrderedTable, IsClearFrom, painted_content, keys_among, by_place, holds_in, holds_under, holds_over, one_per_run}
use Rattle.blaze_table.proofs.Fills.Filled.{filled_in, filled_under, filled_over, filled_held, or_some, fill_inside, fill_held, fill_outside}
use Rattle.blaze_table.proofs.Fills.Gaps.{joined_more, new_over}
use Rattle.blaze_table.proofs.Fills.Joints.{run_start_as}
use Rattle.blaze_table.proofs.Fills.KeptEntries.{are_kept}
use Rattle.blaze_table.proofs.Fills.Puts.{IsPut, put_in}
use Rattle.blaze_table.proofs.Fills.TakenBack.{goes_back_more}

module _ {V : Type 0} where
  -- up to the end of a fill, a longer fill gives the same values
  filled_less : (content : ℤ → Option V) (v : V) (l m h : ℤ) → m ≤ℤ h → (k : ℤ) → k ≤ℤ m → filled_content l m v content k ≡ filled_content l h v content k
  filled_less content v l m h o k u = by_lt_z k l
      (λ a. filled_under content v l m k a ∙ sym (filled_under content v l h k a))
      (λ a. filled_in content v l m k a u ∙ sym (filled_in content v l h k a (omega (arith, ints))))

module _ {V : Type 0} (eq : V → V → Bool) (laws : IsEquivalence eq) where
  -- a value that equals another equals its clone
  like_clone : (v w : V) → eq v w ≡ true → (o : Option V) → SameOption eq o (Some v) ↔ SameOption eq o (Some w)
  like_clone v w like None = (λ s. s, λ s. s)
  like_clone v w like (Some x) = (λ s. laws.congr x v w s ∙ like, λ s. laws.congr x w v s ∙ laws.symm w v ∙ like)

  -- The gap from a to b is painted, and the keys after it up to n have values. So everything up to n is filled.
  filled_more : (old cur new : ℤ → Option V) (v w : V) (l a b n : ℤ) → l ≤ℤ a → a ≤ℤ b → b ≤ℤ n → ((k : ℤ) → SameOption eq (cur k) (filled_content l (a -ℤ pos 1) v old k))
      → IsClearFrom cur a b → IsMappedFrom cur (b +ℤ pos 1) n → ((k : ℤ) → SameOption eq (new k) (painted_content a b w cur k)) → eq v w ≡ true → (k : ℤ) → SameOption eq (new k) (filled_content l n v old k)
  filled_more old cur new v w l a b n o p q before clear held one like k = by_place (entry a b w) k
      (λ x y.
      let none : old k ≡ None = sym (filled_over old v l (a -ℤ pos 1) k (omega (arith, ints))) ∙ none_of_same eq (cur k) _ (before k) (clear k x y) in
      same_along eq {a = new k} refl (sym (filled_in old v l n k (omega (arith, ints)) (omega (arith, ints)) ∙ ap (λ o. option_or o (Some v)) none))
      ((like_clone v w like (new k)).1 (same_along eq {a = new k} refl (ap (λ t. cond t (Some w) (cur k)) (holds_in (entry a b w) k x y)) (one k))))
      (λ x.
      same_along eq {a = new k} refl (filled_less old v l (a -ℤ pos 1) n (omega (arith, ints)) k (omega (arith, ints)))
      (beside (holds_under (entry a b w) k x)))
      (λ y.
      let stays = same_along eq {a = new k} refl (filled_over old v l (a -ℤ pos 1) k (omega (arith, ints))) (beside (holds_over (entry a b w) k y)) in
      by_lt_z n k
      (λ z. same_along eq {a = new k} refl (sym (filled_over old v l n k z)) stays)
      (λ z.
      let some : IsSome (old k) = some_of_same eq (cur k) (old k) (same_along eq {a = cur k} refl (filled_over old v l (a -ℤ pos 1) k (omega (arith, ints))) (before k)) (held k (omega (arith, ints)) z) in
      same_along eq {a = new k} refl (sym (filled_in old v l n k (omega (arith, ints)) z ∙ or_some (old k) (Some v) some)) stays))
    where
      beside : holds (entry a b w) k ≡ false → SameOption eq (new k) (filled_content l (a -ℤ pos 1) v old k)
      beside off = same_trans eq laws (new k) (cur k) _ (same_along eq {a = new k} refl (ap (λ t. cond t (Some w) (cur k)) off) (one k)) (before k)

  -- the neighbours' values compared with a value, and with its clone
  beside_like : (content : ℤ → Option V) (v w : V) (a b : ℤ) (t u : Bool) → eq v w ≡ true → IsBeside eq content v a b t u → IsBeside eq content w a b t u
  beside_like content v w a b t u like s =
      let first = like_clone v w like (content (a -ℤ pos 1)) in
      let last = like_clone v w like (content (b +ℤ pos 1)) in record {
        below = (λ x. first.0 (s.below.0 x), λ x. s.below.1 (first.1 x));
        above = (λ x. last.0 (s.above.0 x), λ x. s.above.1 (last.1 x));
      }

  no_joint : (es : List (Entry V)) → IsCanonical eq es → IsJoinedBut eq [] es
  no_joint es c = record {
    starts = λ k h. inl (((one_per_run eq laws es c).starts k).0 h);
    equal = λ k h. absurd (not_in k h);
  }
    where
      not_in : (k : ℤ) → Contains {X = ℤ} [] k → ⊥
      not_in k (i, u, q) = omega arith

  -- before the first gap is filled
  pub filling_first : (old : List (Entry V)) (a b h : ℤ) (v : V) (starts join_keys : List ℤ) → IsCanonical eq old → IsFirstGap (at old) a h a b → starts ≡ [] → join_keys ≡ [] → IsFilling eq a h v starts join_keys old old a b
  filling_first old a b h v starts join_keys c g q r = subst (λ ss. IsFilling eq a h v ss join_keys old old a b) (sym q) (subst (λ js. IsFilling eq a h v [] js old old a b) (sym r) (record {
    content = λ k. same_along eq {a = at old k} refl (sym (filled_held (at old) v a (a -ℤ pos 1) (λ j x y. absurd (omega (arith, ints))) k)) (same_itself eq laws (at old k));
    kept = λ e x. x;
    from = omega (arith, ints);
    order = g.order;
    to = g.to;
    clear = g.clear;
    greatest = g.greatest;
    joined = no_joint old c;
    back = record { there = tt; taken = refl };
  }))

  module _ (low high l h a b : ℤ) (v w : V) (starts more join_keys all : List ℤ) (old cur new : List (Entry V)) (f : low ≤ℤ l) (top : h ≤ℤ high) (c : IsOrdered cur)
      (i : IsFilling eq l h v starts join_keys old cur a b) (t u : Bool) (beside : IsBeside eq (at cur) v a b t u) (d : IsGapFilled a b w t u cur new starts more join_keys all) (like : eq v w ≡ true) where
    pub is_put : IsPut low high (entry a b w) cur new
    is_put = subst (IsPut low high (entry a b w) cur) (sym d.put) (put_in low high (entry a b w) (omega (arith, ints, i.from)) i.order (omega (arith, ints, i.to)) cur c i.clear)

    one : (k : ℤ) → SameOption eq (at new k) (painted_content a b w (at cur) k)
    one k = same_along eq {a = at new k} refl (is_put.content k) (same_itself eq laws (at new k))

    joined : IsJoinedBut eq all new
    joined = joined_more eq laws low high a b w cur new i.order i.clear is_put t u (beside_like (at cur) v w a b t u like beside) join_keys d.half all d.below d.above i.joined

    over : (k : ℤ) → b <ℤ k → at new k ≡ at cur k
    over k m = new_over eq laws low high a b w cur new i.order i.clear is_put k m

    -- a key between the gap and the next has a value
    pub beside_next : (c e : ℤ) (t u : Bool) → IsFirstGap (at cur) (b +ℤ pos 1) h c e → IsBeside eq (at cur) v c e t u → IsBeside eq (at new) v c e t u
    beside_next c e t u g s =
        let apart : b <ℤ (c -ℤ pos 1) = elim i.greatest [
          | inl q ↦ absurd (omega (arith, ints, g.from, g.order, g.to))
          | inr q ↦ by_lt_z (b +ℤ pos 1) c (λ m. omega (arith, ints)) (λ m. absurd (none_is_not (at cur c) (g.clear c (omega (arith, ints)) g.order) (subst (λ k. IsSome (at cur k)) (omega (arith, ints, g.from)) q)))
        ] in record {
          below = subst (λ o. IsTrue t ↔ SameOption eq o (Some v)) (sym (over (c -ℤ pos 1) apart)) s.below;
          above = subst (λ o. IsTrue u ↔ SameOption eq o (Some v)) (sym (over (e +ℤ pos 1) (omega (arith, ints, g.from, g.order)))) s.above;
        }

    -- the next gap
    pub filling_next : (c d : ℤ) → IsFirstGap (at cur) (b +ℤ pos 1) h c d → IsFilling eq l h v more all old new c d
    filling_next c e g = record {
      content = filled_more (at old) (at cur) (at new) v w l a b (c -ℤ pos 1) i.from i.order (omega (arith, ints, g.from)) i.content i.clear (λ k x y. g.held k x (omega (arith, ints))) one like;
      kept = λ x y. is_put.kept x (i.kept x y);
      from = omega (arith, ints, i.from, i.order, g.from);
      order = g.order;
      to = g.to;
      clear = λ k x y. over k (omega (arith, ints, g.from)) ∙ g.clear k x y;
      greatest = elim g.greatest [ inl q ↦ inl q | inr s ↦ inr (subst IsSome (sym (over (e +ℤ pos 1) (omega (arith, ints, g.from, g.order)))) s) ];
      joined = joined;
      back = goes_back_more starts more (entry a b w) cur new old d.remembered d.put is_put.absent i.back;
    }

    -- no gap remains
    pub filling_last : IsMappedFrom (at cur) (b +ℤ pos 1) h → IsFilledBut eq l h v more all old new
    filling_last s = record {
      content = filled_more (at old) (at cur) (at new) v w l a b h i.from i.order i.to i.content i.clear s one like;
      kept = λ x y. is_put.kept x (i.kept x y);
      joined = joined;
      back = goes_back_more starts more (entry a b w) cur new old d.remembered d.put is_put.absent i.back;
    }

    pub table_more : (n m : ℕ) → IsOrderedTable low high n cur → pos m ≡ pos n +ℤ ((b -ℤ a) +ℤ pos 1) → IsOrderedTable low high m new
    table_more n m r q = record {
      canonical = is_put.ordered;
      are_keys = is_put.are_keys r.are_keys;
      counted = omega (arith, ints, q, r.counted, is_put.count);
    }

    pub room_more : (n : ℕ) → low ≤ℤ high → IsOrderedTable low high n cur → (pos n +ℤ ((b -ℤ a) +ℤ pos 1)) ≤ℤ ((high -ℤ low) +ℤ pos 1)
    room_more n some r = omega (arith, ints, keys_among never_equal low high new some is_put.ordered (is_put.are_keys r.are_keys), is_put.count, r.counted)

  -- if the keys before a have values, the fill from a on is the whole fill
  filled_from : (content : ℤ → Option V) (v : V) (l a h : ℤ) → l ≤ℤ a → a ≤ℤ h → ((k : ℤ) → l ≤ℤ k → k <ℤ a → IsSome (content k)) → (k : ℤ) → filled_content a h v content k ≡ filled_content l h v content k
  filled_from content v l a h o p s k = by_lt_z k a
      (λ u. filled_under content v a h k u ∙ by_lt_z k l
      (λ m. sym (filled_under content v l h k m))
      (λ m. sym (filled_in content v l h k m (omega (arith, ints)) ∙ or_some (content k) (Some v) (s k m u))))
      (λ u. by_lt_z h k
      (λ m. filled_over content v a h k m ∙ sym (filled_over content v l h k m))
      (λ m. filled_in content v a h k u m ∙ sym (filled_in content v l h k (omega (arith, ints)) m)))

  -- a list that is filled and then joined
  pub filled_whole : (low high l h a b : ℤ) (v : V) (starts join_keys : List ℤ) (old put new : List (Entry V)) → IsCanonical eq old → IsFirstGap (at old) l h a b → IsFilledBut eq a h v starts join_keys old put
      → SameContent eq new put → AreStartsKept eq (at put) put new → IsCanonical eq new → AreKeys low high new → IsFilled eq low high (entry l h v) old new
  filled_whole low high l h a b v starts join_keys old put new d g f s t c k = record {
    range_map = record { runs = one_per_run eq laws new c; keys = k };
    content = content;
    inside = fill_inside eq (entry l h v) old new content;
    held = fill_held eq (entry l h v) old new content;
    outside = fill_outside eq (entry l h v) old new content;
    kept = are_kept eq laws (filled_content l h v (at old)) old new d c content
        (λ e x r. t e (f.kept e x) (run_start_as eq laws (filled_content l h v (at old)) (at put) e.lo whole r));
  }
    where
      whole : (j : ℤ) → SameOption eq (at put j) (filled_content l h v (at old) j)
      whole j = same_along eq {a = at put j} refl (filled_from (at old) v l a h g.from (omega (arith, ints, g.order, g.to)) g.held j) (f.content j)

      content : (j : ℤ) → SameOption eq (at new j) (filled_content l h v (at old) j)
      content j = same_trans eq laws (at new j) (at put j) (filled_content l h v (at old) j) (s j) (whole j)

  -- if a gap exists, not each key has a value
  pub gap_is_not_held : (old : List (Entry V)) (l h a b : ℤ) → IsFirstGap (at old) l h a b → IsMappedFrom (at old) l h → ⊥
  gap_is_not_held old l h a b g s = none_is_not (at old a) (g.clear a (omega (arith, ints)) g.order) (s a g.from (omega (arith, ints, g.order, g.to)))
