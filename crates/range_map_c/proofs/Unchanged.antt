-- Ranges inside entries with equal values: what a lookup says of them, and that calls that would write them change nothing.
use Rattle.std.specs.Cmp.{nat_eq_equiv, IsEquivalence}
use Rattle.std.specs.Option.{option_or}
use Rattle.std.specs.Prelude.{nat_eq, int_le, ◌↔◌, length, take, drop, slice_index_or}
use Rattle.std.proofs.Common.{◌≡◌, ◌⊎◌, ℕ, ◌+◌, ◌<◌, ℤ, ◌≤ℤ◌, ◌<ℤ◌, Bool, true, false, cond, List, [], ◌∷◌, ◌++◌, Option, Some, None, refl, ◌∙◌, sym, ap, subst, arith, inl, inr, ⊎_elim}
use Rattle.std.proofs.lemmas.Bool.{eqb-true}
use Rattle.std.proofs.lemmas.Int.{ints, by_lt_z}
use Rattle.blaze_int.proofs.Comparisons.{lt_true, lt_false, le_true, le_false, le_holds}
use Rattle.blaze_entries.specs.Canonical.{AreKeys, IsCanonical, IsRangeMap}
use Rattle.blaze_entries.specs.Chosen.{IsChosen, left_alone, left_with_right}
use Rattle.blaze_entries.specs.Cut.{IsSplit}
use Rattle.blaze_entries.specs.Entries.{Entry, entry, at, entry_at, holds, SameOption}
use Rattle.blaze_entries.specs.Painted.{IsInside, last_at}
use Rattle.blaze_entries.proofs.Alike.{one_value, same_itself, same_back, same_along}
use Rattle.blaze_entries.proofs.Canonical.Lookup.{IsAbove-from_apart, by_place, entry_in, entry_under, entry_over, holds_ends, at_over}
use Rattle.blaze_entries.proofs.Canonical.Runs.{canonical, one_per_run}
use Rattle.blaze_entries.proofs.Plain.{chosen}
use Rattle.blaze_table.specs.Gap.{IsClearFrom}
use Rattle.blaze_table.proofs.Paints.Inside.{inside_above, inside_at}
use Rattle.range_map_blaze.specs.Extended.{AreInside}
use Rattle.range_map_blaze.specs.Relations.{ShareNoKey}
use Rattle.range_map_blaze.specs.Union.{IsUnion}
use Rattle.range_map_blaze.proofs.Paints.Insides.{inside_parts}
use Rattle.range_map_blaze.proofs.Paints.PaintedOver.{last_is_first, turned}
use Rattle.range_map_c.specs.Handle.{least_key, greatest_key}
use Rattle.range_map_c.specs.Tables.{rows, AreRowsPainted}
use Rattle.range_map_c.proofs.Parts.{rows_next, rows_parts}

-- ---- by the entry that contains the first key

module _ {V : Type 0} (eq : V → V → Bool) (l h : ℤ) (v : V) where
  pub inside_by : (es : List (Entry V)) (e : Entry V) → entry_at es l ≡ Some e → h ≤ℤ e.hi → eq e.value v ≡ true → IsInside eq l h v es
  inside_by [] e p to same = cc
  inside_by (f ∷ fs) e p to same = by_place f l
      (λ a b.
      let is : e ≡ f = one_value _ p (entry_in f fs l a b) in
      inl (a, subst (λ g. h ≤ℤ g.hi) is to, subst (λ g. eq g.value v ≡ true) is same))
      (λ a. inr (inside_by fs e (sym (entry_under f fs l a) ∙ p) to same))
      (λ a. inr (inside_by fs e (sym (entry_over f fs l a) ∙ p) to same))

  pub not_inside : (es : List (Entry V)) → l ≤ℤ h → entry_at es l ≡ None → IsInside eq l h v es → ⊥
  not_inside [] o p i = i
  not_inside (f ∷ fs) o p (inl w) = let is : Some f ≡ None = sym (entry_in f fs l w.0 (omega (arith, ints, w.1))) ∙ p in cc
  not_inside (f ∷ fs) o p (inr i) = by_place f l
      (λ a b. let is : Some f ≡ None = sym (entry_in f fs l a b) ∙ p in cc)
      (λ a. not_inside fs o (sym (entry_under f fs l a) ∙ p) i)
      (λ a. not_inside fs o (sym (entry_over f fs l a) ∙ p) i)

  pub inside_entry : (es : List (Entry V)) (e : Entry V) → IsCanonical eq es → l ≤ℤ h → entry_at es l ≡ Some e → IsInside eq l h v es → (h ≤ℤ e.hi) × (eq e.value v ≡ true)
  inside_entry [] e c o p i = absurd i
  inside_entry (f ∷ fs) e c o p (inl w) =
      let is : f ≡ e = one_value _ (entry_in f fs l w.0 (omega (arith, ints, w.1))) p in
      (subst (λ g. h ≤ℤ g.hi) is w.1, subst (λ g. eq g.value v ≡ true) is w.2)
  inside_entry (f ∷ fs) e c o p (inr i) =
      inside_entry fs e c.2 o (sym (entry_over f fs l (inside_above eq l h v f.hi fs c.2 (IsAbove-from_apart eq f fs c.1) i)) ∙ p) i

-- a range with a key is inside the entry that was found exactly if it ends there and the values are equal
module _ (l h : ℤ) (v : ℕ) (es : List (Entry ℕ)) (r : IsRangeMap nat_eq least_key greatest_key es) (order : l ≤ℤ h) where
  pub inside_if_ends : (e : Entry ℕ) → entry_at es l ≡ Some e → e.value ≡ v → int_le h e.hi ≡ true ↔ (h <ℤ l) ⊎ IsInside nat_eq l h v es
  inside_if_ends e p is = (
    λ t. inr (inside_by nat_eq l h v es e p (le_holds h e.hi t) (subst (λ n. nat_eq e.value n ≡ true) is (nat_eq_equiv.refl e.value))),
    ⊎_elim (λ none. absurd (omega (arith, ints))) (λ i. le_true h e.hi (inside_entry nat_eq l h v es e (canonical nat_eq nat_eq_equiv es r.runs) order p i).0),
  )

  pub inside_if_same : (e : Entry ℕ) → entry_at es l ≡ Some e → (e.value ≡ v → ⊥) → nat_eq e.value v ≡ true ↔ (h <ℤ l) ⊎ IsInside nat_eq l h v es
  inside_if_same e p other = (
    λ t. absurd (other (eqb-true e.value v t)),
    ⊎_elim (λ none. absurd (omega (arith, ints))) (λ i. (inside_entry nat_eq l h v es e (canonical nat_eq nat_eq_equiv es r.runs) order p i).1),
  )

  pub inside_if_found : entry_at es l ≡ None → false ≡ true ↔ (h <ℤ l) ⊎ IsInside nat_eq l h v es
  inside_if_found p = (λ t. absurd (cc), ⊎_elim (λ none. absurd (omega (arith, ints))) (λ i. absurd (not_inside nat_eq l h v es order p i)))

-- the entry that was found ends at a key
pub found_end : (k : ℤ) (es : List (Entry ℕ)) (e : Entry ℕ) → AreKeys least_key greatest_key es → entry_at es k ≡ Some e → (k ≤ℤ e.hi) × (e.hi ≤ℤ greatest_key)
found_end k [] e keys p = absurd (cc)
found_end k (f ∷ fs) e keys p = by_place f k
    (λ a b. let is : f ≡ e = one_value _ (entry_in f fs k a b) p in subst (λ g. (k ≤ℤ g.hi) × (g.hi ≤ℤ greatest_key)) is (b, keys.1))
    (λ a. found_end k fs e keys.2 (sym (entry_under f fs k a) ∙ p))
    (λ a. found_end k fs e keys.2 (sym (entry_over f fs k a) ∙ p))

-- ---- what such ranges have at a key

module _ {V : Type 0} (eq : V → V → Bool) (laws : IsEquivalence eq) (es : List (Entry V)) (c : IsCanonical eq es) where
  here : (p : Entry V) (k : ℤ) → (p.hi <ℤ p.lo) ⊎ IsInside eq p.lo p.hi p.value es → holds p k ≡ true → SameOption eq (at es k) (Some p.value)
  here p k (inl none) t = let w = holds_ends p k t in absurd (omega (arith, ints, w.0, w.1))
  here p k (inr i) t = let w = holds_ends p k t in inside_at eq p.lo p.hi p.value es k c i w.0 w.1

  either_same : (a x o : Option V) → SameOption eq a (option_or x a) → SameOption eq a (option_or o a) → SameOption eq a (option_or (option_or o x) a)
  either_same a x None s t = s
  either_same a x (Some y) s t = t

  one : (a : Option V) (v : V) (b : Bool) → SameOption eq a a → (b ≡ true → SameOption eq a (Some v)) → SameOption eq a (option_or (cond b (Some v) None) a)
  one a v true s t = t refl
  one a v false s t = s

  -- the last row with the key has the value that is there
  pub last_inside : (ps : List (Entry V)) (k : ℤ) → AreInside eq ps es → SameOption eq (at es k) (option_or (last_at ps k) (at es k))
  last_inside [] k i = same_itself eq laws (at es k)
  last_inside (p ∷ ps) k i =
      either_same (at es k) (cond (holds p k) (Some p.value) None) (last_at ps k) (one (at es k) p.value (holds p k) (same_itself eq laws (at es k)) (here p k i.0)) (last_inside ps k i.1)

-- ---- calls that change nothing

pub rows_inside : (table old : List (Entry ℕ)) → IsRangeMap nat_eq least_key greatest_key old → AreInside nat_eq table old → AreRowsPainted least_key greatest_key table old old
rows_inside table old r i = record { range_map = r; content = λ k. last_inside nat_eq nat_eq_equiv old (canonical nat_eq nat_eq_equiv old r.runs) table k i }

module _ (left right : List (Entry ℕ)) (l : IsRangeMap nat_eq least_key greatest_key left) (r : IsRangeMap nat_eq least_key greatest_key right) where
  inside_left : AreInside nat_eq right left → (k : ℤ) → SameOption nat_eq (at left k) (option_or (at right k) (at left k))
  inside_left i k = same_along nat_eq refl (ap (λ o. option_or o (at left k)) (last_is_first nat_eq right k (canonical nat_eq nat_eq_equiv right r.runs)))
      (last_inside nat_eq nat_eq_equiv left (canonical nat_eq nat_eq_equiv left l.runs) right k i)

  -- the union with a map whose entries are inside
  pub union_inside : AreInside nat_eq right left → IsUnion nat_eq least_key greatest_key left right left
  union_inside i = record {
    chosen = chosen l (λ k. same_along nat_eq refl (turned (at right k) (at left k)) (inside_left i k));
    few = omega arith;
  }

  -- the intersection of a map whose entries are inside another, which gives the values
  pub intersection_inside : AreInside nat_eq right left → IsChosen nat_eq least_key greatest_key left_with_right left right right
  intersection_inside i = chosen r (λ k. shared (at right k) (at left k) (inside_left i k))
    where
      shared : (x y : Option ℕ) → SameOption nat_eq y (option_or x y) → SameOption nat_eq x (left_with_right y x)
      shared None y s = tt
      shared (Some v) y s = same_back nat_eq nat_eq_equiv y (Some v) s

-- the difference of maps that share no key
pub difference_apart : (left right : List (Entry ℕ)) → IsRangeMap nat_eq least_key greatest_key left → ShareNoKey left right → IsChosen nat_eq least_key greatest_key left_alone left right left
difference_apart left right l apart = chosen l (λ k. alone (at left k) (at right k) (apart k))
  where
    alone : (x y : Option ℕ) → (x ≡ None) ⊎ (y ≡ None) → SameOption nat_eq x (left_alone x y)
    alone x None e = same_itself nat_eq nat_eq_equiv x
    alone x (Some v) (inl e) = subst (λ o. SameOption nat_eq o None) (sym e) tt
    alone x (Some v) (inr e) = absurd (cc)

-- a split above the last key
pub split_above : (key : ℤ) (old : List (Entry ℕ)) → IsRangeMap nat_eq least_key greatest_key old → IsClearFrom (at old) key greatest_key → IsSplit nat_eq least_key greatest_key key old old []
split_above key old r clear = record {
  below_range_map = r;
  from_range_map = record { runs = one_per_run nat_eq nat_eq_equiv [] tt; keys = tt };
  below_content = λ j. by_lt_z j key
      (λ u. rw (lt_true j key u) (same_itself nat_eq nat_eq_equiv (at old j)))
      (λ u. rw (lt_false j key u) (subst (λ o. SameOption nat_eq o None) (sym (none j u)) tt));
  from_content = λ j. by_lt_z j key
      (λ u. rw (le_false key j u) tt)
      (λ u. rw (le_true key j u) (subst (λ o. SameOption nat_eq None o) (sym (none j u)) tt));
}
  where
    past : (es : List (Entry ℕ)) (j : ℤ) → AreKeys least_key greatest_key es → greatest_key <ℤ j → at es j ≡ None
    past [] j k over = refl
    past (e ∷ es) j k over = at_over e es j (omega (arith, ints, k.1)) ∙ past es j k.2 over

    none : (j : ℤ) → key ≤ℤ j → at old j ≡ None
    none j u = by_lt_z greatest_key j (λ over. past old j r.keys over) (λ within. clear j u within)

-- ---- the rows of a table, one by one

module _ (es : List (Entry ℕ)) where
  pub more_inside : (ps : List (Entry ℕ)) (p : Entry ℕ) → AreInside nat_eq ps es → (p.hi <ℤ p.lo) ⊎ IsInside nat_eq p.lo p.hi p.value es → AreInside nat_eq (ps ++ p ∷ []) es
  more_inside [] p i j = (j, tt)
  more_inside (q ∷ ps) p i j = (i.0, more_inside ps p i.1 j)

  pub row_inside : (i : ℕ) (los his : List ℤ) (vs : List ℕ) (d e : ℤ) (f : ℕ) → length his ≡ length los → length vs ≡ length los → i < length los → AreInside nat_eq (rows los his vs) es
      → (slice_index_or his i e <ℤ slice_index_or los i d) ⊎ IsInside nat_eq (slice_index_or los i d) (slice_index_or his i e) (slice_index_or vs i f) es
  row_inside i los his vs d e f p q lt all =
      let begun = (inside_parts nat_eq (rows (take (i + 1) los) (take (i + 1) his) (take (i + 1) vs)) (rows (drop (i + 1) los) (drop (i + 1) his) (drop (i + 1) vs)) es
      (subst (λ rs. AreInside nat_eq rs es) (rows_parts (i + 1) los his vs p q) all)).0 in
      let last = (inside_parts nat_eq (rows (take i los) (take i his) (take i vs)) (entry (slice_index_or los i d) (slice_index_or his i e) (slice_index_or vs i f) ∷ []) es
      (subst (λ rs. AreInside nat_eq rs es) (rows_next i los his vs d e f p q lt) begun)).1 in
      last.0
