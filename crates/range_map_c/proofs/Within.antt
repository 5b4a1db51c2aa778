-- The entries that share a key with a range: the first and the last of them, whether there are any, and how many keys they have there.
use Rattle.blaze_int.proofs.Comparisons.{by_bool}
use Rattle.std.specs.Prelude.{int_le, int_lt, find, filter}
use Rattle.std.specs.Int.{int_max, int_min}
use Rattle.std.specs.List.{last_or}
use Rattle.std.proofs.Common.{◌≡◌, ℕ, ◌+◌, ℤ, pos, ◌+ℤ◌, ◌-ℤ◌, ◌≤ℤ◌, ◌<ℤ◌, Bool, true, false, cond, List, [], ◌∷◌, Some, None, IsSome, refl, ◌∙◌, sym, ap, subst, arith}
use Rattle.std.proofs.lemmas.Int.{ints, by_lt_z}
use Rattle.blaze_entries.specs.Overlap.{covered_keys, overlap, shared_count}
use Rattle.blaze_entries.specs.Starts.{last_below, up_to}
use Rattle.blaze_entries.specs.Canonical.{AreKeys, IsCanonical}
use Rattle.blaze_entries.specs.Count.{keys_in}
use Rattle.blaze_entries.specs.Ending.{ending_from, overlapping}
use Rattle.blaze_entries.specs.Entries.{Entry, at}
use Rattle.blaze_table.specs.Gap.{IsClearFrom}
use Rattle.blaze_entries.proofs.Canonical.Counted.{overlap_most, keys_among}
use Rattle.blaze_entries.proofs.Canonical.Lookup.{at_in}
use Rattle.range_map_c.specs.Gaps.{HasKeyFrom}
use Rattle.range_map_c.specs.Told.{first_of, last_of}
use Rattle.range_map_c.proofs.FreeRanges.{AllFrom, AllUpTo, InOrder, in_order, order_some, from_some, from_ending, up_to_all, at_overlapping}

length_or : (a b : ℤ) → pos 0 ≤ℤ cond (int_le a b) ((b -ℤ a) +ℤ pos 1) (pos 0)
length_or a b = by_bool (int_le a b) (λ t. rw t (let u : a ≤ℤ b = grind (arith, ints) in omega (arith, ints))) (λ t. rw t (omega (arith, ints)))

module _ {V : Type 0} where
  -- ---- the first and the last

  pub first_is : (eq : V → V → Bool) (low k high : ℤ) (es : List (Entry V)) → IsCanonical eq es → AreKeys low high es → find (λ e. int_le k e.hi) es ≡ first_of (overlapping k high es)
  first_is eq low k high [] c a = refl
  first_is eq low k high (e ∷ es) c a = by_bool (int_le k e.hi)
      (λ t. let to : int_le e.lo high ≡ true = let o = c.0 in let h = a.1 in grind (arith, ints) in rw t (rw to refl)) (λ t. rw t (first_is eq low k high es c.2 a.2))

  last_or_is : (x : Entry V) (xs : List (Entry V)) → last_or (Some x) xs ≡ last_of (x ∷ xs)
  last_or_is x [] = refl
  last_or_is x (y ∷ ys) = last_or_is y ys

  last_or_of : (xs : List (Entry V)) → last_or None xs ≡ last_of xs
  last_or_of [] = refl
  last_or_of (x ∷ xs) = last_or_is x xs

  starts_up_to : (eq : V → V → Bool) (low k high : ℤ) (es : List (Entry V)) → IsCanonical eq es → AreKeys low high es → filter (λ e. int_lt e.lo (k +ℤ pos 1)) es ≡ overlapping low k es
  starts_up_to eq low k high [] c a = refl
  starts_up_to eq low k high (e ∷ es) c a =
      let from : int_le low e.hi ≡ true = let o = c.0 in let l = a.0 in grind (arith, ints) in
      let more = starts_up_to eq low k high es c.2 a.2 in
      by_bool (int_le e.lo k)
      (λ t. let u : int_lt e.lo (k +ℤ pos 1) ≡ true = grind (arith, ints) in rw u (rw from (rw t (ap (λ l. e ∷ l) more))))
      (λ t. let u : int_lt e.lo (k +ℤ pos 1) ≡ false = grind (arith, ints) in rw u (rw from (rw t more)))

  pub last_is : (eq : V → V → Bool) (low k high : ℤ) (es : List (Entry V)) → IsCanonical eq es → AreKeys low high es → last_below (k +ℤ pos 1) es ≡ last_of (overlapping low k es)
  last_is eq low k high es c a = ap (last_or None) (starts_up_to eq low k high es c a) ∙ last_or_of (overlapping low k es)

  -- ---- whether a key has a value

  pub no_key_from : (l h : ℤ) (es : List (Entry V)) → overlapping l h es ≡ [] → IsClearFrom (at es) l h
  no_key_from l h es none k u w = at_overlapping l h k es u w ∙ ap (λ xs. at xs k) none

  pub some_key_from : (eq : V → V → Bool) (l h : ℤ) (es rest : List (Entry V)) (e : Entry V) → IsCanonical eq es → l ≤ℤ h → overlapping l h es ≡ e ∷ rest → HasKeyFrom (at es) l h
  some_key_from eq l h es rest e c order is =
      let ordered = subst InOrder is (order_some (λ x. int_le x.lo h) (ending_from l es) (order_some (λ x. int_le l x.hi) es (in_order eq es c))) in
      let ends = subst (AllFrom l) is (from_some (λ x. int_le x.lo h) l (ending_from l es) (from_ending l es)) in
      let starts = subst (AllUpTo h) is (up_to_all h (ending_from l es)) in
      let o : e.lo ≤ℤ e.hi = ordered.0 in let f : l ≤ℤ e.hi = ends.0 in let t : e.lo ≤ℤ h = starts.0 in
      by_lt_z l e.lo (λ u. (e.lo, omega (arith, ints), t, here e.lo (omega (arith, ints)) t (omega (arith, ints)) o)) (λ u. (l, omega (arith, ints), order, here l (omega (arith, ints)) order u f))
    where
      here : (k : ℤ) → l ≤ℤ k → k ≤ℤ h → e.lo ≤ℤ k → k ≤ℤ e.hi → IsSome (at es k)
      here k u w x y = subst (λ o. IsSome o) (sym (at_overlapping l h k es u w ∙ ap (λ xs. at xs k) is ∙ at_in e rest k x y)) refl

  -- ---- how many keys have a value

  overlap_none : (l h : ℤ) (e : Entry V) → e.hi <ℤ l → overlap l h e ≡ pos 0
  overlap_none l h e u = grind (arith, ints)

  overlap_under : (l h : ℤ) (e : Entry V) → h <ℤ e.lo → overlap l h e ≡ pos 0
  overlap_under l h e u = grind (arith, ints)

  covered_ending : (l h : ℤ) (es : List (Entry V)) → covered_keys l h es ≡ covered_keys l h (ending_from l es)
  covered_ending l h [] = refl
  covered_ending l h (e ∷ es) = by_bool (int_le l e.hi) (λ t. rw t (ap (λ n. overlap l h e +ℤ n) (covered_ending l h es)))
      (λ t. rw t (let none : overlap l h e ≡ pos 0 = overlap_none l h e (grind (arith, ints)) in let more = covered_ending l h es in omega (arith, ints)))

  covered_up_to : (l h : ℤ) (es : List (Entry V)) → covered_keys l h es ≡ covered_keys l h (up_to h es)
  covered_up_to l h [] = refl
  covered_up_to l h (e ∷ es) = by_bool (int_le e.lo h) (λ t. rw t (ap (λ n. overlap l h e +ℤ n) (covered_up_to l h es)))
      (λ t. rw t (let none : overlap l h e ≡ pos 0 = overlap_under l h e (grind (arith, ints)) in let more = covered_up_to l h es in omega (arith, ints)))

  -- a range without a key
  overlap_empty : (l h : ℤ) (e : Entry V) → h <ℤ l → overlap l h e ≡ pos 0
  overlap_empty l h e u = grind (arith, ints)

  pub covered_empty : (l h : ℤ) (es : List (Entry V)) → h <ℤ l → covered_keys l h es ≡ pos 0
  covered_empty l h [] u = refl
  covered_empty l h (e ∷ es) u = let none = overlap_empty l h e u in let more = covered_empty l h es u in omega (arith, ints)

  -- the entries that share no key with the range add none
  pub covered_overlapping : (l h : ℤ) (es : List (Entry V)) → covered_keys l h es ≡ covered_keys l h (overlapping l h es)
  covered_overlapping l h es = covered_ending l h es ∙ covered_up_to l h (ending_from l es)

  pub covered_some : (l h : ℤ) (es : List (Entry V)) → pos 0 ≤ℤ covered_keys l h es
  covered_some l h [] = omega (arith, ints)
  covered_some l h (e ∷ es) = let here : pos 0 ≤ℤ overlap l h e = length_or (int_max l e.lo) (int_min h e.hi) in let more = covered_some l h es in omega (arith, ints)

  covered_most : (eq : V → V → Bool) (l h : ℤ) (es : List (Entry V)) → IsCanonical eq es → covered_keys l h es ≤ℤ keys_in es
  covered_most eq l h [] c = omega (arith, ints)
  covered_most eq l h (e ∷ es) c = let here = overlap_most l h e c.0 in let more = covered_most eq l h es c.2 in omega (arith, ints)

  -- they are at most all keys
  pub covered_fits : (eq : V → V → Bool) (low high l h : ℤ) (es : List (Entry V)) → low ≤ℤ high → IsCanonical eq es → AreKeys low high es → covered_keys l h es ≤ℤ ((high -ℤ low) +ℤ pos 1)
  covered_fits eq low high l h es order c a = let here = covered_most eq l h es c in let more = keys_among eq low high es order c a in omega (arith, ints)

-- one more entry is counted
pub counted_next : {V : Type 0} (l h x y : ℤ) (count n : ℕ) (left rest all : List (Entry V)) (e : Entry V) → pos count +ℤ covered_keys l h left ≡ covered_keys l h all → left ≡ e ∷ rest → e.lo ≡ x → e.hi ≡ y
    → pos n ≡ shared_count l h x y → pos (count + n) +ℤ covered_keys l h rest ≡ covered_keys l h all
counted_next l h x y count n left rest all e sum is low high keys =
    let parts : pos count +ℤ (overlap l h e +ℤ covered_keys l h rest) ≡ covered_keys l h all = subst (λ es. pos count +ℤ covered_keys l h es ≡ covered_keys l h all) is sum in
    let here : pos n ≡ overlap l h e = keys ∙ ap (λ z. shared_count l h z y) (sym low) ∙ ap (λ z. shared_count l h e.lo z) (sym high) in
    omega (arith, ints)
