-- Calls of an iterator by value, from both ends.
use Rattle.range_map_cli.proofs.Words.{nat_of, ◌≡◌, ℕ, zero, suc, ◌≤◌, Bool, true, false, ℤ, pos, negsuc, ◌+ℤ◌, ◌-ℤ◌, ◌≤ℤ◌, ◌<ℤ◌, arith, List, [], ◌∷◌, ◌++◌, Option, Some, None, Result, Ok, Err, refl, ◌∙◌, sym, ap, append_assoc, append-nil, ints, All, All-cons, All-head, All-nil, All-tail, AllocError, pairs_left, unopened, HasSeveralFirst, HasSeveralLast, IsLikePair, OwnedLeft, owned_ranges, Entry, pairs_from, pairs_of, pair_list, from_front, from_back, AreItems, AreNoneFromEnd, EachOnceOwned, HasEnded, IsEachOnceOwned, IsItem, IsNotRefused, TakeAllOwned, TakesOwned}
use Rattle.range_map_cli.proofs.Stepping.Calls.{not_behind}

module _ {V A B : Type 0} (left : OwnedLeft V → List B) (IsGiven : A → B → Type 0) (empty : left (unopened []) ≡ [])
    (first : (s : OwnedLeft V) → HasSeveralFirst s → left s ≡ [] → ⊥) (last : (s : OwnedLeft V) → HasSeveralLast s → left s ≡ [] → ⊥) where
  abbrev Call : Type 0
  Call = Bool × Option (Result A AllocError)

  abbrev IsNone : Call → Type 0
  IsNone later = later.1 ≡ None

  abbrev IsFine : Call → Type 0
  IsFine c = IsNotRefused left IsGiven c.1

  -- a call that gave no item leaves nothing
  leaves_nothing : (front : Bool) (given : Option (Result A AllocError)) (s t : OwnedLeft V) → HasEnded left IsGiven given → TakesOwned left IsGiven front s given t → left t ≡ []
  leaves_nothing true None s t e y = y.1
  leaves_nothing false None s t e y = y.1
  leaves_nothing front (Some (Ok a)) s t e y = absurd e
  leaves_nothing true (Some (Err x)) s t e y = ap left y.1 ∙ empty
  leaves_nothing false (Some (Err x)) s t e y = ap left y.1 ∙ empty

  -- where nothing is left a call gives `None`, and leaves nothing
  gives_none : (front : Bool) (given : Option (Result A AllocError)) (s t : OwnedLeft V) → left s ≡ [] → TakesOwned left IsGiven front s given t → (given ≡ None) × (left t ≡ [])
  gives_none true None s t n y = (refl, y.1)
  gives_none false None s t n y = (refl, y.1)
  gives_none true (Some (Ok a)) s t n ((b, is, given), opens) = let some : [] ≡ b ∷ left t = sym n ∙ is in absurd cc
  gives_none false (Some (Ok a)) s t n ((b, is, given), opens) = not_behind (left t) b (sym n ∙ is)
  gives_none true (Some (Err x)) s t n y = absurd (first s y.0 n)
  gives_none false (Some (Err x)) s t n y = absurd (last s y.0 n)

  all_none : (calls : List Call) (s t : OwnedLeft V) → left s ≡ [] → TakeAllOwned left IsGiven calls s t → All IsNone calls
  all_none [] s t n y = All-nil IsNone
  all_none (c ∷ calls) s t n (next, one, more) =
      let none = gives_none c.0 c.1 s next n one in
      All-cons IsNone c calls none.0 (all_none calls next t none.1 more)

  for_good : (calls : List Call) (s t : OwnedLeft V) → TakeAllOwned left IsGiven calls s t → AreNoneFromEnd left IsGiven calls
  for_good [] s t y = tt
  for_good (c ∷ calls) s t (next, one, more) = (
    λ ended. all_none calls next t (leaves_nothing c.0 c.1 s next ended one) more,
    for_good calls next t more,
  )

  -- the items, and how they lie round those that are left
  record IsParted (calls : List Call) (s t : OwnedLeft V) : Type 0 where
    items : List (Bool × Option B)
    given : AreItems left IsGiven calls items
    parts : All IsFine calls → left s ≡ from_front items ++ left t ++ from_back items

  no_item : (front : Bool) (given : Option (Result A AllocError)) (calls : List Call) (s next t : OwnedLeft V) → IsItem left IsGiven given None → (IsNotRefused left IsGiven given → left s ≡ left next)
      → IsParted calls next t → IsParted ((front, given) ∷ calls) s t
  no_item true given calls s next t item same p = record {
    items = (true, None) ∷ p.items;
    given = (refl, item, p.given);
    parts = λ fine. same (All-head IsFine (true, given) calls fine) ∙ p.parts (All-tail IsFine (true, given) calls fine);
  }
  no_item false given calls s next t item same p = record {
    items = (false, None) ∷ p.items;
    given = (refl, item, p.given);
    parts = λ fine. same (All-head IsFine (false, given) calls fine) ∙ p.parts (All-tail IsFine (false, given) calls fine);
  }

  one_more : (front : Bool) (given : Option (Result A AllocError)) (calls : List Call) (s next t : OwnedLeft V) → TakesOwned left IsGiven front s given next → IsParted calls next t → IsParted ((front, given) ∷ calls) s t
  one_more true None calls s next t y p = no_item true None calls s next t tt (λ _. y.0 ∙ sym y.1) p
  one_more false None calls s next t y p = no_item false None calls s next t tt (λ _. y.0 ∙ sym y.1) p
  one_more true (Some (Err x)) calls s next t y p = no_item true (Some (Err x)) calls s next t tt (λ fine. absurd fine) p
  one_more false (Some (Err x)) calls s next t y p = no_item false (Some (Err x)) calls s next t tt (λ fine. absurd fine) p
  one_more true (Some (Ok a)) calls s next t ((b, is, item), opens) p = record {
    items = (true, Some b) ∷ p.items;
    given = (refl, item, p.given);
    parts = λ fine. is ∙ ap (λ xs. b ∷ xs) (p.parts (All-tail IsFine (true, Some (Ok a)) calls fine));
  }
  one_more false (Some (Ok a)) calls s next t ((b, is, item), opens) p = record {
    items = (false, Some b) ∷ p.items;
    given = (refl, item, p.given);
    parts = λ fine. is ∙ ap (λ xs. xs ++ b ∷ []) (p.parts (All-tail IsFine (false, Some (Ok a)) calls fine)) ∙ append_assoc (from_front p.items ++ left t) (from_back p.items) (b ∷ []);
  }

  parted : (calls : List Call) (s t : OwnedLeft V) → TakeAllOwned left IsGiven calls s t → IsParted calls s t
  parted [] s t y = record { items = []; given = tt; parts = λ _. ap left y ∙ sym (append-nil (left t)) }
  parted (c ∷ calls) s t (next, one, more) = one_more c.0 c.1 calls s next t one (parted calls next t more)

  each_once : (calls : List Call) (s t : OwnedLeft V) → TakeAllOwned left IsGiven calls s t → IsEachOnceOwned left IsGiven calls s t
  each_once calls s t y = let p = parted calls s t y in record { items = p.items; given = p.given; parts = p.parts; for_good = for_good calls s t y }

-- ---- pairs

module _ {K V : Type 0} (of_rank : ℤ → K) where
  nothing_behind : (xs ys : List (K × V)) → xs ++ ys ≡ [] → ys ≡ []
  nothing_behind [] ys p = p
  nothing_behind (x ∷ xs) ys p = absurd cc

  nothing_before : (xs ys : List (K × V)) → xs ++ ys ≡ [] → xs ≡ []
  nothing_before [] ys p = refl
  nothing_before (x ∷ xs) ys p = absurd cc

  some_keys : (a z : ℤ) (v : V) → pos 1 ≤ℤ z → pairs_from of_rank a (nat_of z) v ≡ [] → ⊥
  some_keys a (pos n) v l p = by_count n (omega (arith, ints, l)) p
    where
      by_count : (m : ℕ) → 1 ≤ m → pairs_from of_rank a m v ≡ [] → ⊥
      by_count zero h q = omega (arith, h)
      by_count (suc m) h q = cc
  some_keys a (negsuc n) v l p = omega (arith, ints, l)

  several_first : (es : List (Entry V)) (e : Entry V) (fs : List (Entry V)) → es ≡ e ∷ fs → e.lo <ℤ e.hi → pair_list of_rank es ≡ [] → ⊥
  several_first es e fs is long none = some_keys e.lo (e.hi -ℤ e.lo +ℤ pos 1) e.value (omega (arith, ints, long)) (nothing_before (pairs_of of_rank e) (pair_list of_rank fs) (sym (ap (pair_list of_rank) is) ∙ none))

  several_last : (fs : List (Entry V)) (e : Entry V) → e.lo <ℤ e.hi → pair_list of_rank (fs ++ e ∷ []) ≡ [] → ⊥
  several_last [] e long none = several_first (e ∷ []) e [] refl long none
  several_last (f ∷ fs) e long none = several_last fs e long (nothing_behind (pairs_of of_rank f) (pair_list of_rank (fs ++ e ∷ [])) none)

  pub each_owned_once : (eq : V → V → Bool) → EachOnceOwned of_rank eq
  each_owned_once eq = each_once (pairs_left of_rank (λ es. es)) (IsLikePair eq) refl
      (λ s several. several_first (owned_ranges s) several.0 several.1 several.2 several.3)
      (λ s several none. several_last several.1 several.0 several.3 (sym (ap (pair_list of_rank) several.2) ∙ none))
