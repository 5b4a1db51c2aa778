-- The first and the last element of a list that passes a test.
use Rattle.blaze_int.proofs.Comparisons.{by_bool}
use Rattle.std.proofs.Common.{◌≡◌, ℕ, zero, suc, ◌<◌, ℤ, List, [], ◌∷◌, length, get_or, Bool, true, false, ◌&&◌, Some, refl, ap, arith}
use Rattle.std.specs.Option.{option_map}
use Rattle.std.specs.List.{filter}
use Rattle.blaze_entries.specs.Entries.{Entry, at, entry_at, holds}
use Rattle.range_map_c.specs.Told.{first_of, last_of}

module _ {X : Type 0} (d : X) (p : X → Bool) where
  pub filter_none : (xs : List X) → ((j : ℕ) → j < length xs → p (get_or xs j d) ≡ false) → filter p xs ≡ []
  filter_none [] off = refl
  filter_none (x ∷ xs) off = rw (off 0 (omega arith)) (filter_none xs (λ j lt. off (suc j) (omega arith)))

  pub first_passing : (xs : List X) (i : ℕ) → i < length xs → ((j : ℕ) → j < i → p (get_or xs j d) ≡ false) → p (get_or xs i d) ≡ true → first_of (filter p xs) ≡ Some (get_or xs i d)
  first_passing [] i lt off on = absurd (omega arith)
  first_passing (x ∷ xs) zero lt off on = rw on refl
  first_passing (x ∷ xs) (suc i) lt off on = rw (off 0 (omega arith)) (first_passing xs i (omega arith) (λ j l. off (suc j) (omega arith)) on)

  last_more : (x y : X) (xs : List X) → last_of xs ≡ Some y → last_of (x ∷ xs) ≡ Some y
  last_more x y [] e = absurd (cc)
  last_more x y (z ∷ zs) e = e

  pub last_passing : (xs : List X) (i : ℕ) → i < length xs → ((j : ℕ) → i < j → j < length xs → p (get_or xs j d) ≡ false) → p (get_or xs i d) ≡ true → last_of (filter p xs) ≡ Some (get_or xs i d)
  last_passing [] i lt off on = absurd (omega arith)
  last_passing (x ∷ xs) zero lt off on = rw on (rw (filter_none xs (λ j l. off (suc j) (omega arith) (omega arith))) refl)
  last_passing (x ∷ xs) (suc i) lt off on =
      let there = last_passing xs i (omega arith) (λ j l m. off (suc j) (omega arith) (omega arith)) on in
      by_bool (p x) (λ e. rw e (last_more x (get_or xs i d) (filter p xs) there)) (λ e. rw e there)

pub filter_both : {X : Type 0} (p q : X → Bool) (xs : List X) → filter p (filter q xs) ≡ filter (λ x. q x && p x) xs
filter_both p q [] = refl
filter_both p q (x ∷ xs) =
    by_bool (q x) (λ e. rw e (by_bool (p x) (λ f. rw f (ap (λ ys. x ∷ ys) (filter_both p q xs))) (λ f. rw f (filter_both p q xs)))) (λ e. rw e (filter_both p q xs))

-- the entry at a key, and its value, as the first that holds the key
pub entry_at-first : {V : Type 0} (es : List (Entry V)) (k : ℤ) → entry_at es k ≡ first_of (filter (λ e. holds e k) es)
entry_at-first [] k = refl
entry_at-first (e ∷ es) k = by_bool (holds e k) (λ t. rw t refl) (λ f. rw f (entry_at-first es k))

pub at-entry_at : {V : Type 0} (es : List (Entry V)) (k : ℤ) → at es k ≡ option_map (λ e. e.value) (entry_at es k)
at-entry_at [] k = refl
at-entry_at (e ∷ es) k = by_bool (holds e k) (λ t. rw t refl) (λ f. rw f (at-entry_at es k))
