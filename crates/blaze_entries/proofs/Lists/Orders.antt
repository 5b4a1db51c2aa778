-- Successive numbers, and lists after a sort.
use Rattle.blaze_entries.proofs.Words.{◌≡◌, suc, ◌+◌, ℤ, pos, ◌+ℤ◌, ◌≤ℤ◌, ◌<ℤ◌, Bool, false, List, ◌∷◌, subst, arith, slice_index_or, IsSortedBy, is_lt, int_cmp, ints}

pub step_up : (a e n : ℤ) → a ≤ℤ e → n ≡ e +ℤ pos 1 → a ≤ℤ n
step_up a e n h q = omega (arith, ints)

pub step_to : (e t n : ℤ) → e <ℤ t → n ≡ e +ℤ pos 1 → n ≤ℤ t
step_to e t n h q = omega (arith, ints)

pub step_past : (e n : ℤ) → n ≡ e +ℤ pos 1 → e <ℤ n
step_past e n q = omega (arith, ints)

pub weaker : (a b : ℤ) → a <ℤ b → a ≤ℤ b
weaker a b h = omega (arith, ints)

pub not_less : (a b : ℤ) → is_lt (int_cmp a b) ≡ false → b ≤ℤ a
not_less a b h = grind (arith, ints)

pub tail_sorted : {X : Type 0} (lt : X → X → Bool) (x : X) (xs : List X) → IsSortedBy lt (x ∷ xs) → IsSortedBy lt xs
tail_sorted lt x xs up k d l h =
    let q : suc k + 1 ≡ suc (k + 1) = omega arith in
    subst (λ m. lt (slice_index_or (x ∷ xs) m d) (slice_index_or xs k d) ≡ false) q (up (suc k) d (omega arith) (omega arith))
