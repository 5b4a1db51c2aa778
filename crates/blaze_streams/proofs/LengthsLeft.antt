-- The number of remaining keys.
use Rattle.blaze_streams.proofs.Words.{nat_of, ◌≡◌, ℕ, ◌+◌, ◌<◌, ◌≤◌, ℤ, pos, ◌+ℤ◌, ◌-ℤ◌, ◌≤ℤ◌, Bool, List, [], ◌∷◌, Some, arith, ⊎_elim, ints, nat_of-pos, Entry, IsCanonical, after, by_after, first_key, AllCanonical, first_keys, all_after}
use Rattle.blaze_streams.proofs.Steady.{same_some}
use Rattle.blaze_streams.proofs.Lesser.{lesser_one}

abbrev pub lengths_left : {A : Type 0} → List (Entry A) → ℕ
lengths_left [] = 0
lengths_left (e ∷ es) = nat_of ((e.hi -ℤ e.lo) +ℤ pos 1) + lengths_left es

abbrev pub all_lengths_left : {A : Type 0} → List (List (Entry A)) → ℕ
all_lengths_left [] = 0
all_lengths_left (L ∷ Ls) = lengths_left L + all_lengths_left Ls

module _ {A : Type 0} (eq : A → A → Bool) where
  fewer : (t : ℤ) (es : List (Entry A)) → IsCanonical eq es → lengths_left (after t es) ≤ lengths_left es
  fewer t [] c = omega arith
  fewer t (e ∷ es) c = by_after t e es
      (λ h p. rw p (omega (arith, fewer t es c.2)))
      (λ h l p. rw p (let n : ℕ = nat_of ((e.hi -ℤ (t +ℤ pos 1)) +ℤ pos 1) in
      let m : ℕ = nat_of ((e.hi -ℤ e.lo) +ℤ pos 1) in
      let a : pos n ≡ ((e.hi -ℤ (t +ℤ pos 1)) +ℤ pos 1) = nat_of-pos ((e.hi -ℤ (t +ℤ pos 1)) +ℤ pos 1) (omega (arith, ints)) in
      let b : pos m ≡ ((e.hi -ℤ e.lo) +ℤ pos 1) = nat_of-pos ((e.hi -ℤ e.lo) +ℤ pos 1) (omega (arith, ints, c.0)) in
      let k : n ≤ m = omega (arith, ints) in omega (arith, k)))
      (λ h l p. rw p (omega arith))

  less : (s t : ℤ) (es : List (Entry A)) → IsCanonical eq es → s ≤ℤ t → first_key es ≡ Some s → lengths_left (after t es) < lengths_left es
  less s t [] c w f = cc
  less s t (e ∷ es) c w f =
      let is : e.lo ≡ s = same_some e.lo s f in
      let m : ℕ = nat_of ((e.hi -ℤ e.lo) +ℤ pos 1) in
      let b : pos m ≡ ((e.hi -ℤ e.lo) +ℤ pos 1) = nat_of-pos ((e.hi -ℤ e.lo) +ℤ pos 1) (omega (arith, ints, c.0)) in
      let one : 0 < m = omega (arith, ints, c.0) in
      by_after t e es
      (λ h p. rw p (omega (arith, fewer t es c.2, one)))
      (λ h l p. rw p (let n : ℕ = nat_of ((e.hi -ℤ (t +ℤ pos 1)) +ℤ pos 1) in
      let a : pos n ≡ ((e.hi -ℤ (t +ℤ pos 1)) +ℤ pos 1) = nat_of-pos ((e.hi -ℤ (t +ℤ pos 1)) +ℤ pos 1) (omega (arith, ints)) in
      let k : n < m = omega (arith, ints) in omega (arith, k)))
      (λ h l p. absurd (omega (arith, ints)))

  all_fewer : (t : ℤ) (Ls : List (List (Entry A))) → AllCanonical eq Ls → all_lengths_left (all_after t Ls) ≤ all_lengths_left Ls
  all_fewer t [] c = omega arith
  all_fewer t (L ∷ Ls) c = omega (arith, fewer t L c.0, all_fewer t Ls c.1)

  pub all_less : (s t : ℤ) (Ls : List (List (Entry A))) → AllCanonical eq Ls → s ≤ℤ t → first_keys Ls ≡ Some s → all_lengths_left (all_after t Ls) < all_lengths_left Ls
  all_less s t [] c w p = cc
  all_less s t (L ∷ Ls) c w p = ⊎_elim
      (λ e. omega (arith, less s t L c.0 w e, all_fewer t Ls c.1))
      (λ e. omega (arith, fewer t L c.0, all_less s t Ls c.1 w e))
      (lesser_one (first_key L) (first_keys Ls) s p)
