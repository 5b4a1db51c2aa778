-- The laws, stated about the content.
use Rattle.blaze_entries.proofs.Words.{nat_of, ◌≡◌, ℤ, pos, negsuc, ◌+ℤ◌, ◌-ℤ◌, ◌≤ℤ◌, Bool, List, [], ◌∷◌, refl, sym, arith, ints, IsEquivalence, Entry, at, IsCanonical, AreKeys, keys_in, mapped_keys, CanonicalIsUnique, CanonicalIsFewest, LengthsAreMapped, IsBelow}
use Rattle.blaze_entries.proofs.Canonical.Lookup.{above_low}
use Rattle.blaze_entries.proofs.Canonical.Unique.{unique}
use Rattle.blaze_entries.proofs.Canonical.Runs.{canonical}
use Rattle.blaze_entries.proofs.Canonical.Fewest.{fewest}
use Rattle.blaze_entries.proofs.Canonical.Mapped.{keys_mapped, none_mapped}

nat_of-between : (low high : ℤ) → low ≤ℤ (high +ℤ pos 1) → low +ℤ pos (nat_of (high -ℤ low +ℤ pos 1)) ≡ high +ℤ pos 1
nat_of-between low high h = by_sign (high -ℤ low +ℤ pos 1) refl
  where
    by_sign : (z : ℤ) → z ≡ high -ℤ low +ℤ pos 1 → low +ℤ pos (nat_of z) ≡ high +ℤ pos 1
    by_sign (pos n) p = omega (arith, ints)
    by_sign (negsuc n) p = absurd (omega (arith, ints))

module _ {V : Type 0} (eq : V → V → Bool) where
  below_high : (low high b : ℤ) (es : List (Entry V)) → b ≡ high +ℤ pos 1 → AreKeys low high es → IsBelow b es
  below_high low high b [] p k = tt
  below_high low high b (e ∷ es) p k = (omega (arith, ints, k.1), below_high low high b es p k.2)

  some_between : (low high : ℤ) (e : Entry V) (es : List (Entry V)) → IsCanonical eq (e ∷ es) → AreKeys low high (e ∷ es) → low ≤ℤ (high +ℤ pos 1)
  some_between low high e es c k = omega (arith, ints, c.0, k.0, k.1)

  -- the lengths add up to the number of mapped keys
  pub lengths_mapped : (low high : ℤ) (es : List (Entry V)) → IsCanonical eq es → AreKeys low high es → keys_in es ≡ pos (mapped_keys low high (at es))
  lengths_mapped low high [] c k = sym (none_mapped eq low (nat_of (high -ℤ low +ℤ pos 1)))
  lengths_mapped low high (e ∷ es) c k =
      let n = nat_of (high -ℤ low +ℤ pos 1) in
      let ends = nat_of-between low high (some_between low high e es c k) in
      sym (keys_mapped eq n low (e ∷ es) c (above_low low high (e ∷ es) k) (below_high low high (low +ℤ pos n) (e ∷ es) ends k))

module _ {V : Type 0} (eq : V → V → Bool) (laws : IsEquivalence eq) where
  pub canonical_is_unique : CanonicalIsUnique eq
  canonical_is_unique L M l m s = unique eq laws L M (canonical eq laws L l) (canonical eq laws M m) s

  pub canonical_is_fewest : CanonicalIsFewest eq
  canonical_is_fewest L M l m s = fewest eq laws L M (canonical eq laws L l) m s

  pub lengths_are_mapped : LengthsAreMapped eq
  lengths_are_mapped low high es r = lengths_mapped eq low high es (canonical eq laws es r.runs) r.keys
