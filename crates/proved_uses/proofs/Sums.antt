-- Sums of the lengths of disjoint ranges.
use Rattle.std.proofs.Common.{◌≡◌, arith, pos, ◌+ℤ◌, ◌≤ℤ◌, ◌≤◌, ◌+◌, ◌-◌, List, [], ◌∷◌, ℕ, subst}
use Rattle.std.proofs.lemmas.Int.{ints}
use Rattle.blaze_entries.specs.Canonical.{IsDisjoint}
use Rattle.range_map_blaze.specs.Words.{Entry, entry, keys_in}

-- no sum is below 0
pub some_keys : (es : List (Entry ℕ)) → IsDisjoint es → pos 0 ≤ℤ keys_in es
some_keys [] apart = omega (arith, ints)
some_keys (e ∷ es) apart = let rest = some_keys es apart.2 in omega (arith, ints, apart.0, rest)

-- if a sum and the lengths of the ranges left are the total, the sum and the next length are at most the total
pub sum_within : (sum total a b v : ℕ) (rest left es : List (Entry ℕ)) → left ≡ entry (pos a) (pos b) v ∷ rest
    → pos sum +ℤ keys_in left ≡ keys_in es → IsDisjoint left → pos total ≡ keys_in es → sum + ((b - a) + 1) ≤ total
sum_within sum total a b v rest left es is so_far apart all =
    let d : IsDisjoint (entry (pos a) (pos b) v ∷ rest) = subst IsDisjoint is apart in
    let s : pos sum +ℤ keys_in (entry (pos a) (pos b) v ∷ rest) ≡ keys_in es = subst (λ l. pos sum +ℤ keys_in l ≡ keys_in es) is so_far in
    let up = some_keys rest d.2 in
    omega (arith, ints, d.0, s, up, all)
