-- Pairs joined before they are painted: the words of this crate's own functions. No public clause names them.
use Rattle.std.specs.Prelude.{◌≡◌, ℤ, pos, ◌+ℤ◌, ◌≤ℤ◌, ◌≤◌, int_le, int_lt, length, Bool, ◌&&◌, if◌then◌else◌, List, ◌++◌, Option, IfSome}
use Rattle.std.specs.Option.{option_to_list}
use Rattle.blaze_entries.specs.Entries.{Entry, entry, SameOption}
use Rattle.blaze_entries.specs.Canonical.{IsCanonical}
use Rattle.blaze_entries.specs.Painted.{last_at}
use Rattle.range_map_blaze.specs.Extended.{AreInside, AreLeftAlone, IsExtended}

-- the ranges touch or overlap, and the values are equal
abbrev pub are_one_pair : {V : Type 0} → (V → V → Bool) → Entry V → Entry V → Bool
are_one_pair eq p n = (int_le n.lo (p.hi +ℤ pos 1) && int_le p.lo (n.hi +ℤ pos 1)) && eq p.value n.value

-- from the lesser start to the greater end, with the value of the first
abbrev pub joined_pair : {V : Type 0} → Entry V → Entry V → Entry V
joined_pair p n = entry (if int_lt n.lo p.lo then n.lo else p.lo) (if int_lt p.hi n.hi then n.hi else p.hi) p.value

-- The first of the pairs are painted, and the pending pair, if there is one, stands for the others.
pub record IsUnderway {V : Type 0} (eq : V → V → Bool) (low high : ℤ) (pairs old new : List (Entry V)) (pending : Option (Entry V)) : Type 0 where
  pub done : List (Entry V)
  pub others : List (Entry V)
  pub parts : pairs ≡ done ++ others
  pub extended : IsExtended eq low high done old new
  pub same : (k : ℤ) → SameOption eq (last_at (option_to_list pending) k) (last_at others k)
  pub fewer : length (option_to_list pending) ≤ length others
  pub inside : (es : List (Entry V)) → IsCanonical eq es → AreInside eq others es → AreInside eq (option_to_list pending) es
  pub alone : (e : Entry V) → e.lo ≤ℤ e.hi → AreLeftAlone eq others e → AreLeftAlone eq (option_to_list pending) e
  pub order : IfSome pending (λ p. p.lo ≤ℤ p.hi)
