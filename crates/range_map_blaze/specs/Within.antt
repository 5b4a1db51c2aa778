-- The entries on the keys of a range, and the gaps there: the words of this crate's own functions. No public clause names them.
use Rattle.std.specs.Prelude.{◌≡◌, ℤ, pos, ◌+ℤ◌, ◌-ℤ◌, ◌≤ℤ◌, ◌<ℤ◌, int_lt, if◌then◌else◌, List, [], ◌∷◌, ◌++◌, map, Option, Some, None}
use Rattle.std.specs.Int.{int_max, int_min}
use Rattle.blaze_streams.specs.Gaps.{gap_before}
use Rattle.blaze_entries.specs.Entries.{Entry, entry}
use Rattle.blaze_entries.specs.Splice.{before, after}

-- the entries cut to the keys from l up to h
abbrev pub within : {V : Type 0} → ℤ → ℤ → List (Entry V) → List (Entry V)
within l h es = before (h +ℤ pos 1) (after (l -ℤ pos 1) es)

-- the part of an entry on the keys from l up to h, with which it shares a key
abbrev pub cut_to : {V : Type 0} → ℤ → ℤ → Entry V → Entry V
cut_to l h e = entry (int_max l e.lo) (int_min h e.hi) e.value

-- entries that share a key with the range from l up to h, each cut to it
abbrev pub cut_each : {V : Type 0} → ℤ → ℤ → List (Entry V) → List (Entry V)
cut_each l h es = map (cut_to l h) es

-- an optional list, which is empty if it is absent
abbrev pub all_or_none : {X : Type 0} → Option (List X) → List X
all_or_none None = []
all_or_none (Some xs) = xs

-- the keys from l up to h that no entry has, as ranges: the entries share a key with that range
abbrev pub gaps_within : {V : Type 0} → ℤ → ℤ → List (Entry V) → List (Entry (Unit {0}))
gaps_within l h [] = gap_before l (h +ℤ pos 1)
gaps_within l h (e ∷ es) = gap_before l e.lo ++ (if int_lt e.hi h then gaps_within (e.hi +ℤ pos 1) h es else [])

-- the gaps from the first key that was not passed up to the last of a range, or none if every key was passed
abbrev pub gaps_left : {T V : Type 0} → (T → ℤ) → Option (T × T) → List (Entry V) → List (Entry (Unit {0}))
gaps_left rank None es = []
gaps_left rank (Some p) es = gaps_within (rank p.0) (rank p.1) es

-- each entry has a key, starts up to h and above the end of the one before, the first of them above b
abbrev pub IsUpTo : {V : Type 0} → ℤ → ℤ → List (Entry V) → Type 0
IsUpTo b h [] = Unit {0}
IsUpTo b h (e ∷ es) = (b <ℤ e.lo) × (e.lo ≤ℤ e.hi) × (e.lo ≤ℤ h) × IsUpTo e.hi h es

-- each entry has a key, shares one with the range from l up to h, and starts above the end of the one before
abbrev pub IsAcross : {V : Type 0} → ℤ → ℤ → List (Entry V) → Type 0
IsAcross l h [] = Unit {0}
IsAcross l h (e ∷ es) = (l ≤ℤ e.hi) × (e.lo ≤ℤ e.hi) × (e.lo ≤ℤ h) × IsUpTo e.hi h es

-- a walk over the gaps of a range: the keys from l up to h were not passed, and the entries that share a key with them
pub record IsGapWalk {V : Type 0} (l h : ℤ) (es : List (Entry V)) : Type 0 where
  pub order : l ≤ℤ h
  pub entries : IsAcross l h es

-- the keys from a up to b, by the first and the last of them, or `None` if there are none
abbrev pub AreKeysFrom : {T : Type 0} → (T → ℤ) → ℤ → ℤ → Option (T × T) → Type 0
AreKeysFrom rank a b None = b <ℤ a
AreKeysFrom rank a b (Some p) = (a ≤ℤ b) × (rank p.0 ≡ a) × (rank p.1 ≡ b)
