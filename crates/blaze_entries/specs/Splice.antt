-- Lists split at a key and put together again. Of public clauses, only those of `push_entry` of `blaze_table` use these
-- functions; others speak of the value at each key.
use Rattle.std.specs.Prelude.{◌≡◌, ℕ, ℤ, pos, ◌+◌, ◌-◌, ◌≤◌, length, ◌+ℤ◌, ◌-ℤ◌, ◌<ℤ◌, ◌++◌, int_lt, int_le, Bool, ◌&&◌, if◌then◌else◌, List, [], ◌∷◌, Option, Some}
use Rattle.std.specs.List.{Contains, slice_get}
use Rattle.std.specs.Option.{option_map}
use Rattle.std.specs.Ordering.{int_eq}
pub use Rattle.blaze_entries.specs.Overlap.{overlap, covered_keys}
use Rattle.blaze_entries.specs.Entries.{Entry, entry, at, SameEntries, SameOption}
use Rattle.blaze_entries.specs.Canonical.{IsCanonical}
use Rattle.blaze_entries.specs.Painted.{painted_content, IsApartFrom}
use Rattle.blaze_entries.specs.Cut.{cut_at, below_at, from_at}
use Rattle.blaze_entries.specs.Table.{IsTable}

-- the part of a list below the key
abbrev pub before : {V : Type 0} → ℤ → List (Entry V) → List (Entry V)
before k [] = []
before k (e ∷ es) = if int_lt e.hi k then e ∷ before k es else (if int_lt e.lo k then entry e.lo (k -ℤ pos 1) e.value ∷ [] else [])

-- the part of a list above the key
abbrev pub after : {V : Type 0} → ℤ → List (Entry V) → List (Entry V)
after k [] = []
after k (e ∷ es) = if int_le e.hi k then after k es else (if int_le e.lo k then entry (k +ℤ pos 1) e.hi e.value ∷ es else e ∷ es)

-- the second starts right above the first, with an equal value
abbrev pub is_joinable : {V : Type 0} → (V → V → Bool) → Entry V → Entry V → Bool
is_joinable eq e f = int_eq f.lo (e.hi +ℤ pos 1) && eq e.value f.value

-- an entry followed by a list; if the two touch with equal values, the first two entries are joined
abbrev pub join : {V : Type 0} → (V → V → Bool) → Entry V → List (Entry V) → List (Entry V)
join eq e [] = e ∷ []
join eq e (f ∷ fs) = if is_joinable eq e f then entry e.lo f.hi e.value ∷ fs else e ∷ f ∷ fs

-- two lists, the second above the first, joined where they touch
abbrev pub glue : {V : Type 0} → (V → V → Bool) → List (Entry V) → List (Entry V) → List (Entry V)
glue eq [] M = M
glue eq (e ∷ []) M = join eq e M
glue eq (e ∷ f ∷ L) M = e ∷ glue eq (f ∷ L) M

-- the list with the value at the keys from l to h
abbrev pub paint : {V : Type 0} → (V → V → Bool) → ℤ → ℤ → V → List (Entry V) → List (Entry V)
paint eq l h v es = glue eq (glue eq (before l es) (entry l h v ∷ [])) (after h es)

-- each range ends below b
abbrev pub IsBelow : {V : Type 0} → ℤ → List (Entry V) → Type 0
IsBelow b [] = Unit {0}
IsBelow b (e ∷ es) = (e.hi <ℤ b) × IsBelow b es

-- The entries are the part of a list above the key: position by position the ranges are equal and the values are equal.
-- Each entry that starts above the key is one of them, with its very value.
pub record IsSameAbove {V : Type 0} (eq : V → V → Bool) (k : ℤ) (old above : List (Entry V)) : Type 0 where
  pub alike : SameEntries eq (after k old) above
  pub kept : (e : Entry V) → Contains old e → k <ℤ e.lo → Contains above e

-- the list with the entry painted
pub record IsPaintOf {V : Type 0} (eq : V → V → Bool) (p : Entry V) (es new : List (Entry V)) : Type 0 where
  pub above : List (Entry V)
  pub like : IsSameAbove eq p.hi es above
  pub glued : new ≡ glue eq (glue eq (before p.lo es) (p ∷ [])) above

-- a painted list, by structure; entries apart from the painted entry remain
pub record IsListPainted {V : Type 0} (eq : V → V → Bool) (p : Entry V) (old new : List (Entry V)) : Type 0 where
  pub canonical : IsCanonical eq new
  pub content : (k : ℤ) → SameOption eq (at new k) (painted_content p.lo p.hi p.value (at old) k)
  pub few : length new ≤ length old + 2
  pub alone : old ≡ [] → length new ≤ 1
  pub kept : (e : Entry V) → Contains old e → IsApartFrom eq p e → Contains new e

-- A painted list of a table, with its number of keys. It has at most one entry more than the parts below and above the
-- painted keys.
pub record IsTablePainted {V : Type 0} (eq : V → V → Bool) (low high : ℤ) (len : ℕ) (p : Entry V) (old new : List (Entry V)) : Type 0 where
  pub table : IsTable eq low high len new
  pub painted : IsListPainted eq p old new
  pub short : length new ≤ length (before p.lo old) + length (after p.hi old) + 1

-- The list without the keys from l to h. Values of the part above may be equal to the old ones instead of the same.
pub record IsListWithoutRange {V : Type 0} (eq : V → V → Bool) (l h : ℤ) (es new : List (Entry V)) : Type 0 where
  pub above : List (Entry V)
  pub like : SameEntries eq (after h es) above
  pub joined : new ≡ before l es ++ above

-- The list without the keys from l to h. Each entry that starts above these keys remains, with its very value.
pub record IsRangeTaken {V : Type 0} (eq : V → V → Bool) (l h : ℤ) (es new : List (Entry V)) : Type 0 where
  pub cut : IsListWithoutRange eq l h es new
  pub kept : (e : Entry V) → Contains es e → h <ℤ e.lo → Contains new e

-- the list without the key k
abbrev pub IsListWithoutKey : {V : Type 0} → (V → V → Bool) → ℤ → List (Entry V) → List (Entry V) → Type 0
IsListWithoutKey eq k es new = IsListWithoutRange eq k k es new

-- the key k was removed from the list, and its old value is v
pub record IsKeyTaken {V : Type 0} (eq : V → V → Bool) (k : ℤ) (v : Option V) (old new : List (Entry V)) : Type 0 where
  pub cut : IsListWithoutKey eq k old new
  pub value : SameOption eq (at old k) v

-- the key k was removed from a table: the list without it, its number of keys, and the old value of k
pub record IsKeyCut {V : Type 0} (eq : V → V → Bool) (low high : ℤ) (len : ℕ) (k : ℤ) (v : Option V) (old new : List (Entry V)) : Type 0 where
  pub table : IsTable eq low high len new
  pub content : (j : ℤ) → SameOption eq (at new j) (cut_at k (at old) j)
  pub value : SameOption eq (at old k) v

-- the first key k was removed from a table: the list without it, its number of keys, and the old value of k
pub record IsFirstKeyCut {V : Type 0} (eq : V → V → Bool) (low high : ℤ) (len : ℕ) (k : ℤ) (v : V) (old new : List (Entry V)) : Type 0 where
  pub first : option_map (λ e. e.lo) (slice_get old 0) ≡ Some k
  pub cut : IsKeyCut eq low high len k (Some v) old new

-- the last key k was removed from a table: the list without it, its number of keys, and the old value of k
pub record IsLastKeyCut {V : Type 0} (eq : V → V → Bool) (low high : ℤ) (len : ℕ) (k : ℤ) (v : V) (old new : List (Entry V)) : Type 0 where
  pub last : option_map (λ e. e.hi) (slice_get old (length old - 1)) ≡ Some k
  pub cut : IsKeyCut eq low high len k (Some v) old new

-- a table without the keys from l to h, with its number of keys
pub record IsTableCut {V : Type 0} (eq : V → V → Bool) (low high : ℤ) (len : ℕ) (l h : ℤ) (old new : List (Entry V)) : Type 0 where
  pub table : IsTable eq low high len new
  pub taken : IsRangeTaken eq l h old new

-- the parts of a list, where values of the part from k on may be equal to the old ones instead of the same
pub record IsSplitOf {V : Type 0} (eq : V → V → Bool) (k : ℤ) (es below from : List (Entry V)) : Type 0 where
  pub below_is : below ≡ before k es
  pub like : SameEntries eq (after (k -ℤ pos 1) es) from

-- a list split at a key, by structure
pub record IsListSplit {V : Type 0} (eq : V → V → Bool) (k : ℤ) (old below from : List (Entry V)) : Type 0 where
  pub below_canonical : IsCanonical eq below
  pub from_canonical : IsCanonical eq from
  pub below_content : (j : ℤ) → SameOption eq (at below j) (below_at k (at old) j)
  pub from_content : (j : ℤ) → SameOption eq (at from j) (from_at k (at old) j)
