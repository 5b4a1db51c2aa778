-- A fill before its end, in terms of this crate's own functions. No public clause uses them.
use Rattle.std.specs.Prelude.{◌≡◌, ◌⊎◌, ◌↔◌, ℕ, ℤ, pos, ◌+ℤ◌, ◌-ℤ◌, ◌≤ℤ◌, ◌<ℤ◌, Bool, false, List, [], ◌∷◌, ◌++◌, Option, Some, IsSome, IsTrue}
use Rattle.std.specs.List.{Contains}
use Rattle.blaze_entries.specs.Starts.{start_at, with_entry, without}
use Rattle.blaze_entries.specs.Canonical.{AreKeys, IsCanonical, IsRunStart, HasStart}
use Rattle.blaze_entries.specs.Count.{keys_in}
use Rattle.blaze_entries.specs.Entries.{Entry, entry, at, SameOption, SameContent}
use Rattle.blaze_table.specs.Filled.{filled_content, AreStartsKept, IsFirstGap, IsKeptIn}
use Rattle.blaze_table.specs.Gap.{IsClearFrom}
use Rattle.blaze_entries.specs.Table.{IsTable}

-- no two values are equal
abbrev pub never_equal : {V : Type 0} → V → V → Bool
never_equal x y = false

-- no range is empty, and each starts above the end of the previous one
abbrev pub IsOrdered : {V : Type 0} → List (Entry V) → Type 0
IsOrdered es = IsCanonical never_equal es

-- an ordered list whose ends are keys, with its number of keys
abbrev pub IsOrderedTable : {V : Type 0} → ℤ → ℤ → ℕ → List (Entry V) → Type 0
IsOrderedTable low high n es = IsTable never_equal low high n es

-- the key k has a value, and the key before it has an equal one
abbrev pub IsJoint : {V : Type 0} → (V → V → Bool) → (ℤ → Option V) → ℤ → Type 0
IsJoint eq content k = IsSome (content k) × SameOption eq (content (k -ℤ pos 1)) (content k)

-- The joints are the keys at which an entry has yet to be joined with the previous one. Every other start is a run
-- start.
pub record IsJoinedBut {V : Type 0} (eq : V → V → Bool) (join_keys : List ℤ) (es : List (Entry V)) : Type 0 where
  pub starts : (k : ℤ) → HasStart es k → IsRunStart eq (at es) k ⊎ Contains join_keys k
  pub equal : (k : ℤ) → Contains join_keys k → IsJoint eq (at es) k

-- t and u say whether the values right below and right above the keys from a to b are equal to v
pub record IsBeside {V : Type 0} (eq : V → V → Bool) (content : ℤ → Option V) (v : V) (a b : ℤ) (t u : Bool) : Type 0 where
  pub below : IsTrue t ↔ SameOption eq (content (a -ℤ pos 1)) (Some v)
  pub above : IsTrue u ↔ SameOption eq (content (b +ℤ pos 1)) (Some v)

-- The keys from a to b are the first gap from l to h. t and u say whether the values right below and right above it are
-- equal to v.
pub record IsNextGap {V : Type 0} (eq : V → V → Bool) (content : ℤ → Option V) (v : V) (l h a b : ℤ) (t u : Bool) : Type 0 where
  pub gap : IsFirstGap content l h a b
  pub beside : IsBeside eq content v a b t u

-- A gap that starts at a, below an entry that starts at `next`, ends at b. It ends right below `next`, or at h if that
-- is lower.
pub record IsGapEnd (a h next b : ℤ) : Type 0 where
  pub order : a ≤ℤ b
  pub to : b ≤ℤ h
  pub under : b <ℤ next
  pub greatest : (b ≡ h) ⊎ (next ≡ b +ℤ pos 1)

-- no entry is inserted yet, and no joint is recorded
pub record HasNoEdits {T : Type 0} (starts join_keys : List T) : Type 0 where
  pub no_start : starts ≡ []
  pub no_joint : join_keys ≡ []

-- the key k is added to the joints if it is one
pub record IsNoted (is_joint : Bool) (k : ℤ) (old new : List ℤ) : Type 0 where
  pub kept : (i : ℤ) → Contains old i → Contains new i
  pub noted : IsTrue is_joint → Contains new k
  pub only : (i : ℤ) → Contains new i → Contains old i ⊎ ((i ≡ k) × IsTrue is_joint)

-- The gap from a to b has a separate entry with the value v, recorded by its start. Its start is a joint if t is true,
-- and the key after it is a joint if u is true.
pub record IsGapFilled {V : Type 0} (a b : ℤ) (v : V) (t u : Bool) (old new : List (Entry V)) (starts more join_keys all : List ℤ) : Type 0 where
  pub put : new ≡ with_entry (entry a b v) old
  pub remembered : more ≡ starts ++ a ∷ []
  pub half : List ℤ
  pub below : IsNoted t a join_keys half
  pub above : IsNoted u (b +ℤ pos 1) half all

-- the list without the entries that start at the keys, the last one removed first
abbrev pub without_all : {V : Type 0} → List ℤ → List (Entry V) → List (Entry V)
without_all [] es = es
without_all (s ∷ ss) es = without s (without_all ss es)

-- each of these entries exists when it is removed
abbrev pub AreThere : {V : Type 0} → List ℤ → List (Entry V) → Type 0
AreThere [] es = Unit {0}
AreThere (s ∷ ss) es = IsSome (start_at s (without_all ss es)) × AreThere ss es

-- removing the entries that start at the keys restores the old list
pub record GoesBack {V : Type 0} (starts : List ℤ) (es old : List (Entry V)) : Type 0 where
  pub there : AreThere starts es
  pub taken : without_all starts es ≡ old

-- The keys from l to before a are filled with v, and the gap from a to b is the next one. Each old entry remains.
pub record IsFilling {V : Type 0} (eq : V → V → Bool) (l h : ℤ) (v : V) (starts join_keys : List ℤ) (old cur : List (Entry V)) (a b : ℤ) : Type 0 where
  pub content : (k : ℤ) → SameOption eq (at cur k) (filled_content l (a -ℤ pos 1) v (at old) k)
  pub kept : (e : Entry V) → Contains old e → Contains cur e
  pub from : l ≤ℤ a
  pub order : a ≤ℤ b
  pub to : b ≤ℤ h
  pub clear : IsClearFrom (at cur) a b
  pub greatest : (b ≡ h) ⊎ IsSome (at cur (b +ℤ pos 1))
  pub joined : IsJoinedBut eq join_keys cur
  pub back : GoesBack starts cur old

-- the keys from l to h are filled with v, and only the entries at the joints are not joined yet; each old entry remains
pub record IsFilledBut {V : Type 0} (eq : V → V → Bool) (l h : ℤ) (v : V) (starts join_keys : List ℤ) (old cur : List (Entry V)) : Type 0 where
  pub content : (k : ℤ) → SameOption eq (at cur k) (filled_content l h v (at old) k)
  pub kept : (e : Entry V) → Contains old e → Contains cur e
  pub joined : IsJoinedBut eq join_keys cur
  pub back : GoesBack starts cur old

-- The entry that starts at s, if it exists, was joined with the previous one. The content and the number of keys are
-- the same, and every other entry has its very value.
pub record IsJoinedAt {V : Type 0} (eq : V → V → Bool) (low high : ℤ) (s : ℤ) (old new : List (Entry V)) : Type 0 where
  pub ordered : IsOrdered new
  pub are_keys : AreKeys low high new
  pub count : keys_in new ≡ keys_in old
  pub same : SameContent eq new old
  pub starts : (k : ℤ) → HasStart new k → HasStart old k × (k ≡ s → ⊥)
  pub kept : (e : Entry V) → Contains old e → (e.lo ≡ s → ⊥) → IsKeptIn new e

-- All entries at joints were joined with the previous ones. The list is canonical. The content and the number of keys
-- are the same, and an entry that starts a run of the content keeps its very value.
pub record AreAllJoined {V : Type 0} (eq : V → V → Bool) (low high : ℤ) (old new : List (Entry V)) : Type 0 where
  pub canonical : IsCanonical eq new
  pub are_keys : AreKeys low high new
  pub count : keys_in new ≡ keys_in old
  pub same : SameContent eq new old
  pub kept : AreStartsKept eq (at old) old new
