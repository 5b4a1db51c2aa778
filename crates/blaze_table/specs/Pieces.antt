-- Pairs swept from the least key up, in terms of this crate's own functions. No public clause uses them. A placed pair
-- has a first key, a last key, its position in the order of the paints, counted from 0, and a value.
use Rattle.std.specs.Prelude.{◌≡◌, ℕ, ◌<◌, ◌≤◌, ℤ, pos, ◌+ℤ◌, ◌≤ℤ◌, ◌<ℤ◌, length, Bool, List, [], ◌∷◌, map, Some, All, slice_get}
use Rattle.std.specs.List.{Contains}
use Rattle.std.specs.Ordering.{nat_cmp, ordering_then}
use Rattle.std.specs.declared.cmp.Ordering.{Ordering}
use Rattle.blaze_entries.specs.Entries.{Entry, entry}
use Rattle.blaze_table.specs.CanonicalOf.{IsCanonicalOf}
use Rattle.blaze_table.specs.declared.sweep.placed.Placed.{Placed}

-- ---- the placed pairs

-- the pair has a key and is in the list at its position
pub record IsPlacedPair {T V : Type 0} (rank : T → ℤ) (ps : List (Entry V)) (p : Placed T V) : Type 0 where
  pub is : slice_get ps p.place ≡ Some (entry (rank p.start) (rank p.end) p.value)
  pub order : rank p.start ≤ℤ rank p.end

abbrev pub places_of : {T V : Type 0} → List (Placed T V) → List ℕ
places_of placed = map (λ p. p.place) placed

-- the pairs among the first n that have a key, each with its position
pub record ArePairsPlacedBelow {T V : Type 0} (rank : T → ℤ) (ps : List (Entry V)) (n : ℕ) (placed : List (Placed T V)) : Type 0 where
  pub known : All (IsPlacedPair rank ps) placed
  pub complete : (j : ℕ) → j < n → (e : Entry V) → slice_get ps j ≡ Some e → e.lo ≤ℤ e.hi → Contains (places_of placed) j

-- the pairs that have a key, each with its position
abbrev pub AreAllPairsPlaced : {T V : Type 0} → (T → ℤ) → List (Entry V) → List (Placed T V) → Type 0
AreAllPairsPlaced rank ps placed = ArePairsPlacedBelow rank ps (length ps) placed

-- the pair has the key k
abbrev pub HasKey : {T V : Type 0} → (T → ℤ) → Placed T V → ℤ → Type 0
HasKey rank p k = (rank p.start ≤ℤ k) × (k ≤ℤ rank p.end)

-- the pair's ends are keys
abbrev pub EndsAreKeys : {T V : Type 0} → (T → ℤ) → ℤ → ℤ → Placed T V → Type 0
EndsAreKeys rank low high p = (low ≤ℤ rank p.start) × (rank p.end ≤ℤ high)

-- no pair starts below a previous one
abbrev pub AreAscending : {T V : Type 0} → (T → ℤ) → List (Placed T V) → Type 0
AreAscending {T} {V} rank placed = (i j : ℕ) (p q : Placed T V) → i ≤ j → slice_get placed i ≡ Some p → slice_get placed j ≡ Some q → rank p.start ≤ℤ rank q.start

-- ---- the waiting pairs, each by its position and its index among the placed pairs

-- std's order of pairs of numbers
abbrev pub place_cmp : ℕ × ℕ → ℕ × ℕ → Ordering
place_cmp a b = ordering_then (nat_cmp a.0 b.0) (nat_cmp a.1 b.1)

-- the pair at the index has the position, and starts at the key a or below
pub record HasStarted {T V : Type 0} (rank : T → ℤ) (placed : List (Placed T V)) (a : ℤ) (wait : ℕ × ℕ) : Type 0 where
  pub pair : Placed T V
  pub is : slice_get placed wait.1 ≡ Some pair
  pub place : pair.place ≡ wait.0
  pub start : rank pair.start ≤ℤ a

-- The waiting pairs include all pairs that start at the key `to` or below and have a key from a on. All of them start
-- at a or below.
pub record IsWaiting {T V : Type 0} (rank : T → ℤ) (placed : List (Placed T V)) (a to : ℤ) (waits : List (ℕ × ℕ)) : Type 0 where
  pub started : All (HasStarted rank placed a) waits
  pub complete : (j : ℕ) (p : Placed T V) → slice_get placed j ≡ Some p → a ≤ℤ rank p.end → rank p.start ≤ℤ to → Contains waits (p.place, j)

-- the waiting pairs that have a key from s on remain
abbrev pub KeepsReaching : {T V : Type 0} → (T → ℤ) → List (Placed T V) → ℤ → List (ℕ × ℕ) → List (ℕ × ℕ) → Type 0
KeepsReaching {T} {V} rank placed s old new = (j : ℕ) (p : Placed T V) → slice_get placed j ≡ Some p → s ≤ℤ rank p.end → Contains old (p.place, j) → Contains new (p.place, j)

-- ---- the pieces, each with the index of its pair

-- no pair has a key from a to below b
abbrev pub IsUncovered : {T V : Type 0} → (T → ℤ) → List (Placed T V) → ℤ → ℤ → Type 0
IsUncovered {T} {V} rank placed a b = (j : ℕ) (p : Placed T V) → slice_get placed j ≡ Some p → (k : ℤ) → a ≤ℤ k → k <ℤ b → HasKey rank p k → ⊥

-- the piece has a key and lies in its pair, and no pair of a later position contains a key of the piece
pub record IsPiece {T V : Type 0} (rank : T → ℤ) (placed : List (Placed T V)) (piece : Entry ℕ) : Type 0 where
  pub pair : Placed T V
  pub is : slice_get placed piece.value ≡ Some pair
  pub order : piece.lo ≤ℤ piece.hi
  pub start : rank pair.start ≤ℤ piece.lo
  pub end : piece.hi ≤ℤ rank pair.end
  pub last : (j : ℕ) (p : Placed T V) → slice_get placed j ≡ Some p → (k : ℤ) → piece.lo ≤ℤ k → k ≤ℤ piece.hi → HasKey rank p k → p.place ≤ pair.place

-- the pieces are what the pairs paint on the keys from a to below b
abbrev pub ArePieces : {T V : Type 0} → (T → ℤ) → List (Placed T V) → ℤ → ℤ → List (Entry ℕ) → Type 0
ArePieces rank placed a b [] = (a ≤ℤ b) × IsUncovered rank placed a b
ArePieces rank placed a b (x ∷ xs) = (a ≤ℤ x.lo) × IsUncovered rank placed a x.lo × IsPiece rank placed x × ArePieces rank placed (x.hi +ℤ pos 1) b xs

-- The pieces below the key a are complete. Those of the first n pairs that have a key from a on are waiting, and the
-- other pairs start at a or above.
pub record IsSweptSoFar {T V : Type 0} (rank : T → ℤ) (low : ℤ) (placed : List (Placed T V)) (a : ℤ) (n : ℕ) (waits : List (ℕ × ℕ)) (pieces : List (Entry ℕ)) : Type 0 where
  pub made : ArePieces rank placed low a pieces
  pub started : All (HasStarted rank placed a) waits
  pub complete : (j : ℕ) (p : Placed T V) → slice_get placed j ≡ Some p → j < n → a ≤ℤ rank p.end → Contains waits (p.place, j)
  pub others : (j : ℕ) (p : Placed T V) → slice_get placed j ≡ Some p → n ≤ j → a ≤ℤ rank p.start

-- the list is the canonical list of the placed pairs
abbrev pub IsCanonicalOfPlaced : {T V : Type 0} → (V → V → Bool) → (T → ℤ) → ℤ → ℤ → List (Placed T V) → List (Entry V) → Type 0
IsCanonicalOfPlaced {T} {V} eq rank low high placed new = (ps : List (Entry V)) → AreAllPairsPlaced rank ps placed → IsCanonicalOf eq low high ps new
