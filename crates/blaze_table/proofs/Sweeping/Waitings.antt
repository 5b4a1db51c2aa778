-- The waiting pairs: which of them paints, and which of them remain.
use Rattle.std.proofs.Common.{◌≡◌, ℕ, zero, suc, ◌<◌, ◌≤◌, ℤ, pos, ◌+ℤ◌, ◌-ℤ◌, ◌≤ℤ◌, ◌<ℤ◌, List, [], ◌∷◌, length, All, IsPermutation, Some, refl, ap, subst, arith, get_or, inl, inr, ⊎_elim}
use Rattle.std.specs.Prelude.{slice_get, slice_index_or, ◌⊎◌}
use Rattle.std.specs.List.{Contains}
use Rattle.std.proofs.lemmas.Int.{ints}
use Rattle.std.proofs.lemmas.List.Elements.{All-contains, All-tail, All-weaker}
use Rattle.std.proofs.lemmas.List.Sorted.{All-permutation, Contains-permutation}
use Rattle.std.proofs.lemmas.Option.{slice_get_read, slice_get_within}
use Rattle.blaze_table.specs.Pieces.{HasKey, HasStarted, IsWaiting, KeepsReaching}
use Rattle.blaze_table.proofs.Sweeping.Placed.{one_item, item_of}
use Rattle.blaze_table.specs.declared.sweep.placed.Placed.{Placed}

pub contains_cases : {X : Type 0} (x y : X) (xs : List X) → Contains (x ∷ xs) y → (x ≡ y) ⊎ Contains xs y
contains_cases x y xs c = elim_index c.0 c.1 c.2
  where
    elim_index : (k : ℕ) → k < length (x ∷ xs) → slice_index_or (x ∷ xs) k y ≡ y → (x ≡ y) ⊎ Contains xs y
    elim_index zero l q = inl q
    elim_index (suc k) l q = inr (k, omega arith, q)

contains_none : {X : Type 0} (y : X) → Contains [] y → ⊥
contains_none y c = let h : c.0 < 0 = c.1 in absurd (omega arith)

module _ {T V : Type 0} (rank : T → ℤ) (placed : List (Placed T V)) where
  module _ (a to : ℤ) (waits : List (ℕ × ℕ)) (w : IsWaiting rank placed a to waits) where
    -- the pair of the top has started
    pub top_pair : (top : ℕ × ℕ) → slice_get waits 0 ≡ Some top → HasStarted rank placed a top
    top_pair top first = item_of (HasStarted rank placed a) waits 0 top w.started first

    -- the pair of the top, as the code reads it
    pub top_read : (top : ℕ × ℕ) (p : Placed T V) → slice_get waits 0 ≡ Some top → p ≡ get_or placed top.1 p → slice_get placed top.1 ≡ Some p
    top_read top p first q = let begun = top_pair top first in slice_get_read placed (length placed) top.1 p refl (slice_get_within placed top.1 begun.pair begun.is) q

    -- no pair with a key from a to `to` has a later position than the waiting ones
    pub top_is_last : (top : ℕ) → All (λ x. x.0 ≤ top) waits → (j : ℕ) (p : Placed T V) → slice_get placed j ≡ Some p → (k : ℤ) → a ≤ℤ k → k ≤ℤ to → HasKey rank p k → p.place ≤ top
    top_is_last top greatest j p q k l u h = All-contains (λ x. x.0 ≤ top) waits (p.place, j) greatest (w.complete j p q (omega (arith, ints, h.1)) (omega (arith, ints, h.0)))

    -- if no pair waits, no pair has a key from a to `to`
    pub none_is : waits ≡ [] → (j : ℕ) (p : Placed T V) → slice_get placed j ≡ Some p → (k : ℤ) → a ≤ℤ k → k ≤ℤ to → HasKey rank p k → ⊥
    none_is n j p q k l u h = contains_none (p.place, j) (subst (λ xs. Contains xs (p.place, j)) n (w.complete j p q (omega (arith, ints, h.1)) (omega (arith, ints, h.0))))

    -- at a higher key
    pub waiting_from : (b : ℤ) → a ≤ℤ b → IsWaiting rank placed b to waits
    waiting_from b l = record {
      started = All-weaker (HasStarted rank placed a) (HasStarted rank placed b) (λ x h. record { pair = h.pair; is = h.is; place = h.place; start = omega (arith, ints, h.start) }) waits w.started;
      complete = λ j p q r s. w.complete j p q (omega (arith, ints)) s;
    }

    -- the top is removed, since its pair ends below a
    pub waiting_less : (top : ℕ × ℕ) (e : Placed T V) (rest : List (ℕ × ℕ)) → slice_get placed top.1 ≡ Some e → rank e.end <ℤ a → IsPermutation waits (top ∷ rest) → IsWaiting rank placed a to rest
    waiting_less top e rest q l p = record {
      started = All-tail (HasStarted rank placed a) top rest (All-permutation (HasStarted rank placed a) waits (top ∷ rest) p w.started);
      complete = λ j f r s t. ⊎_elim
          (λ (m : top ≡ (f.place, j)). let same : e ≡ f = one_item placed j e f (subst (λ i. slice_get placed i ≡ Some e) (ap (λ (x : ℕ × ℕ). x.1) m) q) r in absurd (omega (arith, ints, ap (λ (x : Placed T V). rank x.end) same)))
          (λ c. c)
          (contains_cases top (f.place, j) rest (Contains-permutation waits (top ∷ rest) (f.place, j) p (w.complete j f r s t)));
    }

  -- the waiting pairs after the key t, which is before s, are those at s
  pub waiting_moved : (waits : List (ℕ × ℕ)) (t s : ℤ) → t ≡ s -ℤ pos 1 → IsWaiting rank placed (t +ℤ pos 1) t waits → IsWaiting rank placed s (s -ℤ pos 1) waits
  waiting_moved waits t s q w =
      let back : s -ℤ pos 1 +ℤ pos 1 ≡ s = omega (arith, ints) in
      subst (λ x. IsWaiting rank placed x (s -ℤ pos 1) waits) back (subst (λ x. IsWaiting rank placed (x +ℤ pos 1) x waits) q w)

  -- a waiting pair with a key from s on still waits
  pub waiting_kept : (a to s : ℤ) (old new : List (ℕ × ℕ)) → IsWaiting rank placed a to old → IsWaiting rank placed s (s -ℤ pos 1) new → a <ℤ s → KeepsReaching rank placed s old new
  waiting_kept a to s old new w n l j p q u c =
      let begun = All-contains (HasStarted rank placed a) old (p.place, j) w.started c in
      let same : begun.pair ≡ p = one_item placed j begun.pair p begun.is q in
      n.complete j p q u (omega (arith, ints, begun.start, ap (λ (x : Placed T V). rank x.start) same))
