-- The waiting pairs and the later ones during a sweep.
use Rattle.std.proofs.Common.{◌≡◌, ℕ, zero, suc, ◌+◌, ◌<◌, ◌≤◌, ℤ, pos, ◌-ℤ◌, ◌≤ℤ◌, List, [], ◌∷◌, length, All, IsPermutation, Some, refl, subst, arith}
use Rattle.std.specs.Prelude.{slice_get}
use Rattle.std.specs.List.{Contains}
use Rattle.std.proofs.lemmas.Int.{ints}
use Rattle.std.proofs.lemmas.List.Elements.{All-nil, All-cons, Contains-append_right}
use Rattle.std.proofs.lemmas.List.Sorted.{All-permutation, Contains-permutation}
use Rattle.std.proofs.lemmas.Option.{slice_get_within}
use Rattle.blaze_entries.specs.Entries.{Entry}
use Rattle.blaze_table.specs.Pieces.{EndsAreKeys, AreAscending, HasStarted, IsWaiting, KeepsReaching, ArePieces, IsSweptSoFar}
use Rattle.blaze_table.proofs.Sweeping.Pieces.{ended}
use Rattle.blaze_table.proofs.Sweeping.Placed.{one_item, item_of, one_more}
use Rattle.blaze_table.specs.declared.sweep.placed.Placed.{Placed}

contains_head : {X : Type 0} (x : X) (xs : List X) → Contains (x ∷ xs) x
contains_head x xs = (0, omega arith, refl)

contains_tail : {X : Type 0} (x y : X) (xs : List X) → Contains xs y → Contains (x ∷ xs) y
contains_tail x y xs c = Contains-append_right (x ∷ []) xs y c

by_le : {P : Type 0} (j n : ℕ) → (j < n → P) → (n ≤ j → P) → P
by_le j zero below above = above (omega arith)
by_le zero (suc n) below above = below (omega arith)
by_le (suc j) (suc n) below above = by_le j n (λ h. below (omega (arith, h))) (λ h. above (omega (arith, h)))

module _ {T V : Type 0} (rank : T → ℤ) (low : ℤ) (placed : List (Placed T V)) where
  -- at the least key no pair waits
  pub underway_none : (high : ℤ) → All (EndsAreKeys rank low high) placed → IsSweptSoFar rank low placed low 0 [] []
  underway_none high keys = record {
    made = ended rank placed low;
    started = All-nil (HasStarted rank placed low);
    complete = λ j p q l u. absurd (omega arith);
    others = λ j p q l. (item_of (EndsAreKeys rank low high) placed j p keys q).0;
  }

  module _ (up : AreAscending rank placed) (a : ℤ) (n : ℕ) (waits : List (ℕ × ℕ)) (pieces : List (Entry ℕ)) (c : IsSweptSoFar rank low placed a n waits pieces) where
    -- all pairs that start below the next one wait
    pub waits_for : (s : Placed T V) → slice_get placed n ≡ Some s → IsWaiting rank placed a (rank s.start -ℤ pos 1) waits
    waits_for s is = record {
      started = c.started;
      complete = λ j p q r l. by_le j n (λ h. c.complete j p q h r) (λ h. let f = up n j s p h is q in absurd (omega (arith, ints, f, l)));
    }

    -- all pairs wait
    pub all_wait : (to : ℤ) → length placed ≤ n → IsWaiting rank placed a to waits
    all_wait to l = record {
      started = c.started;
      complete = λ j p q r s. let w = slice_get_within placed j p q in c.complete j p q (omega (arith, w, l)) r;
    }

    -- one more pair waits
    pub underway_more : (s : Placed T V) → slice_get placed n ≡ Some s → (kept new : List (ℕ × ℕ)) (more : List (Entry ℕ))
        → IsWaiting rank placed (rank s.start) (rank s.start -ℤ pos 1) kept → KeepsReaching rank placed (rank s.start) waits kept → ArePieces rank placed low (rank s.start) more → IsPermutation ((s.place, n) ∷ kept) new
        → IsSweptSoFar rank low placed (rank s.start) (n + 1) new more
    underway_more s is kept new more w k made p =
        let b = rank s.start in
        let from = c.others n s is (omega arith) in
        record {
          made = made;
          started = All-permutation (HasStarted rank placed b) ((s.place, n) ∷ kept) new p (All-cons (HasStarted rank placed b) (s.place, n) kept (record { pair = s; is = is; place = refl; start = omega (arith, ints) }) w.started);
          complete = λ j q r l u. Contains-permutation ((s.place, n) ∷ kept) new (q.place, j) p
              (one_more (λ i. (q : Placed T V) → slice_get placed i ≡ Some q → b ≤ℤ rank q.end → Contains ((s.place, n) ∷ kept) (q.place, i)) n
              (λ i h q r u. contains_tail (s.place, n) (q.place, i) kept (k i q r u (c.complete i q r h (omega (arith, ints, from, u)))))
              (λ q r u. subst (λ (x : Placed T V). Contains ((s.place, n) ∷ kept) (x.place, n)) (one_item placed n s q is r) (contains_head (s.place, n) kept))
              j l q r u);
          others = λ j q r l. up n j s q (omega (arith, l)) is r;
        }
