-- Pieces appended one by one.
use Rattle.blaze_table.proofs.Words.{by_join}
use Rattle.std.proofs.Common.{◌≡◌, ℕ, ◌≤◌, ℤ, pos, ◌+ℤ◌, ◌≤ℤ◌, true, List, [], ◌∷◌, Some, refl, sym, ap, subst, arith, nat_eq, All}
use Rattle.std.specs.Prelude.{slice_get}
use Rattle.std.proofs.lemmas.Int.{ints, by_lt_z}
use Rattle.blaze_entries.specs.Entries.{Entry, entry}
use Rattle.blaze_entries.specs.Splice.{glue}
use Rattle.blaze_table.specs.Pieces.{IsUncovered, IsPiece, ArePieces, IsWaiting}
use Rattle.blaze_table.proofs.Sweeping.Placed.{one_item}
use Rattle.blaze_table.proofs.Sweeping.Waitings.{top_pair, top_is_last, none_is}
use Rattle.blaze_table.specs.declared.sweep.placed.Placed.{Placed}

pub same_number : (a b : ℕ) → nat_eq a b ≡ true → a ≡ b
same_number a b h = grind arith

module _ {T V : Type 0} (rank : T → ℤ) (placed : List (Placed T V)) where
  -- no pair has a key from b to below c
  pub pieces_gap : (a b c : ℤ) (xs : List (Entry ℕ)) → b ≤ℤ c → IsUncovered rank placed b c → ArePieces rank placed a b xs → ArePieces rank placed a c xs
  pieces_gap a b c [] l bare m = (omega (arith, ints, m.0), λ j p q k f u h. by_lt_z k b (λ s. m.1 j p q k f s h) (λ s. bare j p q k s u h))
  pieces_gap a b c (x ∷ xs) l bare m = (m.0, m.1, m.2, pieces_gap (x.hi +ℤ pos 1) b c xs l bare m.3)

  -- no key is between
  pub ended : (a : ℤ) → ArePieces rank placed a a []
  ended a = (omega (arith, ints), λ j p q k f u h. omega (arith, ints, f, u))

  -- two touching pieces of one pair are joined
  joined : (x p : Entry ℕ) → x.value ≡ p.value → p.lo ≡ x.hi +ℤ pos 1 → IsPiece rank placed x → IsPiece rank placed p → IsPiece rank placed (entry x.lo p.hi x.value)
  joined x p v t i j =
      let same : j.pair ≡ i.pair = one_item placed x.value j.pair i.pair (subst (λ n. slice_get placed n ≡ Some j.pair) (sym v) j.is) i.is in
      record {
        pair = i.pair;
        is = i.is;
        order = omega (arith, ints, i.order, j.order);
        start = i.start;
        end = omega (arith, ints, j.end, ap (λ (y : Placed T V). rank y.end) same);
        last = λ m q is k l u h. by_lt_z x.hi k
            (λ s. let n = j.last m q is k (omega (arith, ints)) u h in omega (arith, n, ap (λ (y : Placed T V). y.place) same))
            (λ s. i.last m q is k l s h);
      }

  -- one more piece
  pub pieces_more : (a b : ℤ) (xs : List (Entry ℕ)) (p : Entry ℕ) → p.lo ≡ b → IsPiece rank placed p → ArePieces rank placed a b xs → ArePieces rank placed a (p.hi +ℤ pos 1) (glue nat_eq xs (p ∷ []))
  pieces_more a b [] p q i m = (omega (arith, ints, m.0), λ j y r k f u. m.1 j y r k f (omega (arith, ints)), i, ended (p.hi +ℤ pos 1))
  pieces_more a b (x ∷ []) p q i m = by_join nat_eq x p []
      (λ t v r. subst (ArePieces rank placed a (p.hi +ℤ pos 1)) (sym r) (m.0, m.1, joined x p (same_number x.value p.value v) t m.2 i, ended (p.hi +ℤ pos 1)))
      (λ n r. subst (ArePieces rank placed a (p.hi +ℤ pos 1)) (sym r) (m.0, m.1, m.2, (omega (arith, ints, m.3.0), λ j y r k f u. m.3.1 j y r k f (omega (arith, ints)), i, ended (p.hi +ℤ pos 1))))
  pieces_more a b (x ∷ y ∷ xs) p q i m = (m.0, m.1, m.2, pieces_more (x.hi +ℤ pos 1) b (y ∷ xs) p q i m.3)

  module _ (low a to : ℤ) (order : a ≤ℤ to) (waits : List (ℕ × ℕ)) (w : IsWaiting rank placed a to waits) (xs : List (Entry ℕ)) (m : ArePieces rank placed low a xs) where
    -- the top, the waiting pair with the greatest position, contains the keys up to t
    pub pieces_to : (top : ℕ × ℕ) (e : Placed T V) → slice_get waits 0 ≡ Some top → All (λ x. x.0 ≤ top.0) waits → slice_get placed top.1 ≡ Some e
        → (t : ℤ) → a ≤ℤ t → t ≤ℤ to → t ≤ℤ rank e.end → (new : List (Entry ℕ)) → new ≡ glue nat_eq xs (entry a t top.1 ∷ []) → ArePieces rank placed low (t +ℤ pos 1) new
    pieces_to top e first greatest is t f u h new r =
        let begun = top_pair rank placed a to waits w top first in
        let same : begun.pair ≡ e = one_item placed top.1 begun.pair e begun.is is in
        subst (ArePieces rank placed low (t +ℤ pos 1)) (sym r) (pieces_more low a xs (entry a t top.1) refl
        (record {
          pair = e;
          is = is;
          order = f;
          start = omega (arith, ints, begun.start, ap (λ (y : Placed T V). rank y.start) same);
          end = h;
          last = λ j p q k l v k_in. let n = top_is_last rank placed a to waits w top.0 greatest j p q k l (omega (arith, ints)) k_in in omega (arith, n, begun.place, ap (λ (y : Placed T V). y.place) same);
        }) m)

    -- no pair waits
    pub pieces_rest : waits ≡ [] → ArePieces rank placed low (to +ℤ pos 1) xs
    pieces_rest n = pieces_gap low a (to +ℤ pos 1) xs (omega (arith, ints)) (λ j p q k l u. none_is rank placed a to waits w n j p q k l (omega (arith, ints))) m
