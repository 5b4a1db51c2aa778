-- Pieces get the values of their pairs, one by one.
use Rattle.std.proofs.Common.{◌≡◌, ℕ, zero, suc, ◌-◌, ℤ, pos, ◌+ℤ◌, ◌≤ℤ◌, Bool, false, List, [], ◌∷◌, length, map, Option, Some, None, refl, ◌∙◌, sym, ap, subst, arith, nat_eq, option_map, All}
use Rattle.std.specs.Prelude.{slice_get, IsSome}
use Rattle.std.specs.Cmp.{IsEquivalence}
use Rattle.std.proofs.lemmas.Int.{ints, by_lt_z}
use Rattle.blaze_int.proofs.Comparisons.{by_bool}
use Rattle.blaze_entries.proofs.Alike.{same_trans}
use Rattle.blaze_entries.specs.Entries.{Entry, entry, SameOption}
use Rattle.blaze_entries.specs.Painted.{last_at}
use Rattle.blaze_entries.specs.Splice.{glue}
use Rattle.blaze_table.specs.declared.sweep.pair_value.PairValue.{PairValue}
use Rattle.blaze_table.specs.declared.sweep.pair_value.PairValue.TheVariants.{Present, Moved}
use Rattle.blaze_table.specs.declared.sweep.placed.Placed.{Placed}
use Rattle.blaze_table.specs.PairValue.{unmoved_value, value_of_pair, value_in, PutsPiece}
use Rattle.blaze_table.specs.Pieces.{AreAllPairsPlaced, EndsAreKeys, ArePieces, IsCanonicalOfPlaced}
use Rattle.blaze_table.specs.Swept.{IsSwept}
use Rattle.blaze_table.proofs.Sweeping.Canonicals.{canonical_of_swept}
use Rattle.blaze_table.proofs.Sweeping.PairValues.{get_set_same, get_set_other, glue_keeps, glue_last, within_held}
use Rattle.blaze_table.proofs.Sweeping.Pieces.{same_number}
use Rattle.blaze_table.proofs.Sweeping.Placed.{one_item, item_of, none_at, value_of}
use Rattle.blaze_table.proofs.Sweeping.Sweeps.{swept_none, swept_more}

-- The list has what the pairs paint below the key `from`. The pieces from there on remain, and each pair's value is
-- available.
pub record IsFilledSoFar {T V : Type 0} (eq : V → V → Bool) (rank : T → ℤ) (low high : ℤ) (placed : List (Placed T V)) (b : ℤ) (rest : List (Entry ℕ)) (out : List (Entry V)) (values : List (PairValue V)) : Type 0 where
  pub from : ℤ
  pub swept : (ps : List (Entry V)) → AreAllPairsPlaced rank ps placed → IsSwept eq low high (last_at ps) from out
  pub left : ArePieces rank placed from b rest
  pub at_hand : (j : ℕ) (p : Placed T V) → slice_get placed j ≡ Some p → SameOption eq (value_in out values j) (Some p.value)

not_itself : (a b : ℕ) → nat_eq a b ≡ false → a ≡ b → ⊥
not_itself a b h q = grind arith

module _ {V : Type 0} (eq : V → V → Bool) (laws : IsEquivalence eq) where
  -- an entry keeps its value when one more is appended
  held_keeps : (out : List (Entry V)) (p : Entry V) (o : Option (PairValue V)) (w : V) → SameOption eq (value_of_pair out o) (Some w) → SameOption eq (value_of_pair (glue eq out (p ∷ [])) o) (Some w)
  held_keeps out p None w s = s
  held_keeps out p (Some (Present v)) w s = s
  held_keeps out p (Some (Moved i)) w s = of (option_map (λ (e : Entry V). e.value) (slice_get out i)) refl s
    where
      of : (o : Option V) → option_map (λ (e : Entry V). e.value) (slice_get out i) ≡ o → SameOption eq o (Some w) → SameOption eq (option_map (λ (e : Entry V). e.value) (slice_get (glue eq out (p ∷ [])) i)) (Some w)
      of None q t = absurd t
      of (Some v) q t = subst (λ o. SameOption eq o (Some w)) (sym (glue_keeps eq out p i v q)) t

  module _ {T : Type 0} (rank : T → ℤ) (low high : ℤ) (placed : List (Placed T V)) (keys : All (EndsAreKeys rank low high) placed) where
    kept_first : (xs : List (Placed T V)) (j : ℕ) (p : Placed T V) → slice_get xs j ≡ Some p → SameOption eq (value_in [] (map unmoved_value xs) j) (Some p.value)
    kept_first [] j p q = cc
    kept_first (x ∷ xs) zero p q = subst (λ (o : Option (Placed T V)). SameOption eq (Some x.value) (option_map (λ (p : Placed T V). p.value) o)) q (laws.refl x.value)
    kept_first (x ∷ xs) (suc j) p q = kept_first xs j p q

    pub filled_none : (b : ℤ) (pieces : List (Entry ℕ)) → ArePieces rank placed low b pieces → IsFilledSoFar eq rank low high placed b pieces [] (map unmoved_value placed)
    filled_none b pieces made = record {
      from = low;
      swept = λ ps are. swept_none eq laws low high (last_at ps) low (λ k l. none_at rank ps placed are k (λ i p q h. let e = item_of (EndsAreKeys rank low high) placed i p keys q in omega (arith, ints, l, h.0, e.0)));
      left = made;
      at_hand = kept_first placed;
    }

    pub some_value : (b : ℤ) (x : Entry ℕ) (rest : List (Entry ℕ)) (out : List (Entry V)) (values : List (PairValue V)) → IsFilledSoFar eq rank low high placed b (x ∷ rest) out values → IsSome (value_in out values x.value)
    some_value b x rest out values c = some (value_in out values x.value) c.left.2.pair.value (c.at_hand x.value c.left.2.pair c.left.2.is)
      where
        some : (o : Option V) (w : V) → SameOption eq o (Some w) → IsSome o
        some None w s = absurd s
        some (Some v) w s = refl

    -- one piece more
    pub filled_more : (b : ℤ) (x : Entry ℕ) (rest : List (Entry ℕ)) (out new : List (Entry V)) (values after : List (PairValue V)) → low ≤ℤ x.lo → x.hi ≤ℤ high → PutsPiece eq x.lo x.hi x.value out new values after
        → IsFilledSoFar eq rank low high placed b (x ∷ rest) out values → IsFilledSoFar eq rank low high placed b rest new after
    filled_more b x rest out new values after f u puts c =
        let piece = c.left.2 in
        let p = entry x.lo x.hi puts.value in
        let alike : SameOption eq (Some puts.value) (Some piece.pair.value) = same_trans eq laws (Some puts.value) (value_in out values x.value) (Some piece.pair.value) puts.alike (c.at_hand x.value piece.pair piece.is) in
        record {
          from = x.hi +ℤ pos 1;
          swept = λ ps are. swept_more eq laws low high (last_at ps) c.from x.lo x.hi puts.value out new c.left.0 (λ k l h. none_at rank ps placed are k (λ i y q w. c.left.1 i y q k l h w)) piece.order f u
              (λ k l h. subst (SameOption eq (Some puts.value)) (sym (value_of rank ps placed are x piece k l h)) alike) puts.glued (c.swept ps are);
          left = c.left.3;
          at_hand = λ j pair q. by_bool (nat_eq x.value j)
              (λ t. let here = same_number x.value j t in
              let same : pair ≡ piece.pair = one_item placed j pair piece.pair q (subst (λ i. slice_get placed i ≡ Some piece.pair) here piece.is) in
              let there : slice_get after j ≡ Some (Moved (length new - 1)) =
              subst (λ i. slice_get after i ≡ Some (Moved (length new - 1))) here
              (ap (λ l. slice_get l x.value) puts.moved ∙ get_set_same values x.value (Moved (length new - 1)) (within_held out values x.value (some_value b x rest out values c))) in
              let last : SameOption eq (option_map (λ (e : Entry V). e.value) (slice_get new (length new - 1))) (Some puts.value) =
              subst (λ l. SameOption eq (option_map (λ (e : Entry V). e.value) (slice_get l (length l - 1))) (Some puts.value)) (sym puts.glued) (glue_last eq laws out p) in
              subst (λ o. SameOption eq (value_of_pair new o) (Some pair.value)) (sym there)
              (subst (λ (y : Placed T V). SameOption eq (value_of_pair new (Some (Moved (length new - 1)))) (Some y.value)) (sym same)
              (same_trans eq laws (value_of_pair new (Some (Moved (length new - 1)))) (Some puts.value) (Some piece.pair.value) last alike)))
              (λ t. let there : slice_get after j ≡ slice_get values j = ap (λ l. slice_get l j) puts.moved ∙ get_set_other values x.value j (Moved (length new - 1)) (not_itself x.value j t) in
              subst (λ o. SameOption eq (value_of_pair new o) (Some pair.value)) (sym there)
              (subst (λ l. SameOption eq (value_of_pair l (slice_get values j)) (Some pair.value)) (sym puts.glued) (held_keeps out p (slice_get values j) pair.value (c.at_hand j pair q))));
        }

    -- no piece remains
    pub filled_all : (b : ℤ) (out : List (Entry V)) (values : List (PairValue V)) → b ≡ high +ℤ pos 1 → IsFilledSoFar eq rank low high placed b [] out values → IsCanonicalOfPlaced eq rank low high placed out
    filled_all b out values e c ps are = canonical_of_swept eq laws low high c.from ps out (c.swept ps are)
        (λ k l. none_at rank ps placed are k (λ i p q h. by_lt_z k b (λ s. c.left.1 i p q k l s h) (λ s. let r = item_of (EndsAreKeys rank low high) placed i p keys q in omega (arith, ints, r.1, e, h.1, s))))
