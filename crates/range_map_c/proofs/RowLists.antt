-- A union with the map of a table's rows paints them; and rows that are written one by one.
use Rattle.std.specs.Prelude.{◌≡◌, ℕ, ℤ, ◌+◌, ◌<◌, ◌≤◌, List, [], ◌∷◌, ◌++◌, length, take, slice_set, min, Option, Some, None, nat_eq}
use Rattle.std.specs.Option.{option_or}
use Rattle.std.proofs.Common.{refl, sym, subst, ap, ◌∙◌, arith}
use Rattle.std.proofs.lemmas.List.{take_more_set, length-take-le, length-append}
use Rattle.std.proofs.Math.Seq.{take-append_seam}
use Rattle.std.proofs.Math.Nat.{min-eq_left, min-eq_right}
use Rattle.blaze_entries.specs.Entries.{Entry, entry, at, SameOption}
use Rattle.blaze_table.specs.CanonicalOf.{IsCanonicalOf}
use Rattle.blaze_entries.specs.Painted.{last_at}
use Rattle.range_map_blaze.specs.Union.{IsUnion}
use Rattle.range_map_c.specs.Handle.{least_key, greatest_key}
use Rattle.range_map_c.specs.Tables.{rows, AreRowsPainted}
use Rattle.range_map_c.proofs.InOrder.{length-rows}
use Rattle.blaze_entries.proofs.Plain.{same_is}

or_none : {V : Type 0} (o : Option V) → option_or o None ≡ o
or_none None = refl
or_none (Some x) = refl

pub rows_painted : (table over old new : List (Entry ℕ)) → IsCanonicalOf nat_eq least_key greatest_key table over → IsUnion nat_eq least_key greatest_key old over new
    → AreRowsPainted least_key greatest_key table old new
rows_painted table over old new made united = record {
  range_map = united.chosen.range_map;
  content = λ k.
      let is : at over k ≡ last_at table k = sym (same_is _ _ (made.content k)) ∙ or_none (last_at table k) in
      subst (λ o. SameOption nat_eq (at new k) (option_or o (at old k))) is (united.chosen.content k);
}

module _ {V : Type 0} where
  rows_end : (los his : List ℤ) (vs : List V) (x y : ℤ) (z : V) (left : List (Entry V)) → length his ≡ length los → length vs ≡ length los
      → rows (los ++ x ∷ []) (his ++ y ∷ []) (vs ++ z ∷ []) ++ left ≡ rows los his vs ++ entry x y z ∷ left
  rows_end [] [] [] x y z left p q = refl
  rows_end [] [] (v ∷ vs) x y z left p q = absurd (omega arith)
  rows_end [] (h ∷ hs) vs x y z left p q = absurd (omega arith)
  rows_end (l ∷ ls) [] vs x y z left p q = absurd (omega arith)
  rows_end (l ∷ ls) (h ∷ hs) [] x y z left p q = absurd (omega arith)
  rows_end (l ∷ ls) (h ∷ hs) (v ∷ vs) x y z left p q = ap (λ es. entry l h v ∷ es) (rows_end ls hs vs x y z left (omega arith) (omega arith))

  module _ (los his : List ℤ) (vs : List V) (i : ℕ) (his_long : length his ≡ length los) (vs_long : length vs ≡ length los) where
    long_his : i ≤ length los → length (take i his) ≡ length (take i los)
    long_his p = length-take-le i his (subst (λ n. i ≤ n) (sym his_long) p) ∙ sym (length-take-le i los p)

    long_vs : i ≤ length los → length (take i vs) ≡ length (take i los)
    long_vs p = length-take-le i vs (subst (λ n. i ≤ n) (sym vs_long) p) ∙ sym (length-take-le i los p)

    -- the entry that an iterator gave is written at the place i
    pub row_written : (x y : ℤ) (z : V) (new old : List (Entry V)) (e : Entry V) → i < length los → old ≡ e ∷ new → e.lo ≡ x → e.hi ≡ y → e.value ≡ z
        → rows (take (i + 1) (slice_set los i x)) (take (i + 1) (slice_set his i y)) (take (i + 1) (slice_set vs i z)) ++ new ≡ rows (take i los) (take i his) (take i vs) ++ old
    row_written x y z new old e p is low high value =
        ap (λ xs. rows xs (take (i + 1) (slice_set his i y)) (take (i + 1) (slice_set vs i z)) ++ new) (take_more_set los i x p)
        ∙ ap (λ ys. rows (take i los ++ x ∷ []) ys (take (i + 1) (slice_set vs i z)) ++ new) (take_more_set his i y (subst (λ n. i < n) (sym his_long) p))
        ∙ ap (λ zs. rows (take i los ++ x ∷ []) (take i his ++ y ∷ []) zs ++ new) (take_more_set vs i z (subst (λ n. i < n) (sym vs_long) p))
        ∙ rows_end (take i los) (take i his) (take i vs) x y z new (long_his (omega arith)) (long_vs (omega arith))
        ∙ ap (λ es. rows (take i los) (take i his) (take i vs) ++ es)
        (ap (λ l. entry l y z ∷ new) (sym low) ∙ ap (λ h. entry e.lo h z ∷ new) (sym high) ∙ ap (λ w. entry e.lo e.hi w ∷ new) (sym value) ∙ sym is)

    module _ (left all : List (Entry V)) (p : i ≤ length los) (whole : rows (take i los) (take i his) (take i vs) ++ left ≡ all) where
      long : length (rows (take i los) (take i his) (take i vs)) ≡ i
      long = length-rows (take i los) (take i his) (take i vs) (long_his p) (long_vs p) ∙ length-take-le i los p

      pub rows_taken : rows (take i los) (take i his) (take i vs) ≡ take i all
      rows_taken = sym (subst (λ n. take n (rows (take i los) (take i his) (take i vs) ++ left) ≡ rows (take i los) (take i his) (take i vs)) long (take-append_seam _ left)) ∙ ap (λ es. take i es) whole

      pub rows_counted : length all ≡ i + length left
      rows_counted = ap length (sym whole) ∙ length-append _ left ∙ ap (λ n. n + length left) long

-- how many rows were written: all, or as many as there is room for
pub count_all : (i n m k : ℕ) → m ≡ i + k → k ≡ 0 → i ≤ n → i ≡ min n m
count_all i n m k all none room = let same : m ≡ i = omega arith in sym (min-eq_right (subst (λ j. j ≤ n) (sym same) room) ∙ same)

pub count_full : (i n m k : ℕ) → m ≡ i + k → i ≡ n → i ≡ min n m
count_full i n m k all full = full ∙ sym (min-eq_left (omega arith))
