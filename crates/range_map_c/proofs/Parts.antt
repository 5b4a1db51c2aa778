-- A first part of rows or entries, painted one by one.
use Rattle.std.specs.Cmp.{nat_eq_equiv}
use Rattle.std.specs.Option.{option_or}
use Rattle.std.specs.Prelude.{int_le, nat_eq, zero, suc, length, take, drop, slice_index_or}
use Rattle.std.proofs.Common.{◌≡◌, ℕ, ◌+◌, ◌<◌, ℤ, pos, negsuc, Bool, true, false, ◌&&◌, cond, List, [], ◌∷◌, ◌++◌, Some, None, Result, Ok, Err, OnOk, OnErr, refl, ◌∙◌, sym, ap, subst, arith, inl, inr, w32, to_z, of_z}
use Rattle.blaze_entries.specs.Entries.{Entry, entry, at, SameOption}
use Rattle.blaze_entries.proofs.Alike.{same_itself}
use Rattle.blaze_entries.specs.Canonical.{IsRangeMap}
use Rattle.blaze_entries.specs.Painted.{IsPainted, last_at, painted_in_order}
use Rattle.range_map_blaze.specs.Extended.{ArePaintedInTurn, IsPartPaintedInTurn}
use Rattle.range_map_blaze.specs.Union.{IsUnion}
use Rattle.range_map_blaze.proofs.Paints.PaintedOver.{painted_over}
use Rattle.range_map_blaze.proofs.Paints.Paintings.{in_turn, last_append}
use Rattle.range_map_blaze.proofs.Unions.{union_of}
use Rattle.range_map_c.specs.Handle.{least_key, greatest_key}
use Rattle.range_map_c.specs.Status.{IsStatus, OnRefused}
use Rattle.range_map_c.specs.Tables.{rows, AreRowsPainted, IsPartPainted}
use Rattle.blaze_entries.proofs.Plain.{same_is}

pub none_painted : (old : List (Entry ℕ)) → IsRangeMap nat_eq least_key greatest_key old → AreRowsPainted least_key greatest_key [] old old
none_painted old r = record { range_map = r; content = λ k. same_itself nat_eq nat_eq_equiv (at old k) }

-- one more row
pub more_painted : (done old cur new : List (Entry ℕ)) (l h : ℤ) (v : ℕ) → AreRowsPainted least_key greatest_key done old cur → IsPainted nat_eq least_key greatest_key (entry l h v) cur new
    → AreRowsPainted least_key greatest_key (done ++ entry l h v ∷ []) old new
more_painted done old cur new l h v before one = record {
  range_map = one.range_map;
  content = λ k.
      subst (λ o. SameOption nat_eq (at new k) (option_or o (at old k))) (sym (last_append done (entry l h v ∷ []) k))
      (by_bool k (int_le l k && int_le k h) (one.content k) (same_is (at cur k) (painted_in_order done (at old) k) (before.content k)));
}
  where
    by_bool : (k : ℤ) (b : Bool) → SameOption nat_eq (at new k) (cond b (Some v) (at cur k)) → painted_in_order done (at old) k ≡ at cur k
        → SameOption nat_eq (at new k) (option_or (option_or (option_or None (cond b (Some v) None)) (last_at done k)) (at old k))
    by_bool k true s e = s
    by_bool k false s e = subst (SameOption nat_eq (at new k)) (sym e) s

pub none_part : (rows old : List (Entry ℕ)) → IsRangeMap nat_eq least_key greatest_key old → IsPartPainted least_key greatest_key rows old old
none_part rows old r = record { done = []; left = rows; parts = refl; painted = none_painted old r }

pub part_in_turn : (rows old new : List (Entry ℕ)) → IsRangeMap nat_eq least_key greatest_key old → IsPartPaintedInTurn nat_eq least_key greatest_key rows old new → IsPartPainted least_key greatest_key rows old new
part_in_turn rows old new r part =
    let all = in_turn nat_eq nat_eq_equiv least_key greatest_key part.done old new r part.painted in
    record { done = part.done; left = part.rest; parts = part.parts; painted = record { range_map = all.range_map; content = all.content } }

-- a range map's entries, painted one by one, make a union
pub union_in_turn : (over old new : List (Entry ℕ)) → IsRangeMap nat_eq least_key greatest_key old → IsRangeMap nat_eq least_key greatest_key over
    → ArePaintedInTurn nat_eq least_key greatest_key over old new → IsUnion nat_eq least_key greatest_key old over new
union_in_turn over old new r o painted =
    union_of nat_eq nat_eq_equiv least_key greatest_key old over new r o
    (painted_over nat_eq nat_eq_equiv least_key greatest_key old over new o (in_turn nat_eq nat_eq_equiv least_key greatest_key over old new r painted))

-- ---- the rows of a table up to a position, and from there on

module _ {V : Type 0} where
  pub rows_parts : (i : ℕ) (los his : List ℤ) (vs : List V) → length his ≡ length los → length vs ≡ length los
      → rows los his vs ≡ rows (take i los) (take i his) (take i vs) ++ rows (drop i los) (drop i his) (drop i vs)
  rows_parts zero los his vs p q = refl
  rows_parts (suc i) [] his vs p q = refl
  rows_parts (suc i) (l ∷ los) [] vs p q = absurd (omega arith)
  rows_parts (suc i) (l ∷ los) (h ∷ his) [] p q = absurd (omega arith)
  rows_parts (suc i) (l ∷ los) (h ∷ his) (v ∷ vs) p q = ap (λ es. entry l h v ∷ es) (rows_parts i los his vs (omega arith) (omega arith))

  next_row : (i : ℕ) (los his : List ℤ) (vs : List V) (d e : ℤ) (f : V) → length his ≡ length los → length vs ≡ length los → i < length los
      → rows (take (suc i) los) (take (suc i) his) (take (suc i) vs)
      ≡ rows (take i los) (take i his) (take i vs) ++ entry (slice_index_or los i d) (slice_index_or his i e) (slice_index_or vs i f) ∷ []
  next_row i [] his vs d e f p q lt = absurd (omega arith)
  next_row i (l ∷ los) [] vs d e f p q lt = absurd (omega arith)
  next_row i (l ∷ los) (h ∷ his) [] d e f p q lt = absurd (omega arith)
  next_row zero (l ∷ los) (h ∷ his) (v ∷ vs) d e f p q lt = refl
  next_row (suc i) (l ∷ los) (h ∷ his) (v ∷ vs) d e f p q lt = ap (λ es. entry l h v ∷ es) (next_row i los his vs d e f (omega arith) (omega arith) (omega arith))

  pub rows_next : (i : ℕ) (los his : List ℤ) (vs : List V) (d e : ℤ) (f : V) → length his ≡ length los → length vs ≡ length los → i < length los
      → rows (take (i + 1) los) (take (i + 1) his) (take (i + 1) vs)
      ≡ rows (take i los) (take i his) (take i vs) ++ entry (slice_index_or los i d) (slice_index_or his i e) (slice_index_or vs i f) ∷ []
  rows_next i los his vs d e f p q lt =
      let next : suc i ≡ i + 1 = omega arith in
      subst (λ n. rows (take n los) (take n his) (take n vs) ≡ rows (take i los) (take i his) (take i vs) ++ entry (slice_index_or los i d) (slice_index_or his i e) (slice_index_or vs i f) ∷ []) next
      (next_row i los his vs d e f p q lt)

-- a call that was refused and changed nothing
pub refused_part : (status : ℤ) (over old was new : List (Entry ℕ)) → IsRangeMap nat_eq least_key greatest_key old → OnRefused status (new ≡ was) → was ≡ old → OnRefused status (IsPartPainted least_key greatest_key over old new)
refused_part (pos zero) over old was new r is same = tt
refused_part (pos (suc n)) over old was new r is same = subst (IsPartPainted least_key greatest_key over old) (sym (is ∙ same)) (none_part over old r)
refused_part (negsuc n) over old was new r is same = tt

-- the status in a machine word
pub status_word : (s : ℤ) → IsStatus s → to_z w32 (of_z w32 s) ≡ s
status_word s (inl e) = rw e refl
status_word s (inr e) = rw e refl

pub part_of : (i : ℕ) (los his : List ℤ) (vs : List ℕ) (old new : List (Entry ℕ)) → length his ≡ length los → length vs ≡ length los
    → AreRowsPainted least_key greatest_key (rows (take i los) (take i his) (take i vs)) old new → IsPartPainted least_key greatest_key (rows los his vs) old new
part_of i los his vs old new p q painted = record { done = rows (take i los) (take i his) (take i vs); left = rows (drop i los) (drop i his) (drop i vs); parts = rows_parts i los his vs p q; painted = painted }

pub ok_by : {A E P Q : Type 0} (r : Result A E) → (P → Q) → OnOk r P → OnOk r Q
ok_by (Ok x) f p = f p
ok_by (Err e) f p = tt

pub err_by : {A E P Q : Type 0} (r : Result A E) → (P → Q) → OnErr r P → OnErr r Q
err_by (Ok x) f p = tt
err_by (Err e) f p = f p
