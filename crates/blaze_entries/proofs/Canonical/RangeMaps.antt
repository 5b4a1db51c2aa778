-- The invariant of a table implies its public clauses.
use Rattle.blaze_entries.proofs.Words.{◌≡◌, ℕ, ℤ, pos, ◌+ℤ◌, ◌-ℤ◌, ◌≤ℤ◌, Bool, List, [], ◌∷◌, Option, arith, ints, IsEquivalence, StartsAscend, Entry, IsCanonical, AreKeys, IsRangeMap, IsInside, IsPainted, IsKeyRemoved, IsSplit, IsTablePainted, IsKeyCut, IsListSplit, IsTable}
use Rattle.blaze_entries.proofs.Canonical.Lookup.{IsAbove, IsAbove-from_apart, above_by}
use Rattle.blaze_entries.proofs.Canonical.Runs.{one_per_run}
use Rattle.blaze_entries.proofs.Paints.Kept.{kept_alone}
use Rattle.blaze_entries.proofs.Plain.{painted_inside, painted_outside, cut_here, cut_others}

module _ {V : Type 0} (eq : V → V → Bool) (laws : IsEquivalence eq) (low high : ℤ) (n : ℕ) where
  pub range_map : (es : List (Entry V)) → IsTable eq low high n es → IsRangeMap eq low high es
  range_map es t = record { runs = one_per_run eq laws es t.canonical; keys = t.are_keys }

  pub painted_map : (p : Entry V) (old new : List (Entry V)) → p.lo ≤ℤ p.hi → IsTablePainted eq low high n p old new → (IsInside eq p.lo p.hi p.value old → new ≡ old) → IsPainted eq low high p old new
  painted_map p old new w t inside = let d = t.painted in record { range_map = range_map new t.table; content = d.content; inside = painted_inside eq old new p d.content; outside = painted_outside eq old new p d.content; few = d.few; alone = d.alone; kept = kept_alone eq p old new w d.kept inside }

  pub cut_map : (k : ℤ) (value : Option V) (old new : List (Entry V)) → IsKeyCut eq low high n k value old new → IsKeyRemoved eq low high k old new
  cut_map k value old new c = record { range_map = range_map new c.table; content = c.content; here = cut_here eq old new k c.content; others = cut_others eq old new k c.content }

module _ {V : Type 0} (eq : V → V → Bool) (laws : IsEquivalence eq) (low high : ℤ) where
  pub split_maps : (m n : ℕ) (k : ℤ) (old below from : List (Entry V)) → IsTable eq low high m below → IsTable eq low high n from → IsListSplit eq k old below from → IsSplit eq low high k old below from
  split_maps m n k old below from s t d = record {
    below_range_map = range_map eq laws low high m below s;
    from_range_map = range_map eq laws low high n from t;
    below_content = d.below_content;
    from_content = d.from_content;
  }

-- the starts of canonical entries whose ends are keys ascend
pub ascends : {V : Type 0} (eq : V → V → Bool) (b low high : ℤ) (es : List (Entry V)) → IsAbove (b -ℤ pos 1) es → IsCanonical eq es → AreKeys low high es → StartsAscend b high es
ascends eq b low high [] u c k = tt
ascends eq b low high (e ∷ es) u c k = (
  omega (arith, ints, u),
  omega (arith, ints, c.0, k.1),
  ascends eq (e.lo +ℤ pos 1) low high es (above_by e.hi (e.lo +ℤ pos 1 -ℤ pos 1) es (omega (arith, ints, c.0)) (IsAbove-from_apart eq e es c.1)) c.2 k.2,
)

pub starts_ascend : {V : Type 0} (eq : V → V → Bool) (low high : ℤ) (es : List (Entry V)) → IsCanonical eq es → AreKeys low high es → StartsAscend low high es
starts_ascend eq low high es c k = ascends eq low low high es (from_low es k) c k
  where
    from_low : {V : Type 0} (es : List (Entry V)) → AreKeys low high es → IsAbove (low -ℤ pos 1) es
    from_low [] k = tt
    from_low (d ∷ es) k = omega (arith, ints, k.0)
