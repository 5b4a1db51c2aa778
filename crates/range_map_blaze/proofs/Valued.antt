-- One value on the ranges of a set.
use Rattle.range_map_blaze.proofs.Words.{◌≡◌, ℤ, Bool, true, false, cond, List, [], ◌∷◌, ◌++◌, Option, Some, None, refl, ap, IsEquivalence, same_trans, Entry, entry, at, holds, SameOption, SameEntries, IsCanonical, IsApart, AreKeys, IsRangeMap, value_if_none, IsComplement, unit_eq, IsRangeSet, content_as, canonical, one_per_run, back, unit_laws}
use Rattle.range_map_blaze.proofs.Streams.{range_map_as}

-- the ranges with a value
abbrev pub valued : {V : Type 0} → V → List (Entry (Unit {0})) → List (Entry V)
valued v [] = []
valued v (r ∷ rs) = entry r.lo r.hi v ∷ valued v rs

pub valued-append : {V : Type 0} (v : V) (rs ss : List (Entry (Unit {0}))) → valued v (rs ++ ss) ≡ valued v rs ++ valued v ss
valued-append v [] ss = refl
valued-append v (r ∷ rs) ss = ap (λ es. entry r.lo r.hi v ∷ es) (valued-append v rs ss)

module _ {V : Type 0} (eq : V → V → Bool) (laws : IsEquivalence eq) (v : V) where
  apart : (r : Entry (Unit {0})) (rs : List (Entry (Unit {0}))) → IsApart unit_eq r rs → IsApart eq (entry r.lo r.hi v) (valued v rs)
  apart r [] a = tt
  apart r (s ∷ rs) a = (a.0, λ p. none (a.1 p))
    where
      none : {P : Type 0} → true ≡ false → P
      none p = cc

  valued_canonical : (rs : List (Entry (Unit {0}))) → IsCanonical unit_eq rs → IsCanonical eq (valued v rs)
  valued_canonical [] c = tt
  valued_canonical (r ∷ rs) c = (c.0, apart r rs c.1, valued_canonical rs c.2)

  valued_keys : (low high : ℤ) (rs : List (Entry (Unit {0}))) → AreKeys low high rs → AreKeys low high (valued v rs)
  valued_keys low high [] k = tt
  valued_keys low high (r ∷ rs) k = (k.0, k.1, valued_keys low high rs k.2)

  module _ (low high : ℤ) where
    pub valued_map : (rs : List (Entry (Unit {0}))) → IsRangeSet low high rs → IsRangeMap eq low high (valued v rs)
    valued_map rs s = record {
      runs = one_per_run eq laws (valued v rs) (valued_canonical rs (canonical unit_eq unit_laws rs s.runs));
      keys = valued_keys low high rs s.keys;
    }

    at_range : {A : Type 0} (b : Bool) (x : Option (Unit {0})) (y : Option V) (o : Option A) → (SameOption unit_eq x (value_if_none tt o) → SameOption eq y (value_if_none v o))
        → SameOption unit_eq (cond b (Some tt) x) (value_if_none tt o) → SameOption eq (cond b (Some v) y) (value_if_none v o)
    at_range true x y None f s = laws.refl v
    at_range true x y (Some z) f s = s
    at_range false x y o f s = f s

    -- where the set has a key, the value is there, and nowhere else
    same_absent : {A : Type 0} (rs : List (Entry (Unit {0}))) (k : ℤ) (o : Option A) → SameOption unit_eq (at rs k) (value_if_none tt o) → SameOption eq (at (valued v rs) k) (value_if_none v o)
    same_absent [] k None s = s
    same_absent [] k (Some x) s = s
    same_absent (r ∷ rs) k o s = at_range (holds r k) (at rs k) (at (valued v rs) k) o (same_absent rs k o) s

    -- a value on the keys that have none
    pub complement_as : {A : Type 0} (entries : List (Entry A)) (rs : List (Entry (Unit {0}))) (new : List (Entry V)) → IsComplement unit_eq low high tt entries rs → SameEntries eq (valued v rs) new → IsComplement eq low high v entries new
    complement_as entries rs new c s = record {
      range_map = range_map_as eq laws low high (valued v rs) new s (valued_map rs c.range_map);
      content = λ k l h. same_trans eq laws (at new k) (at (valued v rs) k) _ (back eq laws (valued v rs) new (content_as eq laws (valued v rs) new s) k) (same_absent rs k (at entries k) (c.content k l h));
    }
