-- Look-ups of an entry or a gap, each behind the one before.
use Rattle.range_map_cli.proofs.Words.{◌≡◌, ℤ, pos, ◌+ℤ◌, ◌-ℤ◌, ◌≤ℤ◌, ◌<ℤ◌, Bool, List, [], ◌∷◌, Option, Some, None, ◌∙◌, sym, ap, arith, ints, by_lt_z, IsEquivalence, same_along, IsRangeMap, IsRunStart, IsRunEnd, Entry, entry, at, entry_at, holds_in, holds_ends, AreRangesOrGapsFrom, CoverFrom, IsRangeOrGapAt, LookUpsCover, IsSameFrom, IsGreatestPiece}
use Rattle.blaze_entries.proofs.Canonical.EntryAt.{entry_holds, entry_starts, entry_ends, entry_keys, entry_value}

module _ {V : Type 0} (eq : V → V → Bool) (laws : IsEquivalence eq) (low high : ℤ) (es : List (Entry V)) (map : IsRangeMap eq low high es) where
  -- what is there at a key: the piece round it, and its value
  record IsPieceWithValue (k : ℤ) (p : Entry (Option V)) : Type 0 where
    piece : IsGreatestPiece low high (at es) k p.lo p.hi
    here : at es k ≡ p.value

  module _ (k a b : ℤ) (v : V) (is : entry_at es k ≡ Some (entry a b v)) where
    value_from : (j : ℤ) → a ≤ℤ j → j ≤ℤ b → at es j ≡ Some v
    value_from j l h = entry_value k (entry a b v) es j map.runs.disjoint is (holds_in (entry a b v) j l h)

    within : (a ≤ℤ k) × (k ≤ℤ b)
    within = holds_ends (entry a b v) k (entry_holds k (entry a b v) es is)

    no_lower : (c d : ℤ) → c ≤ℤ k → k ≤ℤ d → IsSameFrom (at es) k c d → c <ℤ a → ⊥
    unfolding IsRunStart
    no_lower c d l h same less =
        ((map.runs.starts a).0 (entry_starts k (entry a b v) es is)).1
        (same_along eq (sym (same (a -ℤ pos 1) (omega (arith, ints, less)) (omega (arith, ints, h, within.0)) ∙ value_from k within.0 within.1)) (sym (value_from a (omega (arith, ints)) (omega (arith, ints, within.0, within.1)))) (laws.refl v))

    no_higher : (c d : ℤ) → c ≤ℤ k → k ≤ℤ d → IsSameFrom (at es) k c d → b <ℤ d → ⊥
    unfolding IsRunEnd
    no_higher c d l h same more =
        ((map.runs.ends b).0 (entry_ends k (entry a b v) es is)).1
        (same_along eq (sym (value_from b (omega (arith, ints, within.0, within.1)) (omega (arith, ints)))) (sym (same (b +ℤ pos 1) (omega (arith, ints, l, within.1)) (omega (arith, ints, more)) ∙ value_from k within.0 within.1)) (laws.refl v))

    entry_is_piece : IsGreatestPiece low high (at es) k a b
    entry_is_piece =
        let keys = entry_keys k (entry a b v) low high es map.keys is in
        record {
          from = keys.0;
          to = keys.1;
          starts = within.0;
          ends = within.1;
          same = λ j l h. value_from j l h ∙ sym (value_from k within.0 within.1);
          greatest = λ c d lc l h hd same. (
            by_lt_z c a (λ less. absurd (no_lower c d l h same less)) (λ le. le),
            by_lt_z b d (λ more. absurd (no_higher c d l h same more)) (λ le. le),
          );
        }

  -- what is answered is the piece round the key
  found_piece : (k : ℤ) (lo hi : ℤ) (found : Option V) → IsRangeOrGapAt low high es k (entry lo hi found) → IsPieceWithValue k (entry lo hi found)
  found_piece k lo hi None h = record {
    piece = record {
      from = h.1.from;
      to = h.1.to;
      starts = h.1.starts;
      ends = h.1.ends;
      same = λ j l u. h.1.clear j l u ∙ sym h.0;
      greatest = λ c d lc l u hd same. h.1.greatest c d lc l u hd (λ j cj jd. same j cj jd ∙ h.0);
    };
    here = h.0;
  }
  found_piece k lo hi (Some v) is = record {
    piece = entry_is_piece k lo hi v is;
    here = let w = within k lo hi v is in value_from k lo hi v is k w.0 w.1;
  }

  -- the piece behind a piece starts there
  starts_behind : (k a b c d : ℤ) → IsGreatestPiece low high (at es) k a b → IsGreatestPiece low high (at es) (b +ℤ pos 1) c d → c ≡ b +ℤ pos 1
  starts_behind k a b c d p q = by_lt_z c (b +ℤ pos 1) (λ l. absurd (wider l)) (λ h. omega (arith, ints, h, q.starts))
    where
      same : c <ℤ (b +ℤ pos 1) → IsSameFrom (at es) k a (b +ℤ pos 1)
      same l j aj jb = by_lt_z b j
          (λ m. let is : j ≡ b +ℤ pos 1 = omega (arith, ints, m, jb) in
          ap (at es) is ∙ sym (q.same b (omega (arith, ints, l)) (omega (arith, ints, q.ends))) ∙ p.same b (omega (arith, ints, p.starts, p.ends)) (omega (arith, ints)))
          (λ m. p.same j aj m)

      wider : c <ℤ (b +ℤ pos 1) → ⊥
      wider l = let w = p.greatest a (b +ℤ pos 1) p.from p.starts (omega (arith, ints, p.ends)) (omega (arith, ints, q.ends, q.to)) (same l) in omega (arith, ints, w.1)

  -- look-ups from a key at which every piece starts
  cover : (k : ℤ) (ps : List (Entry (Option V))) → k ≤ℤ (high +ℤ pos 1) → ((a b : ℤ) → IsGreatestPiece low high (at es) k a b → a ≡ k) → AreRangesOrGapsFrom low high es k ps → CoverFrom low high es k ps
  cover k [] end starts h = omega (arith, ints, end, h)
  cover k (p ∷ ps) end starts (more, found, rest) =
      let here = found_piece k p.lo p.hi p.value found in (
        starts p.lo p.hi here.piece,
        omega (arith, ints, here.piece.starts, here.piece.ends),
        λ j l u. here.piece.same j l u ∙ here.here,
        cover (p.hi +ℤ pos 1) ps (omega (arith, ints, here.piece.to)) (λ a b q. starts_behind k p.lo p.hi a b here.piece q) rest,
      )

  pub covers : low ≤ℤ high → (ps : List (Entry (Option V))) → AreRangesOrGapsFrom low high es low ps → CoverFrom low high es low ps
  covers some ps h = cover low ps (omega (arith, ints, some)) (λ a b p. omega (arith, ints, p.from, p.starts)) h

pub look_ups_cover : {V : Type 0} (eq : V → V → Bool) (low high : ℤ) → IsEquivalence eq → low ≤ℤ high → LookUpsCover eq low high
look_ups_cover eq low high laws some entries answers r h = covers eq laws low high entries r some answers h
