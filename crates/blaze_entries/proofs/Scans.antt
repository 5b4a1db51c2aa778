-- One lookup of a walk: its result, and the walk after it.
use Rattle.blaze_entries.proofs.Words.{◌≡◌, ℕ, ◌+◌, ◌<◌, ◌≤◌, length, ℤ, Bool, List, [], ◌∷◌, ◌++◌, Option, Some, None, refl, ◌∙◌, sym, ap, arith, length-append, MatchOption, int_lt, int_le, not, filter, length-map, length-filter_both, Entry, entry, IsFoundAt, full_node, full, shown_nodes, shown_node, AreFull, below, from, RangeEntry, EndValue}

-- the result of the lookup, with the value, is the entry
pub found_entry : {T V : Type 0} {rank : T → ℤ} {test : V → Bool} {f : RangeEntry T Bool} {w : V} {e : Entry V} → IsFoundAt rank test f w e → entry (rank f.start) (rank f.end) w ≡ e
found_entry {w = w} {e = e} i = ap (λ (t : ℤ × ℤ × Bool). entry t.0 t.1 w) i.found ∙ ap (entry e.lo e.hi) i.value

-- a part is no longer than the whole
length-part : {X : Type 0} (p : X → Bool) (xs : List X) → length (filter p xs) ≤ length xs
length-part p xs = omega (arith, length-filter_both p (λ x. not (p x)) (λ x. refl) xs)

pub length-below : {V : Type 0} (k : ℤ) (es : List (Entry V)) → length (below k es) ≤ length es
length-below k es = length-part (λ e. int_lt e.lo k) es

pub length-from : {V : Type 0} (k : ℤ) (es : List (Entry V)) → length (from k es) ≤ length es
length-from k es = length-part (λ e. int_le k e.lo) es
