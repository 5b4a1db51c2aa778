use Rattle.std.proofs.Common.{rules}
use Rattle.range_map_blaze.proofs.Words.{◌≡◌, ℕ, ℤ, List, [], sym, ap, pos, ◌∙◌, arith, ints, Entry, at, mapped_keys, IsClearFrom, count_clear}
use Rattle.range_map_blaze.proofs.CutEach.{none_within, none_between}
use Rattle.range_map_blaze.proofs.map.RangeMapBlaze.len_within.Goals as goal

pub returns-in-Some-clause-none : goal.returns-in-Some-clause-none
returns-in-Some-clause-none g c = λ told below. let ends = c.in-Some.ensures.ranks told in absurd (omega (arith, ints, ends.0, ends.1, c.in-Some.ensures.order))

-- bounds that name no key
pub returns-clause-mapped : goal.returns-clause-mapped
returns-clause-mapped g c = λ told. c.zero.ensures ∙ sym (none_between _ _ _ (c.in-None.ensures.ranks told))

pub returns-clause-lengths : goal.returns-clause-lengths
returns-clause-lengths g c = λ told.
    ([], none_within g.V.PartialEq.eq g.met.V.Eq.laws g.T.Integer.low g.T.Integer.high _ _ c.args.self.now.entries (c.in-None.ensures.ranks told), ap pos c.zero.ensures)

-- none of the keys is counted
free_by : {V : Type 0} (es : List (Entry V)) (l h : ℤ) (n : ℕ) → n ≡ mapped_keys l h (at es) → n ≡ 0 → IsClearFrom (at es) l h
free_by es l h n counted none k from to = count_clear (at es) l h k n counted none from to

pub returns-clause-free : goal.returns-clause-free
returns-clause-free g c = λ told none. free_by c.args.self.now.entries _ _ _ (returns-clause-mapped g c told) none

pub returns-in-Some-clause-mapped : goal.returns-in-Some-clause-mapped
returns-in-Some-clause-mapped g c = search rules

pub returns-in-Some-clause-free : goal.returns-in-Some-clause-free
returns-in-Some-clause-free g c = λ told none. free_by c.args.self.now.entries _ _ _ (returns-in-Some-clause-mapped g c told) none
