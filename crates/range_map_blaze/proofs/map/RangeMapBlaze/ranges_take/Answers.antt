use Rattle.range_map_blaze.proofs.Words.{IfOk, ℤ, Bool, List, Result, Ok, Err, inr, sym, subst, arith, ints, start_rank, end_rank, CountedEntries, Entry, AreKeysTaken, IsTakenOutSomewhere}
use Rattle.range_map_blaze.proofs.TakenBack.{nothing_taken}
use Rattle.range_map_blaze.proofs.map.RangeMapBlaze.ranges_take.Goals as goal

somewhere : {V E : Type 0} (eq : V → V → Bool) (low high l h : ℤ) (old left : List (Entry V)) (r : Result (CountedEntries V) E)
    → IfOk r (λ taken. AreKeysTaken eq low high l h old left taken.entries) → IfOk r (λ taken. IsTakenOutSomewhere eq low high old left taken.entries)
somewhere eq low high l h old left (Ok taken) t = inr (l, h, t)
somewhere eq low high l h old left (Err e) t = tt

pub returns-in-Some-clause-somewhere : goal.returns-in-Some-clause-somewhere
returns-in-Some-clause-somewhere g c =
    somewhere g.V.PartialEq.eq g.T.Integer.low g.T.Integer.high _ _ c.args.self.now.entries c.take_keys.new.self.entries c.take_keys.result c.take_keys.ensures.ok

pub returns-clause-ok : goal.returns-clause-ok
returns-clause-ok g c = λ told.
    let eq = g.V.PartialEq.eq in
    let low = g.T.Integer.low in
    let high = g.T.Integer.high in
    let l = start_rank g.T.Integer.rank low (g.R.RangeBounds.start_bound c.args.range) in
    let h = end_rank g.T.Integer.rank high (g.R.RangeBounds.end_bound c.args.range) in
    let es = c.args.self.now.entries in
    let under = c.in-None.ensures.ranks told in
    subst (λ (s : CountedEntries g.row.V.Denot). AreKeysTaken eq low high l h es es s.entries) (sym c.new.ensures)
    (nothing_taken eq g.met.V.Eq.laws low high l h es c.in_hand.ensures (λ k from to. absurd (omega (arith, ints, under, from, to))))
