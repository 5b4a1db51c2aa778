use Rattle.range_map_blaze.proofs.Words.{◌≡◌, ℤ, Bool, List, Result, Ok, Err, OnOk, IfOk, rules, arith, refl, ap, subst, inl, inr, ◌↔◌, IsTrue, ints, keys_in, CountedEntries, Entry, IsPainted, IsCountedPaint, counted_none, IsPaintedSomewhere}
use Rattle.range_map_blaze.proofs.Paints.Nowhere.{painted_nowhere}
use Rattle.range_map_blaze.proofs.map.RangeMapBlaze.ranges_insert.Goals as goal

painted_somewhere : {V A E : Type 0} (eq : V → V → Bool) (low high : ℤ) (r : Result A E) (p : Entry V) (es old new : List (Entry V)) → es ≡ old
    → OnOk r (IsPainted eq low high p es new) → OnOk r (IsPaintedSomewhere eq low high p.value old new)
painted_somewhere eq low high (Ok x) p es old new same f = inr (p.lo, p.hi, subst (λ l. IsPainted eq low high p l new) same f)
painted_somewhere eq low high (Err e) p es old new same f = tt

pub returns-in-Some-clause-none : goal.returns-in-Some-clause-none
returns-in-Some-clause-none g c = λ told below. let ends = c.in-Some.ensures.ranks told in absurd (omega (arith, ints, ends.0, ends.1, c.in-Some.ensures.order))

-- bounds that name no key
pub returns-clause-ok : goal.returns-clause-ok
returns-clause-ok g c = λ told. painted_nowhere g.V.PartialEq.eq g.met.V.Eq.laws g.T.Integer.low g.T.Integer.high _ _ (c.in-None.ensures.ranks told) c.in_hand.ensures

pub returns-in-Some-clause-ok : goal.returns-in-Some-clause-ok
returns-in-Some-clause-ok g c = search rules

pub returns-in-Some-clause-somewhere : goal.returns-in-Some-clause-somewhere
returns-in-Some-clause-somewhere g c =
    painted_somewhere g.V.PartialEq.eq g.T.Integer.low g.T.Integer.high _ _ _ _ _ (ap (λ (s : CountedEntries g.row.V.Denot). s.entries) c.self.view_is) c.paint.ensures.ok

pub returns-in-Some-clause-inside : goal.returns-in-Some-clause-inside
returns-in-Some-clause-inside g c = search rules

pub returns-in-Some-clause-counted : goal.returns-in-Some-clause-counted
returns-in-Some-clause-counted g c =
    subst (λ (s : CountedEntries g.row.V.Denot). OnOk c.paint.result (IsCountedPaint s c.paint.new.self)) c.self.view_is c.paint.ensures.counted

pub returns-clause-somewhere : goal.returns-clause-somewhere
returns-clause-somewhere g c = inl refl

pub returns-clause-changed : goal.returns-clause-changed
returns-clause-changed g c = (search rules, (λ different. absurd (different refl)))

pub returns-clause-none : goal.returns-clause-none
returns-clause-none g c = λ told below. (refl, refl)

pub returns-clause-inside : goal.returns-clause-inside
returns-clause-inside g c = λ told inside. (refl, refl)

pub returns-clause-counted : goal.returns-clause-counted
returns-clause-counted g c = record { counted = counted_none _; puts = omega arith; looks = omega arith }

pub returns-in-Some-clause-changed : goal.returns-in-Some-clause-changed
returns-in-Some-clause-changed g c =
    subst (λ old. IfOk c.paint.result (λ changed. IsTrue changed ↔ (¬ (keys_in c.paint.new.self.entries ≡ keys_in old)))) (ap (λ (s : CountedEntries g.row.V.Denot). s.entries) c.self.view_is) c.paint.ensures.changed
