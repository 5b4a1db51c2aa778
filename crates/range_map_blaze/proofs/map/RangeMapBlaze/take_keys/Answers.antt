use Rattle.range_map_blaze.proofs.Words.{◌≡◌, arith, ◌∙◌, refl, sym, ap, subst, Ok, counted_none, CountedEntries, uncounted, AreKeysTaken}
use Rattle.std.proofs.lemmas.Bool.{false≢true}
use Rattle.blaze_table.specs.Work.{IsCountedCut, IsRefused}
use Rattle.range_map_blaze.proofs.PartsTaken.{taken_to, taken_since, refused_by}
use Rattle.range_map_blaze.proofs.TakenBack.{nothing_taken}
use Rattle.range_map_blaze.proofs.map.RangeMapBlaze.take_keys.Goals as goal

-- no edit, as a cut
cut_nothing : {V : Type 0} (s : CountedEntries V) → IsCountedCut s s
cut_nothing s = record { counted = counted_none s; puts = omega arith; looks = omega arith }

-- no edit, as a failed one
refused_itself : {V : Type 0} (s : CountedEntries V) → IsRefused s s
refused_itself s = record { same = refl; counted = counted_none s }

pub returns-then-is_free-clause-ok : goal.returns-then-is_free-clause-ok
returns-then-is_free-clause-ok g c =
    let eq = g.V.PartialEq.eq in
    let l = g.T.Integer.rank c.args.start in
    let h = g.T.Integer.rank c.args.end in
    let es = c.args.self.now.entries in
    subst (λ (s : CountedEntries g.row.V.Denot). AreKeysTaken eq g.T.Integer.low g.T.Integer.high l h es es s.entries) (sym c.new.ensures)
    (nothing_taken eq g.met.V.Eq.laws g.T.Integer.low g.T.Integer.high l h es c.in_hand.ensures (c.is_free.ensures.0 c.if-is_free.true))

pub returns-then-is_free-clause-uncounted : goal.returns-then-is_free-clause-uncounted
returns-then-is_free-clause-uncounted g c = subst (λ (s : CountedEntries g.row.V.Denot). s ≡ uncounted s.entries) (sym c.new.ensures) refl

pub returns-then-is_free-clause-none : goal.returns-then-is_free-clause-none
returns-then-is_free-clause-none g c = λ free. (ap Ok c.new.ensures, refl)

pub returns-then-is_free-clause-counted : goal.returns-then-is_free-clause-counted
returns-then-is_free-clause-counted g c = cut_nothing c.args.self.now

pub returns-then-is_free_above-clause-ok : goal.returns-then-is_free_above-clause-ok
returns-then-is_free_above-clause-ok g c =
    taken_to g.V.PartialEq.eq g.T.Integer.low g.T.Integer.high (g.T.Integer.rank c.args.start) (g.T.Integer.rank c.args.end) c.args.self.now.entries c.last_part.new.self.entries c.last_part.result
    (c.is_free_above.ensures.free.0 c.if-is_free_above.true) c.last_part.ensures.ok

pub returns-then-is_free_above-clause-none : goal.returns-then-is_free_above-clause-none
returns-then-is_free_above-clause-none g c = λ free. absurd (false≢true (sym c.if-is_free.false ∙ c.is_free.ensures.1 free))

pub returns-then-is_free_above-clause-err : goal.returns-then-is_free_above-clause-err
returns-then-is_free_above-clause-err g c = refused_by c.last_part.result c.args.self.now c.last_part.new.self (refused_itself c.args.self.now) c.last_part.ensures.err

pub first_part-requires-clause-room : goal.first_part-requires-clause-room
first_part-requires-clause-room g c = c.is_free_above.ensures.room c.if-is_free_above.false

pub returns-then-is_free_below-clause-ok : goal.returns-then-is_free_below-clause-ok
returns-then-is_free_below-clause-ok g c =
    taken_since g.V.PartialEq.eq g.T.Integer.low g.T.Integer.high (g.T.Integer.rank c.args.start) (g.T.Integer.rank c.args.end) c.args.self.now.entries c.first_part.new.self.entries c.first_part.result
    (c.is_free_below.ensures.0 c.if-is_free_below.true) c.first_part.ensures.ok

pub returns-then-is_free_below-clause-none : goal.returns-then-is_free_below-clause-none
returns-then-is_free_below-clause-none g c = λ free. absurd (false≢true (sym c.if-is_free.false ∙ c.is_free.ensures.1 free))

pub returns-then-is_free_below-clause-err : goal.returns-then-is_free_below-clause-err
returns-then-is_free_below-clause-err g c = refused_by c.first_part.result c.args.self.now c.first_part.new.self (refused_itself c.args.self.now) c.first_part.ensures.err

pub returns-clause-none : goal.returns-clause-none
returns-clause-none g c = λ free. absurd (false≢true (sym c.if-is_free.false ∙ c.is_free.ensures.1 free))
