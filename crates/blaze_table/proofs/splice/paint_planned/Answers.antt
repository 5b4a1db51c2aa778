use Rattle.blaze_table.proofs.Words.{◌≡◌, ℕ, ℤ, pos, ◌+ℤ◌, ◌-ℤ◌, ◌≤ℤ◌, Bool, List, None, ap, arith, sym, ◌∙◌, IsEquivalence, ints, shown_plan, AreKeys, IsCanonical, keys_in, Entry, entry, before, after, IsPaintOf, IsTablePainted, joined_start, all_keys, keys_painted, painted_table, is_painted, painted_short}
use Rattle.blaze_table.proofs.Neighbours.SeenInside.{inside_seen, inside_short, not_reached}
use Rattle.blaze_table.proofs.Paints.Inside.{inside_painted}
use Rattle.blaze_table.proofs.Walks.Found.{like_above}
use Rattle.blaze_table.proofs.Walks.Plans.{joined_within, place_is, joined_left}
use Rattle.blaze_table.proofs.Paints.Widened.{paint_extends, paint_puts, end_up}
use Rattle.blaze_table.proofs.splice.paint_planned.Goals as goal

-- a painted list, with its number of keys
table_painted : {V : Type 0} (eq : V → V → Bool) (laws : IsEquivalence eq) (low high : ℤ) (n : ℕ) (p : Entry V) (old new : List (Entry V)) → p.lo ≤ℤ p.hi → low ≤ℤ p.lo → p.hi ≤ℤ high → IsCanonical eq old → AreKeys low high old
    → pos n ≡ (keys_in (before p.lo old) +ℤ keys_in (after p.hi old)) +ℤ ((p.hi -ℤ p.lo) +ℤ pos 1) → IsPaintOf eq p old new → IsTablePainted eq low high n p old new
table_painted eq laws low high n p old new order from to c keys count made =
    let painted = is_painted eq laws p old new order c made in
    record {
      table = painted_table eq laws low high n p old new from to keys count made painted.canonical;
      painted = painted;
      short = painted_short eq laws p old new made;
    }

pub returns-then-is_inside-clause-painted : goal.returns-then-is_inside-clause-painted
returns-then-is_inside-clause-painted g c =
    let rank = g.T.Integer.rank in
    let eq = g.V.PartialEq.eq in
    let seen = inside_seen eq c.args.value (rank c.args.lo) (rank c.args.hi) c.requires.order g.T.Integer.low g.T.Integer.high c.args.entries.now.entries c.in_hand.ensures c.requires.table.canonical (shown_plan rank c.args.walk.plan) c.requires.walk.plan in
    let inside = seen.0 (sym c.is_inside.ensures ∙ c.if-is_inside.true) in
    record {
      table = c.requires.table;
      painted = inside_painted eq (rank c.args.lo) (rank c.args.hi) c.args.value g.met.V.Eq.laws c.args.entries.now.entries c.requires.table.canonical inside;
      short = inside_short eq c.args.value (rank c.args.lo) (rank c.args.hi) c.requires.order c.args.entries.now.entries c.requires.table.canonical inside;
    }

pub returns-in_err-extend-in-Some-clause-inside : goal.returns-in_err-extend-in-Some-clause-inside
returns-in_err-extend-in-Some-clause-inside g c = λ i.
    let rank = g.T.Integer.rank in
    absurd (not_reached g.V.PartialEq.eq c.args.value (rank c.args.lo) (rank c.args.hi) c.requires.order g.T.Integer.low g.T.Integer.high c.args.entries.now.entries c.in_hand.ensures c.requires.table.canonical (shown_plan rank c.args.walk.plan) c.requires.walk.plan
    (sym c.is_inside.ensures ∙ c.if-is_inside.false) i)

pub returns-in_ok-extend-in-Some-clause-inside : goal.returns-in_ok-extend-in-Some-clause-inside
returns-in_ok-extend-in-Some-clause-inside g c = λ i.
    let rank = g.T.Integer.rank in
    absurd (not_reached g.V.PartialEq.eq c.args.value (rank c.args.lo) (rank c.args.hi) c.requires.order g.T.Integer.low g.T.Integer.high c.args.entries.now.entries c.in_hand.ensures c.requires.table.canonical (shown_plan rank c.args.walk.plan) c.requires.walk.plan
    (sym c.is_inside.ensures ∙ c.if-is_inside.false) i)

pub returns-in_err-set_entry-in-None-clause-inside : goal.returns-in_err-set_entry-in-None-clause-inside
returns-in_err-set_entry-in-None-clause-inside g c = λ i.
    let rank = g.T.Integer.rank in
    absurd (not_reached g.V.PartialEq.eq c.args.value (rank c.args.lo) (rank c.args.hi) c.requires.order g.T.Integer.low g.T.Integer.high c.args.entries.now.entries c.in_hand.ensures c.requires.table.canonical (shown_plan rank c.args.walk.plan) c.requires.walk.plan
    (sym c.is_inside.ensures ∙ c.if-is_inside.false) i)

pub returns-in_ok-set_entry-in-None-clause-inside : goal.returns-in_ok-set_entry-in-None-clause-inside
returns-in_ok-set_entry-in-None-clause-inside g c = λ i.
    let rank = g.T.Integer.rank in
    absurd (not_reached g.V.PartialEq.eq c.args.value (rank c.args.lo) (rank c.args.hi) c.requires.order g.T.Integer.low g.T.Integer.high c.args.entries.now.entries c.in_hand.ensures c.requires.table.canonical (shown_plan rank c.args.walk.plan) c.requires.walk.plan
    (sym c.is_inside.ensures ∙ c.if-is_inside.false) i)

pub plus-painted-requires : goal.plus-painted-requires
plus-painted-requires g c = record {
  fits =
      let rank = g.T.Integer.rank in
      let bound = keys_painted g.V.PartialEq.eq g.met.V.Eq.laws g.T.Integer.low g.T.Integer.high (rank c.args.lo) (rank c.args.hi) c.args.entries.now.entries c.requires.order c.in_hand-2.ensures.from c.in_hand-3.ensures.to c.requires.table.canonical c.requires.table.are_keys in
      let keys_outside = c.requires.walk.keys_outside in
      omega (arith, ints, bound, g.met.T.Integer.has_room, keys_outside, c.length.ensures);
}

pub extend-requires-clause-place : goal.extend-requires-clause-place
extend-requires-clause-place g c =
    let rank = g.T.Integer.rank in
    let eq = g.V.PartialEq.eq in
    let test = λ (w : g.row.V.Denot). eq w c.args.value in
    let lo = rank c.args.lo in
    let hi = rank c.args.hi in
    let es = c.args.entries.now.entries in
    place_is eq test lo hi c.requires.order g.T.Integer.low g.T.Integer.high es c.in_hand.ensures c.requires.table.canonical rank c.args.walk.plan None c.requires.walk.plan
    (joined_within eq test lo hi c.requires.order g.T.Integer.low g.T.Integer.high es c.in_hand.ensures c.requires.table.canonical (rank c.in-Some.first) (shown_plan rank c.args.walk.plan) c.in-Some.ensures c.requires.walk.plan)

pub extend-requires-clause-joined : goal.extend-requires-clause-joined
extend-requires-clause-joined g c = let rank = g.T.Integer.rank in joined_left rank (rank c.args.lo) (rank c.in-Some.first) c.args.walk.plan.predecessor c.in-Some.ensures

pub set_entry-requires-clause-place : goal.set_entry-requires-clause-place
set_entry-requires-clause-place g c =
    let rank = g.T.Integer.rank in
    let eq = g.V.PartialEq.eq in
    let test = λ (w : g.row.V.Denot). eq w c.args.value in
    let lo = rank c.args.lo in
    let hi = rank c.args.hi in
    let es = c.args.entries.now.entries in
    let up = end_up eq test hi es c.requires.table.canonical (rank c.args.walk.plan.end) c.requires.walk.plan.end in
    place_is eq test lo hi c.requires.order g.T.Integer.low g.T.Integer.high es c.in_hand.ensures c.requires.table.canonical rank c.args.walk.plan c.args.walk.tail_value c.requires.walk.plan
    (like_above eq test lo hi (rank c.args.walk.plan.end) c.requires.order up c.args.walk.tail_value es c.requires.walk.tail_value (c.in-None.ensures ∙ ap (joined_start lo) c.requires.walk.plan.predecessor))

pub returns-in_ok-extend-in-Some-clause-painted : goal.returns-in_ok-extend-in-Some-clause-painted
returns-in_ok-extend-in-Some-clause-painted g c =
    let rank = g.T.Integer.rank in
    let start = c.in-Some.ensures ∙ ap (joined_start (rank c.args.lo)) c.requires.walk.plan.predecessor in
    let made = c.in_ok-extend-in-Some.ensures.extended in
    table_painted g.V.PartialEq.eq g.met.V.Eq.laws g.T.Integer.low g.T.Integer.high _ (entry (rank c.args.lo) (rank c.args.hi) c.args.value) _ c.extend.new.entries.entries c.requires.order c.in_hand-2.ensures.from c.in_hand-3.ensures.to c.requires.table.canonical c.requires.table.are_keys
    (all_keys _ _ _ _ _ _ c.requires.walk.keys_outside c.length.ensures c.plus-painted.ensures)
    (paint_extends g.V.PartialEq.eq g.met.V.Eq.laws (rank c.args.lo) (rank c.args.hi) c.args.value c.requires.order g.T.Integer.low g.T.Integer.high c.args.entries.now.entries c.in_hand.ensures c.requires.table.canonical
    (rank c.args.walk.plan.end) c.requires.walk.plan.end made.above made.like (rank c.in-Some.first) c.extend.new.entries.entries start made.of made.found made.put)

pub returns-in_ok-set_entry-in-None-clause-painted : goal.returns-in_ok-set_entry-in-None-clause-painted
returns-in_ok-set_entry-in-None-clause-painted g c =
    let rank = g.T.Integer.rank in
    let start = c.in-None.ensures ∙ ap (joined_start (rank c.args.lo)) c.requires.walk.plan.predecessor in
    let made = c.in_ok-set_entry-in-None.ensures.put in
    table_painted g.V.PartialEq.eq g.met.V.Eq.laws g.T.Integer.low g.T.Integer.high _ (entry (rank c.args.lo) (rank c.args.hi) c.args.value) _ c.set_entry.new.entries.entries c.requires.order c.in_hand-2.ensures.from c.in_hand-3.ensures.to c.requires.table.canonical c.requires.table.are_keys
    (all_keys _ _ _ _ _ _ c.requires.walk.keys_outside c.length.ensures c.plus-painted.ensures)
    (paint_puts g.V.PartialEq.eq g.met.V.Eq.laws (rank c.args.lo) (rank c.args.hi) c.args.value c.requires.order g.T.Integer.low g.T.Integer.high c.args.entries.now.entries c.in_hand.ensures c.requires.table.canonical
    (rank c.args.walk.plan.end) c.requires.walk.plan.end made.above made.like c.set_entry.new.entries.entries start made.put)
