use Rattle.blaze_table.proofs.Words.{◌≡◌, false, arith, sym, subst, ◌∙◌, ints, lt_holds, lt_fails, ending_from, Entry, at, IsNextGap}
use Rattle.blaze_table.proofs.Fills.Upwards.{IsWalked, walked_first, walked_next, walked_held, walked_gap, end_gap}
use Rattle.blaze_table.proofs.table.fill.gap.first_gap.Goals as goal

pub loop-first-init : goal.loop-first-init
loop-first-init g c =
    let rank = g.T.Integer.rank in
    let es = c.args.entries.now.counted.entries in
    let left : c.into_iter-first-iterator.result ≡ ending_from (rank c.before_or_least.result) es = c.into_iter-first-iterator.ensures.into_iter_gives ∙ c.entries_ending_from-first-items.ensures in (
      tt,
      tt,
      c.requires.order,
      subst (IsWalked g.V.PartialEq.eq c.args.value.now (at es) (rank c.args.start) (rank c.args.start) false) (sym left)
          (walked_first g.V.PartialEq.eq c.args.value.now g.T.Integer.low g.T.Integer.high (rank c.args.start) (rank c.before_or_least.result) es c.requires.ordered c.requires.keys c.before_or_least.ensures),
    )

pub returns-then-is_below : goal.returns-then-is_below
returns-then-is_below g c =
    let rank = g.T.Integer.rank in
    let eq = g.V.PartialEq.eq in
    let v = c.args.value.now in
    let content = at c.args.entries.now.counted.entries in
    let start = rank c.args.start in
    let end = rank c.args.end in
    let key = rank c.loop-first.key in
    let e : Entry _ = record { lo = rank c.in-Some.first; hi = rank c.in-Some.last; value = c.in-Some.held.now } in
    let w = subst (IsWalked eq v content start key c.loop-first.is_equal) c.in-Some.ensures.steps c.loop-first.invariant.3 in
    let gap = c.gap_below.result in
    let is = c.gap_below.ensures in
    subst (λ a. IsNextGap eq content v start end a (rank gap.end) gap.equal_below gap.equal_above) (sym is.start)
    (subst (λ t. IsNextGap eq content v start end key (rank gap.end) t gap.equal_above) (sym is.below)
    (walked_gap eq v content start key c.loop-first.is_equal e c.next.new.self w (rank gap.end) end is.end c.eq.result gap.equal_above c.eq.ensures is.above))

pub returns-then-not-is_below : goal.returns-then-not-is_below
returns-then-not-is_below g c =
    let rank = g.T.Integer.rank in
    let eq = g.V.PartialEq.eq in
    let v = c.args.value.now in
    let content = at c.args.entries.now.counted.entries in
    let key = rank c.loop-first.key in
    let e : Entry _ = record { lo = rank c.in-Some.first; hi = rank c.in-Some.last; value = c.in-Some.held.now } in
    let w = subst (IsWalked eq v content (rank c.args.start) key c.loop-first.is_equal) c.in-Some.ensures.steps c.loop-first.invariant.3 in
    let near = lt_fails key (rank c.in-Some.first) (sym c.is_below.ensures ∙ c.if-is_below.false) in
    let reaches = lt_fails (rank c.in-Some.last) (rank c.args.end) (sym c.is_below-in-loop-first.ensures ∙ c.if-not-is_below.true) in
    walked_held eq v content (rank c.args.start) key c.loop-first.is_equal e c.next.new.self w near (rank c.args.end) reaches

pub add_one-key-requires : goal.add_one-key-requires
add_one-key-requires g c = record {
  below =
      let rank = g.T.Integer.rank in
      let less = lt_holds (rank c.in-Some.last) (rank c.args.end) (sym c.is_below-in-loop-first.ensures ∙ c.if-not-is_below.false) in
      omega (arith, ints, less, c.in_hand.ensures.to);
}

pub loop-first-preserved : goal.loop-first-preserved
loop-first-preserved g c =
    let rank = g.T.Integer.rank in
    let eq = g.V.PartialEq.eq in
    let v = c.args.value.now in
    let content = at c.args.entries.now.counted.entries in
    let key = rank c.loop-first.key in
    let e : Entry _ = record { lo = rank c.in-Some.first; hi = rank c.in-Some.last; value = c.in-Some.held.now } in
    let w = subst (IsWalked eq v content (rank c.args.start) key c.loop-first.is_equal) c.in-Some.ensures.steps c.loop-first.invariant.3 in
    let near = lt_fails key (rank c.in-Some.first) (sym c.is_below.ensures ∙ c.if-is_below.false) in
    let less = lt_holds (rank c.in-Some.last) (rank c.args.end) (sym c.is_below-in-loop-first.ensures ∙ c.if-not-is_below.false) in (
      tt,
      tt,
      omega (arith, ints, less, c.add_one-key.ensures),
      walked_next eq v content (rank c.args.start) key c.loop-first.is_equal e c.next.new.self w near (rank c.add_one-key.result) c.eq-is_equal.result c.add_one-key.ensures c.eq-is_equal.ensures,
    )

pub returns : goal.returns
returns g c =
    let rank = g.T.Integer.rank in
    let eq = g.V.PartialEq.eq in
    let v = c.args.value.now in
    let content = at c.args.entries.now.counted.entries in
    let start = rank c.args.start in
    let key = rank c.loop-first.key in
    let w = subst (IsWalked eq v content start key c.loop-first.is_equal) c.in-None.ensures.steps.0 c.loop-first.invariant.3 in
    end_gap eq v content start key c.loop-first.is_equal (rank c.args.end) c.loop-first.invariant.2 w
