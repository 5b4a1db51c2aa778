use Rattle.blaze_entries.proofs.Words.{◌≡◌, pos, ◌+ℤ◌, ◌∷◌, refl, arith, ap, sym, ◌∙◌, option_copied, is_sought, from, seen_value}
use Rattle.blaze_entries.proofs.Halves.{below_next}
use Rattle.blaze_entries.proofs.Scans.{found_entry}
use Rattle.blaze_entries.proofs.Underway.{begins, value_begins, fits, has_room, goes_on, stops, value_goes_on, value_stops}
use Rattle.blaze_entries.proofs.scan.look_down.Goals as goal

pub loop-next-init : goal.loop-next-init
loop-next-init g c =
    let rank = g.T.Integer.rank in
    let h = rank c.args.hi in
    let es = c.args.tree.now in
    let e = c.iter_up_to-entries.ensures ∙ below_next g.T.Integer.low g.T.Integer.high h (rank c.next_or_last-top.result) es c.in_hand.ensures c.next_or_last-top.ensures in
    let test = is_sought g.V.PartialEq.eq (option_copied c.args.value) in
    let low = g.T.Integer.low in
    let high = g.T.Integer.high in
    record {
      seen = from (h +ℤ pos 2) es;
      walk = begins test (rank c.args.lo) h low high c.requires.order es c.requires.ranges _ _ _ e c.new-plan.ensures refl;
      value = value_begins test (rank c.args.lo) h low high c.requires.order es c.requires.ranges;
    }

pub length_outside-keys_outside-requires : goal.length_outside-keys_outside-requires
length_outside-keys_outside-requires g c =
    let seen = c.in-Some.ensures.found in
    has_room c.loop-next.invariant.walk g.T.Integer.low c.requires.order c.requires.ranges _ seen.0 seen.2 seen.1.found c.requires.len

pub see-requires : goal.see-requires
see-requires g c =
    let seen = c.in-Some.ensures.found in
    omega (arith, fits c.loop-next.invariant.walk g.T.Integer.low c.requires.order c.requires.ranges _ seen.0 seen.2 seen.1.found, c.len.ensures.small)

pub returns-then-is_below : goal.returns-then-is_below
returns-then-is_below g c =
    let low = g.T.Integer.low in
    let i = c.loop-next.invariant in
    let seen = c.in-Some.ensures.found in
    let last = sym c.is_below.ensures ∙ c.if-is_below.true in
    let value = c.seen_value-held.ensures ∙ ap (seen_value (g.T.Integer.rank c.args.lo) (option_copied c.loop-next.held)) (found_entry seen.1) in
    let all = stops i.walk low c.requires.order c.requires.ranges _ seen.0 seen.2 seen.1.found c.see.ensures.seen (pos (g.T.SafeLen.SafeLength.number c.length_outside-keys_outside.result)) c.length_outside-keys_outside.ensures last in
    record {
      plan = all.seen;
      len = all.kept;
      value = value_stops i.walk low c.requires.order c.requires.ranges _ seen.0 seen.2 seen.1.found i.value value last;
      risen = omega (arith, all.risen, c.in-Some.ensures.looked);
      few = omega (arith, all.few, c.in-Some.ensures.looked);
    }

pub loop-next-preserved : goal.loop-next-preserved
loop-next-preserved g c =
    let seen = c.in-Some.ensures.found in
    record {
      seen = seen.0 ∷ c.loop-next.invariant.seen;
      walk =
          goes_on c.loop-next.invariant.walk g.T.Integer.low c.requires.order c.requires.ranges _ seen.0 seen.2 seen.1.found c.see.ensures.seen (pos (g.T.SafeLen.SafeLength.number c.length_outside-keys_outside.result)) c.length_outside-keys_outside.ensures c.in-Some.ensures.looked (sym c.is_below.ensures ∙ c.if-is_below.false);
      value = value_goes_on c.loop-next.invariant.walk g.T.Integer.low c.requires.order c.requires.ranges _ seen.0 seen.2 seen.1.found c.loop-next.invariant.value
          (c.seen_value-held.ensures ∙ ap (seen_value (g.T.Integer.rank c.args.lo) (option_copied c.loop-next.held)) (found_entry seen.1));
    }
