use Rattle.blaze_table.proofs.Words.{ℕ, ◌+◌, pos, ◌+ℤ◌, ◌∷◌, List, sym, ap, ◌∙◌, arith, option_map, CountedEntries, found_in, shown_found, from, last_below, below_next, begins, fits, has_room, goes_on, stops, ends, Entry}
use Rattle.blaze_table.proofs.Walks.Descents.{down_to, at_bottom, rounds_fall}
use Rattle.blaze_table.proofs.looks.plan.Goals as goal

pub loop-last-init : goal.loop-last-init
loop-last-init g c =
    let rank = g.T.Integer.rank in
    let low = g.T.Integer.low in
    let high = g.T.Integer.high in
    let h = rank c.args.hi in
    let es = c.args.entries.now.entries in
    let looks = ap (λ (s : CountedEntries g.row.V.Denot). s.looks) c.found_at_or_below-last.ensures.looked in
    record {
      key = rank c.next_or_last.result +ℤ pos 1;
      seen = from (h +ℤ pos 2) es;
      same = c.found_at_or_below-last.ensures.looked ∙ ap (λ (n : ℕ). record c.args.entries.now { looks = n }) (sym looks);
      found = c.found_at_or_below-last.ensures.found;
      walk = begins (λ (w : g.row.V.Denot). g.V.PartialEq.eq w c.args.value.now) (rank c.args.lo) h low high c.requires.order es c.requires.ranges _ _ _ (below_next low high h (rank c.next_or_last.result) es c.in_hand.ensures c.next_or_last.ensures) c.new-plan.ensures looks;
    }

pub length_outside-keys_outside-requires : goal.length_outside-keys_outside-requires
length_outside-keys_outside-requires g c =
    let rank = g.T.Integer.rank in
    let test = λ (w : g.row.V.Denot). g.V.PartialEq.eq w c.args.value.now in
    let i = c.loop-last.invariant in
    let d = down_to test g.T.Integer.low g.T.Integer.high c.args.entries.now.entries c.in_hand.ensures i.key (shown_found rank c.in-Some.found) (sym (ap (option_map (shown_found rank)) c.in-Some.is) ∙ i.found) in
    has_room i.walk g.T.Integer.low c.requires.order c.requires.ranges _ d.found d.down d.is c.requires.len

pub see-requires : goal.see-requires
see-requires g c =
    let rank = g.T.Integer.rank in
    let test = λ (w : g.row.V.Denot). g.V.PartialEq.eq w c.args.value.now in
    let i = c.loop-last.invariant in
    let d = down_to test g.T.Integer.low g.T.Integer.high c.args.entries.now.entries c.in_hand.ensures i.key (shown_found rank c.in-Some.found) (sym (ap (option_map (shown_found rank)) c.in-Some.is) ∙ i.found) in
    omega (arith, fits i.walk g.T.Integer.low c.requires.order c.requires.ranges _ d.found d.down d.is, c.length_in_hand.ensures)

pub returns-then-is_below : goal.returns-then-is_below
returns-then-is_below g c =
    let rank = g.T.Integer.rank in
    let test = λ (w : g.row.V.Denot). g.V.PartialEq.eq w c.args.value.now in
    let i = c.loop-last.invariant in
    let d = down_to test g.T.Integer.low g.T.Integer.high c.args.entries.now.entries c.in_hand.ensures i.key (shown_found rank c.in-Some.found) (sym (ap (option_map (shown_found rank)) c.in-Some.is) ∙ i.found) in
    let all = stops i.walk g.T.Integer.low c.requires.order c.requires.ranges _ d.found d.down d.is c.see.ensures.seen (pos (g.T.SafeLen.SafeLength.number c.length_outside-keys_outside.result)) c.length_outside-keys_outside.ensures (sym c.is_below.ensures ∙ c.if-is_below.true) in
    record {
      plan = all.seen;
      len = all.kept;
      looked = i.same;
      risen = omega (arith, all.risen);
      few = omega (arith, all.few);
    }

pub loop-last-smaller : goal.loop-last-smaller
loop-last-smaller g c =
    let rank = g.T.Integer.rank in
    let same = ap (λ (s : CountedEntries g.row.V.Denot). s.entries) c.loop-last.invariant.same in
    rounds_fall (λ w. g.V.PartialEq.eq w c.args.value.now) g.T.Integer.low g.T.Integer.high c.args.entries.now.entries c.in_hand.ensures c.loop-last.invariant.key (shown_found rank c.in-Some.found) _ _
    (ap (option_map (shown_found rank)) c.in-Some.is)
    (c.found_below-last.ensures.found ∙ ap (λ (xs : List (Entry g.row.V.Denot)). option_map (found_in (λ w. g.V.PartialEq.eq w c.args.value.now)) (last_below (rank c.in-Some.found.start) xs)) same)

pub loop-last-preserved : goal.loop-last-preserved
loop-last-preserved g c =
    let rank = g.T.Integer.rank in
    let test = λ (w : g.row.V.Denot). g.V.PartialEq.eq w c.args.value.now in
    let i = c.loop-last.invariant in
    let same = ap (λ (s : CountedEntries g.row.V.Denot). s.entries) i.same in
    let d = down_to test g.T.Integer.low g.T.Integer.high c.args.entries.now.entries c.in_hand.ensures i.key (shown_found rank c.in-Some.found) (sym (ap (option_map (shown_found rank)) c.in-Some.is) ∙ i.found) in
    let looks = ap (λ (s : CountedEntries g.row.V.Denot). s.looks) c.found_below-last.ensures.looked in
    record {
      key = rank c.in-Some.found.start;
      seen = d.found ∷ i.seen;
      same = c.found_below-last.ensures.looked ∙ ap (λ (s : CountedEntries g.row.V.Denot). record s { looks = c.loop-last.entries.looks + 1 }) i.same ∙ ap (λ (n : ℕ). record c.args.entries.now { looks = n }) (sym looks);
      found = c.found_below-last.ensures.found ∙ ap (λ (xs : List (Entry g.row.V.Denot)). option_map (found_in test) (last_below (rank c.in-Some.found.start) xs)) same;
      walk = goes_on i.walk g.T.Integer.low c.requires.order c.requires.ranges _ d.found d.down d.is c.see.ensures.seen (pos (g.T.SafeLen.SafeLength.number c.length_outside-keys_outside.result)) c.length_outside-keys_outside.ensures looks (sym c.is_below.ensures ∙ c.if-is_below.false);
    }

pub returns : goal.returns
returns g c =
    let rank = g.T.Integer.rank in
    let i = c.loop-last.invariant in
    let all = ends i.walk (at_bottom (λ w. g.V.PartialEq.eq w c.args.value.now) g.T.Integer.low g.T.Integer.high c.args.entries.now.entries c.in_hand.ensures i.key (sym (ap (option_map (shown_found rank)) c.in_default.is) ∙ i.found)) in
    record {
      plan = all.seen;
      len = all.kept;
      looked = i.same;
      risen = omega (arith, all.risen);
      few = omega (arith, all.few);
    }
