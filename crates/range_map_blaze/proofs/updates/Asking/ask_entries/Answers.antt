use Rattle.range_map_blaze.proofs.Words.{Result, Ok, Err, ◌≡◌, shown_option, TakesValue, KeepsValue, rank_of_next, shown_entry, shown_list}
use Rattle.range_map_blaze.proofs.Edits.Pieces.{by_below, by_not_below, takes_piece, keeps_piece, walk_none, walk_ends, walk_passes, walk_at_gap, walk_at_entry, walk_more}
use Rattle.range_map_blaze.proofs.updates.Asking.ask_entries.Goals as goal

ok_is_no_err : {A E : Type 0} {r : Result A E} {a : A} {e : E} → r ≡ Ok a → r ≡ Err e → ⊥
ok_is_no_err good bad = cc

pub loop-first-init : goal.loop-first-init
loop-first-init g c =
    let rank = g.T.Integer.rank in (
      tt,
      tt,
      walk_none (λ a. shown_option (λ v. v.now) a.0) g.F.FnMut g.V.PartialEq.eq g.met.V.Eq.laws (rank c.args.start) (rank c.args.end) c.args.self.now.f c.args.table.now.entries
          g.T.Integer.low g.T.Integer.high _ _ (shown_list rank c.args.self.now.edits.items) c.in_hand.ensures c.iter_ending_from-first-items.ensures c.into_iter-first-iterator.ensures.into_iter_gives,
    )

pub ask_below-requires : goal.ask_below-requires
ask_below-requires g c =
    let rank = g.T.Integer.rank in
    let walk = c.loop-first.invariant.2 in
    let e = shown_entry rank (λ v. v.now) (c.in-Some.first, c.in-Some.last, c.in-Some.value) in
    let under = by_not_below (rank c.args.end) (rank c.in-Some.first) c.is_below.result c.is_below.ensures c.if-is_below.false in
    record {
      callable = walk_at_gap (λ a. shown_option (λ v. v.now) a.0) g.F.FnMut g.V.PartialEq.eq g.met.V.Eq.laws (rank c.args.start) (rank c.args.end) c.args.self.now.f c.args.table.now.entries
          g.T.Integer.low g.T.Integer.high _ _ _ _ _ c.in_hand.ensures c.requires.order walk
          e c.next.new.self c.in-Some.ensures.steps (rank c.greater-first.result) (rank c.lesser-last.result) under c.greater-first.ensures c.lesser-last.ensures
          (TakesValue (λ a. shown_option (λ v. v.now) a.0) g.F.FnMut) (takes_piece (λ a. shown_option (λ v. v.now) a.0) g.F.FnMut g.V.PartialEq.eq g.met.V.Eq.laws (rank c.args.start) (rank c.args.end) c.args.self.now.f c.args.table.now.entries c.requires.callable);
    }

pub ask-requires : goal.ask-requires
ask-requires g c =
    let rank = g.T.Integer.rank in
    let walk = c.loop-first.invariant.2 in
    let e = shown_entry rank (λ v. v.now) (c.in-Some.first, c.in-Some.last, c.in-Some.value) in
    let under = by_not_below (rank c.args.end) (rank c.in-Some.first) c.is_below.result c.is_below.ensures c.if-is_below.false in
    record {
      callable = walk_at_entry (λ a. shown_option (λ v. v.now) a.0) g.F.FnMut g.V.PartialEq.eq g.met.V.Eq.laws (rank c.args.start) (rank c.args.end) c.args.self.now.f c.args.table.now.entries
          g.T.Integer.low g.T.Integer.high _ _ _ _ _ c.in_hand.ensures c.requires.order walk
          e c.next.new.self c.in-Some.ensures.steps (rank c.greater-first.result) (rank c.lesser-last.result) under c.greater-first.ensures c.lesser-last.ensures
          _ _ c.in_ok-ask_below.ensures.asked (TakesValue (λ a. shown_option (λ v. v.now) a.0) g.F.FnMut) (takes_piece (λ a. shown_option (λ v. v.now) a.0) g.F.FnMut g.V.PartialEq.eq g.met.V.Eq.laws (rank c.args.start) (rank c.args.end) c.args.self.now.f c.args.table.now.entries c.requires.callable);
    }

pub loop-first-preserved : goal.loop-first-preserved
loop-first-preserved g c =
    let rank = g.T.Integer.rank in
    let walk = c.loop-first.invariant.2 in
    let e = shown_entry rank (λ v. v.now) (c.in-Some.first, c.in-Some.last, c.in-Some.value) in
    let under = by_not_below (rank c.args.end) (rank c.in-Some.first) c.is_below.result c.is_below.ensures c.if-is_below.false in (
      tt,
      tt,
      walk_more (λ a. shown_option (λ v. v.now) a.0) g.F.FnMut g.V.PartialEq.eq g.met.V.Eq.laws (rank c.args.start) (rank c.args.end) c.args.self.now.f c.args.table.now.entries
          g.T.Integer.low g.T.Integer.high _ _ _ _ _ c.in_hand.ensures c.requires.order walk
          e c.next.new.self c.in-Some.ensures.steps (rank c.greater-first.result) (rank c.lesser-last.result) under c.greater-first.ensures c.lesser-last.ensures
          _ _ c.in_ok-ask_below.ensures.asked _ _ _ (rank_of_next rank g.T.Integer.high _ _ c.checked_add_one-next.ensures) c.in_ok-ask.ensures.asked,
    )

pub returns-then-is_below-clause-asked : goal.returns-then-is_below-clause-asked
returns-then-is_below-clause-asked g c =
    let rank = g.T.Integer.rank in
    let e = shown_entry rank (λ v. v.now) (c.in-Some.first, c.in-Some.last, c.in-Some.value) in
    let over = by_below (rank c.args.end) (rank c.in-Some.first) c.is_below.result c.is_below.ensures c.if-is_below.true in
    walk_passes (λ a. shown_option (λ v. v.now) a.0) g.F.FnMut g.V.PartialEq.eq g.met.V.Eq.laws (rank c.args.start) (rank c.args.end) c.args.self.now.f c.args.table.now.entries
    g.T.Integer.low g.T.Integer.high _ _ _ _ _ c.in_hand.ensures c.requires.order c.loop-first.invariant.2
    e c.next.new.self c.in-Some.ensures.steps over

pub returns-clause-asked : goal.returns-clause-asked
returns-clause-asked g c =
    let rank = g.T.Integer.rank in
    walk_ends (λ a. shown_option (λ v. v.now) a.0) g.F.FnMut g.V.PartialEq.eq g.met.V.Eq.laws (rank c.args.start) (rank c.args.end) c.args.self.now.f c.args.table.now.entries
    g.T.Integer.low g.T.Integer.high _ _ _ _ _ c.in_hand.ensures c.requires.order c.loop-first.invariant.2 c.in-None.ensures.steps.0

-- where each call returns the old value, no call fails
pub returns-in_err-ask_below-clause-steady : goal.returns-in_err-ask_below-clause-steady
returns-in_err-ask_below-clause-steady g c = λ keeps.
    let rank = g.T.Integer.rank in
    let walk = c.loop-first.invariant.2 in
    let e = shown_entry rank (λ v. v.now) (c.in-Some.first, c.in-Some.last, c.in-Some.value) in
    let under = by_not_below (rank c.args.end) (rank c.in-Some.first) c.is_below.result c.is_below.ensures c.if-is_below.false in
    let good = c.ask_below.ensures.steady (walk_at_gap (λ a. shown_option (λ v. v.now) a.0) g.F.FnMut g.V.PartialEq.eq g.met.V.Eq.laws (rank c.args.start) (rank c.args.end) c.args.self.now.f c.args.table.now.entries
    g.T.Integer.low g.T.Integer.high _ _ _ _ _ c.in_hand.ensures c.requires.order walk
    e c.next.new.self c.in-Some.ensures.steps (rank c.greater-first.result) (rank c.lesser-last.result) under c.greater-first.ensures c.lesser-last.ensures
    (KeepsValue (λ a. shown_option (λ v. v.now) a.0) g.F.FnMut g.V.PartialEq.eq) (keeps_piece (λ a. shown_option (λ v. v.now) a.0) g.F.FnMut g.V.PartialEq.eq g.met.V.Eq.laws (rank c.args.start) (rank c.args.end) c.args.self.now.f c.args.table.now.entries keeps)) in
    absurd (ok_is_no_err good c.in_err-ask_below.was)

pub returns-in_err-ask-clause-steady : goal.returns-in_err-ask-clause-steady
returns-in_err-ask-clause-steady g c = λ keeps.
    let rank = g.T.Integer.rank in
    let walk = c.loop-first.invariant.2 in
    let e = shown_entry rank (λ v. v.now) (c.in-Some.first, c.in-Some.last, c.in-Some.value) in
    let under = by_not_below (rank c.args.end) (rank c.in-Some.first) c.is_below.result c.is_below.ensures c.if-is_below.false in
    let good = c.ask.ensures.steady (walk_at_entry (λ a. shown_option (λ v. v.now) a.0) g.F.FnMut g.V.PartialEq.eq g.met.V.Eq.laws (rank c.args.start) (rank c.args.end) c.args.self.now.f c.args.table.now.entries
    g.T.Integer.low g.T.Integer.high _ _ _ _ _ c.in_hand.ensures c.requires.order walk
    e c.next.new.self c.in-Some.ensures.steps (rank c.greater-first.result) (rank c.lesser-last.result) under c.greater-first.ensures c.lesser-last.ensures
    _ _ c.in_ok-ask_below.ensures.asked
    (KeepsValue (λ a. shown_option (λ v. v.now) a.0) g.F.FnMut g.V.PartialEq.eq) (keeps_piece (λ a. shown_option (λ v. v.now) a.0) g.F.FnMut g.V.PartialEq.eq g.met.V.Eq.laws (rank c.args.start) (rank c.args.end) c.args.self.now.f c.args.table.now.entries keeps)) in
    absurd (ok_is_no_err good c.in_err-ask.was)
