use Rattle.blaze_table.proofs.Words.{map, arith, refl, ints, all_keys, all_fit}
use Rattle.blaze_table.proofs.Fills.Fillings.{beside_next, filling_first, filling_next, filling_last, room_more, table_more}
use Rattle.blaze_table.proofs.Fills.HeldKeys.{nearer}
use Rattle.blaze_table.proofs.Fills.Ordered.{ordered_table}
use Rattle.blaze_table.proofs.Fills.Puts.{absent_in}
use Rattle.blaze_table.proofs.Fills.TakenBack.{map_none}
use Rattle.blaze_table.proofs.Fills.Upwards.{is_under}
use Rattle.blaze_table.proofs.Walks.Worked.{counted_none, counted_then}
use Rattle.blaze_table.proofs.table.fill.inserts.insert_all.Goals as goal

pub loop-next-init : goal.loop-next-init
loop-next-init g c =
    let rank = g.T.Integer.rank in
    let eq = g.V.PartialEq.eq in
    let old = c.args.entries.now.counted.entries in
    record {
      table = ordered_table eq g.T.Integer.low g.T.Integer.high (g.T.SafeLen.SafeLength.number c.args.len) old c.requires.table;
      filling = filling_first eq g.met.V.Eq.laws old (rank c.args.first.start) (rank c.args.first.end) (rank c.args.hi) c.args.value _ _ c.requires.table.canonical c.requires.first.gap
          (map_none rank c.args.made.now.starts.items c.requires.made.no_start) (map_none rank c.args.made.now.join_keys.items c.requires.made.no_joint);
      beside = c.requires.first.beside;
      counted = counted_none c.args.entries.now.counted;
    }

pub plus-sum-requires : goal.plus-sum-requires
plus-sum-requires g c = record {
  fits =
      let rank = g.T.Integer.rank in
      let eq = g.V.PartialEq.eq in
      let laws = g.met.V.Eq.laws in
      let low = g.T.Integer.low in
      let high = g.T.Integer.high in
      let i = c.loop-next.invariant in
      let old = c.args.entries.now.counted.entries in
      let cur = c.loop-next.entries.counted.entries in
      let new = c.fill_gap.new.entries.entries in
      let w = c.in_ok-clone.clone in
      let starts = map rank c.loop-next.made.starts.items in
      let more = map rank c.fill_gap.new.made.starts.items in
      let join_keys = map rank c.loop-next.made.join_keys.items in
      let all = map rank c.fill_gap.new.made.join_keys.items in
      let d = c.in_ok-fill_gap.ensures.ok in
      let like = c.requires.clones _ _ c.in_ok-clone.ensures.cases in
      let room = room_more eq laws low high (rank c.args.first.start) (rank c.args.hi) (rank c.loop-next.gap.start) (rank c.loop-next.gap.end) c.args.value w starts more join_keys all old cur new c.in_hand.ensures.from c.in_hand-2.ensures.to i.table.canonical i.filling c.loop-next.gap.equal_below c.loop-next.gap.equal_above i.beside d like (g.T.SafeLen.SafeLength.number c.loop-next.sum) g.met.T.Integer.ranked.some_key i.table in
      all_fit _ _ _ _ _ _ room g.met.T.Integer.has_room c.length.ensures;
}

pub loop-next-smaller : goal.loop-next-smaller
loop-next-smaller g c =
    let rank = g.T.Integer.rank in
    let gap = c.in-Some.ensures.gap in
    nearer (rank c.loop-next.gap.end) (rank c.in-Some.next.end) (rank c.args.hi) (omega (arith, ints, gap.from, gap.order)) gap.to

pub loop-next-preserved : goal.loop-next-preserved
loop-next-preserved g c =
    let rank = g.T.Integer.rank in
    let eq = g.V.PartialEq.eq in
    let laws = g.met.V.Eq.laws in
    let low = g.T.Integer.low in
    let high = g.T.Integer.high in
    let i = c.loop-next.invariant in
    let old = c.args.entries.now.counted.entries in
    let cur = c.loop-next.entries.counted.entries in
    let new = c.fill_gap.new.entries.entries in
    let w = c.in_ok-clone.clone in
    let starts = map rank c.loop-next.made.starts.items in
    let more = map rank c.fill_gap.new.made.starts.items in
    let join_keys = map rank c.loop-next.made.join_keys.items in
    let all = map rank c.fill_gap.new.made.join_keys.items in
    let d = c.in_ok-fill_gap.ensures.ok in
    let like = c.requires.clones _ _ c.in_ok-clone.ensures.cases in
    record {
      table = table_more eq laws low high (rank c.args.first.start) (rank c.args.hi) (rank c.loop-next.gap.start) (rank c.loop-next.gap.end) c.args.value w starts more join_keys all old cur new c.in_hand.ensures.from c.in_hand-2.ensures.to i.table.canonical i.filling c.loop-next.gap.equal_below c.loop-next.gap.equal_above i.beside d like (g.T.SafeLen.SafeLength.number c.loop-next.sum) (g.T.SafeLen.SafeLength.number c.plus-sum.result) i.table (all_keys _ _ _ _ _ _ refl c.length.ensures c.plus-sum.ensures);
      filling = filling_next eq laws low high (rank c.args.first.start) (rank c.args.hi) (rank c.loop-next.gap.start) (rank c.loop-next.gap.end) c.args.value w starts more join_keys all old cur new c.in_hand.ensures.from c.in_hand-2.ensures.to i.table.canonical i.filling c.loop-next.gap.equal_below c.loop-next.gap.equal_above i.beside d like (rank c.in-Some.next.start) (rank c.in-Some.next.end) c.in-Some.ensures.gap;
      beside = beside_next eq laws low high (rank c.args.first.start) (rank c.args.hi) (rank c.loop-next.gap.start) (rank c.loop-next.gap.end) c.args.value w starts more join_keys all old cur new c.in_hand.ensures.from c.in_hand-2.ensures.to i.table.canonical i.filling c.loop-next.gap.equal_below c.loop-next.gap.equal_above i.beside d like (rank c.in-Some.next.start) (rank c.in-Some.next.end) c.in-Some.next.equal_below c.in-Some.next.equal_above c.in-Some.ensures.gap c.in-Some.ensures.beside;
      counted = counted_then c.args.entries.now.counted c.loop-next.entries.counted c.fill_gap.new.entries i.counted c.in_ok-fill_gap.ensures.counted;
    }

pub plus-requires : goal.plus-requires
plus-requires g c = record {
  fits =
      let rank = g.T.Integer.rank in
      let eq = g.V.PartialEq.eq in
      let laws = g.met.V.Eq.laws in
      let low = g.T.Integer.low in
      let high = g.T.Integer.high in
      let i = c.loop-next.invariant in
      let old = c.args.entries.now.counted.entries in
      let cur = c.loop-next.entries.counted.entries in
      let new = c.fill_gap-2.new.entries.entries in
      let w = c.args.value in
      let starts = map rank c.loop-next.made.starts.items in
      let more = map rank c.fill_gap-2.new.made.starts.items in
      let join_keys = map rank c.loop-next.made.join_keys.items in
      let all = map rank c.fill_gap-2.new.made.join_keys.items in
      let d = c.in_ok-fill_gap-2.ensures.ok in
      let like = laws.refl c.args.value in
      let room = room_more eq laws low high (rank c.args.first.start) (rank c.args.hi) (rank c.loop-next.gap.start) (rank c.loop-next.gap.end) c.args.value w starts more join_keys all old cur new c.in_hand.ensures.from c.in_hand-2.ensures.to i.table.canonical i.filling c.loop-next.gap.equal_below c.loop-next.gap.equal_above i.beside d like (g.T.SafeLen.SafeLength.number c.loop-next.sum) g.met.T.Integer.ranked.some_key i.table in
      all_fit _ _ _ _ _ _ room g.met.T.Integer.has_room c.length-2.ensures;
}

pub returns-clause-table : goal.returns-clause-table
returns-clause-table g c =
    let rank = g.T.Integer.rank in
    let eq = g.V.PartialEq.eq in
    let laws = g.met.V.Eq.laws in
    let low = g.T.Integer.low in
    let high = g.T.Integer.high in
    let i = c.loop-next.invariant in
    let old = c.args.entries.now.counted.entries in
    let cur = c.loop-next.entries.counted.entries in
    let new = c.fill_gap-2.new.entries.entries in
    let w = c.args.value in
    let starts = map rank c.loop-next.made.starts.items in
    let more = map rank c.fill_gap-2.new.made.starts.items in
    let join_keys = map rank c.loop-next.made.join_keys.items in
    let all = map rank c.fill_gap-2.new.made.join_keys.items in
    let d = c.in_ok-fill_gap-2.ensures.ok in
    let like = laws.refl c.args.value in
    table_more eq laws low high (rank c.args.first.start) (rank c.args.hi) (rank c.loop-next.gap.start) (rank c.loop-next.gap.end) c.args.value w starts more join_keys all old cur new c.in_hand.ensures.from c.in_hand-2.ensures.to i.table.canonical i.filling c.loop-next.gap.equal_below c.loop-next.gap.equal_above i.beside d like (g.T.SafeLen.SafeLength.number c.loop-next.sum) (g.T.SafeLen.SafeLength.number c.plus.result) i.table (all_keys _ _ _ _ _ _ refl c.length-2.ensures c.plus.ensures)

pub returns-clause-filled : goal.returns-clause-filled
returns-clause-filled g c =
    let rank = g.T.Integer.rank in
    let eq = g.V.PartialEq.eq in
    let laws = g.met.V.Eq.laws in
    let low = g.T.Integer.low in
    let high = g.T.Integer.high in
    let i = c.loop-next.invariant in
    let old = c.args.entries.now.counted.entries in
    let cur = c.loop-next.entries.counted.entries in
    let new = c.fill_gap-2.new.entries.entries in
    let w = c.args.value in
    let starts = map rank c.loop-next.made.starts.items in
    let more = map rank c.fill_gap-2.new.made.starts.items in
    let join_keys = map rank c.loop-next.made.join_keys.items in
    let all = map rank c.fill_gap-2.new.made.join_keys.items in
    let d = c.in_ok-fill_gap-2.ensures.ok in
    let like = laws.refl c.args.value in
    filling_last eq laws low high (rank c.args.first.start) (rank c.args.hi) (rank c.loop-next.gap.start) (rank c.loop-next.gap.end) c.args.value w starts more join_keys all old cur new c.in_hand.ensures.from c.in_hand-2.ensures.to i.table.canonical i.filling c.loop-next.gap.equal_below c.loop-next.gap.equal_above i.beside d like c.in_default.ensures

pub fill_gap-requires-clause-absent : goal.fill_gap-requires-clause-absent
fill_gap-requires-clause-absent g c =
    let start = g.T.Integer.rank c.loop-next.gap.start in
    let i = c.loop-next.invariant in
    absent_in start c.loop-next.entries.counted.entries i.table.canonical (i.filling.clear start (omega (arith, ints)) i.filling.order)

pub fill_gap-requires-clause-above : goal.fill_gap-requires-clause-above
fill_gap-requires-clause-above g c = λ t.
    let i = c.loop-next.invariant in
    is_under g.V.PartialEq.eq c.args.value g.T.Integer.low g.T.Integer.high (g.T.Integer.rank c.loop-next.gap.end) c.loop-next.entries.counted.entries i.table.are_keys (i.beside.above.0 t)

pub fill_gap-requires-2-clause-absent : goal.fill_gap-requires-2-clause-absent
fill_gap-requires-2-clause-absent g c =
    let start = g.T.Integer.rank c.loop-next.gap.start in
    let i = c.loop-next.invariant in
    absent_in start c.loop-next.entries.counted.entries i.table.canonical (i.filling.clear start (omega (arith, ints)) i.filling.order)

pub fill_gap-requires-2-clause-above : goal.fill_gap-requires-2-clause-above
fill_gap-requires-2-clause-above g c = λ t.
    let i = c.loop-next.invariant in
    is_under g.V.PartialEq.eq c.args.value g.T.Integer.low g.T.Integer.high (g.T.Integer.rank c.loop-next.gap.end) c.loop-next.entries.counted.entries i.table.are_keys (i.beside.above.0 t)
