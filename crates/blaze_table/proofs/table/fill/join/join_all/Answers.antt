use Rattle.blaze_table.proofs.Words.{refl, ◌∙◌, arith, at}
use Rattle.blaze_table.proofs.Fills.Joints.{joint_next, joined_next, joined_all, kept_next, same_then, same_content}
use Rattle.blaze_table.proofs.Fills.KeptEntries.{starts_same}
use Rattle.blaze_table.proofs.Walks.Worked.{counted_none, counted_then}
use Rattle.blaze_table.proofs.table.fill.join.join_all.Goals as goal

pub join-requires-clause-joint : goal.join-requires-clause-joint
join-requires-clause-joint g c =
    joint_next g.V.PartialEq.eq g.met.V.Eq.laws g.T.Integer.rank c.loop-key.join_keys.items c.pop.new.self.items c.in-Some.key c.in-Some.ensures.items c.loop-key.entries.entries c.loop-key.invariant.joined

pub loop-key-init : goal.loop-key-init
loop-key-init g c = record {
  ordered = c.requires.ordered;
  are_keys = c.requires.keys;
  joined = c.requires.joints;
  count = refl;
  same = same_content g.V.PartialEq.eq g.met.V.Eq.laws c.args.entries.now.entries;
  kept = starts_same g.V.PartialEq.eq (at c.args.entries.now.entries) c.args.entries.now.entries;
  counted = counted_none c.args.entries.now;
}

pub loop-key-preserved : goal.loop-key-preserved
loop-key-preserved g c =
    let i = c.loop-key.invariant in
    let j = c.join.ensures.joined in
    record {
      ordered = j.ordered;
      are_keys = j.are_keys;
      joined = joined_next g.V.PartialEq.eq g.met.V.Eq.laws g.T.Integer.rank c.loop-key.join_keys.items c.pop.new.self.items c.in-Some.key c.in-Some.ensures.items c.loop-key.entries.entries i.joined g.T.Integer.low g.T.Integer.high c.join.new.entries.entries j;
      count = j.count ∙ i.count;
      same = same_then g.V.PartialEq.eq g.met.V.Eq.laws c.join.new.entries.entries c.loop-key.entries.entries c.args.entries.now.entries j.same i.same;
      kept = kept_next g.V.PartialEq.eq g.met.V.Eq.laws (g.T.Integer.rank c.in-Some.key) g.T.Integer.low g.T.Integer.high c.args.entries.now.entries c.loop-key.entries.entries c.join.new.entries.entries i.same
          (joint_next g.V.PartialEq.eq g.met.V.Eq.laws g.T.Integer.rank c.loop-key.join_keys.items c.pop.new.self.items c.in-Some.key c.in-Some.ensures.items c.loop-key.entries.entries i.joined) j i.kept;
      counted = counted_then c.args.entries.now c.loop-key.entries c.join.new.entries i.counted c.join.ensures.counted;
    }

pub returns-clause-joined : goal.returns-clause-joined
returns-clause-joined g c =
    let i = c.loop-key.invariant in
    record {
      canonical = joined_all g.V.PartialEq.eq g.met.V.Eq.laws g.T.Integer.rank c.loop-key.join_keys.items c.loop-key.entries.entries (omega (arith, c.in_default.ensures.cases)) i.ordered i.joined;
      are_keys = i.are_keys;
      count = i.count;
      same = i.same;
      kept = i.kept;
    }
