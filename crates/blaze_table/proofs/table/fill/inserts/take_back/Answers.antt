use Rattle.blaze_table.proofs.Words.{map, ap, sym, subst, ◌∙◌, arith, CountedEntries, AreThere, without_all}
use Rattle.blaze_table.proofs.Fills.TakenBack.{there_next, taken_next}
use Rattle.blaze_table.proofs.Walks.Worked.{counted_then}
use Rattle.blaze_table.proofs.table.fill.inserts.take_back.Goals as goal

pub remove-requires : goal.remove-requires
remove-requires g c = record {
  present =
      (there_next g.T.Integer.rank c.loop-start.starts.items c.pop.new.self.items c.in-Some.start c.in-Some.ensures.items c.loop-start.entries.entries c.loop-start.invariant.there).0;
}

pub loop-start-preserved : goal.loop-start-preserved
loop-start-preserved g c =
    let rank = g.T.Integer.rank in
    let i = c.loop-start.invariant in
    let out = c.remove.ensures.entries in
    let entries = ap (λ (s : CountedEntries g.row.V.Denot). s.entries) out in
    record {
      there = subst (AreThere (map rank c.pop.new.self.items)) (sym entries) (there_next rank c.loop-start.starts.items c.pop.new.self.items c.in-Some.start c.in-Some.ensures.items c.loop-start.entries.entries i.there).1;
      taken = ap (without_all (map rank c.pop.new.self.items)) entries ∙ taken_next rank c.loop-start.starts.items c.pop.new.self.items c.in-Some.start c.in-Some.ensures.items c.loop-start.entries.entries ∙ i.taken;
      counted = counted_then c.args.entries.now c.loop-start.entries c.remove.new.self i.counted (record {
        looks = omega (arith, ap (λ (s : CountedEntries g.row.V.Denot). s.looks) out);
        puts = omega (arith, ap (λ (s : CountedEntries g.row.V.Denot). s.put_in) out);
        taken = omega (arith, ap (λ (s : CountedEntries g.row.V.Denot). s.taken_out) out);
        balance = omega (arith, c.remove.ensures.shorter, ap (λ (s : CountedEntries g.row.V.Denot). s.put_in) out, ap (λ (s : CountedEntries g.row.V.Denot). s.taken_out) out);
      });
    }
