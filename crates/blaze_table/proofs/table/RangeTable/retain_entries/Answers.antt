use Rattle.blaze_table.proofs.Words.{◌≡◌, arith, ints, ap, sym, ◌∙◌, length, keys_in, common_steps, keys_among, canonical_filtered, are_keys_filtered, all_filtered, range_map}
use Rattle.blaze_table.proofs.table.RangeTable.retain_entries.Goals as goal

pub count-len-requires-clause-canonical : goal.count-len-requires-clause-canonical
count-len-requires-clause-canonical g c = canonical_filtered g.V.PartialEq.eq _ _ _ _ c.retain.ensures.entries c.self.invariant.canonical

pub count-len-requires-clause-fits : goal.count-len-requires-clause-fits
count-len-requires-clause-fits g c =
    let eq = g.V.PartialEq.eq in
    let bound = keys_among eq g.T.Integer.low g.T.Integer.high _ g.met.T.Integer.ranked.some_key
    (canonical_filtered eq _ _ _ _ c.retain.ensures.entries c.self.invariant.canonical)
    (are_keys_filtered eq g.T.Integer.low g.T.Integer.high _ _ _ _ c.retain.ensures.entries c.self.invariant.are_keys) in
    omega (arith, ints, bound, g.met.T.Integer.has_room)

pub invariant_of-self : goal.invariant_of-self
invariant_of-self g c =
    let eq = g.V.PartialEq.eq in
    record {
      canonical = canonical_filtered eq _ _ _ _ c.retain.ensures.entries c.self.invariant.canonical;
      are_keys = are_keys_filtered eq g.T.Integer.low g.T.Integer.high _ _ _ _ c.retain.ensures.entries c.self.invariant.are_keys;
      counted = c.count-len.ensures;
    }

-- if the number of entries is the same, the entries are the same
pub invariant_of-self-else-len-before : goal.invariant_of-self-else-len-before
invariant_of-self-else-len-before g c =
    let eq = g.V.PartialEq.eq in
    let as_many : length c.retain.new.self.counted.entries ≡ length c.self.inside.entries.counted.entries = grind (arith, common_steps, c.len.ensures, c.len-before.ensures) in
    record {
      canonical = canonical_filtered eq _ _ _ _ c.retain.ensures.entries c.self.invariant.canonical;
      are_keys = are_keys_filtered eq g.T.Integer.low g.T.Integer.high _ _ _ _ c.retain.ensures.entries c.self.invariant.are_keys;
      counted = c.self.invariant.counted ∙ ap keys_in (sym (all_filtered _ _ _ _ c.retain.ensures.entries as_many));
    }

pub returns-then-len-before-clause-range_map : goal.returns-then-len-before-clause-range_map
returns-then-len-before-clause-range_map g c = range_map g.V.PartialEq.eq g.met.V.Eq.laws g.T.Integer.low g.T.Integer.high _ _ (invariant_of-self g c)

pub returns-else-len-before-clause-range_map : goal.returns-else-len-before-clause-range_map
returns-else-len-before-clause-range_map g c =
    range_map g.V.PartialEq.eq g.met.V.Eq.laws g.T.Integer.low g.T.Integer.high _ _ (invariant_of-self-else-len-before g c)
