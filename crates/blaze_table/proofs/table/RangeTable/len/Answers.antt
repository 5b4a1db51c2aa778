use Rattle.blaze_table.proofs.Words.{◌≡◌, ◌∙◌, subst, arith, ints, mapped_keys, CountedEntries, at, lengths_mapped}
use Rattle.blaze_table.proofs.table.RangeTable.len.Goals as goal

pub returns-clause-mapped : goal.returns-clause-mapped
returns-clause-mapped g c =
    let low = g.T.Integer.low in
    let high = g.T.Integer.high in
    let is = c.self.invariant.counted ∙ lengths_mapped g.V.PartialEq.eq low high _ c.self.invariant.canonical c.self.invariant.are_keys in
    subst (λ (s : CountedEntries g.row.V.Denot). g.T.SafeLen.SafeLength.number c.self.inside.len ≡ mapped_keys low high (at s.entries)) c.self.view_is (omega (arith, ints, is))
