use Rattle.blaze_table.proofs.Words.{◌≡◌, ◌∙◌, ℤ, ap, refl, Bor, Option, Some, None, option_map, CountedEntries, Entry, at, shown_entry, value-entry_at}
use Rattle.blaze_table.proofs.Fills.Ordered.{ordered_of}
use Rattle.blaze_table.proofs.table.RangeTable.find.Goals as goal

value_shown : {T R V : Type 0} (rank : T → ℤ) (shown : R → V) (o : Option (T × T × R)) → option_map (λ p. shown p.2) o ≡ option_map (λ (e : Entry V). e.value) (option_map (shown_entry rank shown) o)
value_shown rank shown None = refl
value_shown rank shown (Some p) = refl

pub returns-clause-value : goal.returns-clause-value
returns-clause-value g c =
    let k = g.T.Integer.rank c.args.key in
    value_shown g.T.Integer.rank (λ (v : Bor g.row.V.Denot). v.now) c.entry_holding.result
    ∙ ap (option_map (λ (e : Entry g.row.V.Denot). e.value)) c.entry_holding.ensures
    ∙ value-entry_at c.self.inside.entries.counted.entries k
    ∙ ap (λ (s : CountedEntries g.row.V.Denot). at s.entries k) c.self.view_is

pub entry_holding-requires : goal.entry_holding-requires
entry_holding-requires g c = ordered_of g.V.PartialEq.eq c.self.inside.entries.counted.entries c.self.invariant.canonical
