use Rattle.std.proofs.Common.{◌≡◌, ◌∙◌, ℕ, List, ap, sym, subst, refl, rules, nat_eq}
use Rattle.blaze_entries.specs.Entries.{Entry}
use Rattle.range_map_blaze.specs.Extended.{AreInside}
use Rattle.range_map_c.specs.Handle.{least_key, greatest_key}
use Rattle.range_map_c.specs.Tables.{rows, AreRowsPainted}
use Rattle.range_map_c.proofs.Tells.{read_entries}
use Rattle.range_map_c.proofs.Unchanged.{rows_inside}
use Rattle.range_map_c.proofs.handle.bulk.range_map_paint_many_unchecked.Goals as goal

pub returns-then-are_rows_inside-clause-ok : goal.returns-then-are_rows_inside-clause-ok
returns-then-are_rows_inside-clause-ok c =
    let table : List (Entry ℕ) = rows c.args.lo.now c.args.hi.now c.args.value.now in
    let old = c.args.map.now.entries in
    let read : c.in_hand.new.self.entries ≡ c.map_or.result.now.entries = read_entries (λ s. s.entries) (λ m. m.now.map) c.as_ref.result c.in_hand.new.self.entries c.map_or.result.now
    c.new-empty.result c.as_ref.ensures.map c.map_or.ensures (ap (λ s. s.entries) c.new-empty.ensures) in
    let kept : c.as_ref.follows.lender-at-none.entries ≡ old = search rules in
    subst (AreRowsPainted least_key greatest_key table old) (sym kept)
    (rows_inside table old c.in_hand.ensures.range_map (subst (AreInside nat_eq table) (sym read ∙ c.in_hand.ensures.kept) (c.if-are_rows_inside.ensures.0 refl)))
