use Rattle.std.proofs.Common.{◌≡◌, ◌∙◌, ap, sym, subst, refl, rules, nat_eq}
use Rattle.range_map_blaze.specs.Extended.{AreInside}
use Rattle.range_map_blaze.specs.Union.{IsUnion}
use Rattle.range_map_c.specs.Handle.{least_key, greatest_key}
use Rattle.range_map_c.proofs.Tells.{read_entries}
use Rattle.range_map_c.proofs.Unchanged.{union_inside}
use Rattle.range_map_c.proofs.handle.bulk.extend_by.Goals as goal

pub returns-then-has_entries_of-clause-ok : goal.returns-then-has_entries_of-clause-ok
returns-then-has_entries_of-clause-ok c =
    let old = c.args.map.now.entries in
    let over = c.args.other.now.entries in
    let read : c.in_hand.new.self.entries ≡ c.map_or.result.now.entries = read_entries (λ s. s.entries) (λ m. m.now.map) c.as_ref.result c.in_hand.new.self.entries c.map_or.result.now
    c.new-empty.result c.as_ref.ensures.map c.map_or.ensures (ap (λ s. s.entries) c.new-empty.ensures) in
    let kept : c.as_ref.follows.lender-at-none.entries ≡ old = search rules in
    subst (IsUnion nat_eq least_key greatest_key old over) (sym kept)
    (union_inside old over c.in_hand.ensures.range_map c.in_hand-2.ensures (subst (AreInside nat_eq over) (sym read ∙ c.in_hand.ensures.kept) (c.if-has_entries_of.ensures.0 refl)))
