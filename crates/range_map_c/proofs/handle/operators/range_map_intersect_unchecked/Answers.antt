use Rattle.std.proofs.Common.{◌≡◌, ◌∙◌, ap, sym, subst, refl, rules, nat_eq}
use Rattle.blaze_entries.specs.Chosen.{IsChosen, left_with_right}
use Rattle.range_map_blaze.specs.Extended.{AreInside}
use Rattle.range_map_c.specs.Handle.{least_key, greatest_key}
use Rattle.range_map_c.proofs.Tells.{read_entries}
use Rattle.range_map_c.proofs.Unchanged.{intersection_inside}
use Rattle.range_map_c.proofs.handle.operators.range_map_intersect_unchecked.Goals as goal

pub returns-then-is_inside_map-clause-ok : goal.returns-then-is_inside_map-clause-ok
returns-then-is_inside_map-clause-ok c =
    let a = c.args.a.now.entries in
    let b = c.args.b.now.entries in
    let read : c.in_hand.new.self.entries ≡ c.map_or-left.result.now.entries = read_entries (λ s. s.entries) (λ m. m.now.map) c.as_ref.result c.in_hand.new.self.entries c.map_or-left.result.now
    c.new-empty.result c.as_ref.ensures.map c.map_or-left.ensures (ap (λ s. s.entries) c.new-empty.ensures) in
    let kept : c.as_ref.follows.lender-at-none.entries ≡ a = search rules in
    let inside : AreInside nat_eq a b = subst (λ es. AreInside nat_eq es b) (sym read ∙ c.in_hand.ensures.kept) (subst (AreInside nat_eq c.map_or-left.result.now.entries) c.in_hand-2.ensures.kept
    (c.if-is_inside_map.ensures.inside.0 refl)) in
    subst (IsChosen nat_eq least_key greatest_key left_with_right b a) (sym kept) (intersection_inside b a c.in_hand-2.ensures.range_map c.in_hand.ensures.range_map inside)
