use Rattle.std.proofs.Common.{◌≡◌, ◌∙◌, ap, sym, subst, refl, rules, nat_eq}
use Rattle.blaze_entries.specs.Chosen.{IsChosen, left_alone}
use Rattle.range_map_blaze.specs.Relations.{ShareNoKey}
use Rattle.range_map_c.specs.Handle.{least_key, greatest_key}
use Rattle.range_map_c.proofs.Tells.{read_entries}
use Rattle.range_map_c.proofs.Unchanged.{difference_apart}
use Rattle.range_map_c.proofs.handle.operators.range_map_subtract_unchecked.Goals as goal

pub returns-then-is_disjoint_from-clause-ok : goal.returns-then-is_disjoint_from-clause-ok
returns-then-is_disjoint_from-clause-ok c =
    let a = c.args.a.now.entries in
    let b = c.args.b.now.entries in
    let read : c.in_hand.new.self.entries ≡ c.map_or-left.result.now.entries = read_entries (λ s. s.entries) (λ m. m.now.map) c.as_ref.result c.in_hand.new.self.entries c.map_or-left.result.now
    c.new-empty.result c.as_ref.ensures.map c.map_or-left.ensures (ap (λ s. s.entries) c.new-empty.ensures) in
    let kept : c.as_ref.follows.lender-at-none.entries ≡ a = search rules in
    subst (IsChosen nat_eq least_key greatest_key left_alone a b) (sym kept)
    (difference_apart a b c.in_hand.ensures.range_map (subst (λ es. ShareNoKey es b) (sym read ∙ c.in_hand.ensures.kept) (c.if-is_disjoint_from.ensures.apart.0 refl)))

pub returns-clause-apart : goal.returns-clause-apart
returns-clause-apart c =
    let read : c.in_hand.new.self.entries ≡ c.map_or-left.result.now.entries = read_entries (λ s. s.entries) (λ m. m.now.map) c.as_ref.result c.in_hand.new.self.entries c.map_or-left.result.now
    c.new-empty.result c.as_ref.ensures.map c.map_or-left.ensures (ap (λ s. s.entries) c.new-empty.ensures) in
    λ apart. let shared = c.if-is_disjoint_from.ensures.apart.1 (subst (λ es. ShareNoKey es c.args.b.now.entries) (sym c.in_hand.ensures.kept ∙ read) apart) in absurd (cc)
