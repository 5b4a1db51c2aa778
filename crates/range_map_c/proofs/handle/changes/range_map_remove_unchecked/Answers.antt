use Rattle.std.specs.Prelude.{nat_eq}
use Rattle.std.proofs.Common.{◌≡◌, sym, subst, arith, w64, to_z, of_z}
use Rattle.std.proofs.lemmas.Int.{ints}
use Rattle.blaze_entries.specs.Entries.{at, SameOption}
use Rattle.range_map_c.proofs.Tells.{told_same}
use Rattle.range_map_c.proofs.handle.changes.range_map_remove_unchecked.Goals as goal

pub returns-in-Ok-clause-old : goal.returns-in-Ok-clause-old
returns-in-Ok-clause-old c =
    let key : to_z w64 (of_z w64 c.args.key) ≡ c.args.key = omega (arith, ints) in
    told_same c.tell.new.had c.tell.new.value c.in-Ok.answer (at c.args.map.now.entries c.args.key) c.tell.ensures
    (subst (λ k. SameOption nat_eq (at c.args.map.now.entries k) c.in-Ok.answer) key
    (subst (λ es. SameOption nat_eq (at es (to_z w64 (of_z w64 c.args.key))) c.in-Ok.answer) (sym c.in-Some.ensures.map) c.in-Ok.ensures.value))
