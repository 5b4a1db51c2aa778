use Rattle.blaze_table.proofs.Words.{if_err, sym, subst, refl, IsSome}
use Rattle.blaze_table.proofs.edit.place.split_tail.Goals as goal

pub returns-in-Some-tail_value-clause-refused : goal.returns-in-Some-tail_value-clause-refused
returns-in-Some-tail_value-clause-refused g c = if_err c.insert.result (subst IsSome (sym c.in-Some.is) refl)

pub returns-else-is_below-clause-refused : goal.returns-else-is_below-clause-refused
returns-else-is_below-clause-refused g c = if_err c.move_start.result (subst IsSome (sym c.in-Some.is) refl)
