use Rattle.range_map_blaze.proofs.Words.{Ok, Err, Result, OnErr, refl}
use Rattle.range_map_blaze.proofs.map.RangeMapBlaze.append.Goals as goal

on_err : {A E : Type 0} {P : Type 0} (r : Result A E) → P → OnErr r P
on_err (Ok x) p = tt
on_err (Err e) p = p

pub returns-in_err-extend_with-clause-kept : goal.returns-in_err-extend_with-clause-kept
returns-in_err-extend_with-clause-kept g c = on_err c.from_residual.result refl
