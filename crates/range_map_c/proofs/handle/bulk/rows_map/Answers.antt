use Rattle.std.proofs.Common.{◌∙◌, ap, map, subst, sym, nat_eq}
use Rattle.std.proofs.lemmas.Iterator.{items_from_drains}
use Rattle.std.proofs.lemmas.Iterator.Adapters.{YieldsList-from_vec}
use Rattle.std.proofs.lemmas.List.{map-id}
use Rattle.blaze_table.specs.CanonicalOf.{IsCanonicalOf}
use Rattle.blaze_streams.specs.Ranges.{shown_range}
use Rattle.range_map_c.specs.Handle.{least_key, greatest_key}
use Rattle.range_map_c.proofs.handle.bulk.rows_map.Goals as goal

pub returns : goal.returns
returns c =
    let given = c.in_ok-over.ensures.0 in
    let road = YieldsList-from_vec {s = given.0} c.in_ok-table.table.items given.2.0 (given.2.1 ∙ c.in_ok-table.table.ok.0) in
    let all = sym (map-id given.1) ∙ items_from_drains given.1 (given.3.1.0, given.3.1.1, λ _. (given.3.0, given.3.1.2)) road in
    subst (λ rs. IsCanonicalOf nat_eq least_key greatest_key rs c.in_ok-over.over.entries) (ap (λ items. map (shown_range (λ k. k) (λ v. v)) items) all ∙ c.in_ok-table.ensures) given.4
