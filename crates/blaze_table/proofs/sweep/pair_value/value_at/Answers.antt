use Rattle.std.proofs.lemmas.Grind.{common_steps}
use Rattle.std.proofs.Common.{◌≡◌, Some, sym, subst, length, refl, ◌∙◌, ap, arith}
use Rattle.std.specs.Prelude.{slice_get, IsSome}
use Rattle.std.proofs.lemmas.List.{length-map}
use Rattle.std.proofs.lemmas.Option.{slice_get_read}
use Rattle.blaze_entries.specs.Entries.{SameOption, shown_entry, shown_list}
use Rattle.blaze_table.specs.declared.sweep.pair_value.PairValue.TheVariants.{Present, Moved}
use Rattle.blaze_table.specs.PairValue.{value_of_pair}
use Rattle.blaze_table.proofs.Sweeping.PairValues.{within_held, within_entries, moved_value}
use Rattle.blaze_table.proofs.sweep.pair_value.value_at.Goals as goal

pub returns-in_ok-value-in-Moved-clause-value : goal.returns-in_ok-value-in-Moved-clause-value
returns-in_ok-value-in-Moved-clause-value g c =
    let eq = g.V.PartialEq.eq in
    let values = c.args.values.now.items in
    let es = shown_list g.T.Integer.rank c.args.entries.now in
    let x = c.index-entries-at.result in
    let l = within_held es values c.args.index c.requires.there in
    let is : slice_get values c.args.index ≡ Some (Moved c.in-Moved.at) = slice_get_read values (length values) c.args.index c.index_mut.result.now refl l c.index_mut.ensures.value ∙ ap Some (sym c.replace.ensures.value ∙ c.in-Moved.is) in
    subst (SameOption eq (Some c.in_ok-value-in-Moved.value)) (sym (moved_value g.T.Integer.rank c.args.entries.now values c.args.index c.in-Moved.at x is c.requires.there c.index-entries-at.is))
    (g.met.V.Eq.laws.symm c.in_ok-value-in-Moved.value x.2 ∙ c.requires.clones x.2 c.in_ok-value-in-Moved.value (subst (λ y. g.V.Clone.is_clone y.2 c.in_ok-value-in-Moved.value) (sym c.index-entries-at.is) c.in_ok-value-in-Moved.ensures.cases))

pub index_mut-requires : goal.index_mut-requires
index_mut-requires g c =
    let l = within_held (shown_list g.T.Integer.rank c.args.entries.now) c.args.values.now.items c.args.index c.requires.there in
    omega (arith, l, c.args.values.now.ok.0)

pub bounds-entries-at : goal.bounds-entries-at
bounds-entries-at g c =
    let values = c.args.values.now.items in
    let es = shown_list g.T.Integer.rank c.args.entries.now in
    let l = within_held es values c.args.index c.requires.there in
    let is : slice_get values c.args.index ≡ Some (Moved c.in-Moved.at) = slice_get_read values (length values) c.args.index c.index_mut.result.now refl l c.index_mut.ensures.value ∙ ap Some (sym c.replace.ensures.value ∙ c.in-Moved.is) in
    let w = within_entries es c.in-Moved.at (subst (λ o. IsSome (value_of_pair es o)) is c.requires.there) in
    omega (arith, w, length-map c.args.entries.now (shown_entry g.T.Integer.rank (λ v. v)))

pub returns-in-Present-clause-value : goal.returns-in-Present-clause-value
returns-in-Present-clause-value g c =
    let values = c.args.values.now.items in
    let es = shown_list g.T.Integer.rank c.args.entries.now in
    let l = within_held es values c.args.index c.requires.there in
    let is : slice_get values c.args.index ≡ Some (Present c.in-Present.value) = slice_get_read values (length values) c.args.index c.index_mut.result.now refl l c.index_mut.ensures.value ∙ ap Some (sym c.replace.ensures.value ∙ c.in-Present.is) in
    subst (λ o. SameOption g.V.PartialEq.eq (Some c.in-Present.value) (value_of_pair es o)) (sym is) (g.met.V.Eq.laws.refl c.in-Present.value)

pub returns-in-Present-clause-values : goal.returns-in-Present-clause-values
returns-in-Present-clause-values g c = grind (arith, common_steps)

pub returns-in_ok-value-in-Moved-clause-values : goal.returns-in_ok-value-in-Moved-clause-values
returns-in_ok-value-in-Moved-clause-values g c = grind (arith, common_steps)

pub returns-in_err-value-in-Moved-clause-values : goal.returns-in_err-value-in-Moved-clause-values
returns-in_err-value-in-Moved-clause-values g c = grind (arith, common_steps)

pub returns-in_err-value-in-Moved-clause-value : goal.returns-in_err-value-in-Moved-clause-value
returns-in_err-value-in-Moved-clause-value g c = grind (arith, common_steps)

pub offset_bounds-entries-at : goal.offset_bounds-entries-at
offset_bounds-entries-at g c =
    let values = c.args.values.now.items in
    let es = shown_list g.T.Integer.rank c.args.entries.now in
    let l = within_held es values c.args.index c.requires.there in
    let is : slice_get values c.args.index ≡ Some (Moved c.in-Moved.at) = slice_get_read values (length values) c.args.index c.index_mut.result.now refl l c.index_mut.ensures.value ∙ ap Some (sym c.replace.ensures.value ∙ c.in-Moved.is) in
    let w = within_entries es c.in-Moved.at (subst (λ o. IsSome (value_of_pair es o)) is c.requires.there) in
    omega (arith, w, length-map c.args.entries.now (shown_entry g.T.Integer.rank (λ v. v)))
