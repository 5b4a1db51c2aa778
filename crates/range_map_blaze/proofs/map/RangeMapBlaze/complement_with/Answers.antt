use Rattle.range_map_blaze.proofs.Words.{IfOk-weaker, [], ◌++◌, ◌∷◌, ◌∙◌, sym, ap, subst, append-nil, append_assoc, map, map-append, IsComplement, entry, SameEntries, shown_entry, shown_bare_range, unit_eq}
use Rattle.range_map_blaze.proofs.Choices.{complement_of}
use Rattle.range_map_blaze.proofs.Made.{made_of}
use Rattle.range_map_blaze.proofs.Streams.{same-push, range_map_as}
use Rattle.range_map_blaze.proofs.Valued.{valued, valued-append, valued_map, complement_as}
use Rattle.range_map_blaze.proofs.map.RangeMapBlaze.complement_with.Goals as goal

pub loop-range-init : goal.loop-range-init
loop-range-init g c = (
  c.in_ok-stream.stream,
  [],
  complement_of unit_eq g.T.Integer.low g.T.Integer.high tt c.ranges-2.result c.args.self.now.entries c.in_ok-stream.stream c.ranges-2.ensures.same_keys c.in_ok-stream.ensures,
  sym c.into_iter-range-iterator.ensures.into_iter_gives,
  subst (λ xs. SameEntries g.V.PartialEq.eq [] (map (shown_entry g.T.Integer.rank (λ v. v)) xs)) (sym c.new-entries.ensures.items) tt,
)

pub loop-range-preserved : goal.loop-range-preserved
loop-range-preserved g c =
    let i = c.loop-range.invariant in
    let r = shown_bare_range g.T.Integer.rank c.in-Some.range in
    let v = c.args.value.now in
    let e = entry r.lo r.hi v in
    let items = c.loop-range.entries.items in
    let pushed = c.in_ok-push_clone.ensures in
    let x : g.row.T.Denot × g.row.T.Denot × g.row.V.Denot = (c.into_inner-start.result.0, c.into_inner-start.result.1, pushed.0) in
    let more = ap (map (shown_entry g.T.Integer.rank (λ w. w))) pushed.2 ∙ map-append (shown_entry g.T.Integer.rank (λ w. w)) items (x ∷ []) in (
      i.0,
      i.1 ++ r ∷ [],
      i.2,
      i.3 ∙ ap (λ es. i.1 ++ es) c.in-Some.ensures.steps.0 ∙ sym (append_assoc i.1 (r ∷ []) c.next.new.self),
      rw (more, valued-append v i.1 (r ∷ [])) (same-push g.V.PartialEq.eq (valued v i.1) (map (shown_entry g.T.Integer.rank (λ w. w)) items) e (shown_entry g.T.Integer.rank (λ w. w) x) i.4
          (sym (ap g.T.Integer.rank c.into_inner-start.ensures.start)) (sym (ap g.T.Integer.rank c.into_inner-start.ensures.end)) pushed.1),
    )

pub from_canonical-requires : goal.from_canonical-requires
from_canonical-requires g c = record {
  range_map =
      let i = c.loop-range.invariant in
      let all = i.3 ∙ ap (λ es. i.1 ++ es) c.in-None.ensures.steps.0.0 ∙ append-nil i.1 in
      range_map_as g.V.PartialEq.eq g.met.V.Eq.laws g.T.Integer.low g.T.Integer.high (valued c.args.value.now i.1) _ i.4
      (valued_map g.V.PartialEq.eq g.met.V.Eq.laws c.args.value.now g.T.Integer.low g.T.Integer.high i.1 (rw all at i.2.range_map));
}

pub returns : goal.returns
returns g c =
    let i = c.loop-range.invariant in
    let all = i.3 ∙ ap (λ es. i.1 ++ es) c.in-None.ensures.steps.0.0 ∙ append-nil i.1 in
    IfOk-weaker c.from_canonical.result _ _ (λ map made. made_of (IsComplement g.V.PartialEq.eq g.T.Integer.low g.T.Integer.high c.args.value.now c.args.self.now.entries) map _ made (complement_as g.V.PartialEq.eq g.met.V.Eq.laws c.args.value.now g.T.Integer.low g.T.Integer.high c.args.self.now.entries i.1 _ (rw all at i.2) i.4)) c.from_canonical.ensures
