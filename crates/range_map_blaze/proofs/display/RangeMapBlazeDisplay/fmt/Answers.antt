use Rattle.range_map_blaze.proofs.Words.{◌≡◌, ◌++◌, true, ℕ, List, [], Some, Result, Ok, Err, IsErr, rules, refl, append-nil, append_assoc, ap, ◌∙◌, sym, has_written_append, WritesOnOk, ◌++?◌, range_inclusive_start, range_inclusive_end, Entry, entries_text, map_text, split_some}
use Rattle.std.proofs.lemmas.Bool.{false≢true}
use Rattle.std.specs.Result.{IsOk}
use Rattle.range_map_blaze.proofs.Texts.{entry_shown, where_known}
use Rattle.range_map_blaze.proofs.display.RangeMapBlazeDisplay.fmt.Goals as goal

-- a result is not both
not_ok : {T E : Type 0} (r : Result T E) → IsErr r → IsOk r → ⊥
not_ok (Ok x) failed ok = false≢true failed
not_ok (Err e) failed ok = false≢true ok

pub loop-range-init : goal.loop-range-init
loop-range-init g c = (
  tt,
  tt,
  search rules,
  λ p whole known. ([], whole, search rules, ap (entries_text g.T.Debug.debug_output g.T.Integer.of_rank g.V.Debug.debug_output []) (c.into_iter-range-iterator.ensures.into_iter_gives ∙ c.range_values-range-items.ensures) ∙ known, refl),
)

pub loop-range-preserved : goal.loop-range-preserved
loop-range-preserved g c = (
  tt,
  tt,
  search rules,
  λ p whole known.
      let so_far = c.loop-range.invariant.3 p whole known in
      let step = c.in-Some.ensures.steps.0 in
      let parts = split_some _ _ so_far.1 (sym (ap (entries_text g.T.Debug.debug_output g.T.Integer.of_rank g.V.Debug.debug_output c.loop-range.lead.now) step) ∙ so_far.3) in
      let rank = g.T.Integer.rank in
      let of_rank = g.T.Integer.of_rank in
      let first = c.into_inner-start.result.0 in
      let last = c.into_inner-start.result.1 in
      let first_is : of_rank (rank (range_inclusive_start c.in-Some.range)) ≡ first = ap (λ k. of_rank (rank k)) (sym c.into_inner-start.ensures.start) ∙ g.met.T.Integer.ranked.one_key first c.in_hand.ensures.from c.in_hand.ensures.to in
      let last_is : of_rank (rank (range_inclusive_end c.in-Some.range)) ≡ last = ap (λ k. of_rank (rank k)) (sym c.into_inner-start.ensures.end) ∙ g.met.T.Integer.ranked.one_key last c.in_hand-in-loop-range.ensures.from c.in_hand-in-loop-range.ensures.to in
      let e : Entry _ = record { lo = rank (range_inclusive_start c.in-Some.range); hi = rank (range_inclusive_end c.in-Some.range); value = c.in-Some.value.now } in
      let text_is = ap (λ t. Some c.loop-range.lead.now ++? t) (sym (entry_shown g.T.Debug.debug_output of_rank g.V.Debug.debug_output e first last first_is last_is)) ∙ parts.2 in
      let writes = rw text_is at c.in_ok-write.ensures.writes in
      let wrote = writes so_far.2.plain (refl {a = true}) in
      (so_far.0 ++ parts.0, parts.1, has_written_append _ _ _ _ _ _ so_far.2 wrote, parts.3, append_assoc so_far.0 parts.0 parts.1 ∙ ap (λ l. so_far.0 ++ l) parts.4 ∙ so_far.4),
)

pub returns-clause-writes : goal.returns-clause-writes
returns-clause-writes g c =
    where_known (map_text g.T.Debug.debug_output g.T.Integer.of_rank g.V.Debug.debug_output c.args.self.now.entries) (λ (bs : List ℕ). WritesOnOk g.W.Write.write_str_gives c.args.f.now (Ok tt) bs c.loop-range.f)
    (λ whole known p ok.
    let so_far = c.loop-range.invariant.3 p whole known in
    let none : Some [] ≡ Some so_far.1 = sym (ap (entries_text g.T.Debug.debug_output g.T.Integer.of_rank g.V.Debug.debug_output c.loop-range.lead.now) c.in-None.ensures.steps.0.0) ∙ so_far.3 in
    let all : so_far.0 ≡ whole = cc (append-nil so_far.0, so_far.4) in
    rw all at so_far.2)

pub returns-in_err-write-clause-writes : goal.returns-in_err-write-clause-writes
returns-in_err-write-clause-writes g c =
    where_known (map_text g.T.Debug.debug_output g.T.Integer.of_rank g.V.Debug.debug_output c.args.self.now.entries) (λ (bs : List ℕ). WritesOnOk g.W.Write.write_str_gives c.args.f.now c.from_residual.result bs c.write.new.self)
    (λ whole known p ok. absurd (not_ok c.from_residual.result c.from_residual.ensures.0 ok))
