use Rattle.blaze_streams.proofs.Words.{◌∙◌, ◌++◌, ◌∷◌, [], Option, Some, sym, ap, map-append, at, entry, shown_option, shown_pair, is_joined, shown_range, shown_ranges}
use Rattle.blaze_streams.proofs.CarriedJoins.{given_there}
use Rattle.blaze_streams.proofs.Paired.{in_order, not_asked, skipped}
use Rattle.blaze_streams.proofs.segmenting.joins.join_next.Goals as goal

pub returns-in_ok-push : goal.returns-in_ok-push
returns-in_ok-push g c =
    let rank = g.T.Integer.rank in
    let left = g.VCL.ValueCarrier.shown in
    let right = g.VCR.ValueCarrier.shown in
    let t = rank c.steady_end-end.result in
    let given : Option g.row.VCL-Value.Denot × Option g.row.VCR-Value.Denot = (shown_option left c.in_ok-give.field-0, shown_option right c.in_ok-give-2.field-0) in
    let old = shown_ranges rank (shown_pair left right) c.args.out.now.items in
    record {
      end = t;
      from = c.in_hand.ensures.from;
      order = in_order g.VCL.Value.PartialEq.eq g.VCR.Value.PartialEq.eq g.T.Integer.low g.T.Integer.high c.args.kind c.args.left.now c.args.right.now (rank c.args.start) t c.requires.left c.requires.right c.requires.starts.is c.steady_end-end.ensures.ends;
      to = c.in_hand-2.ensures.to;
      ends = c.steady_end-end.ensures.ends;
      left_is = c.give.ensures.rest;
      right_is = c.give-then-is_asked.ensures.rest;
      given = Some given;
      carried = given_there g.VCL.ValueCarrier.is_carried g.VCR.ValueCarrier.is_carried (is_joined c.args.kind (at c.args.left.now t) (at c.args.right.now t)) (at c.args.left.now t, at c.args.right.now t) given
          (sym c.is_asked.ensures ∙ c.if-is_asked.true)
          (c.in_ok-give.ensures.carried, c.in_ok-give-2.ensures.carried);
      put = ap (shown_ranges rank (shown_pair left right)) c.in_ok-push.ensures.items
          ∙ map-append (shown_range rank (shown_pair left right)) c.args.out.now.items _
          ∙ ap (λ k. old ++ entry (rank k) (rank c.new.result.end) given ∷ []) c.new.ensures.start
          ∙ ap (λ k. old ++ entry (rank c.args.start) (rank k) given ∷ []) c.new.ensures.end;
    }

pub skip-requires-clause-alone : goal.skip-requires-clause-alone
skip-requires-clause-alone g c =
    not_asked g.VCL.Value.PartialEq.eq g.VCR.Value.PartialEq.eq g.T.Integer.low g.T.Integer.high c.args.kind c.args.left.now c.args.right.now (g.T.Integer.rank c.args.start) (g.T.Integer.rank c.steady_end-end.result) c.requires.left c.requires.right c.requires.starts.is c.steady_end-end.ensures.ends (sym c.is_asked.ensures ∙ c.if-is_asked.false)

pub returns-else-is_asked : goal.returns-else-is_asked
returns-else-is_asked g c =
    skipped g.VCL.Value.PartialEq.eq g.VCR.Value.PartialEq.eq g.T.Integer.low g.T.Integer.high c.args.kind c.args.left.now c.args.right.now (g.T.Integer.rank c.args.start) (g.T.Integer.rank c.steady_end-end.result) c.requires.left c.requires.right c.requires.starts.is c.steady_end-end.ensures.ends g.VCL.ValueCarrier.is_carried g.VCR.ValueCarrier.is_carried _ _ _ c.in_hand.ensures.from c.skip.ensures
