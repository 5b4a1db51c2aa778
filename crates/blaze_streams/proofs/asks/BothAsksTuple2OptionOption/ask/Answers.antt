use Rattle.blaze_streams.proofs.Words.{◌∙◌, Some, sym, ap, shown_option}
use Rattle.blaze_streams.proofs.asks.BothAsksTuple2OptionOption.ask.Goals as goal

pub returns : goal.returns
returns g c =
    let left = g.VCL.ValueCarrier.shown in
    let right = g.VCR.ValueCarrier.shown in
    record {
      arguments = (c.in-Some.left, (c.in-Some-right.right, tt));
      shown = ap (λ o. (shown_option left o, Some (right c.in-Some-right.right))) (sym c.in-Some.is)
          ∙ ap (λ o. (shown_option left c.args.carrier.0, shown_option right o)) (sym c.in-Some-right.is);
      called = c.f.ensures;
    }
