use Rattle.blaze_streams.proofs.Words.{sym, ap, shown_option}
use Rattle.blaze_streams.proofs.asks.LeftOrBothAsksTuple2OptionOption.ask.Goals as goal

pub returns : goal.returns
returns g c = record {
  arguments = (c.in-Some.left, (c.args.carrier.1, tt));
  shown = ap (λ o. (shown_option g.VCL.ValueCarrier.shown o, shown_option g.VCR.ValueCarrier.shown c.args.carrier.1)) (sym c.in-Some.is);
  called = c.f.ensures;
}
