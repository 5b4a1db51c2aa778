use Rattle.range_map_cli.proofs.Words.{◌≡◌, ◌++◌, [], ap, refl, take, arith, Consumes-nil, Consumes-trans, Keeps-refl}
use Rattle.std.proofs.lemmas.List.{length-take}
use Rattle.range_map_cli.proofs.Sessions.Serving.{serving_start, serving_more, serving_stop, serving_done, serving_lost, serving_read, serving_good, streams_at}
use Rattle.range_map_cli.proofs.server.serve.Goals as goal

pub loop-turn-init : goal.loop-turn-init
loop-turn-init g c = record {
  serving = serving_start _ _ c.new-session.result c.new-session.ensures.map c.new-session.ensures.number c.new-session.ensures.line c.new-session.ensures.waiting;
  reads = ([], Consumes-nil _);
  written = c.new-session.ensures.waiting;
}

-- reading failed
pub returns-in_default-clause-closes : goal.returns-in_default-clause-closes
returns-in_default-clause-closes g c = serving_read _ _ _ _ _ c.loop-turn.session _ c.loop-turn.invariant.serving c.loop-turn.invariant.written c.loop-turn.invariant.reads.1 c.in_default.ensures.bytes

pub returns-in_default-clause-streams : goal.returns-in_default-clause-streams
returns-in_default-clause-streams g c = λ _. streams_at _ _ _ _ _ c.loop-turn.session _ c.loop-turn.invariant.serving c.loop-turn.invariant.written c.loop-turn.invariant.reads.1 c.in_default.ensures.bytes

-- what waits could not be written
pub returns-in_default-flush-clause-closes : goal.returns-in_default-flush-clause-closes
returns-in_default-flush-clause-closes g c =
    let failed = c.in_default-flush.ensures.err in
    serving_lost (g.W.Write.contents c.args.output.now) (g.W.Write.contents c.loop-turn.output) (g.W.Write.contents c.feed.new.output) _ _ _ _ c.loop-turn.session c.feed.new.session _ _ failed.0 c.loop-turn.invariant.serving c.loop-turn.invariant.reads.1 c.in-Ok.ensures.bytes.0 (λ text rest lines. c.in_default-feed.ensures.ok (g.W.Write.contents c.args.output.now) text rest lines) failed.1 failed.2

pub loop-turn-preserved : goal.loop-turn-preserved
loop-turn-preserved g c = record {
  serving = serving_more (g.W.Write.contents c.args.output.now) (g.W.Write.contents c.loop-turn.output) (g.W.Write.contents c.feed.new.output) (g.W.Write.contents c.flush.new.output) _ _ _ c.loop-turn.session c.feed.new.session _ _ c.loop-turn.invariant.serving c.in-Ok.ensures.bytes.0 (λ text rest lines. c.in_default-feed.ensures.ok (g.W.Write.contents c.args.output.now) text rest lines) c.in-Ok-flush.ensures.ok refl c.in-Ok-flush.ensures.empty;
  reads = (c.loop-turn.invariant.reads.0 ++ take c.in-Ok.count c.read.new.buf, Consumes-trans _ _ _ _ _ c.loop-turn.invariant.reads.1 c.in-Ok.ensures.bytes.0);
  written = c.in-Ok-flush.ensures.empty;
}

-- too many reads
pub returns-clause-closes : goal.returns-clause-closes
returns-clause-closes g c = serving_read _ _ _ _ _ c.loop-turn.session _ c.loop-turn.invariant.serving c.loop-turn.invariant.written c.loop-turn.invariant.reads.1 (Keeps-refl _)

pub returns-clause-streams : goal.returns-clause-streams
returns-clause-streams g c = λ _. streams_at _ _ _ _ _ c.loop-turn.session _ c.loop-turn.invariant.serving c.loop-turn.invariant.written c.loop-turn.invariant.reads.1 (Keeps-refl _)

-- a bad line ends in the bytes that were read last
pub returns-in-Err-clause-stops : goal.returns-in-Err-clause-stops
returns-in-Err-clause-stops g c = λ _. (
  c.loop-turn.invariant.reads.0,
  take c.in-Ok.count c.read.new.buf,
  Consumes-trans _ _ _ _ _ c.loop-turn.invariant.reads.1 c.in-Ok.ensures.bytes.0,
  let shorter = length-take c.in-Ok.count c.read.new.buf in omega (arith, shorter, c.read.auto.buf),
  serving_good _ _ _ _ c.loop-turn.session _ c.loop-turn.invariant.serving c.loop-turn.invariant.reads.1,
)

-- or it has no end, and nothing more comes
pub returns-then-count-eq0-clause-stops : goal.returns-then-count-eq0-clause-stops
returns-then-count-eq0-clause-stops g c = λ _. (
  c.loop-turn.invariant.reads.0,
  take c.in-Ok.count c.read.new.buf,
  Consumes-trans _ _ _ _ _ c.loop-turn.invariant.reads.1 c.in-Ok.ensures.bytes.0,
  let shorter = length-take c.in-Ok.count c.read.new.buf in omega (arith, shorter, c.read.auto.buf),
  serving_good _ _ _ _ c.loop-turn.session _ c.loop-turn.invariant.serving c.loop-turn.invariant.reads.1,
)

-- a line ended the session
pub returns-in-Err-clause-closes : goal.returns-in-Err-clause-closes
returns-in-Err-clause-closes g c =
    serving_stop (g.W.Write.contents c.args.output.now) (g.W.Write.contents c.loop-turn.output) _ _ _ _ c.loop-turn.session _ _ _ c.loop-turn.invariant.serving c.loop-turn.invariant.reads.1 c.in-Ok.ensures.bytes.0 (λ text rest lines. c.in-Err.ensures.err (g.W.Write.contents c.args.output.now) text rest lines)

-- nothing more comes
pub returns-then-count-eq0-clause-closes : goal.returns-then-count-eq0-clause-closes
returns-then-count-eq0-clause-closes g c =
    let zero : c.in-Ok.count ≡ 0 = omega arith in
    serving_done (g.W.Write.contents c.args.output.now) (g.W.Write.contents c.loop-turn.output) _ _ _ _ c.loop-turn.session _ _ _ c.loop-turn.invariant.serving c.loop-turn.invariant.reads.1 c.in-Ok.ensures.bytes.0 (c.in-Ok.ensures.bytes.1 zero (omega (arith, c.read.auto.buf))) (ap (λ n. take n c.read.new.buf) zero) (λ text lines. c.finish.ensures.closes (g.W.Write.contents c.args.output.now) text lines)
