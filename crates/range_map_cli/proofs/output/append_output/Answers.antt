use Rattle.range_map_cli.proofs.Words.{◌++◌, err_from_is_err_and, on_ok_weaker, on_err_weaker}
use Rattle.range_map_cli.proofs.Sessions.Forwarding.{front_none, Forwards-push, Forwards-then, Forwards-both}
use Rattle.range_map_cli.proofs.output.append_output.Goals as goal

pub returns-in_err-flush-clause-err : goal.returns-in_err-flush-clause-err
returns-in_err-flush-clause-err g c =
    let p = err_from_is_err_and c.from_residual.result c.from_residual.ensures.1 in
    let failed = c.in_err-flush.ensures.err in
    rw p.1 (failed.0 ++ c.args.text.now, Forwards-push _ _ c.args.waiting.now.items failed.0 c.args.text.now failed.1, λ none. failed.2 (front_none failed.0 c.args.text.now none))

pub returns-then-capacity-text-clause-ok : goal.returns-then-capacity-text-clause-ok
returns-then-capacity-text-clause-ok g c =
    on_ok_weaker c.write_text.result (λ wrote. Forwards-both _ (g.W.Write.contents c.flush.new.output) _ c.args.waiting.now.items c.args.text.now c.flush.new.waiting.items c.in_ok-flush.ensures.ok wrote c.in_ok-flush.ensures.empty) c.write_text.ensures.ok

pub returns-then-capacity-text-clause-err : goal.returns-then-capacity-text-clause-err
returns-then-capacity-text-clause-err g c =
    on_err_weaker c.write_text.result (λ failed. (failed.0, Forwards-then _ (g.W.Write.contents c.flush.new.output) _ c.args.waiting.now.items c.args.text.now failed.0 c.in_ok-flush.ensures.ok failed.1, failed.2)) c.write_text.ensures.err
