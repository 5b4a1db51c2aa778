use Rattle.range_map_cli.proofs.Words.{◌++◌, [], refl}
use Rattle.range_map_cli.proofs.Sessions.Forwarding.{Forwards-trans, Forwards-all}
use Rattle.range_map_cli.proofs.Sessions.Endings.{closes_all, closes_lost}
use Rattle.range_map_cli.proofs.session.close.Goals as goal

pub returns-in_default-clause-closes : goal.returns-in_default-clause-closes
returns-in_default-clause-closes g c = λ held all out n first prints.
    let failed = c.in_default.ensures.err in
    closes_lost held _ _ all out (c.args.waiting.now.items ++ c.args.text.now) failed.0 n c.args.end first prints failed.1 failed.2

pub returns-in_default-flush-clause-closes : goal.returns-in_default-flush-clause-closes
returns-in_default-flush-clause-closes g c = λ held all out n first prints.
    let bytes = c.args.waiting.now.items ++ c.args.text.now in
    let failed = c.in_default-flush.ensures.err in
    closes_lost held _ _ all out bytes failed.0 n c.args.end first prints (Forwards-trans _ _ _ bytes c.append_output.new.waiting.items failed.0 c.in-Ok.ensures.ok failed.1) failed.2

pub returns-clause-closes : goal.returns-clause-closes
returns-clause-closes g c = λ held all out n first prints.
    let bytes = c.args.waiting.now.items ++ c.args.text.now in
    let rest = c.append_output.new.waiting.items in
    closes_all held _ _ all out bytes n c.args.end first prints (Forwards-trans _ _ _ bytes rest [] c.in-Ok.ensures.ok (Forwards-all _ _ rest [] c.in-Ok-flush.ensures.ok refl))
