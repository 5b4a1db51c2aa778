use Rattle.range_map_cli.proofs.Words.{◌≡◌, ◌++◌, ◌+◌, ◌-◌, ◌^◌, ◌∙◌, length, arith, ap, refl, subst, sym, min, codes, decimal, Err, string_bytes, no_memory, Prints, Forwards, with_line}
use Rattle.range_map_cli.specs.declared.End.TheVariants as ends
use Rattle.range_map_cli.proofs.Sessions.Lengths.{command_of-take}
use Rattle.range_map_cli.proofs.Sessions.Progress.{next_line}
use Rattle.range_map_cli.proofs.Sessions.Endings.{one_more, prints_no_memory, prints_bad, closes_reply, behind}
use Rattle.range_map_cli.proofs.session.answer_line.Goals as goal

pub returns-in-Ok-append_output-clause-ok : goal.returns-in-Ok-append_output-clause-ok
returns-in-Ok-append_output-clause-ok g c = λ held text rest lines at.
    let line = c.args.line.now in
    let answer = c.in-Ok.ensures.ok in
    let session = with_line line c.args.session.now in
    let reply = string_bytes c.answer.new.self.reply in
    let behind_old : c.answer.new.self.waiting.items ++ c.as_bytes.result.now ≡ session.waiting.items ++ reply = ap (λ l. l ++ c.as_bytes.result.now) c.answer.ensures.waiting ∙ ap (λ l. session.waiting.items ++ l) c.as_bytes.ensures.value in
    let put = subst (λ l. Forwards (g.W.Write.contents c.args.output.now) (g.W.Write.contents c.append_output.new.output) l c.append_output.new.waiting.items) behind_old c.in-Ok-append_output.ensures.ok in
    next_line held _ text session rest lines at answer.0 reply (command_of-take line ∙ answer.1) answer.2 _ _ answer.3 put c.in-Ok.ensures.number refl

pub returns-in-Err-clause-err : goal.returns-in-Err-clause-err
returns-in-Err-clause-err g c = λ held text rest lines at.
    let line = c.args.line.now in
    let answer = c.in-Ok.ensures.ok in
    let session = with_line line c.args.session.now in
    let reply = string_bytes c.answer.new.self.reply in
    let behind_old : c.answer.new.self.waiting.items ++ c.as_bytes.result.now ≡ session.waiting.items ++ reply = ap (λ l. l ++ c.as_bytes.result.now) c.answer.ensures.waiting ∙ ap (λ l. session.waiting.items ++ l) c.as_bytes.ensures.value in
    let failed = c.in-Err.ensures.err in
    let lost = subst (λ l. Forwards (g.W.Write.contents c.args.output.now) (g.W.Write.contents c.append_output.new.output) l failed.0) behind_old failed.1 in
    (length at.commands + 1, omega (arith, one_more held _ text session rest lines at), closes_reply held _ text session rest lines at _ answer.0 reply failed.0 (command_of-take line ∙ answer.1) answer.2 lost failed.2)

pub returns-in-Err-NoMemory-clause-err : goal.returns-in-Err-NoMemory-clause-err
returns-in-Err-NoMemory-clause-err g c = λ held text rest lines at.
    let line = c.args.line.now in
    let session = with_line line c.args.session.now in
    let some = (c.in-Err-NoMemory.ensures.no_memory (ap Err c.in-Err-NoMemory.field-0-is)).1 in
    let prints = behind held _ text session _ lines at (length at.commands) ends.NoMemory no_memory (prints_no_memory held _ text session rest lines at (λ e. some (sym (command_of-take line) ∙ e))) in
    (length at.commands, omega (arith, one_more held _ text session rest lines at), c.close.ensures.closes held text at.forwards.0 (length at.commands) at.forwards.1 (subst (λ l. Prints text (length at.commands) ends.NoMemory (at.forwards.0 ++ (l ++ no_memory))) (sym c.answer.ensures.waiting) prints))

pub returns-in-Ok-format-clause-err : goal.returns-in-Ok-format-clause-err
returns-in-Ok-format-clause-err g c = λ held text rest lines at.
    let line = c.args.line.now in
    let session = with_line line c.args.session.now in
    let bad = c.in-Err-BadLine.ensures.bad (ap Err c.in-Err-BadLine.field-0-is) in
    let bytes = c.as_bytes-in-Ok-format.result.now in
    let number = c.saturating_add-number.ensures ∙ ap (λ n. min (n + 1) (2 ^ 64 - 1)) bad.1 in
    let written = c.as_bytes-in-Ok-format.ensures.value ∙ c.in-Ok-format.ensures.ok ∙ ap (λ n. codes "error line " ++ (decimal n ++ codes "\n")) number in
    let prints = behind held _ text session _ lines at (length at.commands + 1) ends.BadLine bytes (prints_bad held _ text session rest lines at bytes (command_of-take line ∙ bad.0) written) in
    (length at.commands + 1, omega (arith, one_more held _ text session rest lines at), c.close-in-Ok-format.ensures.closes held text at.forwards.0 (length at.commands + 1) at.forwards.1 (subst (λ l. Prints text (length at.commands + 1) ends.BadLine (at.forwards.0 ++ (l ++ bytes))) (sym c.answer.ensures.waiting) prints))

pub returns-in-Err-format-clause-err : goal.returns-in-Err-format-clause-err
returns-in-Err-format-clause-err g c = λ held text rest lines at.
    let line = c.args.line.now in
    let session = with_line line c.args.session.now in
    let bad = c.in-Err-BadLine.ensures.bad (ap Err c.in-Err-BadLine.field-0-is) in
    let prints = behind held _ text session _ lines at (length at.commands) ends.NoMemory no_memory (prints_no_memory held _ text session rest lines at (λ e. cc (e, command_of-take line, bad.0))) in
    (length at.commands, omega (arith, one_more held _ text session rest lines at), c.close-in-Err-format.ensures.closes held text at.forwards.0 (length at.commands) at.forwards.1 (subst (λ l. Prints text (length at.commands) ends.NoMemory (at.forwards.0 ++ (l ++ no_memory))) (sym c.answer.ensures.waiting) prints))
