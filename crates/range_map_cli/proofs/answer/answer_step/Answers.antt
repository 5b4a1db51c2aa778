use Rattle.range_map_cli.proofs.Words.{◌∙◌, ◌++◌, ap, sym, subst, string_bytes, IfSome, on_ok_weaker, answer_text, command_done, Replies, content_of}
use Rattle.range_map_cli.proofs.Edits.{left, replied}
use Rattle.range_map_cli.proofs.answer.answer_step.Goals as goal

pub returns-clause-reply : goal.returns-clause-reply
returns-clause-reply c = on_ok_weaker c.put_answer.result (λ written.
    subst (λ text. IfSome (command_done c.args.step) (λ command. Replies (content_of c.args.map.now.entries) command text)) (sym (written ∙ ap (λ l. l ++ answer_text c.in_ok-answer.answer) c.requires.empty))
    (replied c.args.step c.args.map.now.entries c.in_ok-answer.answer c.in_ok-answer.ensures.answer)) c.put_answer.ensures

pub returns-clause-content : goal.returns-clause-content
returns-clause-content c = on_ok_weaker c.put_answer.result (λ written. left c.args.step c.args.map.now.entries _ c.in_ok-answer.ensures.stepped) c.put_answer.ensures
