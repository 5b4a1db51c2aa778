use Rattle.range_map_cli.proofs.Words.{◌≡◌, sym, subst, rules, string_bytes, to_z, of_z, w64, on_ok_weaker, command_of_request, Replies, content_of}
use Rattle.range_map_cli.specs.Commands.{Paint, Fill, Insert}
use Rattle.range_map_cli.proofs.Counting.{Replies-len}
use Rattle.range_map_cli.proofs.Listing.{Replies-entries}
use Rattle.range_map_cli.proofs.Pieces.{Replies-at}
use Rattle.range_map_cli.proofs.answer.answer.Goals as goal

pub returns-in_ok-word-in-Paint-clause-reply : goal.returns-in_ok-word-in-Paint-clause-reply
returns-in_ok-word-in-Paint-clause-reply c =
    let content = content_of c.args.map.now.entries in
    let reply = string_bytes c.answer_step.new.reply in
    let lo : to_z w64 (of_z w64 c.in-Paint.lo) ≡ c.in-Paint.lo = search rules in
    let hi : to_z w64 (of_z w64 c.in-Paint.hi) ≡ c.in-Paint.hi = search rules in
    on_ok_weaker c.answer_step.result (λ replies words.
    subst (λ r. Replies content (command_of_request r) reply) (sym c.in-Paint.is)
    (subst (λ a. Replies content (Paint a c.in-Paint.hi c.in-Paint.word.now) reply) lo
    (subst (λ b. Replies content (Paint (to_z w64 (of_z w64 c.in-Paint.lo)) b c.in-Paint.word.now) reply) hi
    (subst (λ w. Replies content (Paint (to_z w64 (of_z w64 c.in-Paint.lo)) (to_z w64 (of_z w64 c.in-Paint.hi)) w) reply) c.in_ok-word-in-Paint.ensures.ok replies)))) c.answer_step.ensures.reply

pub returns-in_ok-word-in-Fill-clause-reply : goal.returns-in_ok-word-in-Fill-clause-reply
returns-in_ok-word-in-Fill-clause-reply c =
    let content = content_of c.args.map.now.entries in
    let reply = string_bytes c.answer_step-in-Fill.new.reply in
    let lo : to_z w64 (of_z w64 c.in-Fill.lo) ≡ c.in-Fill.lo = search rules in
    let hi : to_z w64 (of_z w64 c.in-Fill.hi) ≡ c.in-Fill.hi = search rules in
    on_ok_weaker c.answer_step-in-Fill.result (λ replies words.
    subst (λ r. Replies content (command_of_request r) reply) (sym c.in-Fill.is)
    (subst (λ a. Replies content (Fill a c.in-Fill.hi c.in-Fill.word.now) reply) lo
    (subst (λ b. Replies content (Fill (to_z w64 (of_z w64 c.in-Fill.lo)) b c.in-Fill.word.now) reply) hi
    (subst (λ w. Replies content (Fill (to_z w64 (of_z w64 c.in-Fill.lo)) (to_z w64 (of_z w64 c.in-Fill.hi)) w) reply) c.in_ok-word-in-Fill.ensures.ok replies)))) c.answer_step-in-Fill.ensures.reply

pub returns-in_ok-word-in-Insert-clause-reply : goal.returns-in_ok-word-in-Insert-clause-reply
returns-in_ok-word-in-Insert-clause-reply c =
    let content = content_of c.args.map.now.entries in
    let reply = string_bytes c.answer_step-in-Insert.new.reply in
    let key : to_z w64 (of_z w64 c.in-Insert.key) ≡ c.in-Insert.key = search rules in
    on_ok_weaker c.answer_step-in-Insert.result (λ replies words.
    subst (λ r. Replies content (command_of_request r) reply) (sym c.in-Insert.is)
    (subst (λ k. Replies content (Insert k c.in-Insert.word.now) reply) key
    (subst (λ w. Replies content (Insert (to_z w64 (of_z w64 c.in-Insert.key)) w) reply) c.in_ok-word-in-Insert.ensures.ok replies))) c.answer_step-in-Insert.ensures.reply

pub returns-in-At-clause-reply : goal.returns-in-At-clause-reply
returns-in-At-clause-reply c = on_ok_weaker c.writeln-in-At.result (λ written words.
    subst (λ r. Replies (content_of c.args.map.now.entries) (command_of_request r) (string_bytes c.writeln-in-At.new.self)) (sym c.in-At.is)
    (Replies-at (content_of c.args.map.now.entries) c.in-At.key _ _ _ _ _ _ _ _ (search rules) (search rules) (search rules) c.piece_at-start.ensures.piece c.piece_at-start.ensures.word c.clear.ensures.bytes written)) c.writeln-in-At.ensures.bytes

pub returns-in-Len-clause-reply : goal.returns-in-Len-clause-reply
returns-in-Len-clause-reply c = on_ok_weaker c.writeln-in-Len.result (λ written words.
    subst (λ r. Replies (content_of c.args.map.now.entries) (command_of_request r) (string_bytes c.writeln-in-Len.new.self)) (sym c.in-Len.is)
    (Replies-len c.args.map.now.entries c.len-len.result _ _ c.len-len.ensures.mapped c.clear.ensures.bytes written)) c.writeln-in-Len.ensures.bytes

pub returns-in-Entries-clause-reply : goal.returns-in-Entries-clause-reply
returns-in-Entries-clause-reply c = on_ok_weaker c.writeln-in-Entries.result (λ written words.
    subst (λ r. Replies (content_of c.args.map.now.entries) (command_of_request r) (string_bytes c.writeln-in-Entries.new.self)) (sym c.in-Entries.is)
    (Replies-entries c.args.map.now.entries _ _ c.in_hand.ensures.runs words c.clear.ensures.bytes written)) c.writeln-in-Entries.ensures.bytes
