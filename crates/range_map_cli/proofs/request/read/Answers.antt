use Rattle.range_map_cli.proofs.Words.{◌<◌, length, sym, ◌∙◌, arith, false-eqb}
use Rattle.range_map_cli.proofs.Sessions.Words.{one_word, two_words, three_words, four_words, many_words}
use Rattle.range_map_cli.proofs.request.read.Goals as goal

pub returns-in_default : goal.returns-in_default
returns-in_default c =
    let some : 0 < length c.args.line.now = omega (arith, false-eqb _ 0 c.if-is_empty.ensures) in
    c.read_one.ensures ∙ sym (one_word c.args.line.now some c.in_default.ensures)

pub returns-in_default-split_once : goal.returns-in_default-split_once
returns-in_default-split_once c =
    let some : 0 < length c.args.line.now = omega (arith, false-eqb _ 0 c.if-is_empty.ensures) in
    c.read_two.ensures ∙ sym (two_words c.args.line.now _ _ some c.in-Some.ensures.0 c.in-Some.ensures.1 c.in_default-split_once.ensures)

pub returns-in_default-split_once-2 : goal.returns-in_default-split_once-2
returns-in_default-split_once-2 c =
    let some : 0 < length c.args.line.now = omega (arith, false-eqb _ 0 c.if-is_empty.ensures) in
    c.read_three.ensures ∙ sym (three_words c.args.line.now _ _ some c.in-Some.ensures.0 c.in-Some.ensures.1 _ _ c.in-Some-split_once.ensures.0 c.in-Some-split_once.ensures.1 c.in_default-split_once-2.ensures)

pub returns-in-Some-split_once-3 : goal.returns-in-Some-split_once-3
returns-in-Some-split_once-3 c =
    let some : 0 < length c.args.line.now = omega (arith, false-eqb _ 0 c.if-is_empty.ensures) in
    sym (many_words c.args.line.now _ _ some c.in-Some.ensures.0 c.in-Some.ensures.1 _ _ c.in-Some-split_once.ensures.0 c.in-Some-split_once.ensures.1 _ _ c.in-Some-split_once-2.ensures.0 c.in-Some-split_once-2.ensures.1 _ _ c.in-Some-split_once-3.ensures.0 c.in-Some-split_once-3.ensures.1)

pub returns-in-None : goal.returns-in-None
returns-in-None c =
    let some : 0 < length c.args.line.now = omega (arith, false-eqb _ 0 c.if-is_empty.ensures) in
    c.read_four.ensures ∙ sym (four_words c.args.line.now _ _ some c.in-Some.ensures.0 c.in-Some.ensures.1 _ _ c.in-Some-split_once.ensures.0 c.in-Some-split_once.ensures.1 _ _ c.in-Some-split_once-2.ensures.0 c.in-Some-split_once-2.ensures.1 c.in-None.ensures)
