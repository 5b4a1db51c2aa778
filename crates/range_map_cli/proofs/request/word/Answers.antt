use Rattle.range_map_cli.proofs.Words.{◌≡◌, true, sym, list_all, is_ascii_alphanumeric}
use Rattle.range_map_cli.proofs.Sessions.Texts.{word_utf8}
use Rattle.range_map_cli.proofs.request.word.Goals as goal

-- letters and digits are text
pub returns-in-Err : goal.returns-in-Err
returns-in-Err c =
    let all : list_all is_ascii_alphanumeric c.args.text.now ≡ true = sym c.if-not-is_alphanumeric.ensures in
    absurd (c.in-Err.ensures.cases.0 (word_utf8 c.args.text.now all))
