use Rattle.range_map_cli.proofs.Words.{◌≡◌, ◌∙◌, sym, ap, subst, arith, rules, to_z, of_z, w64, ints, range_inclusive_start, range_inclusive_end, IsGreatestPiece, least_key, greatest_key, word_or_dash, content_of}
use Rattle.range_map_cli.proofs.Pieces.{looked_up}
use Rattle.range_map_cli.proofs.answer.piece_at.Goals as goal

pub returns-clause-piece : goal.returns-clause-piece
returns-clause-piece c =
    let content = content_of c.args.map.now.entries in
    let lo = range_inclusive_start c.range_or_gap_at.result.0 in
    let hi = range_inclusive_end c.range_or_gap_at.result.0 in
    let start : to_z w64 (of_z w64 c.into_inner-start.result.0) ≡ c.into_inner-start.result.0 = omega (arith, ints) in
    let end : to_z w64 (of_z w64 c.into_inner-start.result.1) ≡ c.into_inner-start.result.1 = omega (arith, ints) in
    let found = looked_up least_key greatest_key c.args.map.now.entries c.args.key lo hi c.in_hand.ensures _ (search rules) c.range_or_gap_at.result.1 c.range_or_gap_at.ensures.entry in
    subst (λ a. IsGreatestPiece least_key greatest_key content c.args.key a (to_z w64 (of_z w64 c.into_inner-start.result.1))) (sym (start ∙ c.into_inner-start.ensures.start))
    (subst (λ b. IsGreatestPiece least_key greatest_key content c.args.key lo b) (sym (end ∙ c.into_inner-start.ensures.end)) found.0)

pub returns-clause-word : goal.returns-clause-word
returns-clause-word c =
    let lo = range_inclusive_start c.range_or_gap_at.result.0 in
    let hi = range_inclusive_end c.range_or_gap_at.result.0 in
    let found = looked_up least_key greatest_key c.args.map.now.entries c.args.key lo hi c.in_hand.ensures _ (search rules) c.range_or_gap_at.result.1 c.range_or_gap_at.ensures.entry in
    c.word_or_dash.ensures ∙ ap word_or_dash found.1
