use Rattle.range_map_cli.proofs.Words.{◌≡◌, ◌++◌, [], ◌∷◌, refl, ap, sym, ◌∙◌, take, eqb-true, on_ok_weaker, IfErr-weaker, with_line}
use Rattle.range_map_cli.proofs.Sessions.Cuts.{empty_list}
use Rattle.range_map_cli.proofs.Sessions.Kept.{kept_again}
use Rattle.range_map_cli.proofs.Sessions.Progress.{next_part, without_line}
use Rattle.range_map_cli.proofs.session.end_line.Goals as goal

-- bytes of the line were kept, and the last ones are put behind them
pub returns-then-not-is_empty-clause-ok : goal.returns-then-not-is_empty-clause-ok
returns-then-not-is_empty-clause-ok g c =
    let session = c.args.session.now in
    let bytes = c.args.bytes.now in
    let line = kept_again _ (session.line ++ bytes) (c.as_slice.ensures ∙ c.keep.ensures ∙ ap (λ l. take 81 (l ++ bytes)) c.replace-line.ensures.value) in
    on_ok_weaker c.answer_line.result (λ ok held text rest lines none at. without_line held _ text c.answer_line.new.session rest lines (c.answer_line.ensures.line ∙ c.replace-line.ensures.after ∙ c.new.ensures) (ok held text rest lines (next_part held _ text session (with_line c.as_slice.result.now session) bytes (10 ∷ rest) lines at none refl line))) c.answer_line.ensures.ok

pub returns-then-not-is_empty-clause-err : goal.returns-then-not-is_empty-clause-err
returns-then-not-is_empty-clause-err g c =
    let session = c.args.session.now in
    let bytes = c.args.bytes.now in
    let line = kept_again _ (session.line ++ bytes) (c.as_slice.ensures ∙ c.keep.ensures ∙ ap (λ l. take 81 (l ++ bytes)) c.replace-line.ensures.value) in
    IfErr-weaker c.answer_line.result _ _ (λ end err held text rest lines none at. err held text rest lines (next_part held _ text session (with_line c.as_slice.result.now session) bytes (10 ∷ rest) lines at none refl line)) c.answer_line.ensures.err

-- the whole line lies in the bytes
pub returns-clause-ok : goal.returns-clause-ok
returns-clause-ok g c =
    let session = c.args.session.now in
    let bytes = c.args.bytes.now in
    let line : session.line ≡ [] = empty_list session.line (eqb-true _ 0 (sym c.if-not-is_empty.ensures)) in
    on_ok_weaker c.answer_line-2.result (λ ok held text rest lines none at. without_line held _ text c.answer_line-2.new.session rest lines (c.answer_line-2.ensures.line ∙ line) (ok held text rest lines (next_part held _ text session (with_line bytes session) bytes (10 ∷ rest) lines at none refl (ap (λ l. take 81 (l ++ bytes)) (sym line))))) c.answer_line-2.ensures.ok

pub returns-clause-err : goal.returns-clause-err
returns-clause-err g c =
    let session = c.args.session.now in
    let bytes = c.args.bytes.now in
    let line : session.line ≡ [] = empty_list session.line (eqb-true _ 0 (sym c.if-not-is_empty.ensures)) in
    IfErr-weaker c.answer_line-2.result _ _ (λ end err held text rest lines none at. err held text rest lines (next_part held _ text session (with_line bytes session) bytes (10 ∷ rest) lines at none refl (ap (λ l. take 81 (l ++ bytes)) (sym line)))) c.answer_line-2.ensures.err
