use Rattle.range_map_cli.proofs.Words.{◌≡◌, ◌++◌, ◌∷◌, ◌∙◌, arith, refl, ap, subst, append_assoc, err_from_is_err_and, IsAt}
use Rattle.range_map_cli.proofs.Sessions.Cuts.{ends_in-append}
use Rattle.range_map_cli.proofs.Sessions.Progress.{next_part}
use Rattle.range_map_cli.proofs.session.feed.Goals as goal

pub returns-in_err-end_line-clause-err : goal.returns-in_err-end_line-clause-err
returns-in_err-end_line-clause-err g c =
    let p = err_from_is_err_and c.from_residual.result c.from_residual.ensures.1 in
    let line = c.in-Some.line.now in
    let after = c.in-Some.after.now in
    rw (p.1, p.2) (λ held text rest lines at.
    let split : c.loop-line.rest.now ++ rest ≡ line ++ 10 ∷ (after ++ rest) = ap (λ l. l ++ rest) c.in-Some.ensures.1 ∙ append_assoc line (10 ∷ after) rest in
    let here = subst (λ l. IsAt held (g.W.Write.contents c.loop-line.output) text c.loop-line.session l lines) split (c.loop-line.invariant held text rest lines at) in
    let h = c.in_err-end_line.ensures.err held text (after ++ rest) lines c.in-Some.ensures.0 here in (h.0, omega (arith, h.1, ends_in-append after rest), h.2))

pub loop-line-preserved : goal.loop-line-preserved
loop-line-preserved g c = λ held text more lines at.
    let line = c.in-Some.line.now in
    let after = c.in-Some.after.now in
    let split : c.loop-line.rest.now ++ more ≡ line ++ 10 ∷ (after ++ more) = ap (λ l. l ++ more) c.in-Some.ensures.1 ∙ append_assoc line (10 ∷ after) more in
    let here = subst (λ l. IsAt held (g.W.Write.contents c.loop-line.output) text c.loop-line.session l lines) split (c.loop-line.invariant held text more lines at) in
    c.in_ok-end_line.ensures.ok held text (after ++ more) lines c.in-Some.ensures.0 here

-- the bytes after the last LF
pub returns-clause-ok : goal.returns-clause-ok
returns-clause-ok g c = λ held text rest lines at.
    next_part held (g.W.Write.contents c.loop-line.output) text c.loop-line.session _ c.loop-line.rest.now rest lines (c.loop-line.invariant held text rest lines at) c.in_default.ensures refl c.keep.ensures
