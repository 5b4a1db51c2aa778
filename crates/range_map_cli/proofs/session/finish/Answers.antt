use Rattle.range_map_cli.proofs.Words.{◌≡◌, ◌+◌, [], length, arith, refl, ap, sym, false-eqb, eqb-true, ends_in, Lacks}
use Rattle.range_map_cli.specs.declared.End.TheVariants as ends
use Rattle.range_map_cli.proofs.Sessions.Cuts.{empty_list}
use Rattle.range_map_cli.proofs.Sessions.Progress.{last_line}
use Rattle.range_map_cli.proofs.Sessions.Endings.{prints_done, behind}
use Rattle.range_map_cli.proofs.session.finish.Goals as goal

-- no line ends in nothing
none : ends_in [] ≡ 0
none = refl

nothing_lacks : Lacks 10 []
nothing_lacks = λ k d in'. absurd (omega arith)

pub returns-then-is_empty-clause-closes : goal.returns-then-is_empty-clause-closes
returns-then-is_empty-clause-closes g c = λ held text lines at.
    let empty = empty_list c.args.session.now.line (eqb-true _ 0 (sym c.if-is_empty.ensures)) in
    (lines, omega (arith, none), c.close.ensures.closes held text at.forwards.0 lines at.forwards.1 (behind held _ text _ [] lines at lines ends.Done [] (prints_done held _ text _ lines at empty)))

pub returns-in-Ok-clause-closes : goal.returns-in-Ok-clause-closes
returns-in-Ok-clause-closes g c = λ held text lines at.
    let last = last_line held _ text _ lines at (λ e. false-eqb _ 0 c.if-is_empty.ensures (ap length e)) in
    let end = c.in-Ok.ensures.ok held text [] _ nothing_lacks last in
    (lines + 1, omega (arith, none), c.close-in-Ok.ensures.closes held text end.forwards.0 (lines + 1) end.forwards.1 (behind held _ text _ [] _ end (lines + 1) ends.Done [] (prints_done held _ text _ _ end c.in-Ok.ensures.line)))

pub returns-in-Err-clause-closes : goal.returns-in-Err-clause-closes
returns-in-Err-clause-closes g c = λ held text lines at. c.in-Err.ensures.err held text [] _ nothing_lacks (last_line held _ text _ lines at (λ e. false-eqb _ 0 c.if-is_empty.ensures (ap length e)))
