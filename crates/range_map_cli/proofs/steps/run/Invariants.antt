use Rattle.range_map_cli.proofs.Words.{◌≡◌, ◌≤◌, ◌++◌, List, length, vec_capacity, vec_len, into_iter_items, Step}
use Rattle.range_map_cli.proofs.Stepping.Running.{IsRunning}
use Rattle.range_map_cli.proofs.steps.run.Given as goal

-- the steps that were taken are done, and there is room for the answers of all
abbrev pub invariant-loop-step : goal.invariant-loop-step
invariant-loop-step g l =
    (done : List (Step g.row.T.Denot g.row.V.Denot g.row.T-SafeLen.Denot))
    × (l.fn.steps.items ≡ done ++ into_iter_items l.step-iterator)
    × IsRunning g.V.PartialEq.eq g.T.Integer.rank g.T.Integer.low g.T.Integer.high done l.fn.map l.map l.answers.items
    × (vec_len l.answers ≡ length done)
    × (length l.fn.steps.items ≤ vec_capacity l.answers)
