use Rattle.range_map_cli.proofs.Words.{◌≡◌, ℕ, List, [], Consumes, IsServing}
use Rattle.range_map_cli.proofs.server.serve.Given as goal

-- what was read is answered, and nothing waits
abbrev pub invariant-loop-turn : goal.invariant-loop-turn
invariant-loop-turn g l = record {
  serving : IsServing (g.W.Write.contents l.fn.output) (g.W.Write.contents l.output) (g.R.Read.remaining l.fn.input) (g.R.Read.remaining l.input) l.session;
  reads : (bytes : List ℕ) × Consumes (g.R.Read.remaining l.fn.input) (g.R.Read.remaining l.input) bytes;
  written : l.session.waiting.items ≡ [];
}
