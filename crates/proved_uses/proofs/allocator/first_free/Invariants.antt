use Rattle.std.proofs.Common.{ℕ, ◌<◌, ◌≤◌, ◌+◌, ◌-◌}
use Rattle.proved_uses.specs.Blocks.{IsFreeRun}
use Rattle.proved_uses.proofs.allocator.first_free.Given as goal

-- no free run starts below the key
abbrev pub invariant-loop-length : goal.invariant-loop-length
invariant-loop-length l = (s : ℕ) → s < l.key → s + l.length ≤ 18446744073709551616 → IsFreeRun l.map.entries s l.length → ⊥

abbrev pub decreases-loop-length : goal.decreases-loop-length
decreases-loop-length l = 18446744073709551616 - l.key
