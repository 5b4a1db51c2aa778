use Rattle.std.proofs.Common.{◌-◌, ◌≤◌}
use Rattle.demo_keys.specs.Blocks.{IsBlockWithin}
use Rattle.demo_keys.proofs.blocks.greatest_block.Given as goal

abbrev pub invariant-loop-free : goal.invariant-loop-free
invariant-loop-free l = (l.free ≤ 128) × IsBlockWithin l.first l.last l.free

abbrev pub decreases-loop-free : goal.decreases-loop-free
decreases-loop-free l = 128 - l.free
