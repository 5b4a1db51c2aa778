use Rattle.std.proofs.Common.{ℕ, suc, ℤ, ◌-ℤ◌, Option, Some, None}
use Rattle.blaze_int.specs.Unsigned.{nat_of}
use Rattle.tables.proofs.routes.family.print_prefixes_of.Given as goal

-- an upper bound of the number of remaining keys, from a key to h
abbrev left : {K : Type 0} → (K → ℤ) → ℤ → Option K → ℕ
left rank h None = 0
left rank h (Some k) = suc (nat_of (h -ℤ rank k))

abbrev pub decreases-loop-next : goal.decreases-loop-next
decreases-loop-next g l = left g.A.Integer.rank (g.A.Integer.rank l.end) l.next
