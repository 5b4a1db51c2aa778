use Rattle.std.proofs.Common.{◌≡◌, ◌-◌, ◌≤◌, ap, sym, arith}
use Rattle.blaze_int.specs.Unsigned.{nat_of}
use Rattle.demo_keys.proofs.Powers.{few_free}
use Rattle.demo_keys.proofs.prefixes.shortest_prefix.Goals as goal

pub overflow_sub-result : goal.overflow_sub-result
overflow_sub-result g c = rw c.width.ensures.value (few_free c.number.result c.number-2.result c.greatest_block.result g.A.Address.width c.greatest_block.ensures.within c.number-2.ensures.bound)

pub returns-clause-greatest : goal.returns-clause-greatest
returns-clause-greatest g c =
    let few : c.greatest_block.result ≤ g.A.Address.width = few_free c.number.result c.number-2.result c.greatest_block.result g.A.Address.width c.greatest_block.ensures.within c.number-2.ensures.bound in
    let free : g.A.Address.width - (c.width.result - c.greatest_block.result) ≡ c.greatest_block.result = omega (arith, few, c.width.ensures.value) in
    let from : nat_of (g.A.Integer.rank c.args.first) ≡ c.number.result = ap nat_of (sym c.number.ensures.value) in
    let to : nat_of (g.A.Integer.rank c.args.last) ≡ c.number-2.result = ap nat_of (sym c.number-2.ensures.value) in
    rw free (rw from (rw to (c.greatest_block.ensures.within, c.greatest_block.ensures.greatest)))
