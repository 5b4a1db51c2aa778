use Rattle.std.proofs.Common.{◌≡◌, ◌+◌, ◌-◌, ◌^◌, ap, sym, subst, arith}
use Rattle.blaze_int.specs.Unsigned.{nat_of}
use Rattle.demo_keys.specs.Blocks.{BeginsBlock}
use Rattle.demo_keys.proofs.Powers.{last_below}
use Rattle.demo_keys.proofs.prefixes.take_prefix.Goals as goal

pub at-end-requires : goal.at-end-requires
at-end-requires g c =
    let from : nat_of (g.A.Integer.rank c.args.first) ≡ c.number.result = ap nat_of (sym c.number.ensures.value) in
    let begins : BeginsBlock c.number.result (g.A.Address.width - c.shortest_prefix-bits.result) =
    subst (λ n. BeginsBlock n (g.A.Address.width - c.shortest_prefix-bits.result)) from c.shortest_prefix-bits.ensures.greatest.0.0 in
    let last : c.last_of_block.result + 1 ≡ c.number.result + 2 ^ (g.A.Address.width - c.shortest_prefix-bits.result) =
    subst (λ w. c.last_of_block.result + 1 ≡ c.number.result + 2 ^ (w - c.shortest_prefix-bits.result)) c.width.ensures.value c.last_of_block.ensures in
    last_below c.number.result (g.A.Address.width - c.shortest_prefix-bits.result) g.A.Address.width c.last_of_block.result
    (omega arith) begins c.number.ensures.bound last
