use Rattle.std.specs.Net.Addr.{IsIpv4OfBits}
use Rattle.demo_keys.proofs.addresses.Ipv4Display.fmt.Goals as goal

pub returns-clause-writes : goal.returns-clause-writes
unfolding IsIpv4OfBits
returns-clause-writes g c = rw c.from.ensures at c.fmt.ensures.writes
