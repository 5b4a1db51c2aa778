use Rattle.std.specs.Net.Addr.{IsIpv6OfBits}
use Rattle.demo_keys.proofs.addresses.Ipv6Display.fmt.Goals as goal

pub returns-clause-writes : goal.returns-clause-writes
unfolding IsIpv6OfBits
returns-clause-writes g c = rw c.from.ensures at c.fmt.ensures.writes
