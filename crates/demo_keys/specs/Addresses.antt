-- Texts of addresses, and the numbers that the bits of the addresses form.
use Rattle.std.specs.Prelude.{◌≡◌, ℕ, List}
use Rattle.std.specs.Net.Addr.{ipv4_bits, ipv6_bits}
use Rattle.std.specs.Net.Grammar.{IsIpv4Text, IsIpv6Text}
use Rattle.std.specs.declared.net.ipv4_addr.Ipv4Addr.{Ipv4Addr}
use Rattle.std.specs.declared.net.ipv6_addr.Ipv6Addr.{Ipv6Addr}

-- the text spells the IPv4 address with these bits
abbrev pub IsIpv4Key : List ℕ → ℕ → Type 0
IsIpv4Key text bits = (address : Ipv4Addr) × IsIpv4Text text address × (bits ≡ ipv4_bits address)

-- the text spells the IPv6 address with these bits
abbrev pub IsIpv6Key : List ℕ → ℕ → Type 0
IsIpv6Key text bits = (address : Ipv6Addr) × IsIpv6Text text address × (bits ≡ ipv6_bits address)
