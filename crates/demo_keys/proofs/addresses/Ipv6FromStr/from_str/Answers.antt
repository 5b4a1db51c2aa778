use Rattle.demo_keys.proofs.addresses.Ipv6FromStr.from_str.Goals as goal

pub returns-in-Err : goal.returns-in-Err
returns-in-Err c a key = c.in-Err.ensures key.0 key.1
