use Rattle.range_map_cli.proofs.Words.{◌≡◌, take, true, list_all, is_ascii_alphanumeric}
use Rattle.range_map_cli.proofs.request.is_alphanumeric.Given as goal

abbrev pub invariant-loop-byte : goal.invariant-loop-byte
invariant-loop-byte l = list_all is_ascii_alphanumeric (take l.byte-index l.text) ≡ true
