use Rattle.range_map_cli.proofs.Words.{◌≡◌, ◌<◌, ◌^◌, take, true, list_all, is_ascii_digit, digits_value}
use Rattle.range_map_cli.proofs.request.digits.Given as goal

-- the bytes so far are digits, and write the value
abbrev pub invariant-loop-byte : goal.invariant-loop-byte
invariant-loop-byte l = record {
  digits : list_all is_ascii_digit (take l.byte-index l.text) ≡ true;
  value : l.value ≡ digits_value 10 (take l.byte-index l.text);
  small : l.value < 10 ^ l.byte-index;
}
