use Rattle.std.proofs.Common.{◌≡◌, ◌≤◌, drop}
use Rattle.std.specs.List.{list_all}
use Rattle.addr_pattern.specs.AddressText.{is_digit, value_of_digits}
use Rattle.addr_pattern.proofs.number.read_number.Given as goal

abbrev pub invariant-loop-digit : goal.invariant-loop-digit
invariant-loop-digit l = record {
  fits : l.number ≤ l.limit;
  value : value_of_digits 0 l.text ≡ value_of_digits l.number (drop l.digit-index l.text);
  digits : list_all is_digit l.text ≡ list_all is_digit (drop l.digit-index l.text);
}
