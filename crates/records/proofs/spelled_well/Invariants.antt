-- `records::spelled_well` meets its contract: after each turn both tests are known of the bytes so far.
use Rattle.std.proofs.Common.{◌≡◌, take}
use Rattle.std.specs.List.{list_all}
use Rattle.meaning.specs.Book.{is_digit, is_name_byte}
use Rattle.records.proofs.spelled_well.Given as goal

abbrev pub invariant-loop-b : goal.invariant-loop-b
invariant-loop-b l = record {
  good : l.good ≡ list_all is_name_byte (take l.b-index l.name);
  digits : l.digits ≡ list_all is_digit (take l.b-index l.name);
}
