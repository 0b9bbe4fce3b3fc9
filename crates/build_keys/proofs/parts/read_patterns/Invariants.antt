use Rattle.std.proofs.Common.{◌≡◌, ◌-◌, ◌≤◌, [], length}
use Rattle.std.specs.Str.{is_utf8}
use Rattle.build_keys.specs.Reading.{passing_at, items_from}
use Rattle.build_keys.proofs.parts.read_patterns.Given as goal

abbrev pub invariant-loop : goal.invariant-loop
invariant-loop l = record {
  reads : items_from (passing_at is_utf8) l.count [] l.initial.rest ≡ items_from (passing_at is_utf8) (l.count - l.counter) l.found l.rest;
  shorter : length l.rest ≤ length l.fn.bytes;
}
