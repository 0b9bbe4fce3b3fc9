use Rattle.std.proofs.Common.{◌≡◌, ◌-◌, ◌≤◌, [], length}
use Rattle.build_keys.specs.Reading.{items_from}
use Rattle.build_values.proofs.item.read_items.Given as goal

abbrev pub invariant-loop : goal.invariant-loop
invariant-loop g l = record {
  reads : items_from g.T.Item.reads l.count [] l.initial.rest ≡ items_from g.T.Item.reads (l.count - l.counter) l.found l.rest;
  shorter : length l.rest ≤ length l.fn.bytes;
}
