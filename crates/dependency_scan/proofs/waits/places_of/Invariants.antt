use Rattle.std.proofs.Common.{◌≡◌, ◌≤◌, drop, length}
use Rattle.std.specs.Option.{option_and_then}
use Rattle.indexmap.specs.IndexMap.{get as place_in}
use Rattle.build_keys.specs.declared.key.Key.{Key}
use Rattle.build_keys.specs.SameKey.{is_key}
use Rattle.dependency_scan.specs.Ring.{next_at, next_in}
use Rattle.dependency_scan.proofs.waits.places_of.Given as goal

abbrev pub invariant-waits : goal.invariant-waits
invariant-waits l = record {
  within : l.left ≤ length l.items;
  told : (k : Key) → option_and_then (next_at l.items) (place_in is_key l.places k) ≡ next_in (drop l.left l.items) k;
}

abbrev pub decreases-waits : goal.decreases-waits
decreases-waits l = l.left
