use Rattle.std.proofs.Common.{◌≡◌, ◌++◌, length}
use Rattle.std.specs.List.{flat_map}
use Rattle.manifest_values.specs.Known.{path_entry}
use Rattle.manifest_values.proofs.known.entries_of.Given as goal

abbrev pub invariant-turns : goal.invariant-turns
invariant-turns l = l.found ++ flat_map (path_entry l.virtuals) l.rest ≡ flat_map (path_entry l.virtuals) l.nodes

abbrev pub decreases-turns : goal.decreases-turns
decreases-turns l = length l.rest
