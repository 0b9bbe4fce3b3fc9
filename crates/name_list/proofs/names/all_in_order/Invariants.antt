use Rattle.std.proofs.Common.{◌≡◌, length}
use Rattle.name_list.specs.EntryNames.{are_entry_names}
use Rattle.name_list.proofs.names.all_in_order.Given as goal

abbrev pub invariant-loop-rest : goal.invariant-loop-rest
invariant-loop-rest l = are_entry_names l.names ≡ are_entry_names l.rest

abbrev pub decreases-loop-rest : goal.decreases-loop-rest
decreases-loop-rest l = length l.rest
