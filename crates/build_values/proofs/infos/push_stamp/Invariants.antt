use Rattle.std.proofs.Common.{◌≡◌, ◌++◌, take}
use Rattle.spelling.specs.Spelling.{items_bytes}
use Rattle.build_values.specs.Values.{num_bytes}
use Rattle.build_values.proofs.infos.push_stamp.Given as goal

abbrev pub invariant-loop-number : goal.invariant-loop-number
invariant-loop-number l = l.out.items ≡ l.initial.out.items ++ items_bytes num_bytes (take l.number-index l.stamp)
