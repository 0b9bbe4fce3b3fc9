use Rattle.std.proofs.Common.{◌≡◌, drop}
use Rattle.std.specs.List.{list_all}
use Rattle.build_plan.specs.Plain.{is_file_input}
use Rattle.build_plan.proofs.plain.are_file_inputs.Given as goal

abbrev pub invariant-loop-input : goal.invariant-loop-input
invariant-loop-input l = list_all is_file_input l.input-items ≡ list_all is_file_input (drop l.input-index l.input-items)
