use Rattle.std.proofs.Common.{◌≡◌, ◌++◌, [], take, drop}
use Rattle.memory_files.specs.Edits.{above_from}
use Rattle.memory_files.proofs.edits.parents.Given as goal

abbrev pub invariant-loop-place : goal.invariant-loop-place
invariant-loop-place l = l.found ++ above_from (take l.place l.text) (drop l.place l.text) ≡ l.initial.found ++ above_from [] l.text
