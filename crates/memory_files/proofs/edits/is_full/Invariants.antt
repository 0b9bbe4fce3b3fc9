use Rattle.std.proofs.Common.{◌≡◌, false, take}
use Rattle.std.specs.Prelude.{◌&&◌, not}
use Rattle.std.specs.List.{list_any}
use Rattle.outside.specs.Outcome.{stands_in}
use Rattle.memory_files.specs.Log.{last_of}
use Rattle.memory_files.specs.Edits.{is_free, above}
use Rattle.memory_files.proofs.edits.is_full.Given as goal

abbrev pub invariant-loop-write : goal.invariant-loop-write
invariant-loop-write l = list_any (λ w. not (is_free (last_of l.files.writes w.path)) && stands_in (above w.path) l.path) (take l.write-index l.write-items) ≡ false
