use Rattle.std.proofs.Common.{◌≡◌, ◌+◌, ◌≤◌, length}
use Rattle.std.specs.Vec.Iter.{into_iter_items, into_iter_len}
use Rattle.memory_files.specs.Edits.{with_directories}
use Rattle.memory_files.proofs.edits.add_directories.Given as goal

abbrev pub invariant-loop-draft : goal.invariant-loop-draft
invariant-loop-draft l = record {
  rest : with_directories l.files.writes (into_iter_items l.draft-iterator) ≡ with_directories l.fn.files.writes l.fn.drafts;
  room : l.fn.files.room + length (into_iter_items l.draft-iterator) ≤ l.files.room + length l.fn.drafts;
  counted : into_iter_len l.draft-iterator ≡ length (into_iter_items l.draft-iterator);
}
