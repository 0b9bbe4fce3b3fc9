use Rattle.std.proofs.Common.{◌≡◌, ◌≤◌, ℕ, List, length}
use Rattle.std.specs.HashMap.{get_by_text, spare}
use Rattle.llbuild_cli.specs.Index.{with_entries}
use Rattle.llbuild_cli.proofs.serial.seen.add_all.Given as goal

abbrev pub invariant-loop-key : goal.invariant-loop-key
invariant-loop-key l = record {
  room : length l.key-iterator.rest.items ≤ spare l.infos;
  noted : (p : List ℕ) → with_entries l.key-iterator.rest.items (λ q. get_by_text l.infos q) p ≡ with_entries l.fn.entries.items (λ q. get_by_text l.fn.infos q) p;
}
