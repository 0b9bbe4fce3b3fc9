use Rattle.std.proofs.Common.{◌≡◌, take}
use Rattle.llbuild_cli.specs.Index.{keys_of, infos_of}
use Rattle.llbuild_cli.proofs.serial.seen.entries_of.Given as goal

abbrev pub invariant-loop-place : goal.invariant-loop-place
invariant-loop-place l = record {
  keys : keys_of l.entries.items ≡ take l.place l.fn.paths;
  infos : infos_of l.entries.items ≡ take l.place l.fn.infos;
}
