use Rattle.std.proofs.Common.{◌≡◌, ℕ, List, take, map, length}
use Rattle.file_info.specs.declared.info.Form.TheVariants.{Follow}
use Rattle.outside.specs.View.{Stayed, Told}
use Rattle.llbuild_cli.proofs.serial.settle.stat_all.Given as goal

abbrev pub invariant-loop-path : goal.invariant-loop-path
invariant-loop-path g l = record {
  count : length l.infos ≡ l.path-index;
  infos : Told (g.W.Disk.view l.world) → l.infos ≡ map (λ (p : List ℕ). (g.W.Disk.view l.world).at p Follow) (take l.path-index l.path-items);
  stayed : Stayed (g.W.Disk.view l.fn.world) (g.W.Disk.view l.world);
}
