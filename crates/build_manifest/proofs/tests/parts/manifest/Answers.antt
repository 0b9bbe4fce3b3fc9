use Rattle.std.proofs.Common.{◌≡◌, ℕ, List, [], ◌∷◌, length, ap, arith, ◌∙◌}
use Rattle.std.specs.Prelude.{bytes_eq}
use Rattle.std.proofs.lemmas.List.{length-map}
use Rattle.file_info.specs.Lists.{In}
use Rattle.build_manifest.specs.declared.command.Command.{Command}
use Rattle.build_manifest.specs.declared.command.TargetEntry.{TargetEntry}
use Rattle.build_manifest.specs.Command.{IsCommand, IsTarget}
use Rattle.build_manifest.specs.Distinct.{differ}
use Rattle.build_manifest.specs.Manifest.{AreParts}
use Rattle.build_manifest.specs.Places.{command_names, target_names}
use Rattle.build_manifest.proofs.tests.parts.manifest.Goals as goal

parts_of : (ts : List TargetEntry) (cs : List Command) → ((t : TargetEntry) → In t ts → IsTarget t) → ((c : Command) → In c cs → IsCommand c)
    → target_names ts ≡ (97 ∷ []) ∷ (98 ∷ []) ∷ [] → command_names cs ≡ (112 ∷ []) ∷ (113 ∷ []) ∷ (114 ∷ []) ∷ [] → AreParts ts cs
parts_of ts cs targets commands two three =
    let long_targets : length (target_names ts) ≡ 2 = ap length two in
    let long_commands : length (command_names cs) ≡ 3 = ap length three in
    record {
      few_targets = omega (arith, length-map ts (λ (t : TargetEntry). t.name));
      few_commands = omega (arith, length-map cs (λ (c : Command). c.name));
      target_names = ap (differ bytes_eq) two;
      command_names = ap (differ bytes_eq) three;
      each_target = targets;
      each_command = commands;
    }

pub of-requires : goal.of-requires
of-requires c = parts_of _ _ c.in_ok-targets.ensures.are c.in_ok-drafts.ensures.are c.in_ok-targets.ensures.named c.in_ok-drafts.ensures.named
