-- What is ruled of targets and commands.
use Rattle.std.proofs.Common.{◌≡◌, ◌<◌, ℕ, List, [], length, Option, Some, None, Result, Ok, Err, IfErr, IfSome, refl, sym, ap, subst, ◌∙◌}
use Rattle.std.specs.Prelude.{bytes_eq}
use Rattle.std.specs.Result.{IsErrAnd}
use Rattle.build_manifest.specs.declared.command.Command.{Command}
use Rattle.build_manifest.specs.declared.command.TargetEntry.{TargetEntry}
use Rattle.build_manifest.specs.declared.draft.Draft.{Draft}
use Rattle.build_manifest.specs.declared.fault.RuleFault.{RuleFault}
use Rattle.build_manifest.specs.Manifest.{AreParts, IsManifest, lists_of}
use Rattle.build_manifest.specs.Distinct.{differ}
use Rattle.build_manifest.specs.Places.{is_used, is_node, all_outputs}
use Rattle.build_manifest.specs.Rules.{default_fault, default_place_of, outputs_fault, all_deps_fault, commands_of, ruled}
use Rattle.build_manifest.proofs.StepLemmas.{position_within}
use Rattle.build_manifest.proofs.MakerLemmas.{first_none}
use Rattle.build_manifest.proofs.FreeLemmas.{outputs_free, all_deps_free}

-- a fault of the dependency files, where there is none before them
pub ruled_deps : (targets : List TargetEntry) (default : Option (List ℕ)) (drafts : List Draft) (commands : List Command) (e : RuleFault) → commands ≡ commands_of drafts
    → default_fault targets default ≡ None → outputs_fault [] drafts ≡ None → all_deps_fault (is_used targets commands) [] commands ≡ Some e
    → ruled targets default drafts ≡ Err e
unfolding ruled
ruled_deps targets default drafts commands e same no_default no_output found =
    ap (λ (o : Option RuleFault). elim o [ Some fault ↦ Err fault | None ↦ Ok (lists_of targets (default_place_of targets default) (commands_of drafts)) ])
    (first_none (default_fault targets default) _ no_default ∙ first_none (outputs_fault [] drafts) _ no_output
    ∙ ap (λ (cs : List Command). all_deps_fault (is_used targets cs) [] cs) (sym same) ∙ found)

-- the default is one of the targets
default_within : (targets : List TargetEntry) (default : Option (List ℕ)) → IfSome (default_place_of targets default) (λ place. place < length targets)
default_within targets None = tt
default_within targets (Some name) = position_within (λ (t : TargetEntry). bytes_eq name t.name) targets _ refl

-- where no rule is broken there is a manifest
pub ruled_manifest : (targets : List TargetEntry) (default : Option (List ℕ)) (drafts : List Draft) (place : Option ℕ) (commands : List Command)
    → place ≡ default_place_of targets default → commands ≡ commands_of drafts
    → AreParts targets (commands_of drafts) → outputs_fault [] drafts ≡ None → all_deps_fault (is_used targets commands) [] commands ≡ None
    → IsManifest (lists_of targets place commands)
ruled_manifest targets default drafts place commands at same parts no_output no_deps =
    let free = all_deps_free (is_used targets commands) [] commands no_deps refl in
    record {
      parts = subst (AreParts targets) (sym same) parts;
      default_place = subst (λ (o : Option ℕ). IfSome o (λ p. p < length targets)) (sym at) (default_within targets default);
      one_maker = ap (λ (cs : List Command). differ is_node (all_outputs cs)) same ∙ outputs_free [] drafts no_output refl;
      one_owner = free.apart;
      no_node = free.unused;
    }

-- what is known of an error that is handed on
pub handed_on : {A E : Type 0} (r : Result A E) (e : E) (P : E → Type 0) → P e → IsErrAnd r (λ f. f ≡ e) → IfErr r P
handed_on (Ok x) e P known is = tt
handed_on (Err f) e P known is = subst P (sym is) known
