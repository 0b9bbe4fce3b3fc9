use Rattle.std.proofs.Common.{◌≡◌, ◌⊎◌, inl, inr, Err, refl}
use Rattle.build_manifest.specs.declared.fault.RuleFault.TheVariants as faults
use Rattle.build_manifest.specs.Rules.{ruled}
use Rattle.build_manifest.proofs.RuledLemmas.{handed_on, ruled_deps, ruled_manifest}
use Rattle.build_manifest.proofs.manifest.Manifest.of.Goals as goal

pub returns-in_err-deps_places-clause-refused : goal.returns-in_err-deps_places-clause-refused
returns-in_err-deps_places-clause-refused c =
    let e = c.in_err-deps_places.field-0.0 in
    let refused : (e ≡ faults.NoMemory) ⊎ (ruled c.args.targets c.args.default c.args.drafts ≡ Err e)
    = elim c.in_err-deps_places.ensures.judged [
      | inl none ↦ inl none
      | inr found ↦ inr (ruled_deps c.args.targets c.args.default c.args.drafts _ e refl c.in_ok-default_place.ensures.judged c.in_ok-makers.ensures.judged found)
    ] in
    handed_on c.from_residual-in_err-deps_places.result e (λ f. (f ≡ faults.NoMemory) ⊎ (ruled c.args.targets c.args.default c.args.drafts ≡ Err f)) refused
    c.from_residual-in_err-deps_places.ensures.1

pub invariant_of-result : goal.invariant_of-result
invariant_of-result c = (
  record {
    targets_placed = c.in_ok-target_places.ensures.placed;
    commands_placed = c.in_ok-command_places.ensures.placed;
    makers_noted = c.in_ok-makers.ensures.noted;
    deps_placed = c.in_ok-deps_places.ensures.placed;
  },
  ruled_manifest c.args.targets c.args.default c.args.drafts _ _ c.in_ok-default_place.ensures.place refl c.requires c.in_ok-makers.ensures.judged
      c.in_ok-deps_places.ensures.judged,
)
