use Rattle.std.proofs.Common.{rules, ◌≡◌, ◌⊎◌, ℕ, List, subst}
use Rattle.std.specs.Prelude.{Err}
use Rattle.manifest_reader.specs.declared.error.LoadError.TheVariants as load
use Rattle.manifest_reader.specs.Load.{loaded}
use Rattle.llbuild_cli.specs.Open.{load_refusal}
use Rattle.llbuild_cli.proofs.ProgressLemmas.{if_err}
use Rattle.llbuild_cli.proofs.OpenLemmas.{load_unloaded}
use Rattle.llbuild_cli.proofs.open.manifest_of.Goals as goal

pub returns-in_err-manifest-clause-refused : goal.returns-in_err-manifest-clause-refused
returns-in_err-manifest-clause-refused c =
    let error = c.in_err-manifest.field-0.0 in
    if_err c.from_residual.result (load_refusal error) _ (search rules)
    (load_unloaded c.args.bytes.now error
    (subst (λ (bytes : List ℕ). (error ≡ load.NoMemory) ⊎ (loaded bytes ≡ Err error)) c.as_slice.ensures c.in_err-manifest.ensures.refused))
