use Rattle.std.proofs.Common.{arith}
use Rattle.std.proofs.lemmas.Bool.Decides.{nat_tests}
use Rattle.file_info.specs.Name.{is_control}
use Rattle.file_info.specs.declared.name.NameError.TheVariants.{Control}
use Rattle.manifest_values.proofs.TextLemmas.{none_found}
use Rattle.manifest_values.proofs.texts.has_no_fault.Goals as goal

pub returns : goal.returns
returns c =
    let found = none_found is_control Control c.args.text.now in
    grind (arith, nat_tests, found)
