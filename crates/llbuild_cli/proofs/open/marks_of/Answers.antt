use Rattle.llbuild_cli.specs.Open.{no_memory}
use Rattle.llbuild_cli.proofs.OpenLemmas.{asker_unbuilt, target_unbuilt}
use Rattle.llbuild_cli.proofs.open.marks_of.Goals as goal

pub returns-in-Err-Asker-clause-refused : goal.returns-in-Err-Asker-clause-refused
returns-in-Err-Asker-clause-refused c =
    asker_unbuilt c.args.manifest.now c.args.target.now c.in-Err-Asker.field-0 c.in-Err-Asker.asker c.in-Err-Asker.field-0-is c.in-Err-Asker.ensures.refused

pub returns-in-Err-Later-clause-refused : goal.returns-in-Err-Later-clause-refused
returns-in-Err-Later-clause-refused c =
    target_unbuilt c.args.manifest.now c.args.target.now c.in-Err-Later.field-0 c.in-Err-Later.command c.in-Err-Later.node c.in-Err-Later.field-0-is
    c.in-Err-Later.ensures.refused

pub returns-in-Err-NoMemory-clause-refused : goal.returns-in-Err-NoMemory-clause-refused
returns-in-Err-NoMemory-clause-refused c = no_memory
