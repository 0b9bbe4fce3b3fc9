use Rattle.std.proofs.Common.{map}
use Rattle.std.specs.Prelude.{string_bytes}
use Rattle.std.specs.Global.{Global}
use Rattle.command_line.specs.Job.{served_job}
use Rattle.llbuild_cli.specs.InMemory.{seen_in}
use Rattle.llbuild_cli.proofs.MemoryLemmas.{made_in_memory, wrote_in_memory}
use Rattle.llbuild_cli.proofs.in_memory.run_in_memory.Goals as goal

pub returns-clause-fresh : goal.returns-clause-fresh
returns-clause-fresh c ok =
    let new = c.run_alone-finish.new.world in
    let job = served_job (map (string_bytes {Z = Global}) c.args.words.now) in
    made_in_memory _ _ c.args.world.now new (seen_in c.args.out.now) (seen_in c.run_alone-finish.new.out) c.run_alone-finish.result.report job
    c.writes-before.ensures.told c.writes-after.ensures.told ok c.run_alone-finish.ensures.served.course

pub returns-clause-wrote : goal.returns-clause-wrote
returns-clause-wrote c ok =
    let new = c.run_alone-finish.new.world in
    let job = served_job (map (string_bytes {Z = Global}) c.args.words.now) in
    wrote_in_memory _ _ c.args.world.now new c.args.out.now c.run_alone-finish.new.out c.run_alone-finish.result.report job
    c.writes-after.ensures.told ok c.run_alone-finish.ensures.served.course
