use Rattle.std.proofs.Common.{rules, refl, subst}
use Rattle.outside.specs.declared.disk.FileBytes.{FileBytes}
use Rattle.outside.specs.declared.disk.FileBytes.TheVariants.{Missing, NotFile, TooLong}
use Rattle.llbuild_cli.specs.Open.{disk_refusal}
use Rattle.llbuild_cli.specs.Plan.{IsAnswer, refused}
use Rattle.llbuild_cli.proofs.ProgressLemmas.{if_err}
use Rattle.llbuild_cli.proofs.OpenLemmas.{disk_unopened, file_unopened}
use Rattle.llbuild_cli.proofs.open.bytes_of.Goals as goal

pub returns-in_err-bytes-clause-refused : goal.returns-in_err-bytes-clause-refused
returns-in_err-bytes-clause-refused g c =
    if_err c.from_residual.result (disk_refusal c.in_err-bytes.field-0.0) _ (search rules)
    (disk_unopened g.W.Disk.gave _ _ c.args.file.now c.in_err-bytes.field-0.0 c.in_err-bytes.ensures.here c.in_err-bytes.ensures.cause.rose)

pub returns-in-Missing-clause-refused : goal.returns-in-Missing-clause-refused
returns-in-Missing-clause-refused g c =
    let ok = c.in_ok-bytes.ensures in
    let read : IsAnswer g.W.Disk.gave (g.W.Disk.view c.args.world.now) (g.W.Disk.view c.read.new.self) c.args.file.now Missing =
    subst (λ (answer : FileBytes). IsAnswer g.W.Disk.gave (g.W.Disk.view c.args.world.now) (g.W.Disk.view c.read.new.self) c.args.file.now answer) c.in-Missing.is
    (record { given = ok.gave; fits = ok.info; is = ok.bytes }) in
    file_unopened g.W.Disk.gave _ _ c.args.file.now Missing c.no_file.result read refl c.no_file.ensures

pub returns-in-NotFile-clause-refused : goal.returns-in-NotFile-clause-refused
returns-in-NotFile-clause-refused g c =
    let ok = c.in_ok-bytes.ensures in
    let read : IsAnswer g.W.Disk.gave (g.W.Disk.view c.args.world.now) (g.W.Disk.view c.read.new.self) c.args.file.now NotFile =
    subst (λ (answer : FileBytes). IsAnswer g.W.Disk.gave (g.W.Disk.view c.args.world.now) (g.W.Disk.view c.read.new.self) c.args.file.now answer) c.in-NotFile.is
    (record { given = ok.gave; fits = ok.info; is = ok.bytes }) in
    file_unopened g.W.Disk.gave _ _ c.args.file.now NotFile c.no_file-in-NotFile.result read refl c.no_file-in-NotFile.ensures

pub returns-in-TooLong-clause-refused : goal.returns-in-TooLong-clause-refused
returns-in-TooLong-clause-refused g c =
    let ok = c.in_ok-bytes.ensures in
    let read : IsAnswer g.W.Disk.gave (g.W.Disk.view c.args.world.now) (g.W.Disk.view c.read.new.self) c.args.file.now TooLong =
    subst (λ (answer : FileBytes). IsAnswer g.W.Disk.gave (g.W.Disk.view c.args.world.now) (g.W.Disk.view c.read.new.self) c.args.file.now answer) c.in-TooLong.is
    (record { given = ok.gave; fits = ok.info; is = ok.bytes }) in
    refused TooLong read refl
