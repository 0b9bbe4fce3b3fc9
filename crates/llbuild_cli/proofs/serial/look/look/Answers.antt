use Rattle.std.proofs.Common.{◌∙◌, sym}
use Rattle.file_info.specs.declared.info.Form.TheVariants.{Follow}
use Rattle.llbuild_cli.proofs.ProgressLemmas.{stayed_at}
use Rattle.llbuild_cli.proofs.JournalLemmas.{source_known}
use Rattle.llbuild_cli.proofs.StandsLemmas.{looked_source}
use Rattle.llbuild_cli.proofs.serial.look.look.Goals as goal

pub returns-clause-looked : goal.returns-clause-looked
returns-clause-looked g c =
    looked_source c.args.path.now c.in_ok-info.info c.in_ok-note_source.ensures.ok c.in_default.ensures.unknown
    (λ t. stayed_at c.stat.ensures.stayed t c.args.path.now Follow ∙ sym (c.in_ok-info.ensures.info t))

pub returns-clause-info : goal.returns-clause-info
returns-clause-info g c = source_known c.args.seen.now c.note_source.new.self c.args.path.now c.in_ok-info.info c.in_ok-note_source.ensures.ok
