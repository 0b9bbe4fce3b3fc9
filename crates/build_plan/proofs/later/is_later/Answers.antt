use Rattle.std.proofs.Common.{ap, ◌∙◌}
use Rattle.build_plan.specs.Plain.{is_from}
use Rattle.build_plan.proofs.PlainLemmas.{later_test}
use Rattle.build_plan.proofs.later.is_later.Goals as goal

pub returns : goal.returns
returns c =
    later_test c.args.manifest.now c.requires.kept c.args.place c.args.input.now c.requires.file c.is_from.result
    (c.is_from.ensures ∙ ap (is_from c.args.place) c.maker.ensures.value)
