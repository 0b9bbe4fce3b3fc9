use Rattle.std.proofs.Common.{ap₂, ◌∙◌}
use Rattle.std.proofs.lemmas.Result.{IfOk-weaker}
use Rattle.clap.specs.Words.{with_rule}
use Rattle.command_line.proofs.options.build_command.Goals as goal

pub returns : goal.returns
returns c =
    let file = c.in_ok-arg.ensures.shape c.letter_option.ensures.local ∙ ap₂ with_rule c.command_named.ensures c.letter_option.ensures.rule in
    let db = c.in_ok-arg-2.ensures.shape c.named_option.ensures.local ∙ ap₂ with_rule file c.named_option.ensures.rule in
    let no_db = c.in_ok-arg-3.ensures.shape c.named_flag.ensures.local ∙ ap₂ with_rule db c.named_flag.ensures.rule in
    let serial = c.in_ok-arg-4.ensures.shape c.named_flag-2.ensures.local ∙ ap₂ with_rule no_db c.named_flag-2.ensures.rule in
    let lanes = c.in_ok-arg-5.ensures.shape c.letter_option-2.ensures.local ∙ ap₂ with_rule serial c.letter_option-2.ensures.rule in
    let verbose = c.in_ok-arg-6.ensures.shape c.letter_flag.ensures.local ∙ ap₂ with_rule lanes c.letter_flag.ensures.rule in
    let most = c.in_ok-arg-7.ensures.shape c.named_option-2.ensures.local ∙ ap₂ with_rule verbose c.named_option-2.ensures.rule in
    IfOk-weaker c.arg-8.result _ _ (λ r adds. adds.shape c.word.ensures.local ∙ ap₂ with_rule most c.word.ensures.rule) c.arg-8.ensures
