use Rattle.outside.specs.Meaning.{env_bytes}
use Rattle.build_manifest.specs.declared.command.EnvPair.{EnvPair}
use Rattle.build_meaning.specs.Commands.{variable_of}
use Rattle.spelling.proofs.ItemLemmas.{items-more, list-whole-map}
use Rattle.tool_commands.proofs.SignatureLemmas.{pushed_both}
use Rattle.tool_commands.proofs.parts.push_env.Goals as goal

pub loop-pair-preserved : goal.loop-pair-preserved
loop-pair-preserved c =
    items-more (λ (p : EnvPair). env_bytes (variable_of p)) _ _ c.pair-item.result _ _ _
    c.loop-pair-test.true c.pair-item.is c.loop-pair.invariant
    (pushed_both _ _ _ _ _ _ _ c.as_slice.ensures c.as_slice-in-loop-pair.ensures c.in_ok-push_text.ensures c.in_ok-push_text-2.ensures)

pub returns : goal.returns
returns c =
    list-whole-map env_bytes variable_of _ _ _ _ _ _ _
    c.loop-pair-test.false c.as_slice-pair-items.ensures c.len.ensures c.in_ok-push_count.ensures c.loop-pair.invariant
