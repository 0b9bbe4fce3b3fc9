use Rattle.outside.specs.Meaning.{key_bytes}
use Rattle.build_manifest.specs.declared.command.Input.{Input}
use Rattle.build_meaning.specs.Commands.{key_of}
use Rattle.spelling.proofs.ItemLemmas.{items-more, list-whole-map}
use Rattle.tool_commands.proofs.parts.push_keys.Goals as goal

pub loop-input-preserved : goal.loop-input-preserved
loop-input-preserved c =
    items-more (λ (i : Input). key_bytes (key_of i)) _ _ c.input-item.result _ _ _
    c.loop-input-test.true c.input-item.is c.loop-input.invariant c.in_ok-push_key.ensures

pub returns : goal.returns
returns c =
    list-whole-map key_bytes key_of _ _ _ _ _ _ _
    c.loop-input-test.false c.as_slice-input-items.ensures c.len.ensures c.in_ok-push_count.ensures c.loop-input.invariant
