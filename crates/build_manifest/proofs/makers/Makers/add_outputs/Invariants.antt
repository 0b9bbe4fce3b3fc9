use Rattle.std.proofs.Common.{◌≡◌, None, Some, cond, [], take, drop}
use Rattle.std.specs.List.{list_any}
use Rattle.std.specs.Option.{option_or}
use Rattle.file_info.specs.declared.node.NodeName.{NodeName}
use Rattle.build_manifest.specs.Makers.{noted_maker}
use Rattle.build_manifest.specs.Places.{is_node}
use Rattle.build_manifest.specs.Rules.{commands_of, makers_fault}
use Rattle.build_manifest.proofs.makers.Makers.add_outputs.Given as goal

abbrev pub invariant-loop-node : goal.invariant-loop-node
invariant-loop-node l = record {
  noted : (n : NodeName) → noted_maker l.self n ≡ option_or (noted_maker l.initial.self n) (cond (list_any (is_node n) (take l.node-index l.nodes)) (Some l.place) None);
  fault : makers_fault (commands_of (take l.place l.drafts)) l.draft.command.name [] l.nodes
      ≡ makers_fault (commands_of (take l.place l.drafts)) l.draft.command.name (take l.node-index l.nodes) (drop l.node-index l.nodes);
}
