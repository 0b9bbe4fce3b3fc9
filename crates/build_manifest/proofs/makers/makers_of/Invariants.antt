use Rattle.std.proofs.Common.{◌≡◌, [], take, drop}
use Rattle.file_info.specs.declared.node.NodeName.{NodeName}
use Rattle.build_manifest.specs.Makers.{noted_maker}
use Rattle.build_manifest.specs.Places.{maker_of}
use Rattle.build_manifest.specs.Rules.{commands_of, outputs_fault}
use Rattle.build_manifest.proofs.makers.makers_of.Given as goal

abbrev pub invariant-loop-place : goal.invariant-loop-place
invariant-loop-place l = record {
  noted : (n : NodeName) → noted_maker l.makers n ≡ maker_of (commands_of (take l.place l.fn.drafts)) n;
  fault : outputs_fault [] l.fn.drafts ≡ outputs_fault (commands_of (take l.place l.fn.drafts)) (drop l.place l.fn.drafts);
}
