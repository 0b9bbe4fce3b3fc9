-- What the rules over the commands of a manifest give.
use Rattle.std.specs.Prelude.{List, map}
use Rattle.file_info.specs.Lists.{In, IsDistinct}
use Rattle.outside.specs.OrderForm.{paths_of}
use Rattle.build_manifest.specs.declared.command.Command.{Command}
use Rattle.build_meaning.specs.Unique.{HasOneMaker}

-- names differ, and each path has one maker at most and is one output of it. It holds of the commands of each manifest: the law
-- `manifests_are_orderly`
pub record AreOrderly (commands : List Command) : Type 0 where
  pub names : IsDistinct (map (λ (c : Command). c.name) commands)
  pub makers : HasOneMaker commands
  pub outputs : (c : Command) → In c commands → IsDistinct (paths_of c.outputs)
