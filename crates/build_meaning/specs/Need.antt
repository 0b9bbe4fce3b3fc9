-- What a target needs.
use Rattle.std.specs.Prelude.{◌≡◌, ◌↔◌, ℕ, true, Bool, List, length, slice_get, Some}
use Rattle.file_info.specs.Lists.{In}
use Rattle.build_manifest.specs.declared.command.Command.{Command}
use Rattle.build_manifest.specs.declared.command.Input.{Input}

-- the command is needed for these nodes: it makes one of them, or an input or a must-follow node of a command that is needed
pub data IsNeeded (commands : List Command) (wanted : List Input) : Command → Type 0 where
  wants : {c : Command} (i : Input) → In c commands → In i wanted → In i.node c.outputs → IsNeeded commands wanted c
  needs : {c : Command} (user : Command) (i : Input) → In c commands → IsNeeded commands wanted user
      → In i user.inputs → In i.node c.outputs → IsNeeded commands wanted c
  follows : {c : Command} (user : Command) (i : Input) → In c commands → IsNeeded commands wanted user
      → In i user.follow → In i.node c.outputs → IsNeeded commands wanted c

-- there is one mark for each command, by its place, and it is set exactly where the command is needed
pub record AreMarks (commands : List Command) (wanted : List Input) (marks : List Bool) : Type 0 where
  pub count : length marks ≡ length commands
  pub each : (k : ℕ) (c : Command) → slice_get commands k ≡ Some c → (slice_get marks k ≡ Some true) ↔ IsNeeded commands wanted c
