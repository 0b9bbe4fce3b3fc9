-- What one command adds to a build, and what a build leaves.
use Rattle.std.specs.Prelude.{◌≡◌, ◌⊎◌, ◌+◌, ℕ, List, [], ◌∷◌, ◌++◌, length}
use Rattle.file_info.specs.Lists.{In}
use Rattle.file_info.specs.declared.info.Info.{Info}
use Rattle.outside.specs.View.{Rose, Grew, SinkView}
use Rattle.outside.specs.declared.order.Exit.{Exit}
use Rattle.build_manifest.specs.declared.command.Command.{Command}
use Rattle.build_manifest.specs.declared.command.TargetEntry.{TargetEntry}
use Rattle.build_report.specs.declared.report.Heard.{Heard}
use Rattle.build_report.specs.declared.report.Outcome.TheVariants.{Failed}
use Rattle.build_report.specs.declared.report.Start.{Start}
use Rattle.llbuild_cli.specs.declared.stop.Stop.{Stop}
use Rattle.llbuild_cli.specs.declared.stop.Stop.TheVariants.{CommandFailed, MissingInput, DiskFault, SinkFault, NoMemory}
use Rattle.llbuild_cli.specs.MissingInput.{IsStuck}
use Rattle.llbuild_cli.specs.Outcome.{IsDone, AllDone, AllEnded}
use Rattle.llbuild_cli.specs.CommandRun.{IsOutput}
use Rattle.llbuild_cli.specs.Input.{IsFirstMissing}
use Rattle.llbuild_cli.specs.Start.{start_of}
use Rattle.build_report.specs.Text.{line_of}
use Rattle.llbuild_cli.specs.Growth.{GrewByPart}
use Rattle.llbuild_cli.specs.OwnOrder.{IsOwnOrder}

-- the command was not started, and nothing was written
pub record NotAnnounced (old new : SinkView) (before after : List Start) : Type 0 where
  pub same : after ≡ before
  pub grew : Grew old new []

-- the command was started, and its line was written
pub record Announced (c : Command) (old new : SinkView) (before after : List Start) : Type 0 where
  pub more : after ≡ before ++ start_of c ∷ []
  pub grew : Grew old new (line_of (length before + 1) (start_of c))

-- the command was not started, and a part of its line was written
pub record PartAnnounced (c : Command) (old new : SinkView) (before after : List Start) : Type 0 where
  pub same : after ≡ before
  pub grew : GrewByPart old new (line_of (length before + 1) (start_of c))

-- how far the start of a command came, by why the command stopped the build
abbrev pub CameTo : Command → SinkView → SinkView → List Start → List Start → Stop → Type 0
CameTo c old new before after (CommandFailed command exit) = Announced c old new before after
CameTo c old new before after (MissingInput asker node) = NotAnnounced old new before after
CameTo c old new before after DiskFault = NotAnnounced old new before after ⊎ Announced c old new before after
CameTo c old new before after SinkFault = PartAnnounced c old new before after
CameTo c old new before after NoMemory = PartAnnounced c old new before after ⊎ Announced c old new before after

-- one more order ended, and it is that of the command
pub record HeardOne (c : Command) (before after : List Heard) : Type 0 where
  pub heard : Heard
  pub more : after ≡ before ++ heard ∷ []
  pub name : heard.order.command ≡ c.name
  pub is : IsOwnOrder c heard.order
  pub ticket : heard.order.ticket ≡ length before + 1

-- one more order ended, that of the command, and it succeeded
pub record DoneOne (c : Command) (before after : List Heard) : Type 0 where
  pub one : HeardOne c before after
  pub done : IsDone one.heard.outcome

-- one more order ended, that of the command, and it failed so
pub record FailedOne (c : Command) (exit : Exit) (before after : List Heard) : Type 0 where
  pub one : HeardOne c before after
  pub failed : one.heard.outcome ≡ Failed exit

-- why a command stops a build: the disk or the sink failed, no memory was left, its first missing input is this one, or its
-- order failed. The end of an order was heard in the last case alone
abbrev pub IsRunStop : ℕ → ℕ → ℕ → ℕ → (List ℕ → Info → Type 0) → Command → List Heard → List Heard → Stop → Type 0
IsRunStop disk disk' sink sink' shown c before after (CommandFailed command exit) = (command ≡ c.name) × FailedOne c exit before after
IsRunStop disk disk' sink sink' shown c before after (MissingInput asker node) =
    (asker ≡ c.name) × IsFirstMissing shown c.inputs node × (after ≡ before)
IsRunStop disk disk' sink sink' shown c before after DiskFault = Rose disk disk' × (after ≡ before)
IsRunStop disk disk' sink sink' shown c before after SinkFault = Rose sink sink' × (after ≡ before)
IsRunStop disk disk' sink sink' shown c before after NoMemory = after ≡ before

-- the path is an output of the command, which was started
abbrev pub IsWrittenBy : Command → List Start → List ℕ → Type 0
IsWrittenBy c starts p = In (start_of c) starts × IsOutput c p

-- the path is an output of one of these commands that was started
abbrev pub IsWritten : List Command → List Start → List ℕ → Type 0
IsWritten commands starts p = (c : Command) × (In c commands × IsWrittenBy c starts p)

-- the last order that ended is that of this command, which failed so, and those before it succeeded
pub record IsLastFailed (heard : List Heard) (command : List ℕ) (exit : Exit) : Type 0 where
  pub before : List Heard
  pub last : Heard
  pub heard_are : heard ≡ before ++ last ∷ []
  pub done : AllDone before
  pub named : last.order.command ≡ command
  pub failed : last.outcome ≡ Failed exit

-- why a build stops, at the first failing event. Only at a failed command did an order not succeed, and only at a fault of
-- the disk or for want of memory may the order of a start have no end
abbrev pub IsBuildStop : ℕ → ℕ → ℕ → ℕ → (List ℕ → Info → Type 0) → List Command → TargetEntry → List Start → List Heard → Stop → Type 0
IsBuildStop disk disk' sink sink' shown commands target starts heard (CommandFailed command exit) =
    IsLastFailed heard command exit × AllEnded starts heard
IsBuildStop disk disk' sink sink' shown commands target starts heard (MissingInput asker node) =
    IsStuck commands target shown starts asker node × AllDone heard × AllEnded starts heard
IsBuildStop disk disk' sink sink' shown commands target starts heard DiskFault = Rose disk disk' × AllDone heard
IsBuildStop disk disk' sink sink' shown commands target starts heard SinkFault = Rose sink sink' × AllDone heard × AllEnded starts heard
IsBuildStop disk disk' sink sink' shown commands target starts heard NoMemory = AllDone heard

-- why a build stops after its commands: the disk or the sink failed, no memory was left, or this node is the first that is
-- missing. Where the sink failed or no memory was left, a part of the summary may have been written, and otherwise nothing
-- was
abbrev pub IsFinishStop : ℕ → ℕ → ℕ → ℕ → SinkView → SinkView → (List ℕ → Info → Type 0) → TargetEntry → List ℕ → Stop → Type 0
IsFinishStop disk disk' sink sink' old new shown target text (CommandFailed command exit) = ⊥
IsFinishStop disk disk' sink sink' old new shown target text (MissingInput asker node) =
    (asker ≡ target.name) × IsFirstMissing shown target.nodes node × Grew old new []
IsFinishStop disk disk' sink sink' old new shown target text DiskFault = Rose disk disk' × Grew old new []
IsFinishStop disk disk' sink sink' old new shown target text SinkFault = Rose sink sink' × GrewByPart old new text
IsFinishStop disk disk' sink sink' old new shown target text NoMemory = GrewByPart old new text
