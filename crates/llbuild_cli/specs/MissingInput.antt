-- What a build met of the inputs that commands and target ask for.
use Rattle.std.specs.Prelude.{◌≡◌, ◌⊎◌, ℕ, List, ◌∷◌, ◌++◌}
use Rattle.file_info.specs.Lists.{In}
use Rattle.file_info.specs.declared.info.Info.{Info}
use Rattle.build_manifest.specs.declared.command.Command.{Command}
use Rattle.build_manifest.specs.declared.command.Input.{Input}
use Rattle.build_manifest.specs.declared.command.TargetEntry.{TargetEntry}
use Rattle.build_meaning.specs.Need.{IsNeeded}
use Rattle.build_report.specs.declared.report.Heard.{Heard}
use Rattle.build_report.specs.declared.report.Start.{Start}
use Rattle.llbuild_cli.specs.declared.stop.Stop.{Stop}
use Rattle.llbuild_cli.specs.declared.stop.Stop.TheVariants.{MissingInput, NoMemory}
use Rattle.llbuild_cli.specs.Outcome.{AllDone, AllEnded}
use Rattle.llbuild_cli.specs.Input.{AreRead, IsFirstMissing, WereRead}
use Rattle.llbuild_cli.specs.Sight.{IsSingle}
use Rattle.llbuild_cli.specs.Start.{start_of, AllStarted}

-- the command is the first of those that are needed that was not started
pub record IsNext (commands : List Command) (wanted : List Input) (starts : List Start) (command : Command) : Type 0 where
  pub before : List Command
  pub after : List Command
  pub commands_are : commands ≡ before ++ command ∷ after
  pub needed : IsNeeded commands wanted command
  pub started : (c : Command) → In c before → IsNeeded commands wanted c → In (start_of c) starts
  pub not_started : In (start_of command) starts → ⊥

-- what is next is the first command that is needed and was not started; it has this name and asks for these inputs
pub record AsksNext (commands : List Command) (target : TargetEntry) (starts : List Start) (asker : List ℕ) (inputs : List Input) : Type 0 where
  pub command : Command
  pub next : IsNext commands target.nodes starts command
  pub named : command.name ≡ asker
  pub inputs_are : command.inputs ≡ inputs

-- what is next is the target, since all that is needed was started; it has this name and asks for these inputs
pub record AsksLast (commands : List Command) (target : TargetEntry) (starts : List Start) (asker : List ℕ) (inputs : List Input) : Type 0 where
  pub started : AllStarted commands target.nodes starts
  pub named : target.name ≡ asker
  pub inputs_are : target.nodes ≡ inputs

-- what is next has this name, and asks for these inputs
abbrev pub IsAsker : List Command → TargetEntry → List Start → List ℕ → List Input → Type 0
IsAsker commands target starts asker inputs = AsksNext commands target starts asker inputs ⊎ AsksLast commands target starts asker inputs

-- what is next has this name, and the first of its inputs that is missing is written so
pub record IsStuck (commands : List Command) (target : TargetEntry) (seen : List ℕ → Info → Type 0) (starts : List Start)
    (asker node : List ℕ) : Type 0 where
  pub inputs : List Input
  pub asks : IsAsker commands target starts asker inputs
  pub first : IsFirstMissing seen inputs node

-- where what is next lacks an input while each order ended and succeeded, the build stops so, or no memory was left
abbrev pub StopsAtMissing : List Command → TargetEntry → (List ℕ → Info → Type 0) → List Start → List Heard → Stop → Type 0
StopsAtMissing commands target seen starts heard stop =
    (asker node : List ℕ) → IsStuck commands target seen starts asker node → AllDone heard → AllEnded starts heard
    → (stop ≡ MissingInput asker node) ⊎ (stop ≡ NoMemory)

-- the start is that of the command, whose inputs were read
pub record IsStartOn (seen : List ℕ → Info → Type 0) (c : Command) (start : Start) : Type 0 where
  pub is : start ≡ start_of c
  pub read : WereRead seen c.inputs

-- the order is that of the command, and has what was read of its inputs
pub record IsOrderOn (seen : List ℕ → Info → Type 0) (c : Command) (heard : Heard) : Type 0 where
  pub name : heard.order.command ≡ c.name
  pub read : AreRead seen c.inputs heard.order.reads

-- what was shown still is, and no path is shown with file information of two values. What is new among the starts and the
-- orders that ended is of the command, whose inputs are shown, and none is missing
pub record ReadFirst (c : Command) (old new : List ℕ → Info → Type 0) (before after : List Start) (heard then : List Heard) : Type 0 where
  pub kept : (p : List ℕ) (i : Info) → old p i → new p i
  pub single : IsSingle new
  pub starts : (s : Start) → In s after → In s before ⊎ IsStartOn new c s
  pub orders : (h : Heard) → In h then → In h heard ⊎ IsOrderOn new c h

-- each start, and each order that ended, is that of a command whose inputs were seen: none is missing, and that is what the
-- order read
pub record AllReadFirst (commands : List Command) (seen : List ℕ → Info → Type 0) (starts : List Start) (heard : List Heard) : Type 0 where
  pub started : (s : Start) → In s starts → (c : Command) × (In c commands × IsStartOn seen c s)
  pub orders : (h : Heard) → In h heard → (c : Command) × (In c commands × IsOrderOn seen c h)
