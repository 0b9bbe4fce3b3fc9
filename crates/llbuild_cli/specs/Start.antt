-- The starts of a build.
use Rattle.std.specs.Prelude.{◌≡◌, ℕ, Bool, true, false, List, [], ◌∷◌, map, Option, Some, None}
use Rattle.file_info.specs.Lists.{In, IsDistinct}
use Rattle.build_manifest.specs.declared.command.Command.{Command}
use Rattle.build_manifest.specs.declared.command.Input.{Input}
use Rattle.build_meaning.specs.Need.{IsNeeded}
use Rattle.build_report.specs.declared.report.Start.{Start}
use Rattle.build_report.specs.declared.report.Reason.TheVariants.{NeverBuilt}

-- the description, or the name where there is none
abbrev pub shown_of : Option (List ℕ) → List ℕ → List ℕ
shown_of None name = name
shown_of (Some description) name = description

-- the start of a command: its name, its description or else its name, and the reason that no result of it is stored
abbrev pub start_of : Command → Start
start_of c = record { command = c.name; shown = shown_of c.description c.name; reason = NeverBuilt }

-- the starts of the marked commands, in order
abbrev pub starts_of : List Command → List Bool → List Start
starts_of [] marks = []
starts_of (c ∷ cs) [] = []
starts_of (c ∷ cs) (true ∷ marks) = start_of c ∷ starts_of cs marks
starts_of (c ∷ cs) (false ∷ marks) = starts_of cs marks

-- no command was started twice, and each start is that of a command that is needed
pub record AreStarts (commands : List Command) (wanted : List Input) (starts : List Start) : Type 0 where
  pub distinct : IsDistinct (map (λ (s : Start). s.command) starts)
  pub needed : (s : Start) → In s starts → (c : Command) × (In c commands × (IsNeeded commands wanted c × (s ≡ start_of c)))

-- every command that is needed was started
abbrev pub AllStarted : List Command → List Input → List Start → Type 0
AllStarted commands wanted starts = (c : Command) → IsNeeded commands wanted c → In (start_of c) starts

-- the start of a command that is needed and was not started
pub record IsNextStart (commands : List Command) (wanted : List Input) (starts : List Start) (next : Start) : Type 0 where
  pub command : Command
  pub named : In command commands
  pub needed : IsNeeded commands wanted command
  pub is : next ≡ start_of command
  pub not_started : In next starts → ⊥
