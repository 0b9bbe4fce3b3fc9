-- What was heard of the orders that ended.
use Rattle.std.specs.Prelude.{◌≡◌, ◌≤◌, ◌+◌, ◌++◌, ℕ, List, [], ◌∷◌, length, map, slice_get, Some}
use Rattle.file_info.specs.Content.{Content, FileVersion, content, read_contents}
use Rattle.file_info.specs.Lists.{In}
use Rattle.file_info.specs.declared.info.Info.{Info}
use Rattle.outside.specs.Outcome.{Unchanged}
use Rattle.outside.specs.View.{DiskView, Told, Tells, Keeps}
use Rattle.outside.specs.declared.order.Order.{Order}
use Rattle.outside.specs.declared.order.Exit.{Exit}
use Rattle.outside.specs.declared.order.Exit.TheVariants.{Code}
use Rattle.build_manifest.specs.declared.command.Command.{Command}
use Rattle.build_meaning.specs.Fresh.{Does}
use Rattle.build_report.specs.declared.report.Heard.{Heard}
use Rattle.build_report.specs.declared.report.Outcome.{Outcome}
use Rattle.build_report.specs.declared.report.Outcome.TheVariants.{Failed, Done}
use Rattle.build_report.specs.declared.report.Start.{Start}
use Rattle.llbuild_cli.specs.OwnOrder.{IsOwnOrder}

-- the outcome that an exit gives: a failure with it, exactly where it is not the status 0
abbrev pub IsOutcomeOf : Exit → Order → Outcome → Type 0
IsOutcomeOf exit order (Failed failed) = (failed ≡ exit) × (exit ≡ Code 0 → ⊥)
IsOutcomeOf exit order (Done found outputs) = (exit ≡ Code 0) × (found ≡ []) × (length outputs ≡ length order.outputs)

-- the order is that of one of these commands
pub record IsOrderOfOne (commands : List Command) (order : Order) : Type 0 where
  pub command : Command
  pub named : In command commands
  pub name : order.command ≡ command.name
  pub is : IsOwnOrder command order

-- the world answered an exit for the order, at a moment of the run at which all that the order read stood, and the outcome is
-- the one that the exit gives
pub record IsGiven (ended : DiskView → Order → Exit → Type 0) (new : DiskView) (heard : Heard) : Type 0 where
  pub exit : Exit
  pub moment : DiskView
  pub answered : ended moment heard.order exit
  pub outcome : IsOutcomeOf exit heard.order heard.outcome
  pub keeps : Keeps moment new
  pub stood : Told new → Unchanged moment.at heard.order

-- the contents at paths with this file information, by the map
abbrev pub contents_of : List FileVersion → List (List ℕ) → List Info → List Content
contents_of m [] infos = []
contents_of m (p ∷ paths) [] = []
contents_of m (p ∷ paths) (i ∷ infos) = content m p i ∷ contents_of m paths infos

-- what succeeded did what the law says: from what the order read it made what stands at its outputs
abbrev pub IsLawful : Does → List FileVersion → Order → Outcome → Type 0
IsLawful does m order (Failed exit) = Unit {0}
IsLawful does m order (Done found outputs) = does order.signature (read_contents m order.reads) [] (contents_of m order.outputs outputs)

-- all that was heard was given, and is lawful where the world tells
pub record HeardWell (ended : DiskView → Order → Exit → Type 0) (does : Does) (new : DiskView) (heard : List Heard) : Type 0 where
  pub given : (h : Heard) → In h heard → IsGiven ended new h
  pub lawful : (m : List FileVersion) → Tells new m → (h : Heard) → In h heard → IsLawful does m h.order h.outcome

-- the order succeeded
abbrev pub IsDone : Outcome → Type 0
IsDone (Failed exit) = ⊥
IsDone (Done found outputs) = Unit {0}

-- the names of the commands whose orders ended
abbrev pub heard_names : List Heard → List (List ℕ)
heard_names heard = map (λ (h : Heard). h.order.command) heard

-- the orders that ended are those of the first starts, in order, and at most one start has none
pub record AreInStep (starts : List Start) (heard : List Heard) : Type 0 where
  pub rest : List (List ℕ)
  pub names : map (λ (s : Start). s.command) starts ≡ heard_names heard ++ rest
  pub few : length rest ≤ 1

-- each order that ended is that of one of these commands, and they have the tickets from 1 on, in order
pub record AreOrders (commands : List Command) (heard : List Heard) : Type 0 where
  pub each : (h : Heard) → In h heard → IsOrderOfOne commands h.order
  pub tickets : (k : ℕ) (h : Heard) → slice_get heard k ≡ Some h → h.order.ticket ≡ k + 1

-- all orders that ended succeeded
abbrev pub AllDone : List Heard → Type 0
AllDone heard = (h : Heard) → In h heard → IsDone h.outcome

-- the order of each start ended, in order
abbrev pub AllEnded : List Start → List Heard → Type 0
AllEnded starts heard = heard_names heard ≡ map (λ (s : Start). s.command) starts
