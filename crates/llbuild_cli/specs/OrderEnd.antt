-- How the end of an order is noted.
use Rattle.std.specs.Prelude.{◌≡◌, ℕ, List, [], ◌∷◌, ◌++◌, map, length}
use Rattle.file_info.specs.declared.info.Info.{Info}
use Rattle.file_info.specs.declared.info.Form.TheVariants.{Follow}
use Rattle.outside.specs.View.{Rose, Told, DiskView}
use Rattle.outside.specs.declared.order.Ended.{Ended}
use Rattle.outside.specs.declared.order.Exit.TheVariants.{Code}
use Rattle.outside.specs.declared.order.Order.{Order}
use Rattle.build_report.specs.declared.report.Heard.{Heard}
use Rattle.build_report.specs.declared.report.Outcome.TheVariants.{Failed, Done}
use Rattle.llbuild_cli.specs.declared.stop.Stop.{Stop}
use Rattle.llbuild_cli.specs.declared.stop.Stop.TheVariants.{CommandFailed, MissingInput, DiskFault, SinkFault, NoMemory}
use Rattle.llbuild_cli.specs.Journal.{Journal}

-- what was noted, and one end more
abbrev pub with_heard : Journal → Heard → Journal
with_heard j h = record { starts = j.starts; stats = j.stats; heard = j.heard ++ h ∷ [] }

-- the order succeeded, and what stands at its outputs was noted
pub record SettledDone (world : DiskView) (order : Order) (old new : Journal) : Type 0 where
  pub infos : List Info
  pub count : length infos ≡ length order.outputs
  pub stood : Told world → infos ≡ map (λ (p : List ℕ). world.at p Follow) order.outputs
  pub is : new ≡ with_heard old (record { order = order; outcome = Done [] infos })

-- the order failed and that was heard; or the disk failed or no memory was left, and nothing was heard
abbrev pub IsSettleStop : ℕ → ℕ → Ended → List Heard → List Heard → Stop → Type 0
IsSettleStop before now ended old new (CommandFailed command exit) =
    (command ≡ ended.order.command) × (exit ≡ ended.exit) × (ended.exit ≡ Code 0 → ⊥)
    × (new ≡ old ++ record { order = ended.order; outcome = Failed ended.exit } ∷ [])
IsSettleStop before now ended old new (MissingInput asker node) = ⊥
IsSettleStop before now ended old new DiskFault = Rose before now × (new ≡ old)
IsSettleStop before now ended old new SinkFault = ⊥
IsSettleStop before now ended old new NoMemory = new ≡ old
