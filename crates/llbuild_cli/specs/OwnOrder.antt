-- The orders that a build gives.
use Rattle.std.specs.Prelude.{◌≡◌, []}
use Rattle.outside.specs.declared.order.Order.{Order}
use Rattle.outside.specs.OrderForm.{IsOrderOf}
use Rattle.build_manifest.specs.declared.command.Command.{Command}
use Rattle.build_meaning.specs.Commands.{meaning_of}

-- the order is the one of the command, and has no links, since no command that is served reads through one
pub record IsOwnOrder (c : Command) (order : Order) : Type 0 where
  pub formed : IsOrderOf (meaning_of c) order
  pub links : order.links ≡ []
