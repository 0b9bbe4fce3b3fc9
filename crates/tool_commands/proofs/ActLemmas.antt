-- The order of a command is formed.
use Rattle.std.proofs.Common.{◌≡◌, ℕ, Bool, false, List, [], refl, sym, ◌∙◌, subst}
use Rattle.std.specs.Prelude.{Option, Some, None}
use Rattle.file_info.specs.Lists.{IsDistinct}
use Rattle.outside.specs.declared.order.Act.{Act}
use Rattle.outside.specs.declared.order.Act.TheVariants.{Spawn}
use Rattle.outside.specs.declared.order.EnvText.{EnvText}
use Rattle.outside.specs.declared.order.Order.{Order}
use Rattle.outside.specs.Meaning.{signature_of}
use Rattle.outside.specs.OrderForm.{AreReadsOf, IsToolAct, IsActOf, IsOrderOf, archive_words, deps_of, paths_of}
use Rattle.build_manifest.specs.Command.{HasItsOwn, IsCommand}
use Rattle.build_manifest.specs.declared.command.Args.{Args}
use Rattle.build_manifest.specs.declared.command.Args.TheVariants.{Absent, Words, Line}
use Rattle.build_manifest.specs.declared.command.Command.{Command}
use Rattle.build_manifest.specs.declared.command.Tool.{Tool}
use Rattle.build_manifest.specs.declared.command.Tool.TheVariants as tools
use Rattle.build_meaning.specs.Commands.{shell_of, tool_in, meaning_of}
use Rattle.tool_commands.specs.Acts.{IsActFor}
use Rattle.tool_commands.specs.Program.{words_of}
use Rattle.tool_commands.proofs.LengthLemmas.{signature_short}

shell-act : (archive : List (List ℕ)) (own : Option (List ℕ)) (args : Args) (env : List EnvText) (inherit : Bool) (deps : List (List ℕ)) (act : Act)
    → act ≡ Spawn (words_of args) env inherit false → IsToolAct archive (shell_of own args env inherit deps) act
shell-act archive (Some signature) args env inherit deps act is = (words_of args, (env, is))
shell-act archive None Absent env inherit deps act is = is
shell-act archive None (Words words) env inherit deps act is = is
shell-act archive None (Line line) env inherit deps act is = is

act-of : (c : Command) (tool : Tool) (act : Act) → IsActFor c tool act → IsToolAct (archive_words (meaning_of c)) (tool_in tool c) act
act-of c tools.Phony act is = absurd is
act-of c tools.Shell act is = shell-act (archive_words (meaning_of c)) c.signature c.args _ c.inherit_env c.deps act is
act-of c tools.Mkdir act is = is
act-of c tools.Symlink act is = is
act-of c tools.Archive act is = is
act-of c tools.StaleFileRemoval act is = absurd is

shell-deps : (own : Option (List ℕ)) (args : Args) (env : List EnvText) (inherit : Bool) (deps : List (List ℕ)) → deps_of (shell_of own args env inherit deps) ≡ deps
shell-deps (Some signature) args env inherit deps = refl
shell-deps None Absent env inherit deps = refl
shell-deps None (Words words) env inherit deps = refl
shell-deps None (Line line) env inherit deps = refl

tool-deps : (c : Command) (tool : Tool) → HasItsOwn tool c → c.deps ≡ deps_of (tool_in tool c)
tool-deps c tools.Phony own = own.0.deps
tool-deps c tools.Shell own = sym (shell-deps c.signature c.args _ c.inherit_env c.deps)
tool-deps c tools.Mkdir own = own.0.deps
tool-deps c tools.Symlink own = own.0.deps
tool-deps c tools.Archive own = own.0.deps
tool-deps c tools.StaleFileRemoval own = own.0.deps

-- an order with these parts is the one of the command
pub order-formed : (c : Command) (order : Order) → IsCommand c → order.signature ≡ signature_of (meaning_of c) → IsActFor c c.tool order.act
    → order.outputs ≡ paths_of c.outputs → order.deps ≡ c.deps → AreReadsOf (meaning_of c).inputs order.reads → IsDistinct (paths_of c.outputs)
    → IsOrderOf (meaning_of c) order
order-formed c order is signature act outputs deps reads distinct = record {
  signature = signature;
  short = signature_short c is;
  act = act-of c c.tool order.act act;
  reads = reads;
  outputs = outputs;
  distinct = subst IsDistinct (sym outputs) distinct;
  deps = deps ∙ tool-deps c c.tool is.own;
}
