use Rattle.std.proofs.Common.{◌≡◌, ℕ, List, Ok, true, false, if◌then◌else◌, sym, ap, subst, ◌∙◌, rules, Bool}
use Rattle.build_manifest.specs.declared.command.Input.{Input}
use Rattle.manifest_values.specs.Refusal.{Given, Gives}
use Rattle.manifest_values.specs.Known.{Facts, is_virtual_text}
use Rattle.manifest_values.specs.Nodes.{input_of, path_node, virtual_input}
use Rattle.manifest_values.proofs.NodeLemmas.{input_refused, input_named}
use Rattle.manifest_values.proofs.nodes.input_of.Goals as goal

-- the node of a name, by whether it names a virtual node
abbrev either : Bool → Facts → List ℕ → List ℕ → Given Input
either b facts owner name = if b then Ok (virtual_input name) else path_node facts owner name

pub returns-in_err-written : goal.returns-in_err-written
returns-in_err-written c =
    let stopped = input_refused c.in_err-written.field-0.0 c.args.known.now c.args.owner.now c.args.text c.in_err-written.ensures in
    search rules

pub returns-then-not-is_virtual : goal.returns-then-not-is_virtual
returns-then-not-is_virtual c =
    let off : is_virtual_text c.args.known.now c.args.text ≡ false = search rules in
    let named : input_of c.args.known.now c.args.owner.now c.args.text ≡ path_node c.args.known.now c.args.owner.now c.in_ok-written.written
    = input_named c.args.known.now c.args.owner.now c.args.text c.in_ok-written.written c.in_ok-written.ensures
    ∙ ap (λ (b : Bool). either b c.args.known.now c.args.owner.now c.in_ok-written.written) off in
    subst (λ (given : Given Input). Gives (λ x. x) c.path_input.result given) (sym named) c.path_input.ensures

pub returns : goal.returns
returns c =
    let on : is_virtual_text c.args.known.now c.args.text ≡ true = search rules in
    input_named c.args.known.now c.args.owner.now c.args.text c.in_ok-written.written c.in_ok-written.ensures
    ∙ ap (λ (b : Bool). either b c.args.known.now c.args.owner.now c.in_ok-written.written) on
    ∙ ap Ok (sym c.in_ok-input.ensures)
