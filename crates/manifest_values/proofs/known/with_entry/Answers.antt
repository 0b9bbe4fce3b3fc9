use Rattle.std.proofs.Common.{◌≡◌, ◌++◌, Some, None, false, rules, sym, ap, ◌∙◌, append-nil}
use Rattle.yaml_profile.specs.Tree.{name_of}
use Rattle.manifest_values.specs.Known.{is_virtual_in}
use Rattle.manifest_values.specs.Texts.{path_in}
use Rattle.manifest_values.proofs.KnownLemmas.{entry_found, entry_none}
use Rattle.manifest_values.proofs.known.with_entry.Goals as goal

pub returns-in_ok-entry-in-Some : goal.returns-in_ok-entry-in-Some
returns-in_ok-entry-in-Some c =
    let off : is_virtual_in c.args.virtuals.now (name_of c.args.node.now) ≡ false = search rules in
    let path : Some c.in-Some.path ≡ path_in (name_of c.args.node.now) = search rules in
    let found = entry_found c.args.virtuals.now c.args.node.now c.in-Some.path off path in
    search (rules, found)

pub returns-in-None : goal.returns-in-None
returns-in-None c =
    let path : None ≡ path_in (name_of c.args.node.now) = search rules in
    let found = entry_none c.args.virtuals.now c.args.node.now path in
    sym (ap (λ l. c.args.entries ++ l) found ∙ append-nil c.args.entries)
