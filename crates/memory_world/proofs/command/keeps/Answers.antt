use Rattle.std.proofs.Common.{rules, tests, ◌≡◌, ◌∙◌, false, ap, sym, Bool}
use Rattle.std.specs.Prelude.{◌||◌}
use Rattle.std.specs.List.{list_any}
use Rattle.std.proofs.lemmas.Iterator.{YieldsList-from_slice}
use Rattle.std.proofs.lemmas.Iterator.Search.{any_from_yields_List}
use Rattle.file_info.specs.Content.{node_text}
use Rattle.file_info.specs.declared.node.Read.{Read}
use Rattle.file_info.specs.declared.info.Form.TheVariants.{Link}
use Rattle.memory_files.specs.Log.{last_of, info_of, is_directory}
use Rattle.memory_world.specs.Performance.{is_read}
use Rattle.memory_world.proofs.command.keeps.Goals as goal

pub returns-else-stands_directory : goal.returns-else-stands_directory
returns-else-stands_directory c =
    let test = λ (r : Read). is_read (node_text r.node) r.reading c.args.path.now in
    let any = any_from_yields_List test _ _ c.any.result c.any.ensures.ran (YieldsList-from_slice c.args.reads.now cc) (λ x b q k. search (rules, tests)) in
    let free : is_directory (info_of (last_of c.args.files.now.writes c.args.path.now) Link) ≡ false = sym c.stands_directory.ensures ∙ c.if-stands_directory.false in
    any ∙ ap (λ (b : Bool). b || list_any test c.args.reads.now) (sym free)
