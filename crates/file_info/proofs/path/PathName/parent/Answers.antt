use Rattle.std.proofs.Common.{◌≡◌, ◌∙◌, map, ap, sym, subst, rules}
use Rattle.std.specs.Prelude.{Some}
use Rattle.std.specs.String.{string_bytes}
use Rattle.file_info.specs.Path.{is_absolute, parts_of, way_of}
use Rattle.file_info.specs.Normal.{IsPath}
use Rattle.file_info.specs.Parent.{way_text, folder_text, parent_of}
use Rattle.file_info.proofs.ParentLemmas.{folder-IsPath, folder_text-more, popped}
use Rattle.file_info.proofs.path.PathName.parent.Goals as goal

pub invariant_of-result : goal.invariant_of-result
invariant_of-result c =
    let path = string_bytes c.self.inside.text in
    let way = way_of (parts_of path) in
    let left = map (λ x. x.now) c.pop.new.self.items in
    let names : way.names ≡ map (λ x. x.now) c.in_ok-way.way.names.items = search rules in
    let taken = popped (λ x. x.now) c.in_ok-way.way.names.items c.pop.new.self.items c.pop.result c.pop.ensures.items (search rules) in
    let made : way_text (is_absolute path) way.ups left ≡ string_bytes c.in_ok-text.text = search rules in
    subst IsPath made (folder-IsPath path c.self.invariant left taken.0 (names ∙ taken.1))

pub returns : goal.returns
returns c =
    let path = string_bytes c.self.inside.text in
    let way = way_of (parts_of path) in
    let left = map (λ x. x.now) c.pop.new.self.items in
    let names : way.names ≡ map (λ x. x.now) c.in_ok-way.way.names.items = search rules in
    let taken = popped (λ x. x.now) c.in_ok-way.way.names.items c.pop.new.self.items c.pop.result c.pop.ensures.items (search rules) in
    let made : way_text (is_absolute path) way.ups left ≡ string_bytes c.in_ok-text.text = search rules in
    let seen : path ≡ c.args.self.now = search rules in
    sym (ap (folder_text (is_absolute path) way.ups) (names ∙ taken.1) ∙ folder_text-more (is_absolute path) way.ups left taken.0 ∙ ap Some made)
    ∙ ap parent_of seen
