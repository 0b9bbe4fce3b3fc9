use Rattle.std.proofs.Common.{◌≡◌, ◌≤◌, length, arith, subst}
use Rattle.std.proofs.lemmas.Grind.{common_steps}
use Rattle.std.specs.String.{string_bytes}
use Rattle.file_info.specs.Normal.{IsPath}
use Rattle.file_info.specs.Under.{joined_with}
use Rattle.file_info.proofs.JoinLemmas.{joined_with-IsPath}
use Rattle.file_info.proofs.path.PathName.join.Goals as goal

pub invariant_of-result : goal.invariant_of-result
invariant_of-result c =
    let made : joined_with (string_bytes c.self.inside.text) c.args.name.now ≡ string_bytes c.push_str.new.self = grind (arith, common_steps) in
    let short : length (joined_with (string_bytes c.self.inside.text) c.args.name.now) ≤ 4096 = grind (arith, common_steps) in
    subst IsPath made (joined_with-IsPath _ _ c.self.invariant c.requires.part c.requires.no_nul short)
