use Rattle.std.proofs.Common.{◌++◌, [], ◌∷◌, subst, rules}
use Rattle.yaml_profile.specs.Mapping.{pair, AreNames}
use Rattle.yaml_profile.proofs.NameLemmas.{one_more}
use Rattle.yaml_profile.proofs.pairs.Pairs.with.Goals as goal

pub invariant_of-result : goal.invariant_of-result
invariant_of-result c =
    let more : AreNames c.insert.new.self.keys (c.self.inside.pairs ++ pair c.args.name.items c.args.value ∷ []) =
    one_more _ c.args.name.items c.args.value _ _ _ _ (search rules) c.in_ok-insert.ensures.added c.in_ok-insert.ensures.keys c.self.invariant in
    subst (AreNames c.insert.new.self.keys) (search rules) more
