use Rattle.std.proofs.Common.{◌++◌, [], ◌∷◌, subst, rules}
use Rattle.manifest_values.specs.Known.{AreTexts}
use Rattle.manifest_values.proofs.KnownLemmas.{one_more}
use Rattle.manifest_values.proofs.text_set.TextSet.with.Goals as goal

pub invariant_of-result : goal.invariant_of-result
invariant_of-result c =
    let more : AreTexts c.insert.new.self.keys (c.self.inside.texts ++ c.args.text ∷ []) =
    one_more _ c.args.text _ _ _ _ (search rules) c.in_ok-insert.ensures.added c.in_ok-insert.ensures.keys c.self.invariant in
    subst (AreTexts c.insert.new.self.keys) (search rules) more
