use Rattle.std.proofs.Common.{◌++◌, rules, ap, ◌∙◌, List, ℕ}
use Rattle.manifest_values.proofs.KnownLemmas.{joins_first, joins_next, joins_last}
use Rattle.manifest_values.proofs.text_set.TextSet.with_all.Goals as goal

pub loop-text-init : goal.loop-text-init
loop-text-init c = joins_first _ _ _ (search rules)

pub loop-text-preserved : goal.loop-text-preserved
loop-text-preserved c =
    joins_next _ _ _ _ _ _ _ c.in-Some.text c.loop-text.invariant c.in-Some.ensures.steps.0 c.in-Some.ensures.steps.1 c.in_ok-texts.ensures

pub returns : goal.returns
returns c =
    joins_last _ _ _ _ c.loop-text.invariant c.in-None.ensures.steps.0
    ∙ ap (λ (l : List (List ℕ)). c.args.self ++ l) (c.into_iter-text-iterator.ensures.into_iter_gives.0 ∙ c.into_vec-text-items.ensures)
