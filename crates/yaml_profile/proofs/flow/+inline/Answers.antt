use Rattle.std.proofs.Common.{length, arith}
use Rattle.std.proofs.lemmas.Grind.{common_steps}
use Rattle.yaml_profile.specs.Flow.{items, pairs}
use Rattle.yaml_profile.proofs.TurnLemmas.{next_turn}
use Rattle.yaml_profile.proofs.flow.+inline.Goals as goal

pub sequence-turns-preserved : goal.sequence-turns-preserved
unfolding items
sequence-turns-preserved t c =
    (next_turn _ _ (length c.turns.rest.now) _ _ c.turns.invariant.0 (grind (arith, common_steps)) (λ n. grind (arith, common_steps)), grind (arith, common_steps))

pub mapping-turns-preserved : goal.mapping-turns-preserved
unfolding pairs
mapping-turns-preserved t c =
    (next_turn _ _ (length c.turns.rest.now) _ _ c.turns.invariant.0 (grind (arith, common_steps)) (λ n. grind (arith, common_steps)), grind (arith, common_steps))
