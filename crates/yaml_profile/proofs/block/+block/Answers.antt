use Rattle.std.proofs.Common.{length, arith}
use Rattle.std.proofs.lemmas.Grind.{common_steps}
use Rattle.yaml_profile.specs.Block.{entries, dashes}
use Rattle.yaml_profile.proofs.TurnLemmas.{next_turn}
use Rattle.yaml_profile.proofs.block.+block.Goals as goal

pub dashes-turns-preserved : goal.dashes-turns-preserved
unfolding dashes
dashes-turns-preserved t c =
    (next_turn _ _ (length c.turns.rest.now) _ _ c.turns.invariant.0 (grind (arith, common_steps)) (λ n. grind (arith, common_steps)), grind (arith, common_steps), grind (arith, common_steps))

pub entries-turns-preserved : goal.entries-turns-preserved
unfolding entries
entries-turns-preserved t c =
    (next_turn _ _ (length c.turns.rest.now) _ _ c.turns.invariant.0 (grind (arith, common_steps)) (λ n. grind (arith, common_steps)), grind (arith, common_steps))
