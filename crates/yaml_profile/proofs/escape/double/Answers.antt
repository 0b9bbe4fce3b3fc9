use Rattle.std.proofs.Common.{length, arith}
use Rattle.std.proofs.lemmas.Grind.{common_steps}
use Rattle.yaml_profile.specs.Scalar.{double}
use Rattle.yaml_profile.proofs.TurnLemmas.{next_turn}
use Rattle.yaml_profile.proofs.escape.double.Goals as goal

pub loop-rest-preserved-in-92 : goal.loop-rest-preserved-in-92
unfolding double
loop-rest-preserved-in-92 c = (next_turn _ _ (length c.loop-rest.rest.now) _ _ c.loop-rest.invariant.0 (grind (arith, common_steps)) (λ n. grind (arith, common_steps)), grind (arith, common_steps))

pub loop-rest-preserved : goal.loop-rest-preserved
unfolding double
loop-rest-preserved c = (next_turn _ _ (length c.loop-rest.rest.now) _ _ c.loop-rest.invariant.0 (grind (arith, common_steps)) (λ n. grind (arith, common_steps)), grind (arith, common_steps))
