use Rattle.std.proofs.Common.{◌≤◌, length}
use Rattle.yaml_profile.specs.Scalar.{double, double_quoted}
use Rattle.yaml_profile.proofs.TurnLemmas.{Turns}
use Rattle.yaml_profile.proofs.escape.double.Given as goal

abbrev pub invariant-loop-rest : goal.invariant-loop-rest
invariant-loop-rest l = Turns (λ n. double n l.found.items l.rest) (length l.rest) (double_quoted l.text) × (length l.rest ≤ length l.text)

abbrev pub decreases-loop-rest : goal.decreases-loop-rest
decreases-loop-rest l = length l.rest
