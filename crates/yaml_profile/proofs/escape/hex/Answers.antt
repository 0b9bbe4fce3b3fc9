use Rattle.std.proofs.Common.{◌≡◌, suc, ◌+◌, ◌-◌, arith}
use Rattle.std.proofs.lemmas.Grind.{common_steps}
use Rattle.yaml_profile.specs.Scalar.{hex}
use Rattle.yaml_profile.proofs.PowerLemmas.{power_more, power_small}
use Rattle.yaml_profile.proofs.escape.hex.Goals as goal

pub overflow_mul-number : goal.overflow_mul-number
overflow_mul-number c = omega (arith, power_small c.loop.counter (omega arith), c.loop.invariant.2)

pub overflow_add-number : goal.overflow_add-number
overflow_add-number c = omega (arith, power_small c.loop.counter (omega arith), c.loop.invariant.2, c.in-Some.ensures.small)

pub returns-in_default-hex_value-clause-reads : goal.returns-in_default-hex_value-clause-reads
unfolding hex
returns-in_default-hex_value-clause-reads c =
    let more : c.args.count - c.loop.counter ≡ suc (c.args.count - (c.loop.counter + 1)) = omega arith in
    let so_far = rw more at c.loop.invariant.0 in
    grind (arith, common_steps, so_far)

pub loop-preserved : goal.loop-preserved
unfolding hex
loop-preserved c =
    let more : c.args.count - c.loop.counter ≡ suc (c.args.count - (c.loop.counter + 1)) = omega arith in
    let so_far = rw more at c.loop.invariant.0 in
    (grind (arith, common_steps, so_far), grind (arith, common_steps), omega (arith, power_more c.loop.counter, c.loop.invariant.2, c.in-Some.ensures.small))
