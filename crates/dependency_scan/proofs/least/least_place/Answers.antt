use Rattle.std.proofs.Common.{◌<◌, length, subst, sym}
use Rattle.dependency_scan.proofs.LeastLemmas.{least-first}
use Rattle.dependency_scan.proofs.least.least_place.Goals as goal

pub loop-place-init : goal.loop-place-init
loop-place-init c =
    least-first c.as_slice-items.result.now (subst (λ ks. 0 < length ks) (sym c.as_slice-items.ensures) c.requires.some)
