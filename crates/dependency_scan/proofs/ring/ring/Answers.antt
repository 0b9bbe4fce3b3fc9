use Rattle.std.proofs.Common.{get_or, ◌∙◌, ap, inr}
use Rattle.dependency_scan.proofs.RingLemmas.{is-least, ends-of, found-of, ring-of}
use Rattle.dependency_scan.proofs.ring.ring.Goals as goal

pub returns-in-None : goal.returns-in-None
returns-in-None c =
    inr (ends-of c.args.waits.now c.index-as_slice-least_place.result _
    (is-least c.args.waits.now c.in_ok-keys.keys c.least_place.result c.index-as_slice-least_place.result c.in_ok-keys.ensures c.least_place.ensures
    (c.index-as_slice-least_place.is ∙ ap (λ ks. get_or ks c.least_place.result c.index-as_slice-least_place.result) c.as_slice.ensures))
    c.in_ok-walk.ensures.walked c.in-None.is)

pub returns : goal.returns
returns c =
    ring-of c.args.waits.now c.index-as_slice-least_place.result c.in-Some.found c.in_ok-ring-in-Some.ring c.least_place-place.result
    (is-least c.args.waits.now c.in_ok-keys.keys c.least_place.result c.index-as_slice-least_place.result c.in_ok-keys.ensures c.least_place.ensures
    (c.index-as_slice-least_place.is ∙ ap (λ ks. get_or ks c.least_place.result c.index-as_slice-least_place.result) c.as_slice.ensures))
    (found-of c.args.waits.now _ _ c.in-Some.found c.in_ok-walk.ensures.walked c.in-Some.is) c.least_place-place.ensures c.in_ok-ring-in-Some.ensures
