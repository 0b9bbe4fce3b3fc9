use Rattle.std.proofs.Common.{◌∷◌, [], drop, Some, sym, ◌∙◌, ap, subst, arith}
use Rattle.build_keys.specs.Keys.{Each, HasPatterns}
use Rattle.dependency_scan.specs.Ring.{Reaches, here, further, count_key, next_in}
use Rattle.dependency_scan.proofs.RingLemmas.{path-push, distinct-push, each-append, each-drop, unseen-falls, ring-from, next-patterns, stood, joined}
use Rattle.dependency_scan.proofs.walk.walk.Goals as goal

pub steps-init : goal.steps-init
steps-init c = rw c.new-path.ensures.empty (record { path = tt; distinct = λ k. omega arith; reached = tt; at = here; patterns = tt })

pub returns-then-not-is_new-clause-walked : goal.returns-then-not-is_new-clause-walked
returns-then-not-is_new-clause-walked c =
    let old = stood c.steps.path.keys c.insert_full.new.self.keys c.in_ok-copy.field-0 c.in_ok-place.is_new c.in_ok-place.place
    c.in_ok-place.ensures.added c.in_ok-place.ensures.keys c.if-not-is_new.true c.in_ok-place.ensures.stored in
    ring-from c.args.waits.now c.args.from.now c.steps.key.now c.steps.path.keys c.in_ok-ring.ring c.in_ok-place.place c.steps.invariant.path
    c.steps.invariant.distinct c.steps.invariant.reached (old.1 ∙ ap Some c.in_ok-copy.ensures)
    (c.in_ok-ring.ensures ∙ ap (drop c.in_ok-place.place) (c.as_slice.ensures.keys ∙ old.0))

pub returns-then-not-is_new-clause-patterns : goal.returns-then-not-is_new-clause-patterns
returns-then-not-is_new-clause-patterns c =
    let old = stood c.steps.path.keys c.insert_full.new.self.keys c.in_ok-copy.field-0 c.in_ok-place.is_new c.in_ok-place.place
    c.in_ok-place.ensures.added c.in_ok-place.ensures.keys c.if-not-is_new.true c.in_ok-place.ensures.stored in
    subst (Each HasPatterns) (sym (c.in_ok-ring.ensures ∙ ap (drop c.in_ok-place.place) (c.as_slice.ensures.keys ∙ old.0)))
    (each-drop HasPatterns c.in_ok-place.place c.steps.path.keys c.steps.invariant.patterns)

pub steps-smaller : goal.steps-smaller
steps-smaller c =
    let new = joined c.steps.path.keys c.insert_full.new.self.keys c.in_ok-copy.field-0 c.in_ok-place.is_new c.in_ok-place.ensures.added
    c.in_ok-place.ensures.keys c.if-not-is_new.false in
    rw new.0 (unseen-falls c.args.waits.now c.steps.path.keys c.in_ok-copy.field-0 c.in-Some.next.now new.1
    (ap (next_in c.args.waits.now) c.in_ok-copy.ensures ∙ sym c.in-Some.ensures))

pub steps-preserved : goal.steps-preserved
steps-preserved c =
    let new = joined c.steps.path.keys c.insert_full.new.self.keys c.in_ok-copy.field-0 c.in_ok-place.is_new c.in_ok-place.ensures.added
    c.in_ok-place.ensures.keys c.if-not-is_new.false in
    rw (new.0, c.in_ok-copy.ensures) (record {
      path = path-push c.args.waits.now c.steps.path.keys c.steps.key.now c.in-Some.next.now c.steps.invariant.path (sym c.in-Some.ensures);
      distinct = distinct-push c.steps.path.keys c.steps.key.now c.steps.invariant.distinct
          (ap (λ k. count_key k c.steps.path.keys) (sym c.in_ok-copy.ensures) ∙ new.1);
      reached = each-append (Reaches c.args.waits.now c.args.from.now) c.steps.path.keys (c.steps.key.now ∷ []) c.steps.invariant.reached
          (c.steps.invariant.at, tt);
      at = further c.steps.invariant.at (sym c.in-Some.ensures);
      patterns = each-append HasPatterns c.steps.path.keys (c.steps.key.now ∷ []) c.steps.invariant.patterns
          (next-patterns c.args.waits.now c.steps.key.now c.in-Some.next.now c.requires.patterns (sym c.in-Some.ensures), tt);
    })
