use Rattle.std.proofs.Common.{◌-◌, ◌+◌, ◌∙◌, ap, sym, arith}
use Rattle.std.specs.Str.{is_utf8}
use Rattle.build_keys.specs.Reading.{passing_at, items_from}
use Rattle.build_keys.proofs.ItemLemmas.{items-more}
use Rattle.build_keys.proofs.parts.read_patterns.Goals as goal

pub loop-preserved : goal.loop-preserved
loop-preserved c =
    let count = c.in_ok-count.count in
    let i = c.loop.counter in
    let tail = c.in_ok-pattern.tail.now in
    let more = items-more (passing_at is_utf8) (count - (i + 1)) (count - i) c.loop.found c.loop.rest.now c.in_ok-pattern.pattern tail
    (omega (arith, c.loop-test.true)) c.in_ok-pattern.ensures.reads in
    record {
      reads = c.loop.invariant.reads ∙ more ∙ ap (λ z. items_from (passing_at is_utf8) (count - (i + 1)) z tail) (sym c.in_ok-push.ensures.ok);
      shorter = omega (arith, c.in_ok-pattern.ensures.shorter, c.loop.invariant.shorter);
    }
