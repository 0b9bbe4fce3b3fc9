use Rattle.std.proofs.Common.{◌∙◌, sym}
use Rattle.dependency_scan.proofs.LeastLemmas.{least-new, least-old}
use Rattle.dependency_scan.proofs.least.lesser.Goals as goal

pub returns-then-is_lt : goal.returns-then-is_lt
returns-then-is_lt c =
    least-new c.args.keys.now c.args.place c.args.best c.index-keys-place.result c.index-keys-best.result c.key_order.result c.requires.before
    c.requires.within c.index-keys-place.is c.index-keys-best.is c.key_order.ensures (sym c.is_lt.ensures ∙ c.if-is_lt.true)

pub returns-else-is_lt : goal.returns-else-is_lt
returns-else-is_lt c =
    least-old c.args.keys.now c.args.place c.args.best c.index-keys-place.result c.index-keys-best.result c.key_order.result c.requires.before
    c.requires.within c.index-keys-place.is c.index-keys-best.is c.key_order.ensures (sym c.is_lt.ensures ∙ c.if-is_lt.false)
