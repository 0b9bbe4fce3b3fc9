use Rattle.std.proofs.Common.{ℕ, List}
use Rattle.std.specs.HashMap.{get_by_text}
use Rattle.llbuild_cli.proofs.JournalLemmas.{index_try_failed, once_index, on_ok}
use Rattle.llbuild_cli.proofs.serial.seen.Seen.note_failed.Goals as goal

pub invariant_of-self : goal.invariant_of-self
invariant_of-self c =
    index_try_failed c.try_push.result c.self.inside.stats.items c.self.inside.heard c.try_push.new.self c.args.order c.args.exit _ c.try_push.ensures.ok c.try_push.ensures.err c.self.invariant

pub returns-clause-once : goal.returns-clause-once
returns-clause-once c =
    on_ok c.try_push.result _ (once_index _ (λ (p : List ℕ). get_by_text c.self.inside.infos p)
    (index_try_failed c.try_push.result c.self.inside.stats.items c.self.inside.heard c.try_push.new.self c.args.order c.args.exit _ c.try_push.ensures.ok c.try_push.ensures.err c.self.invariant))
