use Rattle.std.proofs.Common.{ℕ, List, length, sym, ap, ◌∙◌, arith}
use Rattle.std.specs.HashMap.{get_by_text}
use Rattle.llbuild_cli.specs.Index.{with_entries}
use Rattle.llbuild_cli.proofs.JournalLemmas.{with_next}
use Rattle.llbuild_cli.proofs.serial.seen.add_all.Goals as goal

pub loop-key-preserved : goal.loop-key-preserved
loop-key-preserved c = record {
  room = (let rest = ap length c.in-Some.ensures.steps.0 in omega (arith, rest, c.loop-key.invariant.room, c.add.ensures.room));
  noted = with_next c.in-Some.key c.in-Some.info c.next.new.self.rest.items c.args.entries.items _ _ _
      (λ p. ap (λ (es : List _). with_entries es (λ (q : List ℕ). get_by_text c.loop-key.infos q) p) (sym c.in-Some.ensures.steps.0) ∙ c.loop-key.invariant.noted p) c.add.ensures.noted;
}
