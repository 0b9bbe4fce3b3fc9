use Rattle.std.proofs.Common.{◌≡◌, ℕ, List, sym, subst}
use Rattle.std.specs.Prelude.{Some}
use Rattle.std.specs.HashMap.{get_by_text}
use Rattle.file_info.specs.declared.info.Info.{Info}
use Rattle.llbuild_cli.specs.Journal.{Journal, Knows, IsUnknown}
use Rattle.llbuild_cli.specs.Sight.{Shows}
use Rattle.llbuild_cli.proofs.JournalLemmas.{copied_some, copied_none}
use Rattle.llbuild_cli.proofs.serial.seen.Seen.info.Goals as goal

pub returns-clause-known : goal.returns-clause-known
returns-clause-known c =
    copied_some c.get.result _ (λ (i : Info). Knows c.args.self.now c.args.path.now i) c.get.ensures.value
    (λ i e. subst (λ (j : Journal). Knows j c.args.path.now i) c.self.view_is
    (subst (λ (p : List ℕ). Shows c.self.inside.stats.items c.self.inside.heard.items p i) c.text.ensures.value (c.self.invariant.shown c.text.result.now i e)))

pub returns-clause-unknown : goal.returns-clause-unknown
returns-clause-unknown c =
    copied_none c.get.result _ (IsUnknown c.args.self.now c.args.path.now) c.get.ensures.value
    (λ none i k.
    let at = c.self.invariant.all c.args.path.now i (subst (λ (j : Journal). Knows j c.args.path.now i) (sym c.self.view_is) k) in
    let there = subst (λ (p : List ℕ). get_by_text c.self.inside.infos p ≡ Some i) (sym c.text.ensures.value) at in
    cc (none, there))
