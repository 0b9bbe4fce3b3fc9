use Rattle.std.proofs.Common.{rules, ◌≡◌, ◌++◌, ◌∷◌, [], ℕ, List, sym, subst, ◌∙◌}
use Rattle.std.specs.HashMap.{get_by_text}
use Rattle.build_report.specs.declared.report.Heard.{Heard}
use Rattle.build_report.specs.declared.report.Outcome.TheVariants.{Done}
use Rattle.llbuild_cli.specs.Journal.{Journal, Knows, IsIndex}
use Rattle.llbuild_cli.proofs.JournalLemmas.{index_same, index_done, once_index, with_agrees, with_noted}
use Rattle.llbuild_cli.proofs.serial.seen.Seen.note_done.Goals as goal

pub invariant_of-self : goal.invariant_of-self
invariant_of-self c = index_same c.self.inside.stats.items c.self.inside.heard.items (λ (p : List ℕ). get_by_text c.self.inside.infos p) (λ (p : List ℕ). get_by_text c.make_room.new.infos p) c.make_room.ensures.same c.self.invariant

pub invariant_of-self-in_err-reserve : goal.invariant_of-self-in_err-reserve
invariant_of-self-in_err-reserve c =
    subst (λ (hs : List Heard). IsIndex c.self.inside.stats.items hs (λ (p : List ℕ). get_by_text c.make_room.new.infos p)) (sym c.reserve.ensures.items)
    (index_same c.self.inside.stats.items c.self.inside.heard.items (λ (p : List ℕ). get_by_text c.self.inside.infos p) (λ (p : List ℕ). get_by_text c.make_room.new.infos p) c.make_room.ensures.same c.self.invariant)

pub invariant_of-self-2 : goal.invariant_of-self-2
invariant_of-self-2 c =
    let last : Heard = record { order = c.args.order; outcome = Done [] c.args.outputs } in
    let more : c.push.new.self.items ≡ c.self.inside.heard.items ++ last ∷ [] = search rules in
    let noted = with_noted c.in_ok-entries.entries.items c.args.order.outputs c.args.outputs (λ (p : List ℕ). get_by_text c.self.inside.infos p) (λ (p : List ℕ). get_by_text c.add_all.new.infos p)
    c.in_ok-entries.ensures.keys c.in_ok-entries.ensures.infos c.requires.distinct
    (λ p. c.add_all.ensures p ∙ with_agrees c.in_ok-entries.entries.items (λ (q : List ℕ). get_by_text c.make_room.new.infos q) (λ (q : List ℕ). get_by_text c.self.inside.infos q) c.make_room.ensures.same p) in
    subst (λ (hs : List Heard). IsIndex c.self.inside.stats.items hs (λ (p : List ℕ). get_by_text c.add_all.new.infos p)) (sym more)
    (index_done c.self.inside.stats.items c.self.inside.heard.items c.args.order c.args.outputs (λ (p : List ℕ). get_by_text c.self.inside.infos p) (λ (p : List ℕ). get_by_text c.add_all.new.infos p)
    c.self.invariant c.requires.count (λ p o i s. c.requires.unknown p o i (subst (λ (j : Journal). Knows j p i) c.self.view_is s)) noted)

pub returns-clause-once : goal.returns-clause-once
returns-clause-once c =
    let last : Heard = record { order = c.args.order; outcome = Done [] c.args.outputs } in
    let more : c.push.new.self.items ≡ c.self.inside.heard.items ++ last ∷ [] = search rules in
    let noted = with_noted c.in_ok-entries.entries.items c.args.order.outputs c.args.outputs (λ (p : List ℕ). get_by_text c.self.inside.infos p) (λ (p : List ℕ). get_by_text c.add_all.new.infos p)
    c.in_ok-entries.ensures.keys c.in_ok-entries.ensures.infos c.requires.distinct
    (λ p. c.add_all.ensures p ∙ with_agrees c.in_ok-entries.entries.items (λ (q : List ℕ). get_by_text c.make_room.new.infos q) (λ (q : List ℕ). get_by_text c.self.inside.infos q) c.make_room.ensures.same p) in
    once_index _ (λ (p : List ℕ). get_by_text c.add_all.new.infos p)
    (subst (λ (hs : List Heard). IsIndex c.self.inside.stats.items hs (λ (p : List ℕ). get_by_text c.add_all.new.infos p)) (sym more)
    (index_done c.self.inside.stats.items c.self.inside.heard.items c.args.order c.args.outputs (λ (p : List ℕ). get_by_text c.self.inside.infos p) (λ (p : List ℕ). get_by_text c.add_all.new.infos p)
    c.self.invariant c.requires.count (λ p o i s. c.requires.unknown p o i (subst (λ (j : Journal). Knows j p i) c.self.view_is s)) noted))
