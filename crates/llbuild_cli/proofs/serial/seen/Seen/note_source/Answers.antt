use Rattle.std.proofs.Common.{rules, ◌≡◌, ◌++◌, ◌∷◌, [], ℕ, List, subst}
use Rattle.std.specs.HashMap.{get_by_text}
use Rattle.file_info.specs.declared.info.Info.{Info}
use Rattle.llbuild_cli.specs.Journal.{Journal, Knows}
use Rattle.llbuild_cli.specs.Index.{Noted}
use Rattle.llbuild_cli.proofs.JournalLemmas.{index_source, index_same, index_items, once_index}
use Rattle.llbuild_cli.proofs.serial.seen.Seen.note_source.Goals as goal

pub invariant_of-self : goal.invariant_of-self
invariant_of-self c = index_items c.self.inside.stats.items c.reserve.new.self.items c.self.inside.heard.items _ c.reserve.ensures.items c.self.invariant

pub invariant_of-self-in_err-note : goal.invariant_of-self-in_err-note
invariant_of-self-in_err-note c =
    index_items c.self.inside.stats.items c.reserve.new.self.items c.self.inside.heard.items _ c.reserve.ensures.items
    (index_same c.self.inside.stats.items c.self.inside.heard.items (λ (p : List ℕ). get_by_text c.self.inside.infos p) (λ (p : List ℕ). get_by_text c.note.new.infos p) c.in_err-note.ensures.err c.self.invariant)

pub invariant_of-self-2 : goal.invariant_of-self-2
invariant_of-self-2 c =
    let more : c.push.new.self.items ≡ c.self.inside.stats.items ++ record { path = c.args.path.now; info = c.args.info.now } ∷ [] = search rules in
    let noted = subst (λ (i : Info). Noted c.args.path.now i (λ (p : List ℕ). get_by_text c.self.inside.infos p) (λ (p : List ℕ). get_by_text c.note.new.infos p)) c.in_ok-info.ensures c.in_ok-note.ensures.ok in
    index_items _ c.push.new.self.items c.self.inside.heard.items _ more
    (index_source c.self.inside.stats.items c.self.inside.heard.items c.args.path.now c.args.info.now (λ (p : List ℕ). get_by_text c.self.inside.infos p) (λ (p : List ℕ). get_by_text c.note.new.infos p)
    c.self.invariant noted (λ i s. c.requires i (subst (λ (j : Journal). Knows j c.args.path.now i) c.self.view_is s)))

pub returns-clause-once : goal.returns-clause-once
returns-clause-once c =
    let more : c.push.new.self.items ≡ c.self.inside.stats.items ++ record { path = c.args.path.now; info = c.args.info.now } ∷ [] = search rules in
    let noted = subst (λ (i : Info). Noted c.args.path.now i (λ (p : List ℕ). get_by_text c.self.inside.infos p) (λ (p : List ℕ). get_by_text c.note.new.infos p)) c.in_ok-info.ensures c.in_ok-note.ensures.ok in
    once_index _ (λ (p : List ℕ). get_by_text c.note.new.infos p) (index_items _ c.push.new.self.items c.self.inside.heard.items _ more
    (index_source c.self.inside.stats.items c.self.inside.heard.items c.args.path.now c.args.info.now (λ (p : List ℕ). get_by_text c.self.inside.infos p) (λ (p : List ℕ). get_by_text c.note.new.infos p)
    c.self.invariant noted (λ i s. c.requires i (subst (λ (j : Journal). Knows j c.args.path.now i) c.self.view_is s))))
