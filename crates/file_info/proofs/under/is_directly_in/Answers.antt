use Rattle.std.proofs.Common.{List, ℕ, subst, sym, ◌∙◌}
use Rattle.std.specs.Prelude.{All, ◌≢◌}
use Rattle.std.proofs.lemmas.List.{append_cancel_left}
use Rattle.file_info.specs.Under.{front_of}
use Rattle.file_info.proofs.UnderLemmas.{is_not, not_is}
use Rattle.file_info.proofs.under.is_directly_in.Goals as goal

pub returns-in-Some : goal.returns-in-Some
returns-in-Some c =
    let rest = c.in-Some.rest.now in (
      (λ t. (rest, (c.in-Some.ensures, c.has_slash.ensures.none (is_not c.has_slash.result t)))),
      (λ u.
          let same = append_cancel_left (front_of c.args.root.now) u.0 rest (sym u.1.0.begins ∙ c.in-Some.ensures.begins) in
          not_is c.has_slash.result (λ e. c.has_slash.ensures.some e (subst (λ (r : List ℕ). All (λ b. b ≢ 47) r) same u.1.1))),
    )
