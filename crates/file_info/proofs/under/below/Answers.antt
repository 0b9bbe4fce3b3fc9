use Rattle.std.proofs.Common.{◌≡◌, IsTrue, true, false, subst, sym, ◌∙◌}
use Rattle.std.proofs.lemmas.List.{append_cancel_left}
use Rattle.file_info.specs.Under.{front_of, GoesDown}
use Rattle.file_info.proofs.under.below.Goals as goal

pub returns-else-goes_down : goal.returns-else-goes_down
returns-else-goes_down c = λ rest b.
    let same = append_cancel_left (front_of c.args.root.now) rest c.in-Some.rest.now (sym b.begins ∙ c.in-Some.ensures) in
    let down : false ≡ true = subst IsTrue c.if-goes_down.false (c.goes_down.ensures.1 (subst GoesDown same b.down)) in
    cc down
