use Rattle.std.proofs.Common.{rules, ◌≡◌}
use Rattle.std.specs.Prelude.{slice_get}
use Rattle.std.specs.Option.{option_copied}
use Rattle.memory_files.proofs.PlaceLemmas.{none-at, some-at, item-got}
use Rattle.memory_files.proofs.files.Files.last.Goals as goal

pub returns-in_err-place : goal.returns-in_err-place
returns-in_err-place c =
    let none = none-at c.self.inside.writes.items c.args.path.now _ (c.self.invariant.placed c.args.path.now) (search rules) in
    search rules

pub returns : goal.returns
returns c =
    let some = some-at c.self.inside.writes.items c.args.path.now _ c.in_ok-place.place.now (c.self.invariant.placed c.args.path.now) (search rules) in
    let got : option_copied c.get-2.result ≡ slice_get c.as_slice.result.now c.in_ok-place.place.now = item-got _ _ _ c.get-2.ensures.lookup in
    search rules
