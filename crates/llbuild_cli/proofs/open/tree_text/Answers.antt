use Rattle.std.proofs.Common.{rules, ◌≡◌, ℕ, List}
use Rattle.llbuild_cli.specs.declared.refusal.Refusal.{Refusal}
use Rattle.llbuild_cli.specs.declared.refusal.Refusal.TheVariants.{NoMemory}
use Rattle.llbuild_cli.specs.Open.{IsOpened, IsSpelled, IsTreeText}
use Rattle.llbuild_cli.specs.Plan.{IsUnopened}
use Rattle.llbuild_cli.proofs.OpenLemmas.{err_on, load_unopened, memory_unopened, ok_on}
use Rattle.llbuild_cli.proofs.ProgressLemmas.{if_err}
use Rattle.llbuild_cli.proofs.open.tree_text.Goals as goal

pub returns-in_err-_accepted-clause-refused : goal.returns-in_err-_accepted-clause-refused
returns-in_err-_accepted-clause-refused g c =
    let refusal = c.in_err-_accepted.field-0.0 in
    if_err c.from_residual-in_err-_accepted.result refusal _ (search rules)
    (load_unopened g.W.Disk.gave _ _ c.args.file.now c.in_ok-bytes.bytes refusal c.in_ok-bytes.ensures.ok c.in_err-_accepted.ensures.refused)

pub returns-clause-ok : goal.returns-clause-ok
returns-clause-ok g c =
    let old = g.W.Disk.view c.args.world.now in
    let new = g.W.Disk.view c.bytes_of.new.world in
    let bytes = c.in_ok-bytes.bytes in
    let opened : IsOpened g.W.Disk.gave old new c.args.file.now c.in_ok-_accepted._accepted =
    record { bytes = bytes; read = c.in_ok-bytes.ensures.ok; loads = c.in_ok-_accepted.ensures.ok; kept = c.in_ok-_accepted.ensures.kept } in
    ok_on c.spelling_of.result (IsSpelled bytes) (IsTreeText g.W.Disk.gave old new c.args.file.now)
    (λ (t : List ℕ) is. record { manifest = c.in_ok-_accepted._accepted; opened = opened; tree = is }) c.spelling_of.ensures.ok

pub returns-clause-refused : goal.returns-clause-refused
returns-clause-refused g c =
    err_on c.spelling_of.result (λ (r : Refusal). r ≡ NoMemory) (IsUnopened g.W.Disk.gave _ _ c.args.file.now)
    (λ (r : Refusal) is. memory_unopened g.W.Disk.gave _ _ c.args.file.now r is) c.spelling_of.ensures.refused
