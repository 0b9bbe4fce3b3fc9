use Rattle.std.proofs.Common.{◌∙◌, ap, sym}
use Rattle.std.specs.Prelude.{slice_get}
use Rattle.file_info.proofs.Lists.{get-read}
use Rattle.dependency_scan.specs.Steps.{end_of}
use Rattle.dependency_scan.proofs.ScanLemmas.{passed-end, passed-furthest, passed-next}
use Rattle.dependency_scan.proofs.scan.Scan.next.Goals as goal

pub returns-in-Some-clause-step : goal.returns-in-Some-clause-step
returns-in-Some-clause-step g c =
    sym (passed-end (g.R.Rules.meaning c.args.rules.now) c.args.key.now (g.S.SettledRows.settled c.args.settled.now) c.args.row.now.built_at
    c.deps.self-inside.passed c.args.row.now.deps c.index-deps-self.result (end_of c.in-Some.step) c.deps.invariant
    (ap (λ ds. slice_get ds c.deps.self-inside.passed) (sym c.as_slice-deps.ensures)
    ∙ get-read c.as_slice-deps.result.now c.deps.self-inside.passed c.index-deps-self.result c.index-deps-self.result (sym c.index-deps-self.is)
    c.deps-test.true) c.in-Some.ensures)

pub deps-preserved : goal.deps-preserved
deps-preserved g c =
    passed-next (g.R.Rules.meaning c.args.rules.now) c.args.key.now (g.S.SettledRows.settled c.args.settled.now) c.args.row.now.built_at
    c.deps.self-inside.passed c.args.row.now.deps c.index-deps-self.result c.deps.invariant
    (ap (λ ds. slice_get ds c.deps.self-inside.passed) (sym c.as_slice-deps.ensures)
    ∙ get-read c.as_slice-deps.result.now c.deps.self-inside.passed c.index-deps-self.result c.index-deps-self.result (sym c.index-deps-self.is)
    c.deps-test.true) c.in_default.ensures

pub returns-in-Some-clause-furthest : goal.returns-in-Some-clause-furthest
returns-in-Some-clause-furthest g c =
    passed-furthest (g.R.Rules.meaning c.args.rules.now) c.args.key.now (g.S.SettledRows.settled c.args.settled.now) c.args.row.now.built_at
    c.deps.self-inside.passed c.args.row.now.deps c.index-deps-self.result (end_of c.in-Some.step) c.deps.invariant
    (ap (λ ds. slice_get ds c.deps.self-inside.passed) (sym c.as_slice-deps.ensures)
    ∙ get-read c.as_slice-deps.result.now c.deps.self-inside.passed c.index-deps-self.result c.index-deps-self.result (sym c.index-deps-self.is)
    c.deps-test.true) c.in-Some.ensures
