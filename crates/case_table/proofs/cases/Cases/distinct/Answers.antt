use Rattle.case_table.proofs.TableLemmas.{distinct-iff}
use Rattle.case_table.proofs.cases.Cases.distinct.Goals as goal

pub returns-clause-differ : goal.returns-clause-differ
returns-clause-differ g c = distinct-iff c.args.self.now.rows.now c.all_differ.result c.all_differ.ensures
