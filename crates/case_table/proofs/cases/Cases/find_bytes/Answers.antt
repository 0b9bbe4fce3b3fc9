use Rattle.case_table.proofs.TableLemmas.{code-first, code-none}
use Rattle.case_table.proofs.cases.Cases.find_bytes.Goals as goal

pub returns-clause-first : goal.returns-clause-first
returns-clause-first g c = code-first c.args.self.now.rows.now c.args.group c.args.name.now c.first_code.result c.first_code.ensures

pub returns-clause-none : goal.returns-clause-none
returns-clause-none g c = code-none c.args.self.now.rows.now c.args.group c.args.name.now c.first_code.result c.first_code.ensures
