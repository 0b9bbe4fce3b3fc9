use Rattle.build_values.proofs.infos.file_has_a_spelling.Goals as goal

pub returns-clause-stamp : goal.returns-clause-stamp
returns-clause-stamp c = record { each = c.numbers_have_a_spelling.ensures; four = c.told-stamp }
