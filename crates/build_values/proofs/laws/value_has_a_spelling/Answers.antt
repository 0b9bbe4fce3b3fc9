use Rattle.std.proofs.Common.{refl}
use Rattle.spelling.specs.Spelling.{text_bytes}
use Rattle.build_values.specs.Values.{info_bytes, entry_bytes, shape_bytes}
use Rattle.build_values.specs.declared.value.Value.TheVariants.{Tree, Structure, Done, Expected}
use Rattle.build_values.proofs.PartLemmas.{text-some, info-some, entry-some, shape-some, value-few, value-names}
use Rattle.build_values.proofs.laws.value_has_a_spelling.Goals as goal

pub items_have_a_spelling-requires-clause-few : goal.items_have_a_spelling-requires-clause-few
items_have_a_spelling-requires-clause-few c = value-few 4 Tree entry_bytes (λ _. refl) entry-some c.args.value.now c.in-Tree.entries c.in-Tree.is c.requires

pub items_have_a_spelling-requires-in-Structure-clause-few : goal.items_have_a_spelling-requires-in-Structure-clause-few
items_have_a_spelling-requires-in-Structure-clause-few c =
    value-few 5 Structure shape_bytes (λ _. refl) shape-some c.args.value.now c.in-Structure.entries c.in-Structure.is c.requires

pub items_have_a_spelling-requires-in-Done-clause-few : goal.items_have_a_spelling-requires-in-Done-clause-few
items_have_a_spelling-requires-in-Done-clause-few c = value-few 6 Done info_bytes (λ _. refl) info-some c.args.value.now c.in-Done.infos c.in-Done.is c.requires

pub items_have_a_spelling-requires-in-Expected-clause-few : goal.items_have_a_spelling-requires-in-Expected-clause-few
items_have_a_spelling-requires-in-Expected-clause-few c =
    value-few 7 Expected text_bytes (λ _. refl) text-some c.args.value.now c.in-Expected.paths c.in-Expected.is c.requires

pub returns-in-Names : goal.returns-in-Names
returns-in-Names c = value-names c.args.value.now c.in-Names.names c.in-Names.is c.names-names.ensures.in_order c.requires
