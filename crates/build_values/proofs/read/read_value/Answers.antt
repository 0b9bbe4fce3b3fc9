use Rattle.std.proofs.Common.{◌-◌, length, refl, subst}
use Rattle.build_values.specs.ValueReading.{value_at}
use Rattle.build_keys.specs.Results.{Refuses}
use Rattle.build_keys.specs.declared.unread.Unread.{Unread}
use Rattle.build_values.proofs.ValueLemmas.{value-begins, value-long, value-none}
use Rattle.build_values.proofs.read.read_value.Goals as goal

pub returns-in-Err-NoSpelling-clause-none : goal.returns-in-Err-NoSpelling-clause-none
returns-in-Err-NoSpelling-clause-none c =
    let P : Unread → Type 0 = λ e. Refuses e (value_at c.args.bytes.now) in
    value-none c.args.bytes.now (subst P c.in-Err-NoSpelling.field-0-is c.in-Err-NoSpelling.ensures.reads)

pub returns-then-long-clause-none : goal.returns-then-long-clause-none
returns-then-long-clause-none c =
    let bytes = c.args.bytes.now in
    let rest = c.in-Ok.rest.now in
    value-long bytes c.in-Ok.value rest (length bytes - length rest) c.in-Ok.ensures.reads refl c.if-long.true

pub returns-else-long-clause-found : goal.returns-else-long-clause-found
returns-else-long-clause-found c =
    let bytes = c.args.bytes.now in
    let rest = c.in-Ok.rest.now in
    value-begins bytes c.in-Ok.value rest (length bytes - length rest) c.in-Ok.ensures.reads refl c.if-long.false
