use Rattle.std.proofs.Common.{subst}
use Rattle.build_keys.specs.KeyReading.{key_at}
use Rattle.build_keys.specs.Results.{Refuses}
use Rattle.build_keys.specs.declared.unread.Unread.{Unread}
use Rattle.build_keys.proofs.KeyLemmas.{key-begins, key-none}
use Rattle.build_keys.proofs.read.read_key.Goals as goal

pub returns-in-Ok-clause-found : goal.returns-in-Ok-clause-found
returns-in-Ok-clause-found c = key-begins c.args.bytes.now c.in-Ok.key c.in-Ok.rest.now c.in-Ok.ensures.reads

pub returns-in-Err-NoSpelling-clause-none : goal.returns-in-Err-NoSpelling-clause-none
returns-in-Err-NoSpelling-clause-none c =
    let P : Unread → Type 0 = λ e. Refuses e (key_at c.args.bytes.now) in
    key-none c.args.bytes.now (subst P c.in-Err-NoSpelling.field-0-is c.in-Err-NoSpelling.ensures.reads)
