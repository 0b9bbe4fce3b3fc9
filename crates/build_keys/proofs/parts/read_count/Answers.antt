use Rattle.std.proofs.Common.{w8}
use Rattle.std.proofs.Math.Facts.{Fits-lt-pow}
use Rattle.build_keys.proofs.CountLemmas.{count_at-four}
use Rattle.build_keys.proofs.parts.read_count.Goals as goal

pub returns-in-len4-up-clause-reads : goal.returns-in-len4-up-clause-reads
returns-in-len4-up-clause-reads c =
    count_at-four c.args.bytes.now c.from_be_bytes.result c.in-len4-up.len_at_least (λ i. Fits-lt-pow {w = w8} (c.type_inv.bytes i)) c.from_be_bytes.type_inv c.from_be_bytes.ensures
