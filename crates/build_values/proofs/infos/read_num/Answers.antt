use Rattle.std.proofs.Common.{w8}
use Rattle.std.proofs.Math.Facts.{Fits-lt-pow}
use Rattle.build_values.proofs.NumLemmas.{num_at-eight}
use Rattle.build_values.proofs.infos.read_num.Goals as goal

pub returns-in-len8-up-clause-reads : goal.returns-in-len8-up-clause-reads
returns-in-len8-up-clause-reads c =
    num_at-eight c.args.bytes.now c.from_be_bytes-number.result c.in-len8-up.len_at_least (λ i. Fits-lt-pow {w = w8} (c.type_inv.bytes i)) c.from_be_bytes-number.type_inv c.from_be_bytes-number.ensures
