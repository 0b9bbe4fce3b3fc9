use Rattle.std.proofs.Common.{◌+◌, sym, ap}
use Rattle.build_values.specs.Values.{capped}
use Rattle.build_values.proofs.LengthLemmas.{stamp-length}
use Rattle.build_values.proofs.infos.file_len.Goals as goal

pub returns : goal.returns
returns c = ap (λ n. capped (1 + n)) (sym (stamp-length c.args.size c.args.stamp.now c.told-stamp))
