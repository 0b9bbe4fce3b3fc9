use Rattle.manifest_reader.proofs.LoadLemmas.{read_parts_kept}
use Rattle.manifest_reader.proofs.load.load.Goals as goal

pub of-requires : goal.of-requires
of-requires c = read_parts_kept c.args.bytes.now c.in_ok-tree.tree c.in_ok-parts.parts c.in_ok-tree.ensures.ok c.in_ok-parts.ensures
