-- The makers that were noted.
use Rattle.std.specs.Prelude.{ℕ, Option}
use Rattle.indexmap.specs.IndexMap.{get_by_text}
use Rattle.file_info.specs.declared.node.NodeName.{NodeName}
use Rattle.file_info.specs.declared.node.NodeName.TheVariants.{Path, Virtual}
use Rattle.build_manifest.specs.declared.makers.Makers.{Makers}

-- the place that was noted for the maker of the node
abbrev pub noted_maker : Makers → NodeName → Option ℕ
noted_maker makers (Path p) = get_by_text makers.paths p
noted_maker makers (Virtual n) = get_by_text makers.virtuals n
