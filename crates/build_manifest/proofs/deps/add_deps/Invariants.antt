use Rattle.std.proofs.Common.{◌≡◌, ℕ, List, None, Some, cond, ◌++◌, take, drop}
use Rattle.std.specs.Prelude.{bytes_eq}
use Rattle.std.specs.List.{list_any}
use Rattle.std.specs.Option.{option_or}
use Rattle.indexmap.specs.IndexMap.{get_by_text}
use Rattle.build_manifest.specs.Has.{has}
use Rattle.build_manifest.specs.Places.{all_deps}
use Rattle.build_manifest.specs.Rules.{commands_of, deps_fault}
use Rattle.build_manifest.proofs.deps.add_deps.Given as goal

abbrev pub invariant-loop-path : goal.invariant-loop-path
invariant-loop-path l = record {
  placed : (q : List ℕ) → get_by_text l.places q ≡ option_or (get_by_text l.initial.places q) (cond (list_any (bytes_eq q) (take l.path-index l.path-items)) (Some l.place) None);
  fault : deps_fault (has l.hits) (all_deps (commands_of (take l.place l.drafts))) l.command.name l.path-items
      ≡ deps_fault (has l.hits) (all_deps (commands_of (take l.place l.drafts)) ++ take l.path-index l.path-items) l.command.name (drop l.path-index l.path-items);
}
