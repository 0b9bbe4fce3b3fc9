use Rattle.std.proofs.Common.{◌≡◌, ℕ, List, [], take, drop}
use Rattle.indexmap.specs.IndexMap.{get_by_text}
use Rattle.build_manifest.specs.Has.{has}
use Rattle.build_manifest.specs.Places.{all_deps, deps_place}
use Rattle.build_manifest.specs.Rules.{all_deps_fault, commands_of}
use Rattle.build_manifest.proofs.deps.places_of.Given as goal

abbrev pub invariant-loop-place : goal.invariant-loop-place
invariant-loop-place l = record {
  placed : (q : List ℕ) → get_by_text l.places q ≡ deps_place (commands_of (take l.place l.fn.drafts)) q;
  fault : all_deps_fault (has l.hits) [] (commands_of l.fn.drafts)
      ≡ all_deps_fault (has l.hits) (all_deps (commands_of (take l.place l.fn.drafts))) (commands_of (drop l.place l.fn.drafts));
}
