use Rattle.std.proofs.Common.{◌+◌, ◌*◌, ◌≤◌, length}
use Rattle.std.specs.Prelude.{IsTrue}
use Rattle.yaml_profile.specs.Block.{block, is_dash, entries, mapping, dashes, sequence}
use Rattle.yaml_profile.proofs.TurnLemmas.{Turns}
use Rattle.yaml_profile.proofs.block.+block.Given as goal

abbrev pub decreases-block : goal.decreases-block
decreases-block l = 4 * l.depth

abbrev pub decreases-below : goal.decreases-below
decreases-below l = 4 * l.depth + 1

abbrev pub decreases-map_value : goal.decreases-map_value
decreases-map_value l = 4 * l.depth + 2

abbrev pub decreases-item : goal.decreases-item
decreases-item l = 4 * l.depth + 2

abbrev pub decreases-entries : goal.decreases-entries
decreases-entries l = 4 * l.depth + 3

abbrev pub decreases-dashes : goal.decreases-dashes
decreases-dashes l = 4 * l.depth + 3

abbrev pub invariant-entries-turns : goal.invariant-entries-turns
invariant-entries-turns l =
    Turns (λ n. entries (block l.depth) l.depth l.column n l.found l.rest) (length l.rest) (mapping (block l.depth) l.depth l.column l.text) × (length l.rest ≤ length l.text)

abbrev pub decreases-entries-turns : goal.decreases-entries-turns
decreases-entries-turns l = length l.rest

abbrev pub invariant-dashes-turns : goal.invariant-dashes-turns
invariant-dashes-turns l =
    Turns (λ n. dashes (block l.depth) l.depth l.held l.column n l.found l.rest) (length l.rest) (sequence (block l.depth) l.depth l.held l.column l.text) × (length l.rest ≤ length l.text) × IsTrue (is_dash l.rest)

abbrev pub decreases-dashes-turns : goal.decreases-dashes-turns
decreases-dashes-turns l = length l.rest
