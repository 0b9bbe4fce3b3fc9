use Rattle.std.proofs.Common.{◌+◌, ◌*◌, ◌≤◌, true, length}
use Rattle.yaml_profile.specs.Flow.{inline, items, sequence, pairs, mapping}
use Rattle.yaml_profile.proofs.TurnLemmas.{Turns}
use Rattle.yaml_profile.proofs.flow.+inline.Given as goal

abbrev pub decreases-inline : goal.decreases-inline
decreases-inline l = 3 * l.depth

abbrev pub decreases-sequence : goal.decreases-sequence
decreases-sequence l = 3 * l.depth + 1

abbrev pub decreases-value_of : goal.decreases-value_of
decreases-value_of l = 3 * l.depth + 1

abbrev pub decreases-mapping : goal.decreases-mapping
decreases-mapping l = 3 * l.depth + 2

abbrev pub invariant-sequence-turns : goal.invariant-sequence-turns
invariant-sequence-turns l =
    Turns (λ n. items (inline l.depth true) n l.found l.rest) (length l.rest) (sequence (inline l.depth true) l.text) × (length l.rest ≤ length l.text)

abbrev pub decreases-sequence-turns : goal.decreases-sequence-turns
decreases-sequence-turns l = length l.rest

abbrev pub invariant-mapping-turns : goal.invariant-mapping-turns
invariant-mapping-turns l =
    Turns (λ n. pairs (inline l.depth true) n l.found l.rest) (length l.rest) (mapping (inline l.depth true) l.text) × (length l.rest ≤ length l.text)

abbrev pub decreases-mapping-turns : goal.decreases-mapping-turns
decreases-mapping-turns l = length l.rest
