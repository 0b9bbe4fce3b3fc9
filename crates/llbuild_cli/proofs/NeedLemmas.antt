-- What the rules of a manifest and its marks say of a command at its place.
use Rattle.std.proofs.Common.{◌≡◌, ◌⊎◌, ◌<◌, ◌≤◌, ℕ, zero, suc, ◌+◌, Bool, true, List, map, length, drop, sym, ◌∙◌, ap, inl, inr, subst, arith}
use Rattle.std.specs.Prelude.{slice_get, Some}
use Rattle.std.proofs.lemmas.Option.{slice_get_within}
use Rattle.file_info.proofs.Lists.{In-drop, In-drop-get, In-get, In-index, get-drop, get-map}
use Rattle.file_info.specs.Content.{node_text}
use Rattle.file_info.specs.Lists.{In}
use Rattle.file_info.specs.declared.info.Info.{Info}
use Rattle.file_info.specs.declared.node.NodeName.TheVariants.{Path}
use Rattle.build_manifest.specs.declared.command.Command.{Command}
use Rattle.build_manifest.specs.declared.command.Input.{Input}
use Rattle.outside.specs.OrderForm.{paths_of}
use Rattle.build_meaning.specs.Fresh.{Does, IsMade}
use Rattle.build_meaning.specs.Need.{IsNeeded, wants, needs, AreMarks}
use Rattle.build_meaning.specs.Orderly.{AreOrderly}
use Rattle.build_plan.specs.Built.{IsBuiltAt, IsFileInput}
use Rattle.build_meaning.proofs.OrderlyLemmas.{made_path, one_place}
use Rattle.llbuild_cli.specs.CommandRun.{IsInput, IsOutput}
use Rattle.llbuild_cli.specs.Stands.{Stands}
use Rattle.outside.specs.View.{DiskView}
use Rattle.llbuild_cli.specs.Journal.{Journal, Knows, IsUnknown}

pub less_or_not : (k n : ℕ) → (k < n) ⊎ (n ≤ k)
less_or_not k zero = inr (omega arith)
less_or_not zero (suc n) = inl (omega arith)
less_or_not (suc k) (suc n) = elim (less_or_not k n) [ inl l ↦ inl (omega arith) | inr l ↦ inr (omega arith) ]

-- an output of the command at a place is made by no later one
pub made_once : (commands : List Command) (place : ℕ) (c : Command) (p : List ℕ) → AreOrderly commands → slice_get commands place ≡ Some c → IsOutput c p
    → IsMade (drop (place + 1) commands) p → ⊥
made_once commands place c p orderly at_place o h =
    let (k, at_k) = In-index p (paths_of c.outputs) o in
    let (l, at_l) = In-index p (paths_of h.by.outputs) h.output in
    let same : c ≡ h.by = (orderly.makers c h.by k l p (In-get commands place c at_place) (In-drop h.by (place + 1) commands h.named) at_k at_l).0 in
    let (j, at_j) = In-index h.by (drop (place + 1) commands) h.named in
    let later : slice_get commands (place + 1 + j) ≡ Some h.by = get-drop commands (place + 1) j h.by at_j in
    let name = λ (d : Command). d.name in
    let first : slice_get (map name commands) place ≡ Some h.by.name = get-map name commands place c at_place ∙ ap (λ (d : Command). Some d.name) same in
    let second : slice_get (map name commands) (place + 1 + j) ≡ Some h.by.name = get-map name commands (place + 1 + j) h.by later in
    let places : place ≡ place + 1 + j = one_place (map name commands) place (place + 1 + j) h.by.name orderly.names first second in
    absurd (omega arith)

-- what is made of the inputs of a needed command was made before it
pub inputs_settled : {does : Does} {commands : List Command} {marks : List Bool} {place : ℕ} {w : DiskView} {a : Journal}
    (wanted : List Input) → AreMarks commands wanted marks → Stands does commands marks place w a
    → (c : Command) → slice_get commands place ≡ Some c → slice_get marks place ≡ Some true → IsBuiltAt commands place c
    → (p : List ℕ) → IsInput c.inputs p → IsMade commands p → (i : Info) × Knows a p i
inputs_settled {commands} {marks} {place} wanted are old c at_place marked built p is h =
    let i = is.0 in
    let file = built.plain.inputs i is.1.0 in
    let node : i.node ≡ Path p = file.node.is ∙ ap Path (sym (is.1.1 ∙ ap node_text file.node.is)) in
    let (j, at_j) = In-index h.by commands h.named in
    let output : In i.node h.by.outputs = subst (λ (n : _). In n h.by.outputs) (sym node) (made_path h.by p h.output) in
    let maker : IsNeeded commands wanted h.by = needs c i h.named ((are.each place c at_place).0 marked) is.1.0 output in
    let marked_j = (are.each j h.by at_j).1 maker in
    elim (less_or_not j place) [
      | inl l ↦ old.done j h.by p l marked_j at_j h.output
      | inr l ↦ absurd (built.earlier i is.1.0
          (subst (λ (q : List ℕ). IsMade (drop place commands) q) is.1.1
          (record { by = h.by; named = In-drop-get commands place j h.by at_j l; output = h.output })))
    ]

-- what is made of the nodes of the target was made
pub nodes_settled : {does : Does} {commands : List Command} {marks : List Bool} {w : DiskView} {a : Journal}
    (wanted : List Input) → AreMarks commands wanted marks → Stands does commands marks (length commands) w a
    → ((i : Input) → In i wanted → IsFileInput i)
    → (p : List ℕ) → IsInput wanted p → IsMade commands p → (i : Info) × Knows a p i
nodes_settled {commands} {marks} wanted are old files p is h =
    let i = is.0 in
    let file = files i is.1.0 in
    let node : i.node ≡ Path p = file.node.is ∙ ap Path (sym (is.1.1 ∙ ap node_text file.node.is)) in
    let (j, at_j) = In-index h.by commands h.named in
    let output : In i.node h.by.outputs = subst (λ (n : _). In n h.by.outputs) (sym node) (made_path h.by p h.output) in
    let maker : IsNeeded commands wanted h.by = wants i h.named is.1.0 output in
    old.done j h.by p (slice_get_within commands j h.by at_j) ((are.each j h.by at_j).1 maker) at_j h.output

-- the outputs of a command were not seen before it ran
pub outputs_unseen : {does : Does} {commands : List Command} {marks : List Bool} {place : ℕ} {w : DiskView} {a : Journal}
    → Stands does commands marks place w a → (c : Command) → slice_get commands place ≡ Some c → (p : List ℕ) → IsOutput c p → IsUnknown a p
outputs_unseen {commands} {place} {a} old c at_place p o i k =
    old.later p i k (record { by = c; named = In-drop-get commands place place c at_place (omega arith); output = o })
