-- A command that ran leaves what stands, one place further.
use Rattle.std.proofs.Common.{◌≡◌, ℕ, ◌+◌, Bool, true, false, List, [], drop, sym, ◌∙◌, ap, inl, inr, subst, arith}
use Rattle.std.specs.Prelude.{slice_get, Some}
use Rattle.file_info.proofs.Lists.{In-drop-get, In-get, In-index, get-map}
use Rattle.file_info.specs.Content.{Content, FileVersion, content}
use Rattle.file_info.specs.Lists.{In}
use Rattle.file_info.specs.declared.info.Info.{Info}
use Rattle.file_info.specs.declared.info.Form.{Form}
use Rattle.file_info.specs.declared.info.Form.TheVariants.{Follow}
use Rattle.build_manifest.specs.declared.command.Command.{Command}
use Rattle.outside.specs.OrderForm.{paths_of}
use Rattle.outside.specs.Meaning.{signature_of}
use Rattle.build_meaning.specs.Commands.{meaning_of}
use Rattle.build_meaning.specs.Fresh.{Does, Sights, IsMade, Fresh, made}
use Rattle.build_meaning.proofs.FreshLemmas.{Fresh-more}
use Rattle.build_report.specs.declared.report.StatSeen.{StatSeen}
use Rattle.llbuild_cli.specs.Move.{Moved}
use Rattle.llbuild_cli.specs.CommandRun.{IsInput, IsOutput, DidCommand, contents_made, DidLaw}
use Rattle.llbuild_cli.specs.Stands.{Stands}
use Rattle.llbuild_cli.proofs.InputLemmas.{files_read, read_files, read_nodes, file_seen, is_missing}
use Rattle.outside.specs.View.{DiskView, Told, Tells}
use Rattle.llbuild_cli.specs.Journal.{Journal, Knows}
use Rattle.llbuild_cli.specs.Sight.{sights_of}
use Rattle.llbuild_cli.proofs.StandsLemmas.{made_more, stands_looked}
use Rattle.llbuild_cli.proofs.JournalLemmas.{split_last}
use Rattle.llbuild_cli.proofs.CommandLemmas.{ran_knows, ran_kept, ran_gives}

pub made_here : (commands : List Command) (place : ℕ) (c : Command) (p : List ℕ) → slice_get commands place ≡ Some c → IsOutput c p → IsMade (drop place commands) p
made_here commands place c p at_place o = record { by = c; named = In-drop-get commands place place c at_place (omega arith); output = o }

-- an output of the command that ran is fresh
output_fresh : {does : Does} {m : List FileVersion} {commands : List Command} {sights : Sights} {p : List ℕ} {x : Content} (seen : List ℕ → Info → Type 0) (at : List ℕ → Form → Info) (c : Command) (reads : List _)
    → In c commands → Rattle.llbuild_cli.specs.Input.AreRead seen c.inputs reads
    → ((q : List ℕ) (i : Info) → seen q i → Fresh does m commands sights q (content m q i))
    → DidLaw does m at c reads → IsOutput c p → x ≡ content m p (at p Follow) → Fresh does m commands sights p x
output_fresh {does} {m} {commands} {sights} {p} {x} seen at c reads named read fresh did o is =
    let (k, at_k) = In-index p (paths_of c.outputs) o in
    made c (files_read m reads) (contents_made m at c) k named (read_nodes seen m c.inputs reads read)
    (λ q y h absent. (let f = file_seen m c.inputs reads read q y h in f.there (is_missing m q f.info (sym f.is ∙ absent))))
    (λ q y h. (let f = file_seen m c.inputs reads read q y h in subst (λ (z : Content). Fresh does m commands sights q z) (sym f.is) (fresh q f.info f.was)))
    (subst (λ (d : List _). does (signature_of (meaning_of c)) d [] (contents_made m at c)) (read_files seen m c.inputs reads read) did)
    at_k
    (get-map (λ (q : List ℕ). content m q (at q Follow)) (paths_of c.outputs) k p at_k ∙ ap Some (sym is))

pub stands_ran : {does : Does} {commands : List Command} {marks : List Bool} {place : ℕ} {w v : DiskView} {a b : Journal}
    → ((m : List FileVersion) → Tells v m → Told v)
    → Stands does commands marks place w a
    → (c : Command) → slice_get commands place ≡ Some c
    → ((p : List ℕ) → IsOutput c p → IsMade (drop (place + 1) commands) p → ⊥)
    → ((p : List ℕ) → IsInput c.inputs p → IsMade commands p → (i : Info) × Knows a p i)
    → Moved (IsOutput c) w v
    → DidCommand does c v a b
    → Stands does commands marks (place + 1) v b
stands_ran {does} {commands} {marks} {place} {w} {v} {a} {b} law old c at_place once settled moved ran =
    let mid : Stands does commands marks place v ran.middle =
    stands_looked old moved (λ p i k o. old.later p i k (made_here commands place c p at_place o)) settled ran.looked in
    let sees = λ (s : List ℕ × Info) (h : In s (sights_of ran.middle.stats)). subst (λ (stats : List StatSeen). In s (sights_of stats)) (sym ran.stats) h in
    record {
      stand = λ t p i k. elim (ran_knows ran p i k) [
        | inl m ↦ mid.stand t p i m
        | inr g ↦ (ran.gives p i g).1 t
      ];
      fresh = λ m t p i k. elim (ran_knows ran p i k) [
        | inl h ↦ Fresh-more sees (mid.fresh m t p i h)
        | inr g ↦
            (let out = ran.gives p i g in
            output_fresh (Knows ran.middle) v.at c ran.reads (In-get commands place c at_place) ran.are_read
            (λ q j h. Fresh-more sees (mid.fresh m t q j h)) (ran.did m t) out.0 (ap (content m p) (sym (out.1 (law m t)))))
      ];
      done = λ k d p h marked at_k o. elim (split_last k place h) [
        | inl l ↦ (let was = mid.done k d p l marked at_k o in (was.0, ran_kept ran p was.0 was.1))
        | inr e ↦
            (let same : d ≡ c = (let x : slice_get commands place ≡ Some d = ap (slice_get commands) (sym e) ∙ at_k in cc) in
            let r = ran.outputs p (subst (λ (z : Command). IsOutput z p) same o) in (r.0, ran_gives ran p r.0 r.1))
      ];
      later = λ p i k h. elim (ran_knows ran p i k) [
        | inl m ↦ mid.later p i m (made_more place commands p h)
        | inr g ↦ once p (ran.gives p i g).0 h
      ];
      sources = λ p i s h. mid.sources p i (subst (λ (stats : List StatSeen). In (p, i) (sights_of stats)) ran.stats s) h;
    }

-- a command that is not marked is passed over
pub stands_skip : {does : Does} {commands : List Command} {marks : List Bool} {place : ℕ} {w : DiskView} {seen : Journal}
    → Stands does commands marks place w seen → slice_get marks place ≡ Some false → Stands does commands marks (place + 1) w seen
stands_skip {commands} {marks} {place} old unmarked = record {
  stand = old.stand;
  fresh = old.fresh;
  done = λ k d p h marked at_k o. elim (split_last k place h) [
    | inl l ↦ old.done k d p l marked at_k o
    | inr e ↦ (let x : slice_get marks place ≡ Some true = ap (slice_get marks) (sym e) ∙ marked in absurd (cc))
  ];
  later = λ p i e h. old.later p i e (made_more place commands p h);
  sources = old.sources;
}
