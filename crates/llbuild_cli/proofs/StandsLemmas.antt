-- What stands between two commands goes on from command to command.
use Rattle.std.proofs.Common.{◌≡◌, ℕ, ◌+◌, Bool, List, [], ◌∷◌, ◌++◌, drop, refl, sym, ◌∙◌, ap, inl, inr, subst}
use Rattle.std.proofs.lemmas.List.{map-append}
use Rattle.file_info.proofs.Lists.{In-drop, In-drop-more, In-either, In-left, In-one}
use Rattle.file_info.specs.Lists.{In}
use Rattle.file_info.specs.declared.info.Info.{Info}
use Rattle.file_info.specs.declared.info.Form.TheVariants.{Follow}
use Rattle.outside.specs.View.{DiskView, Told}
use Rattle.build_manifest.specs.declared.command.Command.{Command}
use Rattle.build_meaning.proofs.FreshLemmas.{Fresh-more}
use Rattle.build_meaning.specs.Fresh.{Does, Sights, IsMade, source}
use Rattle.build_report.specs.declared.report.StatSeen.{StatSeen}
use Rattle.llbuild_cli.specs.Journal.{Journal, Knows, IsUnknown}
use Rattle.llbuild_cli.specs.Look.{IsNew, Looked}
use Rattle.llbuild_cli.specs.Move.{Moved}
use Rattle.llbuild_cli.specs.Sight.{sights_of}
use Rattle.llbuild_cli.specs.Stands.{Stands}
use Rattle.llbuild_cli.proofs.ProgressLemmas.{looked_kept, looked_came}

pub made_of_drop : (n : ℕ) (commands : List Command) (p : List ℕ) → IsMade (drop n commands) p → IsMade commands p
made_of_drop n commands p h = record { by = h.by; named = In-drop h.by n commands h.named; output = h.output }

pub made_more : (n : ℕ) (commands : List Command) (p : List ℕ) → IsMade (drop (n + 1) commands) p → IsMade (drop n commands) p
made_more n commands p h = record { by = h.by; named = In-drop-more h.by n commands h.named; output = h.output }

-- some paths were asked for, and what is written was not seen before
pub stands_looked : {does : Does} {commands : List Command} {marks : List Bool} {place : ℕ} {w v : DiskView} {a b : Journal} {asked written : List ℕ → Type 0}
    → Stands does commands marks place w a
    → Moved written w v
    → ((p : List ℕ) (i : Info) → Knows a p i → written p → ⊥)
    → ((p : List ℕ) → asked p → IsMade commands p → (i : Info) × Knows a p i)
    → Looked v asked a b
    → Stands does commands marks place v b
stands_looked {does} {commands} {marks} {place} {w} {v} {a} {b} {asked} old moved apart settled looked =
    let unmade = λ (p : List ℕ) (i : Info) (n : IsNew v asked a p i) (h : IsMade commands p). (let k = settled p n.was_asked h in absurd (n.unknown k.0 k.1)) in
    record {
      stand = λ t p i e. elim (looked_came looked p i e) [
        | inl k ↦ moved.same t p Follow (apart p i k) ∙ old.stand (moved.keeps.infos t) p i k
        | inr n ↦ n.0.stood t
      ];
      fresh = λ m t p i e. elim (looked_came looked p i e) [
        | inl k ↦ Fresh-more looked.kept (old.fresh m (moved.keeps.contents m t) p i k)
        | inr n ↦ source i (unmade p i n.0) n.1 refl
      ];
      done = λ k c p h marked at_k o. (let was = old.done k c p h marked at_k o in (was.0, looked_kept looked p was.0 was.1));
      later = λ p i e h. elim (looked_came looked p i e) [
        | inl k ↦ old.later p i k h
        | inr n ↦ unmade p i n.0 (made_of_drop place commands p h)
      ];
      sources = λ p i s h. elim (looked.came p i s) [ inl k ↦ old.sources p i k h | inr n ↦ unmade p i n h ];
    }

-- a source came in that was asked for
pub looked_source : {world : DiskView} {a b : Journal} (path : List ℕ) (info : Info)
    → b ≡ record { starts = a.starts; stats = a.stats ++ record { path = path; info = info } ∷ []; heard = a.heard } → IsUnknown a path → (Told world → world.at path Follow ≡ info)
    → Looked world (λ (p : List ℕ). p ≡ path) a b
looked_source {world} {a} {b} path info same unknown stood = subst (λ (j : Journal). Looked world (λ (p : List ℕ). p ≡ path) a j) (sym same) (record {
  starts = refl;
  heard = refl;
  kept = λ x h. subst (λ (ss : Sights). In x ss) (sym sights) (In-left x (sights_of a.stats) ((path, info) ∷ []) h);
  came = λ p i h. elim (In-either (p, i) (sights_of a.stats) ((path, info) ∷ []) (subst (λ (ss : Sights). In (p, i) ss) sights h)) [
    | inl k ↦ inl k
    | inr k ↦
        (let pair = In-one k in
        let first : p ≡ path = ap (λ (z : List ℕ × Info). z.0) pair in
        let second : i ≡ info = ap (λ (z : List ℕ × Info). z.1) pair in
        inr (record {
          was_asked = first;
          unknown = subst (λ (q : List ℕ). IsUnknown a q) (sym first) unknown;
          stood = λ t. ap (λ (q : List ℕ). world.at q Follow) first ∙ stood t ∙ sym second;
        }))
  ];
})
  where
    sights : sights_of (a.stats ++ record { path = path; info = info } ∷ []) ≡ sights_of a.stats ++ (path, info) ∷ []
    sights = map-append (λ (s : StatSeen). (s.path, s.info)) a.stats (record { path = path; info = info } ∷ [])
