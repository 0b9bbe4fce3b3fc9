-- Orders and starts, joined by the tickets.
use Rattle.std.proofs.Common.{◌≡◌, ◌⊎◌, ◌≤◌, ◌<◌, ◌+◌, ℕ, zero, suc, List, [], ◌∷◌, ◌++◌, map, length, refl, sym, ◌∙◌, ap, inl, inr, arith, length-append, append-nil}
use Rattle.std.proofs.lemmas.List.{length-map}
use Rattle.std.specs.Prelude.{slice_get, Some}
use Rattle.std.proofs.lemmas.Option.{slice_get_within}
use Rattle.file_info.proofs.Lists.{In-get, In-index, get-append, get-map, get-map-back}
use Rattle.file_info.specs.Lists.{IsDistinct}
use Rattle.outside.specs.declared.world.NoFault.{NoFault}
use Rattle.build_manifest.specs.declared.command.Command.{Command}
use Rattle.build_report.specs.declared.report.Heard.{Heard}
use Rattle.build_report.specs.declared.report.Report.{Report}
use Rattle.build_report.specs.declared.report.Start.{Start}
use Rattle.llbuild_cli.specs.Outcome.{AreInStep, AreOrders, AllEnded, heard_names}
use Rattle.llbuild_cli.specs.Run.{AreOrdersOf, EachEnded}
use Rattle.llbuild_cli.proofs.JournalLemmas.{get_some}
use Rattle.llbuild_cli.proofs.NeedLemmas.{less_or_not}
use Rattle.llbuild_cli.proofs.StartLemmas.{start_names}
use Rattle.llbuild_cli.proofs.StopLemmas.{even_names}

-- where each element stands at one place none stands twice
distinct_by : {A : Type 0} (xs : List A) → ((k j : ℕ) (x : A) → slice_get xs k ≡ Some x → slice_get xs j ≡ Some x → k ≡ j) → IsDistinct xs
distinct_by [] one = tt
distinct_by (x ∷ xs) one = (
  (λ i. let (j, at_j) = In-index x xs i in let places : zero ≡ suc j = one zero (suc j) x refl at_j in absurd (omega arith)),
  distinct_by xs (λ k j y a b. let places : suc k ≡ suc j = one (suc k) (suc j) y a b in omega arith),
)

pub orders_of : (commands : List Command) (report : Report NoFault) → AreInStep report.starts report.heard → AreOrders commands report.heard → AreOrdersOf commands report
orders_of commands report step orders = record {
  each = λ h i.
      (let (k, at_k) = In-index h report.heard i in
      let named : slice_get (heard_names report.heard) k ≡ Some h.order.command = get-map (λ (x : Heard). x.order.command) report.heard k h at_k in
      let there : slice_get (start_names report.starts) k ≡ Some h.order.command = ap (λ (ns : List (List ℕ)). slice_get ns k) step.names ∙ get-append (heard_names report.heard) step.rest k h.order.command named in
      let found = get-map-back (λ (s : Start). s.command) report.starts k h.order.command there in
      let one = orders.each h i in
      record { place = k; ticket = orders.tickets k h at_k; start = found.0; at = found.1.0; started = found.1.1; command = one.command; named = one.named; name = one.name; is = one.is });
  once = distinct_by (map (λ (h : Heard). h.order.ticket) report.heard) (λ k j t at_k at_j.
      let a = get-map-back (λ (h : Heard). h.order.ticket) report.heard k t at_k in
      let b = get-map-back (λ (h : Heard). h.order.ticket) report.heard j t at_j in
      let first : t ≡ k + 1 = sym a.1.1 ∙ orders.tickets k a.0 a.1.0 in
      let second : t ≡ j + 1 = sym b.1.1 ∙ orders.tickets j b.0 b.1.0 in
      omega arith);
  few =
      (let all : length (start_names report.starts) ≡ length (heard_names report.heard ++ step.rest) = ap length step.names in
      let parts = length-append (heard_names report.heard) step.rest in
      let a = length-map report.starts (λ (s : Start). s.command) in
      let b = length-map report.heard (λ (h : Heard). h.order.command) in
      let few = step.few in
      omega arith);
}

pub each_ended : (commands : List Command) (report : Report NoFault) → AreOrders commands report.heard → AllEnded report.starts report.heard → EachEnded report
each_ended commands report orders ended k s at_k =
    let less = slice_get_within report.starts k s at_k in
    let even = even_names report.starts report.heard ended in
    let (h, at_h) = get_some report.heard k (omega arith) in
    (h, (In-get report.heard k h at_h, orders.tickets k h at_h))

no_rest : (rest : List (List ℕ)) → length rest < 1 → rest ≡ []
no_rest [] h = refl
no_rest (x ∷ xs) h = absurd (omega arith)

-- no start lacks the end of its order where each has one
rest_none : (commands : List Command) (report : Report NoFault) → AreOrders commands report.heard → EachEnded report → length report.starts ≤ length report.heard
rest_none commands report orders each = go (less_or_not (length report.heard) (length report.starts))
  where
    go : (length report.heard < length report.starts) ⊎ (length report.starts ≤ length report.heard) → length report.starts ≤ length report.heard
    go (inr done) = done
    go (inl more) =
        let (s, at_s) = get_some report.starts (length report.heard) more in
        let (h, both) = each (length report.heard) s at_s in
        let (j, at_j) = In-index h report.heard both.0 in
        let less = slice_get_within report.heard j h at_j in
        let ticket : j + 1 ≡ length report.heard + 1 = sym (orders.tickets j h at_j) ∙ both.1 in
        absurd (omega arith)

pub all_ended : (commands : List Command) (report : Report NoFault) → AreInStep report.starts report.heard → AreOrders commands report.heard → EachEnded report → AllEnded report.starts report.heard
all_ended commands report step orders each =
    let none = rest_none commands report orders each in
    let all : length (start_names report.starts) ≡ length (heard_names report.heard ++ step.rest) = ap length step.names in
    let parts = length-append (heard_names report.heard) step.rest in
    let a = length-map report.starts (λ (s : Start). s.command) in
    let b = length-map report.heard (λ (h : Heard). h.order.command) in
    let empty : step.rest ≡ [] = no_rest step.rest (omega arith) in
    sym (step.names ∙ ap (λ (ns : List (List ℕ)). heard_names report.heard ++ ns) empty ∙ append-nil (heard_names report.heard))
