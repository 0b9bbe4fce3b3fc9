use Rattle.std.proofs.Common.{◌≡◌, ◌-◌, ℕ, List, take, drop, length, sym, subst, arith, length-drop, ap}
use Rattle.std.proofs.lemmas.List.{take_all}
use Rattle.outside.specs.View.{Grew}
use Rattle.llbuild_cli.proofs.SinkLemmas.{Grew-both, take-both}
use Rattle.llbuild_cli.proofs.put_all.put_all.Goals as goal

pub rest-preserved : goal.rest-preserved
rest-preserved g c =
    let p : List ℕ = c.args.piece.now in
    let at = c.rest.at in
    let inside = c.rest.invariant.inside in
    let whole : take (length p - at) (drop at p) ≡ drop at p = take_all (length p - at) (drop at p) (omega (arith, length-drop at p)) in
    let wrote : Grew (g.O.Sink.view c.rest.out) (g.O.Sink.view c.put.new.self) (take c.in_ok-at.field-0 (drop at p)) =
    subst (λ (q : List ℕ). Grew (g.O.Sink.view c.rest.out) (g.O.Sink.view c.put.new.self) (take c.in_ok-at.field-0 q)) whole c.in_ok-at.ensures.wrote in
    let within = c.in_ok-at.ensures.within in
    record {
      inside = omega (arith, length-drop at p, ap (λ (q : List ℕ). length q) whole, within);
      told = subst (λ (q : List ℕ). Grew (g.O.Sink.view c.args.out.now) (g.O.Sink.view c.put.new.self) q) (sym (take-both p at c.in_ok-at.field-0))
          (Grew-both (g.O.Sink.view c.args.out.now) (g.O.Sink.view c.rest.out) (g.O.Sink.view c.put.new.self) (take at p) (take c.in_ok-at.field-0 (drop at p)) c.rest.invariant.told wrote);
      later = omega (arith, c.put.ensures.later, c.rest.invariant.later);
    }
