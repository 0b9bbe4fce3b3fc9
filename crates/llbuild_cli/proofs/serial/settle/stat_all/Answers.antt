use Rattle.std.proofs.Common.{◌≡◌, ◌+◌, ◌++◌, ◌∷◌, [], ◌∙◌, ℕ, List, take, length, length-append, sym, ap, arith}
use Rattle.std.proofs.lemmas.List.{take_more}
use Rattle.file_info.specs.declared.info.Form.TheVariants.{Follow}
use Rattle.llbuild_cli.proofs.ProgressLemmas.{stayed_at, stayed_both, infos_more}
use Rattle.llbuild_cli.proofs.serial.settle.stat_all.Goals as goal

pub returns-in_err-info-clause-stayed : goal.returns-in_err-info-clause-stayed
returns-in_err-info-clause-stayed g c = stayed_both c.loop-path.invariant.stayed c.stat.ensures.stayed

pub loop-path-preserved : goal.loop-path-preserved
loop-path-preserved g c =
    let items = c.as_slice-path-items.result.now in
    let k = c.loop-path.path-index in
    let old = c.loop-path.invariant in
    let path = c.path-item.result in
    let info = c.in_ok-info.info in
    let view = g.W.Disk.view in
    let stayed = c.stat.ensures.stayed in
    let more : take (k + 1) items ≡ take k items ++ path ∷ [] = take_more items k path c.loop-path-test.true ∙ ap (λ (z : List ℕ). take k items ++ z ∷ []) (sym c.path-item.is) in
    record {
      count = ap length c.in_ok-push.ensures.ok ∙ omega (arith, length-append c.loop-path.infos (info ∷ []), old.count);
      infos = λ t. rw (more, c.in_ok-push.ensures.ok)
          (infos_more (λ (p : List ℕ). (view c.loop-path.world).at p Follow) (λ (p : List ℕ). (view c.stat.new.self).at p Follow) (take k items) c.loop-path.infos path info
          (old.infos (stayed.keeps.infos t))
          (λ p. stayed_at stayed t p Follow)
          (c.in_ok-info.ensures.info t ∙ sym (stayed_at stayed t path Follow)));
      stayed = stayed_both old.stayed stayed;
    }
