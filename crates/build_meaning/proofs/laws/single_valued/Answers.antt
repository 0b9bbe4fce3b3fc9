use Rattle.std.proofs.Common.{[]}
use Rattle.build_meaning.proofs.FreshLemmas.{Fresh-unique}
use Rattle.build_meaning.proofs.laws.single_valued.Goals as goal

pub returns : goal.returns
returns g c m commands seen one once p x y f h =
    Fresh-unique (λ s d o q a b. (g.L.Law.function s d [] [] o q a b (λ r v w i j. absurd i)).1) one once f y h
