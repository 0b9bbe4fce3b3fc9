-- One level of a tree on one line.
use Rattle.std.proofs.Common.{◌≡◌, ℕ, suc, ◌-◌, ◌<◌, List, [], ◌∷◌, ◌++◌, map, ap, ◌∙◌, arith}
use Rattle.yaml_profile.specs.declared.yaml.Yaml.{Yaml}
use Rattle.yaml_profile.specs.declared.yaml.Yaml.TheVariants.{Seq, Map, outs-Seq, outs-Map}
use Rattle.yaml_profile.specs.declared.yaml.Pair.{Pair}
use Rattle.yaml_profile.specs.Print.{with_commas, layer_text, pair_text, flow_text}

deeper : (d : ℕ) → 0 < d → d ≡ suc (d - 1)
deeper d h = omega arith

pub flow_seq : (d : ℕ) (ys : List Yaml) → 0 < d
    → flow_text d (Seq ys) ≡ 91 ∷ (with_commas (map (flow_text (d - 1)) ys) ++ 93 ∷ [])
unfolding flow_text
flow_seq d ys h = ap (λ (k : ℕ). flow_text k (Seq ys)) (deeper d h) ∙ ap (layer_text (flow_text (d - 1))) (outs-Seq ys)

pub flow_map : (d : ℕ) (ps : List Pair) → 0 < d
    → flow_text d (Map ps) ≡ 123 ∷ (with_commas (map (pair_text (flow_text (d - 1))) ps) ++ 125 ∷ [])
unfolding flow_text
flow_map d ps h = ap (λ (k : ℕ). flow_text k (Map ps)) (deeper d h) ∙ ap (layer_text (flow_text (d - 1))) (outs-Map ps)
