use Rattle.std.proofs.Common.{◌≡◌, ℕ, List, [], ◌∷◌, Bool, true, false, cond, refl, sym, ◌∙◌, ap, subst}
use Rattle.std.specs.Prelude.{Option, Some, None, String, string_bytes}
use Rattle.std.specs.String.{string_eq}
use Rattle.std.specs.HashMap.{HashMap, get, get_by_text}
use Rattle.std.specs.Map.{lookup}
use Rattle.std.specs.Bool.{Decides}
use Rattle.std.specs.Str.{bytes_eq}
use Rattle.std.proofs.lemmas.Slice.Eq.{bytes_eq-Decides}
use Rattle.llbuild_cli.proofs.serial.seen.make_room.Goals as goal

found_first : {K X : Type 0} (test : K → Bool) (e : K × X) (es : List (K × X)) (x : X) → ((y : X) → lookup test es ≡ Some y → (k : K) × (test k ≡ true))
    → (b : Bool) → test e.0 ≡ b → cond b (Some e.1) (lookup test es) ≡ Some x → (k : K) × (test k ≡ true)
found_first test e es x later true is h = (e.0, is)
found_first test e es x later false is h = later x h

-- a key that passes stands where something is looked up
found_key : {K X : Type 0} (test : K → Bool) (es : List (K × X)) (x : X) → lookup test es ≡ Some x → (k : K) × (test k ≡ true)
found_key test [] x e = cc e
found_key test (e ∷ es) x h = found_first test e es x (λ y. found_key test es y) (test e.0) refl h

key_is : {A : Type 0} (p : List ℕ) (k : String A) → bytes_eq p (string_bytes k) ≡ true → p ≡ string_bytes k
key_is p k e = (subst (λ (b : Bool). Decides b (p ≡ string_bytes k)) e (bytes_eq-Decides p (string_bytes k))).0 refl

agree_at : {A X S : Type 0} (m n : HashMap (String A) X S) → ((q : String A) → get string_eq n q ≡ get string_eq m q) → (p : List ℕ) (k : String A) → p ≡ string_bytes k
    → get_by_text n p ≡ get_by_text m p
agree_at m n same p k e = ap (get_by_text n) e ∙ same k ∙ ap (get_by_text m) (sym e)

agree_by : {A X S : Type 0} (m n : HashMap (String A) X S) → ((q : String A) → get string_eq n q ≡ get string_eq m q) → (p : List ℕ)
    → (a : Option X) → get_by_text n p ≡ a → (b : Option X) → get_by_text m p ≡ b → get_by_text n p ≡ get_by_text m p
agree_by m n same p None ea None eb = ea ∙ sym eb
agree_by m n same p (Some x) ea b eb = (let r = found_key (λ k. bytes_eq p (string_bytes k)) n.entries x ea in agree_at m n same p r.0 (key_is p r.0 r.1))
agree_by m n same p None ea (Some y) eb = (let r = found_key (λ k. bytes_eq p (string_bytes k)) m.entries y eb in agree_at m n same p r.0 (key_is p r.0 r.1))

pub returns-clause-same : goal.returns-clause-same
returns-clause-same c p = agree_by c.args.infos.now c.reserve.new.self c.reserve.ensures.entries.2 p (get_by_text c.reserve.new.self p) refl (get_by_text c.args.infos.now p) refl
