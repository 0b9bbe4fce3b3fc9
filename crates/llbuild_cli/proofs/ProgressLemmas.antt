-- How a world and a journal go on from call to call.
use Rattle.std.proofs.Common.{◌≡◌, ℕ, List, [], ◌∷◌, ◌++◌, map, refl, sym, ◌∙◌, ap, inl, inr, arith, subst}
use Rattle.std.specs.Result.{IsErrAnd}
use Rattle.std.specs.Prelude.{Result, Ok, Err, IfErr, OnErr, ◌⊎◌}
use Rattle.std.proofs.lemmas.List.{map-append}
use Rattle.file_info.proofs.Lists.{map-same}
use Rattle.file_info.specs.Lists.{In}
use Rattle.file_info.specs.declared.info.Info.{Info}
use Rattle.file_info.specs.declared.info.Form.{Form}
use Rattle.file_info.specs.declared.info.Form.TheVariants.{Follow}
use Rattle.outside.specs.View.{DiskView, Told, Keeps, Stayed}
use Rattle.outside.specs.declared.world.NoFault.{NoFault}
use Rattle.build_report.specs.declared.report.End.{End}
use Rattle.build_report.specs.declared.report.Heard.{Heard}
use Rattle.llbuild_cli.specs.Journal.{Journal, Knows, IsUnknown}
use Rattle.llbuild_cli.specs.Look.{IsNew, Looked, CameFrom}
use Rattle.llbuild_cli.specs.Move.{Moved}
use Rattle.llbuild_cli.specs.Sight.{WasHeard, sights_of}

pub keeps_both : {a b c : DiskView} → Keeps a b → Keeps b c → Keeps a c
keeps_both f s = record { infos = λ t. f.infos (s.infos t); contents = λ m t. f.contents m (s.contents m t) }

pub stayed_none : (w : DiskView) → Stayed w w
stayed_none w = record { keeps = record { infos = λ t. t; contents = λ m t. t }; same = λ t. refl; later = omega arith; orders = refl; begins = refl }

pub stayed_both : {a b c : DiskView} → Stayed a b → Stayed b c → Stayed a c
stayed_both f s = record {
  keeps = keeps_both f.keeps s.keeps;
  same = λ t. s.same t ∙ f.same (s.keeps.infos t);
  later = (let x = f.later in let y = s.later in omega arith);
  orders = s.orders ∙ f.orders;
  begins = s.begins ∙ f.begins;
}

-- what stands at a path after a call that changes nothing
pub stayed_at : {a b : DiskView} → Stayed a b → Told b → (p : List ℕ) (f : Form) → b.at p f ≡ a.at p f
stayed_at s t p f = ap (λ (h : List ℕ → Form → Info). h p f) (s.same t)

pub moved_stayed : {written : List ℕ → Type 0} {a b : DiskView} → Stayed a b → Moved written a b
moved_stayed s = record { keeps = s.keeps; same = λ t p f n. stayed_at s t p f; later = s.later }

pub moved_both : {written : List ℕ → Type 0} {a b c : DiskView} → Moved written a b → Moved written b c → Moved written a c
moved_both f s = record {
  keeps = keeps_both f.keeps s.keeps;
  same = λ t p g h. s.same t p g h ∙ f.same (s.keeps.infos t) p g h;
  later = (let x = f.later in let y = s.later in omega arith);
}

pub moved_wider : {narrow wide : List ℕ → Type 0} {a b : DiskView} → ((p : List ℕ) → narrow p → wide p) → Moved narrow a b → Moved wide a b
moved_wider in_wide f = record { keeps = f.keeps; same = λ t p g h. f.same t p g (λ n. h (in_wide p n)); later = f.later }

pub looked_none : (world : DiskView) (asked : List ℕ → Type 0) (j : Journal) → Looked world asked j j
looked_none world asked j = record { starts = refl; heard = refl; kept = λ s i. i; came = λ p i s. inl s }

-- what was known is known after some looks
pub looked_kept : {world : DiskView} {asked : List ℕ → Type 0} {a b : Journal} → Looked world asked a b → (p : List ℕ) (i : Info) → Knows a p i → Knows b p i
looked_kept l p i k = elim k [
  | inl s ↦ inl (l.kept (p, i) s)
  | inr w ↦ inr (subst (λ (hs : List Heard). WasHeard hs p i) (sym l.heard) w)
]

-- what is known after some looks was known, or is a source that came in
pub looked_came : {world : DiskView} {asked : List ℕ → Type 0} {a b : Journal} → Looked world asked a b → (p : List ℕ) (i : Info) → Knows b p i
    → Knows a p i ⊎ (IsNew world asked a p i × In (p, i) (sights_of b.stats))
looked_came l p i k = elim k [
  | inl s ↦ elim (l.came p i s) [ inl o ↦ inl (inl o) | inr n ↦ inr (n, s) ]
  | inr w ↦ inl (inr (subst (λ (hs : List Heard). WasHeard hs p i) l.heard w))
]

-- what comes in later was unknown before
pub unknown_before : {world : DiskView} {asked : List ℕ → Type 0} {a b : Journal} → Looked world asked a b → (p : List ℕ) → IsUnknown b p → IsUnknown a p
unknown_before l p none i k = none i (looked_kept l p i k)

pub looked_both : {world : DiskView} {asked : List ℕ → Type 0} {a b c : Journal} → Looked world asked a b → Looked world asked b c → Looked world asked a c
looked_both {world} {asked} {a} {b} {c} f s = record {
  starts = s.starts ∙ f.starts;
  heard = s.heard ∙ f.heard;
  kept = λ x i. s.kept x (f.kept x i);
  came = λ p i h. elim (s.came p i h) [
    | inl k ↦ f.came p i k
    | inr n ↦ inr (record { was_asked = n.was_asked; unknown = unknown_before f p n.unknown; stood = n.stood })
  ];
}

-- the world went on without a change at these paths
pub looked_on : {old new : DiskView} {asked : List ℕ → Type 0} {a b : Journal}
    → Keeps old new → (Told new → (p : List ℕ) → asked p → new.at p Follow ≡ old.at p Follow) → Looked old asked a b → Looked new asked a b
looked_on keeps same l = record {
  starts = l.starts;
  heard = l.heard;
  kept = l.kept;
  came = λ p i h. elim (l.came p i h) [
    | inl k ↦ inl k
    | inr n ↦ inr (record { was_asked = n.was_asked; unknown = n.unknown; stood = λ t. same t p n.was_asked ∙ n.stood (keeps.infos t) })
  ];
}

pub looked_stayed : {old new : DiskView} {asked : List ℕ → Type 0} {a b : Journal} → Stayed old new → Looked old asked a b → Looked new asked a b
looked_stayed s l = looked_on s.keeps (λ t p a. stayed_at s t p Follow) l

pub looked_wider : {world : DiskView} {narrow wide : List ℕ → Type 0} {a b : Journal} → ((p : List ℕ) → narrow p → wide p) → Looked world narrow a b → Looked world wide a b
looked_wider in_wide l = record {
  starts = l.starts;
  heard = l.heard;
  kept = l.kept;
  came = λ p i h. elim (l.came p i h) [
    | inl k ↦ inl k
    | inr n ↦ inr (record { was_asked = in_wide p n.was_asked; unknown = n.unknown; stood = n.stood })
  ];
}

-- the sources that came in by some looks
pub looked_sources : {world : DiskView} {asked : List ℕ → Type 0} {a b : Journal} → Looked world asked a b → CameFrom asked a b
looked_sources l p i h = elim (l.came p i h) [ inl k ↦ inl k | inr n ↦ inr (n.was_asked, n.unknown) ]

pub if_err : {T E : Type 0} (r : Result T E) (e : E) (P : E → Type 0) → r ≡ Err e → P e → IfErr r P
if_err r e P same u = subst (λ (z : Result _ _). IfErr z P) (sym same) u

pub on_err : {T E : Type 0} (r : Result T E) (A : Type 0) → A → OnErr r A
on_err (Ok x) A a = tt
on_err (Err e) A a = a

-- one information more
pub infos_more : {A B : Type 0} (f g : A → B) (xs : List A) (ys : List B) (x : A) (y : B) → ys ≡ map f xs → ((z : A) → g z ≡ f z) → y ≡ g x → ys ++ y ∷ [] ≡ map g (xs ++ x ∷ [])
infos_more f g xs ys x y all same one =
    ap (λ (zs : List _). zs ++ y ∷ []) (all ∙ map-same f g xs (λ z i. sym (same z)))
    ∙ ap (λ z. map g xs ++ z ∷ []) one ∙ sym (map-append g xs (x ∷ []))

-- an error of which this is known
pub known_err : {T : Type 0} (r : Result T (End NoFault)) (x : End NoFault) → IsErrAnd r (λ (e : End NoFault). e ≡ x) → r ≡ Err x
known_err (Ok t) x h = absurd h
known_err (Err e) x h = ap Err h
