-- The log of writes.
use Rattle.std.proofs.Common.{◌≡◌, ℕ, Bool, true, false, cond, List, [], ◌∷◌, ◌++◌, refl, inl, inr, ap, sym, ◌∙◌, subst}
use Rattle.std.specs.Prelude.{◌&&◌, Option, Some, None}
use Rattle.file_info.specs.Content.{FileVersion, content, same_list, text_at, Text}
use Rattle.file_info.specs.Lists.{In}
use Rattle.file_info.specs.declared.info.Form.{Form}
use Rattle.file_info.specs.declared.info.Form.TheVariants.{Follow, Link as AsLink}
use Rattle.memory_files.specs.declared.write.What.{What}
use Rattle.memory_files.specs.declared.write.What.TheVariants.{Gone, Dir, Bytes, LinkText}
use Rattle.memory_files.specs.declared.write.Write.{Write}
use Rattle.memory_files.specs.Log.{later, last_of, info_of, what_info, content_of, what_content, standing, AgreesAt, with_known, known_of, Tells}
use Rattle.file_info.proofs.Lists.{In-left, same_list-refl, same_list-true}

later-none : (o : Option Write) → later o None ≡ o
later-none (Some v) = refl
later-none None = refl

later-assoc : (a b c : Option Write) → later (later a b) c ≡ later a (later b c)
later-assoc (Some v) b c = refl
later-assoc None b c = refl

pub last-split : (xs ys : List Write) (p : List ℕ) → last_of (xs ++ ys) p ≡ later (last_of ys p) (last_of xs p)
unfolding last_of
last-split [] ys p = sym (later-none (last_of ys p))
last-split (x ∷ xs) ys p = rw (last-split xs ys p) (later-assoc (last_of ys p) (last_of xs p) (cond (same_list x.path p) (Some x) None))

one-later : (b : Bool) (w : Write) (o : Option Write) → later (cond b (Some w) None) o ≡ cond b (Some w) o
one-later true w o = refl
one-later false w o = refl

pub last-append : (ws : List Write) (w : Write) (p : List ℕ) → last_of (ws ++ w ∷ []) p ≡ cond (same_list w.path p) (Some w) (last_of ws p)
unfolding last_of
last-append ws w p = last-split ws (w ∷ []) p ∙ one-later (same_list w.path p) w (last_of ws p)

pub last-nil : (p : List ℕ) → last_of [] p ≡ None
unfolding last_of
last-nil p = refl

none-yet : (w : Write) (p : List ℕ) (b : Bool) → same_list w.path p ≡ b → (w.path ≡ p → ⊥) → cond b (Some w) None ≡ None
none-yet w p true e no-one = absurd (no-one (same_list-true w.path p e))
none-yet w p false e no-one = refl

pub last-none : (ws : List Write) (p : List ℕ) → ((w : Write) → In w ws → w.path ≡ p → ⊥) → last_of ws p ≡ None
unfolding last_of
last-none [] p h = refl
last-none (w ∷ ws) p h = rw (last-none ws p (λ v i. h v (inr i))) (none-yet w p (same_list w.path p) refl (h w (inl refl)))

-- other paths stay as they are
pub last-apart : (old more : List Write) (p : List ℕ) → ((w : Write) → In w more → w.path ≡ p → ⊥) → last_of (old ++ more) p ≡ last_of old p
last-apart old more p h = rw (last-split old more p, last-none more p h)

pub last-in : (ws : List Write) (p : List ℕ) (w : Write) → last_of ws p ≡ Some w → In w ws × (w.path ≡ p)
unfolding last_of
last-in [] p w e = cc e
last-in (v ∷ ws) p w e = go (last_of ws p) refl e (last-in ws p)
  where
    one : (b : Bool) → same_list v.path p ≡ b → cond b (Some v) None ≡ Some w → In w (v ∷ ws) × (w.path ≡ p)
    one true h f = (let same : v ≡ w = cc f in (inl (sym same), ap (λ (z : Write). z.path) (sym same) ∙ same_list-true v.path p h))
    one false h f = cc f

    go : (o : Option Write) → last_of ws p ≡ o → later o (cond (same_list v.path p) (Some v) None) ≡ Some w
        → ((w' : Write) → last_of ws p ≡ Some w' → In w' ws × (w'.path ≡ p)) → In w (v ∷ ws) × (w.path ≡ p)
    go (Some u) h f ih = (let same : u ≡ w = cc f in let r = ih w (h ∙ ap Some same) in (inr r.0, r.1))
    go None h f ih = one (same_list v.path p) refl f

known-here : (p : List ℕ) (n : ℕ) (x : What) (known m : List FileVersion) → ((k : FileVersion) → In k (with_known p n x known) → text_at m k.path k.info ≡ k.text) → AgreesAt m p n x
known-here p n Gone known m h = tt
known-here p n Dir known m h = tt
known-here p n (Bytes b) known m h = h _ (inl refl)
known-here p n (LinkText t) known m h = tt

known-more : (p : List ℕ) (n : ℕ) (x : What) (known : List FileVersion) (k : FileVersion) → In k known → In k (with_known p n x known)
known-more p n Gone known k i = i
known-more p n Dir known k i = i
known-more p n (Bytes b) known k i = inr i
known-more p n (LinkText t) known k i = i

known-from : (p : List ℕ) (n : ℕ) (x : What) (known m : List FileVersion) → AgreesAt m p n x → ((k : FileVersion) → In k known → text_at m k.path k.info ≡ k.text)
    → (k : FileVersion) → In k (with_known p n x known) → text_at m k.path k.info ≡ k.text
known-from p n Gone known m a rest k i = rest k i
known-from p n Dir known m a rest k i = rest k i
known-from p n (Bytes b) known m a rest k (inl e) = subst (λ (z : FileVersion). text_at m z.path z.info ≡ z.text) (sym e) a
known-from p n (Bytes b) known m a rest k (inr i) = rest k i
known-from p n (LinkText t) known m a rest k i = rest k i

-- what agrees with the log agrees with each write
pub agrees-at : (ws : List Write) (m : List FileVersion) → Tells ws m → (w : Write) → In w ws → AgreesAt m w.path w.number w.what
agrees-at [] m t w i = absurd i
agrees-at (v ∷ ws) m t w (inl e) = subst (λ (z : Write). AgreesAt m z.path z.number z.what) (sym e) (known-here v.path v.number v.what (known_of ws) m t)
agrees-at (v ∷ ws) m t w (inr i) = agrees-at ws m (λ k j. t k (known-more v.path v.number v.what (known_of ws) k j)) w i

-- what agrees with each write agrees with the log
pub agrees-all : (ws : List Write) (m : List FileVersion) → ((w : Write) → In w ws → AgreesAt m w.path w.number w.what) → Tells ws m
agrees-all [] m h k i = absurd i
agrees-all (v ∷ ws) m h k i = known-from v.path v.number v.what (known_of ws) m (h v (inl refl)) (agrees-all ws m (λ w j. h w (inr j))) k i

what-told : (m : List FileVersion) (p : List ℕ) (n : ℕ) (x : What) (f : Form) → AgreesAt m p n x → content m p (what_info n x f) ≡ what_content x f
unfolding content
what-told m p n Gone f a = refl
what-told m p n Dir f a = refl
what-told m p n (Bytes b) f a = ap Text a
what-told m p n (LinkText t) Follow a = refl
what-told m p n (LinkText t) AsLink a = refl

-- where the log tells, a path's content at its information is what stands there
pub standing-told : (ws : List Write) (m : List FileVersion) → Tells ws m → (p : List ℕ) (f : Form) → content m p (info_of (last_of ws p) f) ≡ standing ws p f
unfolding content
standing-told ws m t p f = go (last_of ws p) refl
  where
    go : (o : Option Write) → last_of ws p ≡ o → content m p (info_of o f) ≡ content_of o f
    go None e = refl
    go (Some w) e =
        let r = last-in ws p w e in
        what-told m p w.number w.what f (subst (λ (q : List ℕ). AgreesAt m q w.number w.what) r.1 (agrees-at ws m t w r.0))

pub Tells-before : (old more : List Write) (m : List FileVersion) → Tells (old ++ more) m → Tells old m
Tells-before old more m t = agrees-all old m (λ w i. agrees-at (old ++ more) m t w (In-left w old more i))

-- one write more
pub last-put : (ws : List Write) (w : Write) → last_of (ws ++ w ∷ []) w.path ≡ Some w
last-put ws w = last-append ws w w.path ∙ ap (λ (b : Bool). cond b (Some w) (last_of ws w.path)) (same_list-refl w.path)

pub last-put_apart : (ws : List Write) (w : Write) (p : List ℕ) → (w.path ≡ p → ⊥) → last_of (ws ++ w ∷ []) p ≡ last_of ws p
last-put_apart ws w p h = last-append ws w p ∙ go (same_list w.path p) refl
  where
    go : (b : Bool) → same_list w.path p ≡ b → cond b (Some w) (last_of ws p) ≡ last_of ws p
    go true f = absurd (h (same_list-true w.path p f))
    go false f = refl
