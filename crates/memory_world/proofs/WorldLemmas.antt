-- A world whose log went on.
use Rattle.std.proofs.Common.{◌≡◌, ◌≤◌, ℕ, true, false, List, refl, inl, inr, ap, sym, ◌∙◌, subst}
use Rattle.std.specs.Prelude.{Option, Some, None}
use Rattle.file_info.specs.Content.{FileVersion, content}
use Rattle.file_info.specs.Lists.{In}
use Rattle.file_info.specs.declared.info.Info.TheVariants as infos
use Rattle.file_info.specs.declared.info.Form.{Form}
use Rattle.file_info.specs.declared.info.Form.TheVariants.{Follow, Link}
use Rattle.outside.specs.declared.disk.FileBytes.{FileBytes}
use Rattle.outside.specs.declared.order.Order.{Order}
use Rattle.memory_files.specs.declared.write.What.{What}
use Rattle.memory_files.specs.declared.write.What.TheVariants.{Gone, Dir, Bytes, LinkText}
use Rattle.memory_files.specs.declared.write.Write.{Write}
use Rattle.outside.specs.View.{Keeps, Stayed, next_count}
use Rattle.outside.specs.FileRead.{bytes_of}
use Rattle.outside.specs.Outcome.{SameBut, KeepsDirectories}
use Rattle.memory_files.specs.Log.{later, last_of, info_of, what_info, is_directory, standing, Tells}
use Rattle.memory_world.specs.Performance.{WentOn}
use Rattle.memory_world.specs.Memory.{Memory, seen_of, faults_after, after_call, with_left}
use Rattle.memory_files.proofs.LogLemmas.{last-split, last-in, last-apart, standing-told, Tells-before}

-- the world after an order was performed
pub left-is : (was : Memory) (new writes : List Write) (left : List Order) (calls faults : ℕ) → new ≡ writes → calls ≡ next_count was.calls
    → faults ≡ faults_after was.failing calls was.faults
    → record { writes = new; begun = left; begins = was.begins; failing = was.failing; calls = calls; faults = faults } ≡ with_left (after_call was) writes left
left-is was new writes left calls faults w c f = rw (w, f, c) refl

-- the same writes tell the same
pub keeps_writes : {f g b d : ℕ} {o p : List Order} (was ws : List Write) → ws ≡ was → Keeps (seen_of was f o b) (seen_of ws g p d)
keeps_writes was ws e = record { infos = λ t. t; contents = λ m t. subst (λ (xs : List Write). Tells xs m) e t }

-- a call that reads
pub stayed_writes : {f g b d : ℕ} {o p : List Order} (was ws : List Write) → ws ≡ was → f ≤ g → p ≡ o → d ≡ b → Stayed (seen_of was f o b) (seen_of ws g p d)
stayed_writes was ws e later orders begins = record {
  keeps = keeps_writes was ws e;
  same = λ t. ap (λ (xs : List Write). λ (q : List ℕ) (h : Form). info_of (last_of xs q) h) e;
  later = later;
  orders = orders;
  begins = begins;
}

-- what is read is what the map gives
pub read-told : (ws was : List Write) (m : List FileVersion) (p : List ℕ) (most : ℕ) (b : FileBytes) → Tells ws m → ws ≡ was → b ≡ bytes_of most (standing ws p Follow)
    → b ≡ bytes_of most (content m p (info_of (last_of was p) Follow))
read-told ws was m p most b t same e =
    e ∙ ap (bytes_of most) (sym (standing-told ws m t p Follow)) ∙ ap (λ (z : List Write). bytes_of most (content m p (info_of (last_of z p) Follow))) same

-- what tells after a log went on told before
pub went-keeps : {f g b d : ℕ} {o p : List Order} (ps : List (List ℕ)) (was ws : List Write) → WentOn ps was ws → Keeps (seen_of was f o b) (seen_of ws g p d)
went-keeps ps was ws w = record { infos = λ t. t; contents = λ m t. Tells-before was w.more m (subst (λ (xs : List Write). Tells xs m) w.is t) }

went-apart : (ps : List (List ℕ)) (old new : List Write) → WentOn ps old new → (p : List ℕ) → (In p ps → ⊥) → last_of new p ≡ last_of old p
went-apart ps old new w p apart =
    ap (λ (ws : List Write). last_of ws p) w.is ∙ last-apart old w.more p (λ v i e. apart (subst (λ (q : List ℕ). In q ps) e (w.at v i)))

-- only outputs of the order changed
pub went-same : (order : Order) (orders : List Order) (old new : List Write) → In order orders → WentOn order.outputs old new
    → SameBut orders (λ p f. info_of (last_of old p) f) (λ p f. info_of (last_of new p) f)
went-same order orders old new i w p f apart =
    ap (λ (o : Option Write). info_of o f) (went-apart order.outputs old new w p (λ j. apart (order, i, inl j)))

directory-what : (n : ℕ) (x : What) (f : Form) → what_info n x f ≡ infos.Directory → is_directory (what_info n x Link) ≡ true
directory-what n Gone f e = cc e
directory-what n Dir f e = refl
directory-what n (Bytes b) f e = cc e
directory-what n (LinkText t) Follow e = cc e
directory-what n (LinkText t) Link e = cc e

directory-is : (o : Option Write) (f : Form) → info_of o f ≡ infos.Directory → is_directory (info_of o Link) ≡ true
directory-is None f e = cc e
directory-is (Some w) f e = directory-what w.number w.what f e

-- what was a directory is one
pub went-directories : (ps : List (List ℕ)) (old new : List Write) → WentOn ps old new → KeepsDirectories (λ p f. info_of (last_of old p) f) (λ p f. info_of (last_of new p) f)
went-directories ps old new w p f e = go (last_of w.more p) refl
  where
    last-is : (o : Option Write) → last_of w.more p ≡ o → info_of (last_of new p) f ≡ info_of (later o (last_of old p)) f
    last-is o h = ap (λ (ws : List Write). info_of (last_of ws p) f) w.is ∙ ap (λ (z : Option Write). info_of z f) (last-split old w.more p ∙ ap (λ (z : Option Write). later z (last_of old p)) h)

    go : (o : Option Write) → last_of w.more p ≡ o → info_of (last_of new p) f ≡ infos.Directory
    go None h = last-is None h ∙ e
    go (Some v) h =
        let found = last-in w.more p v h in
        elim (w.spared v found.0) [
          | inl spared ↦ (let here : is_directory (info_of (last_of old p) Link) ≡ false = subst (λ (q : List ℕ). is_directory (info_of (last_of old q) Link) ≡ false) found.1 spared in
              cc (here, directory-is (last_of old p) f e))
          | inr made ↦ last-is (Some v) h ∙ ap (λ (x : What). what_info v.number x f) made
        ]
