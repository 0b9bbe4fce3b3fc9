-- A scan goes on after the dependencies that it has passed.
use Rattle.std.proofs.Common.{◌≡◌, ◌⊎◌, ℕ, zero, suc, ◌+◌, ◌≤◌, Bool, true, false, List, [], ◌∷◌, take, drop, length, Option, Some, None}
use Rattle.std.proofs.Common.{refl, inl, inr, ap, sym, ◌∙◌, add-one}
use Rattle.std.proofs.lemmas.List.{take_all}
use Rattle.std.specs.Prelude.{◌||◌, nat_le, slice_get}
use Rattle.build_keys.specs.declared.key.Key.{Key}
use Rattle.dependency_scan.proofs.ListLemmas.{drop-get}
use Rattle.engine_rules.specs.declared.row.Dep.{Dep}
use Rattle.engine_rules.specs.declared.row.Row.{Row}
use Rattle.engine_rules.specs.declared.row.Settled.{Settled}
use Rattle.engine_rules.specs.Needs.{Meaning, is_failed}
use Rattle.engine_rules.specs.Known.{row_in}
use Rattle.engine_rules.specs.Scan.{ScanEnd, Waits, Stuck, Changed, Moved, Unchanged, scan, after_dep, moved_path, is_follow}

-- whatever comes after the dependency, it is passed
abbrev pub IsPassed : ℕ → Dep → Option (List ℕ) → Option Row → Type 0
IsPassed built d moved row = (rest : ScanEnd) → after_dep built d moved row rest ≡ rest

-- whatever comes after the dependency, the scan ends with it
pub record EndsIt (built : ℕ) (d : Dep) (moved : Option (List ℕ)) (row : Option Row) : Type 0 where
  pub end : ScanEnd
  pub apart : end ≡ Unchanged → ⊥
  pub ends : (rest : ScanEnd) → after_dep built d moved row rest ≡ end

pub passing : (built : ℕ) (d : Dep) (moved : Option (List ℕ)) (row : Option Row) → IsPassed built d moved row ⊎ EndsIt built d moved row
passing built d (Some path) row = inr (record { end = Moved path; apart = λ e. cc e; ends = λ rest. refl })
passing built d None None = inr (record { end = Waits d.key; apart = λ e. cc e; ends = λ rest. refl })
passing built d None (Some r) = go (is_failed r.value) refl (is_follow d.kind || nat_le r.computed_at built) refl
  where
    go : (f : Bool) → is_failed r.value ≡ f → (c : Bool) → (is_follow d.kind || nat_le r.computed_at built) ≡ c
        → IsPassed built d None (Some r) ⊎ EndsIt built d None (Some r)
    go true e c h = inr (record { end = Stuck; apart = λ x. cc x; ends = λ rest. rw e refl })
    go false e true h = inl (λ rest. rw (e, h) refl)
    go false e false h = inr (record { end = Changed d.key; apart = λ x. cc x; ends = λ rest. rw (e, h) refl })

-- the rest of the scan is the whole of it
pub passed-drop : (m : Meaning) (k : Key) (settled : List Settled) (built n : ℕ) (ds : List Dep) → scan m k settled built (take n ds) ≡ Unchanged
    → scan m k settled built ds ≡ scan m k settled built (drop n ds)
passed-drop m k settled built zero ds e = refl
passed-drop m k settled built (suc n) [] e = refl
passed-drop m k settled built (suc n) (d ∷ ds) e =
    go (passing built d (moved_path m k d) (row_in settled d.key)) (λ more. passed-drop m k settled built n ds more)
  where
    go : IsPassed built d (moved_path m k d) (row_in settled d.key) ⊎ EndsIt built d (moved_path m k d) (row_in settled d.key)
        → (scan m k settled built (take n ds) ≡ Unchanged → scan m k settled built ds ≡ scan m k settled built (drop n ds))
        → scan m k settled built (d ∷ ds) ≡ scan m k settled built (drop n ds)
    go (inl passes) rest = passes (scan m k settled built ds) ∙ rest (sym (passes (scan m k settled built (take n ds))) ∙ e)
    go (inr end) rest = absurd (end.apart (sym (end.ends (scan m k settled built (take n ds))) ∙ e))

-- with one more dependency, the scan ends as it does at that one
pub passed-more : (m : Meaning) (k : Key) (settled : List Settled) (built n : ℕ) (ds : List Dep) (d : Dep) (end : ScanEnd)
    → scan m k settled built (take n ds) ≡ Unchanged → slice_get ds n ≡ Some d
    → after_dep built d (moved_path m k d) (row_in settled d.key) Unchanged ≡ end → scan m k settled built (take (suc n) ds) ≡ end
passed-more m k settled built zero [] d end e at p = cc at
passed-more m k settled built (suc n) [] d end e at p = cc at
passed-more m k settled built zero (x ∷ ds) d end e at p = (let same : x ≡ d = cc at in rw same p)
passed-more m k settled built (suc n) (x ∷ ds) d end e at p =
    go (passing built x (moved_path m k x) (row_in settled x.key)) (λ more. passed-more m k settled built n ds d end more at p)
  where
    go : IsPassed built x (moved_path m k x) (row_in settled x.key) ⊎ EndsIt built x (moved_path m k x) (row_in settled x.key)
        → (scan m k settled built (take n ds) ≡ Unchanged → scan m k settled built (take (suc n) ds) ≡ end)
        → scan m k settled built (take (suc (suc n)) (x ∷ ds)) ≡ end
    go (inl passes) rest = passes (scan m k settled built (take (suc n) ds)) ∙ rest (sym (passes (scan m k settled built (take n ds))) ∙ e)
    go (inr end) rest = absurd (end.apart (sym (end.ends (scan m k settled built (take n ds))) ∙ e))

-- the same, counted from 0 by the loop, where it is passed
pub passed-next : (m : Meaning) (k : Key) (settled : List Settled) (built n : ℕ) (ds : List Dep) (d : Dep) → scan m k settled built (take n ds) ≡ Unchanged
    → slice_get ds n ≡ Some d → IsPassed built d (moved_path m k d) (row_in settled d.key) → scan m k settled built (take (n + 1) ds) ≡ Unchanged
passed-next m k settled built n ds d e at p = rw add-one (passed-more m k settled built n ds d Unchanged e at (p Unchanged))

-- what ends a scan is no passing
never-passed : (built : ℕ) (d : Dep) (moved : Option (List ℕ)) (row : Option Row) (end : ScanEnd)
    → ((rest : ScanEnd) → after_dep built d moved row rest ≡ end) → end ≡ Unchanged → ⊥
never-passed built d moved row end ends e = go (passing built d moved row)
  where
    go : IsPassed built d moved row ⊎ EndsIt built d moved row → ⊥
    go (inl passes) = (let never : Stuck ≡ Unchanged = sym (passes Stuck) ∙ ends Stuck ∙ e in cc never)
    go (inr one) = one.apart (sym (one.ends Stuck) ∙ ends Stuck ∙ e)

-- the next dependency ends the scan, so it is not passed
pub passed-furthest : (m : Meaning) (k : Key) (settled : List Settled) (built n : ℕ) (ds : List Dep) (d : Dep) (end : ScanEnd)
    → scan m k settled built (take n ds) ≡ Unchanged → slice_get ds n ≡ Some d
    → ((rest : ScanEnd) → after_dep built d (moved_path m k d) (row_in settled d.key) rest ≡ end)
    → scan m k settled built (take (n + 1) ds) ≡ Unchanged → length ds ≤ n
passed-furthest m k settled built n ds d end e at ends passed =
    absurd (never-passed built d (moved_path m k d) (row_in settled d.key) end ends
    (sym (rw add-one (passed-more m k settled built n ds d end e at (ends Unchanged))) ∙ passed))

-- the scan ends at the next dependency
pub passed-end : (m : Meaning) (k : Key) (settled : List Settled) (built n : ℕ) (ds : List Dep) (d : Dep) (end : ScanEnd)
    → scan m k settled built (take n ds) ≡ Unchanged → slice_get ds n ≡ Some d
    → ((rest : ScanEnd) → after_dep built d (moved_path m k d) (row_in settled d.key) rest ≡ end) → scan m k settled built ds ≡ end
passed-end m k settled built n ds d end e at ends =
    passed-drop m k settled built n ds e ∙ ap (scan m k settled built) (drop-get ds n d at) ∙ ends (scan m k settled built (drop (n + 1) ds))

-- nothing is left
pub passed-all : (m : Meaning) (k : Key) (settled : List Settled) (built n : ℕ) (ds : List Dep) → length ds ≤ n
    → scan m k settled built (take n ds) ≡ Unchanged → scan m k settled built ds ≡ Unchanged
passed-all m k settled built n ds long e = ap (scan m k settled built) (sym (take_all n ds long)) ∙ e
