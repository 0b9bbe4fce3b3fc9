-- What the code of the first row says of the table, and what the test of distinct rows says.
use Rattle.std.proofs.Common.{◌≡◌, ℕ, Bool, true, false, ◌&&◌, cond, eqb, List, [], ◌∷◌, ◌++◌, Option, Some, None, refl, sym, ◌∙◌, ap, subst}
use Rattle.std.specs.Prelude.{bytes_eq, IfSome, IfNone, IsTrue, ◌↔◌, not}
use Rattle.std.specs.Option.{is_some}
use Rattle.std.proofs.lemmas.Bool.{eqb-true}
use Rattle.std.proofs.lemmas.Bool.Decides.{Decides-eqb}
use Rattle.std.proofs.lemmas.Slice.Eq.{bytes_eq-Decides}
use Rattle.case_table.specs.declared.cases.Case.{Case}
use Rattle.case_table.specs.Table.{is_row_of, code_of, HasNone, IsFirst, are_distinct, AreDistinct, StandsIn}

and-first : (a b : Bool) → (a && b) ≡ true → a ≡ true
and-first true b e = refl
and-first false b e = e

and-second : (a b : Bool) → (a && b) ≡ true → b ≡ true
and-second true b e = e
and-second false b e = cc e

and-true : (a b : Bool) → a ≡ true → b ≡ true → (a && b) ≡ true
and-true a b e f = rw (e, f) refl

-- a row that passes the test has the group and the name
row-group : (group : ℕ) (name : List ℕ) (row : Case) → is_row_of group name row ≡ true → row.group ≡ group
row-group group name row e = eqb-true row.group group (and-first (eqb row.group group) (bytes_eq row.name.now name) e)

row-name : (group : ℕ) (name : List ℕ) (row : Case) → is_row_of group name row ≡ true → row.name.now ≡ name
row-name group name row e = (bytes_eq-Decides row.name.now name).0 (and-second (eqb row.group group) (bytes_eq row.name.now name) e)

row-passes : (group : ℕ) (name : List ℕ) (row : Case) → row.group ≡ group → row.name.now ≡ name → is_row_of group name row ≡ true
row-passes group name row g n = and-true (eqb row.group group) (bytes_eq row.name.now name) ((Decides-eqb row.group group).1 g) ((bytes_eq-Decides row.name.now name).1 n)

-- what the answer of a look-up says of the table
abbrev Tells : List Case → ℕ → List ℕ → Option ℕ → Type 0
Tells rows group name None = HasNone rows group name
Tells rows group name (Some code) = IsFirst rows group name code

tells-here : (row : Case) (rows : List Case) (group : ℕ) (name : List ℕ) → is_row_of group name row ≡ true → IsFirst (row ∷ rows) group name row.code
tells-here row rows group name e = record {
  before = [];
  row = row;
  after = rows;
  whole = refl;
  none_before = tt;
  group_is = row-group group name row e;
  name_is = row-name group name row e;
  code_is = refl;
}

tells-later : (row : Case) (rows : List Case) (group : ℕ) (name : List ℕ) (answer : Option ℕ) → is_row_of group name row ≡ false → Tells rows group name answer
    → Tells (row ∷ rows) group name answer
tells-later row rows group name None e t = (e, t)
tells-later row rows group name (Some code) e t = record {
  before = row ∷ t.before;
  row = t.row;
  after = t.after;
  whole = ap (λ z. row ∷ z) t.whole;
  none_before = (e, t.none_before);
  group_is = t.group_is;
  name_is = t.name_is;
  code_is = t.code_is;
}

tells-next : (row : Case) (rows : List Case) (group : ℕ) (name : List ℕ) (test : Bool) → is_row_of group name row ≡ test → Tells rows group name (code_of rows group name)
    → Tells (row ∷ rows) group name (cond test (Some row.code) (code_of rows group name))
tells-next row rows group name true e t = tells-here row rows group name e
tells-next row rows group name false e t = tells-later row rows group name (code_of rows group name) e t

tells : (rows : List Case) (group : ℕ) (name : List ℕ) → Tells rows group name (code_of rows group name)
tells [] group name = tt
tells (row ∷ rows) group name = tells-next row rows group name (is_row_of group name row) refl (tells rows group name)

tells-IfSome : (rows : List Case) (group : ℕ) (name : List ℕ) (answer : Option ℕ) → Tells rows group name answer → IfSome answer (λ code. IsFirst rows group name code)
tells-IfSome rows group name None t = tt
tells-IfSome rows group name (Some code) t = t

tells-IfNone : (rows : List Case) (group : ℕ) (name : List ℕ) (answer : Option ℕ) → Tells rows group name answer → IfNone answer (HasNone rows group name)
tells-IfNone rows group name None t = t
tells-IfNone rows group name (Some code) t = tt

pub code-first : (rows : List Case) (group : ℕ) (name : List ℕ) (answer : Option ℕ) → answer ≡ code_of rows group name → IfSome answer (λ code. IsFirst rows group name code)
code-first rows group name answer e =
    let P : Option ℕ → Type 0 = Tells rows group name in
    tells-IfSome rows group name answer (subst P (sym e) (tells rows group name))

pub code-none : (rows : List Case) (group : ℕ) (name : List ℕ) (answer : Option ℕ) → answer ≡ code_of rows group name → IfNone answer (HasNone rows group name)
code-none rows group name answer e =
    let P : Option ℕ → Type 0 = Tells rows group name in
    tells-IfNone rows group name answer (subst P (sym e) (tells rows group name))

-- where no row has the group and the name, there is no code
HasNone-code : (rows : List Case) (group : ℕ) (name : List ℕ) → HasNone rows group name → code_of rows group name ≡ None
HasNone-code [] group name h = refl
HasNone-code (row ∷ rows) group name h = ap (λ test. cond test (Some row.code) (code_of rows group name)) h.0 ∙ HasNone-code rows group name h.1

no-code : (rows : List Case) (group : ℕ) (name : List ℕ) (answer : Option ℕ) → not (is_some answer) ≡ true → Tells rows group name answer → HasNone rows group name
no-code rows group name None e t = t
no-code rows group name (Some code) e t = cc e

distinct-only : (rows : List Case) → are_distinct rows ≡ true → AreDistinct rows
distinct-only [] e = tt
distinct-only (row ∷ rows) e =
    let answer = code_of rows row.group row.name.now in (
      no-code rows row.group row.name.now answer (and-first (not (is_some answer)) (are_distinct rows) e) (tells rows row.group row.name.now),
      distinct-only rows (and-second (not (is_some answer)) (are_distinct rows) e),
    )

distinct-back : (rows : List Case) → AreDistinct rows → are_distinct rows ≡ true
distinct-back [] d = refl
distinct-back (row ∷ rows) d =
    ap (λ answer. not (is_some answer) && are_distinct rows) (HasNone-code rows row.group row.name.now d.0) ∙ distinct-back rows d.1

pub distinct-iff : (rows : List Case) (test : Bool) → test ≡ are_distinct rows → IsTrue test ↔ AreDistinct rows
distinct-iff rows test e = ((λ t. distinct-only rows (sym e ∙ t)), (λ d. e ∙ distinct-back rows d))

-- a row that stands in a table without the group and the name does not have them
HasNone-at : (before : List Case) (row : Case) (after : List Case) (group : ℕ) (name : List ℕ) → HasNone (before ++ row ∷ after) group name
    → is_row_of group name row ≡ false
HasNone-at [] row after group name h = h.0
HasNone-at (other ∷ before) row after group name h = HasNone-at before row after group name h.1

-- a row without another's group and name differs from it in these, the other way round too
other-row : (other row : Case) (test : Bool) → is_row_of other.group other.name.now row ≡ false → is_row_of row.group row.name.now other ≡ test → test ≡ false
other-row other row false f e = refl
other-row other row true f e =
    let group = row-group row.group row.name.now other e in
    let name = row-name row.group row.name.now other e in
    cc (row-passes other.group other.name.now row (sym group) (sym name), f)

code-own : (before : List Case) (row : Case) (after : List Case) → AreDistinct (before ++ row ∷ after)
    → code_of (before ++ row ∷ after) row.group row.name.now ≡ Some row.code
code-own [] row after d = ap (λ test. cond test (Some row.code) (code_of after row.group row.name.now)) (row-passes row.group row.name.now row refl refl)
code-own (other ∷ before) row after d =
    let rest = before ++ row ∷ after in
    let differs = other-row other row (is_row_of row.group row.name.now other) (HasNone-at before row after other.group other.name.now d.0) refl in
    ap (λ test. cond test (Some other.code) (code_of rest row.group row.name.now)) differs ∙ code-own before row after d.1

pub code-each : (rows : List Case) (row : Case) → AreDistinct rows → StandsIn rows row → code_of rows row.group row.name.now ≡ Some row.code
code-each rows row d at =
    let P : List Case → Type 0 = AreDistinct in
    ap (λ z. code_of z row.group row.name.now) at.whole ∙ code-own at.before row at.after (subst P at.whole d)
