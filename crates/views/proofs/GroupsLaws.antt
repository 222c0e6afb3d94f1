-- The groups of a form share it out (specs/Grouping.antt), by any weight of a row that is 0 where its coefficient
-- is: the sum over all rows is that over the rows in no group and over the groups, each basis once. The value is such a
-- sum.
use mathlib.Core.Path.{◌≡◌, refl, sym, ap, ◌∙◌, subst}
use Prim.Native.Nat.{ℕ, ◌+◌, ◌*◌, ◌≤◌}
use native.Mathlib.Omega.{arith}
use mathlib.Core.List.{List, [], ◌∷◌}
use mathlib.Core.Bool.{Bool, true, false, ◌&&◌}
use lib.Dec.{eqb}
use borrow.Author.Tests.{eqb-true, eq-eqb}
use Rattle.base.specs.Choice.{when}
use Rattle.record.specs.Tree.{Tree}
use Rattle.base.proofs.BoolLaws.{and_true}
use Rattle.expr_refusal.specs.Refusal.{is_expr}
use Rattle.expr.specs.Value.{value}
use Rattle.semilinear.specs.Form.{Row, sum_rows, eq_tree, rows_ok}
use Rattle.decompose.specs.Decompose.{Decomposed, no_basis, masked}
use Rattle.views.specs.Grouping.{view_row, insert_basis, bases_of, ungrouped}
use Rattle.semilinear.proofs.FormLaws.{rows_cons}
use Rattle.semilinear.proofs.AtomLaws.{Atom, tree_atom, eq_of_eq_tree}
use Rattle.views.proofs.ViewLaws.{Seen, seen_row}
use Rattle.views.proofs.BasesLaws.{hits, rising_from, inserted}

-- ---- the sums

-- what the rows come to, each by its weight
unfoldable pub weight_sum : (Row → ℕ) → List Row → ℕ
weight_sum weight [] = 0
weight_sum weight (x ∷ l) = weight x + weight_sum weight l

-- v where the basis is b
unfoldable pub share_of : ℕ → Tree → ℕ → Decomposed → ℕ
share_of w b v no_basis = 0
share_of w b v (masked c m) = when (eq_tree w c b) (λ _. v) (λ _. 0)

-- what the rows of the basis b come to
unfoldable pub basis_sum : (Tree → Bool) → ℕ → (Row → ℕ) → Tree → List Row → ℕ
basis_sum only w weight b [] = 0
basis_sum only w weight b (x ∷ l) = share_of w b (weight x) (view_row only w x) + basis_sum only w weight b l

-- and those of all bases
unfoldable pub bases_sum : (Tree → Bool) → ℕ → (Row → ℕ) → List Tree → List Row → ℕ
bases_sum only w weight [] rows = 0
bases_sum only w weight (b ∷ l) rows = basis_sum only w weight b rows + bases_sum only w weight l rows

-- what a row adds to the value
abbrev pub term_value : ℕ → List ℕ → Row → ℕ
term_value w vars x = x.coeff * value w vars x.tree

value_weight : (w : ℕ) (vars : List ℕ) (rows : List Row) → sum_rows w vars rows ≡ weight_sum (term_value w vars) rows
unfolding sum_rows weight_sum
value_weight w vars [] = refl
value_weight w vars (x ∷ l) = omega (arith, value_weight w vars l)

-- every row's basis is among the bases once
unfoldable pub cover_of : ℕ → List Tree → Decomposed → Bool
cover_of w bases no_basis = true
cover_of w bases (masked c m) = eqb (hits w c bases) 1

unfoldable pub covers : (Tree → Bool) → ℕ → List Tree → List Row → Bool
covers only w bases [] = true
covers only w bases (x ∷ l) = cover_of w bases (view_row only w x) && covers only w bases l

module _ (only : Tree → Bool) (w : ℕ) (weight : Row → ℕ) (none : (x : Row) → x.coeff ≡ 0 → weight x ≡ 0) where
  bases_none : (bases : List Tree) → bases_sum only w weight bases [] ≡ 0
  unfolding bases_sum basis_sum
  bases_none [] = refl
  bases_none (b ∷ l) = omega (arith, bases_none l)

  bases_no_basis : (x : Row) (rows : List Row) → view_row only w x ≡ no_basis → (bases : List Tree)
      → bases_sum only w weight bases (x ∷ rows) ≡ bases_sum only w weight bases rows
  unfolding bases_sum basis_sum share_of
  bases_no_basis x rows e [] = refl
  bases_no_basis x rows e (b ∷ l) = simp e (omega (arith, bases_no_basis x rows e l))

  share_masked : (x : Row) (rows : List Row) (b : Tree) {c : Tree} {m : ℕ} {p : Bool} → view_row only w x ≡ masked c m
      → eq_tree w c b ≡ p
      → basis_sum only w weight b (x ∷ rows)
      ≡ when p (λ _. weight x) (λ _. 0) + basis_sum only w weight b rows
  unfolding basis_sum share_of
  share_masked x rows b e q = simp (e, q)

  bases_masked : (x : Row) (rows : List Row) {c : Tree} {m : ℕ} → view_row only w x ≡ masked c m → (bases : List Tree)
      → bases_sum only w weight bases (x ∷ rows)
      ≡ hits w c bases * weight x + bases_sum only w weight bases rows
  unfolding bases_sum hits
  bases_masked x rows e [] = omega arith
  bases_masked x rows {c} {m} e (b ∷ l) =
      by_test (eq_tree w c b) refl (share_masked x rows b e refl) (bases_masked x rows e l)
    where
      v : ℕ
      v = weight x

      by_test : (p : Bool) → eq_tree w c b ≡ p
          → basis_sum only w weight b (x ∷ rows) ≡ when p (λ _. v) (λ _. 0) + basis_sum only w weight b rows
          → bases_sum only w weight l (x ∷ rows) ≡ hits w c l * v + bases_sum only w weight l rows
          → bases_sum only w weight (b ∷ l) (x ∷ rows) ≡ hits w c (b ∷ l) * v + bases_sum only w weight (b ∷ l) rows
      by_test true q s below = simp q (omega (arith, s, below))
      by_test false q s below = simp q (omega (arith, s, below))

  -- ---- the sum of all rows

  ungrouped_no_basis : (x : Row) (rows : List Row) → view_row only w x ≡ no_basis
      → weight_sum weight (ungrouped only w (x ∷ rows))
      ≡ weight x + weight_sum weight (ungrouped only w rows)
  unfolding ungrouped weight_sum
  ungrouped_no_basis x rows e = simp e

  ungrouped_masked : (x : Row) (rows : List Row) {c : Tree} {m : ℕ} → view_row only w x ≡ masked c m
      → weight_sum weight (ungrouped only w (x ∷ rows)) ≡ weight_sum weight (ungrouped only w rows)
  unfolding ungrouped weight_sum
  ungrouped_masked x rows e =
      simp e (omega (arith, none (record { provenance = x.provenance; tree = x.tree; coeff = 0 }) refl))

  pub shared_out : (bases : List Tree) (rows : List Row) → covers only w bases rows ≡ true
      → weight_sum weight rows ≡ weight_sum weight (ungrouped only w rows) + bases_sum only w weight bases rows
  unfolding covers cover_of weight_sum ungrouped
  shared_out bases [] h = omega (arith, bases_none bases)
  shared_out bases (x ∷ l) h =
      let p = and_true (cover_of w bases (view_row only w x)) (covers only w bases l) h in
      go (view_row only w x) refl p.0 (shared_out bases l p.1)
    where
      go : (d : Decomposed) → view_row only w x ≡ d → cover_of w bases d ≡ true
          → weight_sum weight l ≡ weight_sum weight (ungrouped only w l) + bases_sum only w weight bases l
          → weight_sum weight (x ∷ l)
          ≡ weight_sum weight (ungrouped only w (x ∷ l)) + bases_sum only w weight bases (x ∷ l)
      go no_basis e c below = omega (arith, below, ungrouped_no_basis x l e, bases_no_basis x l e bases)
      go (masked b m) e c below =
          let one : hits w b bases ≡ 1 = eqb-true (hits w b bases) 1 c in
          let all = bases_masked x l e bases in
          let v = ap (λ (n : ℕ). n * weight x) one in
          omega (arith, below, ungrouped_masked x l e, all, v)

-- ---- the bases of the rows

module _ (only : Tree → Bool) (w : ℕ) where
  -- by rising hash, none twice
  pub record Once (bases : List Tree) : Type 0 where
    pub rising : rising_from 0 bases ≡ true
    pub once : (c : Tree) → is_expr c ≡ true → hits w c bases ≤ 1

  pub bases_of_no_basis : (x : Row) (rows : List Row) (found : List Tree) → view_row only w x ≡ no_basis
      → bases_of only w (x ∷ rows) found ≡ bases_of only w rows found
  unfolding bases_of
  bases_of_no_basis x rows found e = simp e

  pub bases_of_masked : (x : Row) (rows : List Row) (found : List Tree) {c : Tree} {m : ℕ} → view_row only w x ≡ masked c
      m
      → bases_of only w (x ∷ rows) found ≡ bases_of only w rows (insert_basis w c found)
  unfolding bases_of
  bases_of_masked x rows found e = simp e

  -- what one more basis does
  record More (b : Tree) (found more : List Tree) : Type 0 where
    still : Once more
    there : hits w b more ≡ 1
    grows : (c : Tree) → is_expr c ≡ true → hits w c found ≤ hits w c more

  between : (b : Tree) → is_expr b ≡ true → (found m : List Tree) → Once found → hits w b m ≡ 1
      → ((c : Tree) → is_expr c ≡ true → eq_tree w c b ≡ false → hits w c m ≡ hits w c found)
      → (c : Tree) → is_expr c ≡ true → (hits w c found ≤ hits w c m) × (hits w c m ≤ 1)
  between b eb found m o one others c ec = go (eq_tree w c b) refl
    where
      go : (p : Bool) → eq_tree w c b ≡ p → (hits w c found ≤ hits w c m) × (hits w c m ≤ 1)
      go true e =
          let z : hits w c m ≡ 1 = ap (λ (t : Tree). hits w t m) (eq_of_eq_tree w c b ec eb e) ∙ one in
          (omega (arith, z, o.once c ec), omega (arith, z))
      go false e = let z = others c ec e in (omega (arith, z), omega (arith, z, o.once c ec))

  more : (b : Tree) → Atom b → (found : List Tree) → Once found → More b found (insert_basis w b found)
  more b ab found o =
      let eb = ab.expr in
      let i = inserted w b ab 0 found o.rising in
      let one : hits w b (insert_basis w b found) ≡ 1 =
      omega (arith, i.there, i.there_most (o.once b eb)) in
      let f = between b eb found (insert_basis w b found) o one i.others in
      record {
        still = record { rising = i.rising (omega arith); once = λ c ec. (f c ec).1 };
        there = one;
        grows = λ c ec. (f c ec).0;
      }

  covers_no_basis : (x : Row) (l : List Row) (bases : List Tree) → view_row only w x ≡ no_basis
      → covers only w bases l ≡ true → covers only w bases (x ∷ l) ≡ true
  unfolding covers cover_of
  covers_no_basis x l bases e h = simp (e, h)

  covers_masked : (x : Row) (l : List Row) (bases : List Tree) {c : Tree} {m : ℕ} → view_row only w x ≡ masked c m
      → hits w c bases ≡ 1 → covers only w bases l ≡ true → covers only w bases (x ∷ l) ≡ true
  unfolding covers cover_of
  covers_masked x l bases {c} e one h = simp (e, eq-eqb (hits w c bases) 1 one, h)

  -- the bases of rows, after those found before
  record Found (found bases : List Tree) (rows : List Row) : Type 0 where
    still : Once bases
    grows : (c : Tree) → is_expr c ≡ true → hits w c found ≤ hits w c bases
    covered : covers only w bases rows ≡ true

  found_all : (rows : List Row) → rows_ok w rows ≡ true → (found : List Tree) → Once found
      → Found found (bases_of only w rows found) rows
  unfolding bases_of covers Seen
  found_all [] ok found o = record { still = o; grows = λ c ec. omega arith; covered = refl }
  found_all (x ∷ l) ok found o =
      let p = rows_cons w x l ok in
      go (view_row only w x) refl (seen_row only w x (tree_atom x.tree p.0.atom)) (λ f h. found_all l p.1 f h)
    where
      go : (d : Decomposed) → view_row only w x ≡ d → Seen w x.tree d
          → ((f : List Tree) → Once f → Found f (bases_of only w l f) l)
          → Found found (bases_of only w (x ∷ l) found) (x ∷ l)
      go no_basis e v below =
          let b = below found o in
          subst (λ (u : List Tree). Found found u (x ∷ l)) (sym (bases_of_no_basis x l found e))
          (record { still = b.still; grows = b.grows; covered = covers_no_basis x l _ e b.covered })
      go (masked t m) e v below =
          let et = v.basis.expr in
          let i = more t v.basis found o in
          let b = below (insert_basis w t found) i.still in
          let one : hits w t (bases_of only w l (insert_basis w t found)) ≡ 1 =
          omega (arith, i.there, b.grows t et, b.still.once t et) in
          subst (λ (u : List Tree). Found found u (x ∷ l)) (sym (bases_of_masked x l found e))
          (record {
            still = b.still;
            grows = λ c ec. omega (arith, i.grows c ec, b.grows c ec);
            covered = covers_masked x l _ e one b.covered;
          })

  once_none : Once []
  unfolding rising_from hits
  once_none = record { rising = refl; once = λ c ec. omega arith }

  -- the groups of valid rows share them out
  pub groups_share : (weight : Row → ℕ) → ((x : Row) → x.coeff ≡ 0 → weight x ≡ 0) → (rows : List Row)
      → rows_ok w rows ≡ true
      → weight_sum weight rows
      ≡ weight_sum weight (ungrouped only w rows) + bases_sum only w weight (bases_of only w rows []) rows
  groups_share weight none rows ok =
      shared_out only w weight none (bases_of only w rows []) rows (found_all rows ok [] once_none).covered

  -- so does their value
  pub groups_value : (vars : List ℕ) (rows : List Row) → rows_ok w rows ≡ true
      → sum_rows w vars rows
      ≡ sum_rows w vars (ungrouped only w rows)
      + bases_sum only w (term_value w vars) (bases_of only w rows []) rows
  groups_value vars rows ok =
      let none : (x : Row) → x.coeff ≡ 0 → term_value w vars x ≡ 0 =
      λ x z. ap (λ (c : ℕ). c * value w vars x.tree) z ∙ omega arith in
      let share = groups_share (term_value w vars) none rows ok in
      omega (arith, share, value_weight w vars rows, value_weight w vars (ungrouped only w rows))

  -- and every basis is an atom
  pub bases_rising : (rows : List Row) → rows_ok w rows ≡ true → rising_from 0 (bases_of only w rows []) ≡ true
  bases_rising rows ok = (found_all rows ok [] once_none).still.rising
