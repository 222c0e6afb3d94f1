-- The group of a basis (specs/Group.antt): its entries are the rows of the basis, live, and come to what these come to.
use mathlib.Core.Path.{◌≡◌, refl, sym, ap, ◌∙◌, subst}
use Prim.Native.Nat.{ℕ, suc, ◌+◌, ◌*◌, ◌^◌, ◌≤◌, ◌<◌}
use native.Mathlib.Omega.{arith}
use native.Mathlib.Decide.{ℕ_discrete}
use mathlib.Core.List.{List, [], ◌∷◌}
use mathlib.Core.Bool.{Bool, true, false}
use lib.ListN.{length}
use lib.Bits.{bit_and}
use Rattle.record.specs.Tree.{Tree}
use Rattle.expr_refusal.specs.Refusal.{is_expr}
use Rattle.expr.specs.Value.{value}
use Rattle.group.specs.declared.Group.{Group}
use Rattle.entries.specs.declared.Mark.TheVariants.{Live}
use Rattle.semilinear.specs.Form.{Row, eq_tree, rows_ok}
use Rattle.decompose.specs.Decompose.{Decomposed, no_basis, masked}
use Rattle.group.specs.Group.{Entry, at, empty_group, push_entry, group_of}
use Rattle.views.specs.Grouping.{view_row}
use Rattle.semilinear.proofs.FormLaws.{Good, rows_cons}
use Rattle.semilinear.proofs.AtomLaws.{tree_atom, eq_of_eq_tree}
use Rattle.views.proofs.ViewLaws.{View, Seen, seen_row}
use Rattle.group.proofs.EntryLaws.{Sized, sized_push, sized_empty, at_push, at_push_other}
use Rattle.group.proofs.TotalLaws.{total, len_push, total_push, total_empty}
use Rattle.group.proofs.WorkLaws.{row_value}
use Rattle.views.proofs.GroupsLaws.{share_of, basis_sum, term_value}

-- an entry as it comes from a row
pub record Fresh (w : ℕ) (vars : List ℕ) (b : Tree) (rows : List Row) (e : Entry) : Type 0 where
  pub unmarked : e.mark ≡ Live
  pub coeff_lt : e.coeff < 2 ^ w
  pub mask_lt : e.mask < 2 ^ w
  pub atom_lt : e.atom < length rows
  pub atom_value : row_value w vars rows e.atom ≡ bit_and (value w vars b) e.mask

pub record Gathered (w : ℕ) (vars : List ℕ) (b : Tree) (rows : List Row) (i : ℕ) (g : Group) : Type 0 where
  pub sized : Sized g
  pub few : g.len ≤ i
  pub fresh : (k : ℕ) → k < g.len → Fresh w vars b rows (at g k)

-- l are the rows from number i on
record Tail (w : ℕ) (vars : List ℕ) (rows : List Row) (i : ℕ) (l : List Row) : Type 0 where
  counted : i + length l ≡ length rows
  valued : (k : ℕ) → row_value w vars rows (i + k) ≡ row_value w vars l k

-- a row of no basis, of this one and of another
module _ (only : Tree → Bool) (w : ℕ) (b : Tree) where
  pub group_no_basis : (i : ℕ) (x : Row) (l : List Row) (g : Group) → view_row only w x ≡ no_basis
      → group_of only w b i (x ∷ l) g ≡ group_of only w b (i + 1) l g
  unfolding group_of
  group_no_basis i x l g e = simp e

  pub group_same : (i : ℕ) (x : Row) (l : List Row) (g : Group) {c : Tree} {m : ℕ} → view_row only w x ≡ masked c m
      → eq_tree w c b ≡ true → group_of only w b i (x ∷ l) g ≡ group_of only w b (i + 1) l (push_entry g x.coeff m i)
  unfolding group_of
  group_same i x l g e q = simp (e, q)

  pub group_other : (i : ℕ) (x : Row) (l : List Row) (g : Group) {c : Tree} {m : ℕ} → view_row only w x ≡ masked c m
      → eq_tree w c b ≡ false → group_of only w b i (x ∷ l) g ≡ group_of only w b (i + 1) l g
  unfolding group_of
  group_other i x l g e q = simp (e, q)

module _ (only : Tree → Bool) (w : ℕ) (vars : List ℕ) (b : Tree) (eb : is_expr b ≡ true) (rows : List Row)
    (most : length rows ≤ 256) where
  tail_next : (i : ℕ) (x : Row) (l : List Row) → Tail w vars rows i (x ∷ l) → Tail w vars rows (i + 1) l
  unfolding row_value
  tail_next i x l t =
      record {
        counted = omega (arith, t.counted);
        valued = λ k. ap (row_value w vars rows) (let e : i + 1 + k ≡ i + suc k = omega arith in e) ∙ t.valued (suc k);
      }

  tail_head : (i : ℕ) (x : Row) (l : List Row) → Tail w vars rows i (x ∷ l)
      → row_value w vars rows i ≡ value w vars x.tree
  unfolding row_value
  tail_head i x l t = ap (row_value w vars rows) (let e : i ≡ i + 0 = omega arith in e) ∙ t.valued 0

  sum_no_basis : (x : Row) (l : List Row) → view_row only w x ≡ no_basis
      → basis_sum only w (term_value w vars) b (x ∷ l) ≡ basis_sum only w (term_value w vars) b l
  unfolding basis_sum share_of
  sum_no_basis x l e = simp e (omega arith)

  sum_same : (x : Row) (l : List Row) {c : Tree} {m : ℕ} → view_row only w x ≡ masked c m → eq_tree w c b ≡ true
      → basis_sum only w (term_value w vars) b (x ∷ l)
      ≡ x.coeff * value w vars x.tree + basis_sum only w (term_value w vars) b l
  unfolding basis_sum share_of
  sum_same x l e q = simp (e, q)

  sum_other : (x : Row) (l : List Row) {c : Tree} {m : ℕ} → view_row only w x ≡ masked c m → eq_tree w c b ≡ false
      → basis_sum only w (term_value w vars) b (x ∷ l) ≡ basis_sum only w (term_value w vars) b l
  unfolding basis_sum share_of
  sum_other x l e q = simp (e, q) (omega arith)

  -- what is gathered of the rows l on top of g
  record Over (l : List Row) (g h : Group) : Type 0 where
    good : Gathered w vars b rows (length rows) h
    sum : total (value w vars b) h ≡ total (value w vars b) g + basis_sum only w (term_value w vars) b l

  later : {i : ℕ} {g : Group} → Gathered w vars b rows i g → Gathered w vars b rows (i + 1) g
  later {i} {g} h = record { sized = h.sized; few = omega (arith, h.few); fresh = h.fresh }

  pushed : (i : ℕ) (x : Row) (l : List Row) (g : Group) (m : ℕ) → x.coeff < 2 ^ w → View w x.tree b m
      → Tail w vars rows i (x ∷ l) → Gathered w vars b rows i g
      → Gathered w vars b rows (i + 1) (push_entry g x.coeff m i)
  pushed i x l g m hc v t h =
      record {
        sized = sized_push g x.coeff m i h.sized room;
        few = omega (arith, h.few, len_push g x.coeff m i);
        fresh = λ k lk. go k (ℕ_discrete k g.len) (omega (arith, lk, len_push g x.coeff m i));
      }
    where
      room : g.len < 256
      room = omega (arith, h.few, t.counted)

      new : Fresh w vars b rows (record { coeff = x.coeff; mask = m; atom = i; mark = Live })
      new =
          record {
            unmarked = refl;
            coeff_lt = hc;
            mask_lt = v.mask_lt;
            atom_lt = omega (arith, t.counted);
            atom_value = tail_head i x l t ∙ v.value_is vars;
          }

      go : (k : ℕ) → Dec (k ≡ g.len) → k < g.len + 1 → Fresh w vars b rows (at (push_entry g x.coeff m i) k)
      go k (yes e) lk =
          subst (Fresh w vars b rows)
          (sym (ap (at (push_entry g x.coeff m i)) e ∙ at_push g x.coeff m i h.sized room)) new
      go k (no e) lk =
          subst (Fresh w vars b rows) (sym (at_push_other g x.coeff m i k e)) (h.fresh k (omega arith))

  gather : (l : List Row) (i : ℕ) (g : Group) → rows_ok w l ≡ true → Tail w vars rows i l
      → Gathered w vars b rows i g → Over l g (group_of only w b i l g)
  unfolding group_of basis_sum Seen
  gather [] i g ok t h =
      record {
        good = record { sized = h.sized; few = omega (arith, h.few, t.counted); fresh = h.fresh };
        sum = omega arith;
      }
  gather (x ∷ l) i g ok t h =
      let p = rows_cons w x l ok in
      go p.0 (view_row only w x) refl (seen_row only w x (tree_atom x.tree p.0.atom))
      (λ g' h'. gather l (i + 1) g' p.1 (tail_next i x l t) h')
    where
      by_test : Good w x → (c : Tree) (m : ℕ) → view_row only w x ≡ masked c m → View w x.tree c m
          → ((g' : Group) → Gathered w vars b rows (i + 1) g' → Over l g' (group_of only w b (i + 1) l g'))
          → (p : Bool) → eq_tree w c b ≡ p → Over (x ∷ l) g (group_of only w b i (x ∷ l) g)
      by_test ok c m e v below false q =
          let o = below g (later h) in
          subst (Over (x ∷ l) g) (sym (group_other only w b i x l g e q))
          (record { good = o.good; sum = omega (arith, o.sum, sum_other x l e q) })
      by_test ok c m e v below true q =
          let same : c ≡ b = eq_of_eq_tree w c b v.basis.expr eb q in
          let v' : View w x.tree b m = subst (λ (u : Tree). View w x.tree u m) same v in
          let o = below (push_entry g x.coeff m i) (pushed i x l g m ok.fits v' t h) in
          let room : g.len < 256 = omega (arith, h.few, t.counted) in
          let more = total_push (value w vars b) g x.coeff m i h.sized room in
          let row = ap (λ (n : ℕ). x.coeff * n) (v'.value_is vars) in
          subst (Over (x ∷ l) g) (sym (group_same only w b i x l g e q))
          (record { good = o.good; sum = omega (arith, o.sum, sum_same x l e q, more, row) })

      go : Good w x → (d : Decomposed) → view_row only w x ≡ d → Seen w x.tree d
          → ((g' : Group) → Gathered w vars b rows (i + 1) g' → Over l g' (group_of only w b (i + 1) l g'))
          → Over (x ∷ l) g (group_of only w b i (x ∷ l) g)
      go ok no_basis e v below =
          let o = below g (later h) in
          subst (Over (x ∷ l) g) (sym (group_no_basis only w b i x l g e))
          (record { good = o.good; sum = omega (arith, o.sum, sum_no_basis x l e) })
      go ok (masked c m) e v below = by_test ok c m e v below (eq_tree w c b) refl

  -- the group of the basis b among valid rows
  pub record Group-of (g : Group) : Type 0 where
    pub sized : Sized g
    pub fresh : (k : ℕ) → k < g.len → Fresh w vars b rows (at g k)
    pub sum : total (value w vars b) g ≡ basis_sum only w (term_value w vars) b rows

  pub group_of_lem : rows_ok w rows ≡ true → Group-of (group_of only w b 0 rows empty_group)
  unfolding empty_group
  group_of_lem ok =
      let o =
      gather rows 0 empty_group ok
      (record { counted = omega arith; valued = λ k. ap (row_value w vars rows) (let e : 0 + k ≡ k = omega arith in e) })
      (record { sized = sized_empty; few = omega arith; fresh = λ k lk. absurd (omega (arith, lk)) }) in
      record {
        sized = o.good.sized;
        fresh = o.good.fresh;
        sum = omega (arith, o.sum, total_empty (value w vars b));
      }
