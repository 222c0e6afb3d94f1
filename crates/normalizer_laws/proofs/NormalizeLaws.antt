-- Normalising keeps the value and gives a valid form (specs/Normalize.antt), and each refusal exactly where its test
-- says so.
use mathlib.Core.Path.{◌≡◌, refl, ap, sym, subst, ◌∙◌}
use Prim.Native.Nat.{ℕ, ◌+◌, ◌*◌, ◌%◌, ◌^◌, ◌≤◌, ◌<◌}
use native.Mathlib.Omega.{arith}
use native.Mathlib.Nat.{mod-eq_of_lt}
use native.Mathlib.Decide.{ℕ_discrete}
use mathlib.Core.List.{List, [], ◌∷◌}
use mathlib.Core.Bool.{Bool, true, false, not}
use lib.ListN.{length}
use lib.Dec.{eqb, lit<}
use lib.Pow.{pow_mono}
use borrow.Author.Tests.{eq-eqb, ne_eqb, le-leb, lt-ltb}
use Rattle.arith.specs.Congruence.{Eqm}
use Rattle.arith.proofs.CongruenceLaws.{eqm_of_eq, eqm_refl, eqm_trans, eqm_add}
use Rattle.base.specs.Choice.{when}
use Rattle.record.specs.Fields.{width}
use Rattle.record.specs.Tree.{Tree, IsBytes}
use Rattle.record.specs.Decode.{decode}
use Rattle.expr_refusal.specs.Refusal.{is_expr, tree_refusal, expr_refusal}
use Rattle.expr.specs.Value.{value}
use Rattle.expr.specs.ExprValue.{expr_value}
use Rattle.expr.proofs.ValueLaws.{value_lt}
use Rattle.expr_refusal.proofs.RefusalLaws.{accepted_root}
use Rattle.expr.proofs.AcceptLaws.{accept_expr}
use Rattle.expr.proofs.ExprValueLaws.{accepted_tree, expr_value_accepted}
use Rattle.semilinear.specs.Form.{Form, new_rows, sum_rows, form_value, term_count, encode_form, rows_ok, fits_table, valid_form}
use Rattle.semilinear_value.specs.Value.{semilinear_value}
use Rattle.base.specs.Outcome.{Outcome, accepted, refused, refusal_of, numbers_of}
use Rattle.semilinear.specs.Outcome.{form_outcome}
use Rattle.semilinear.specs.PassOutcome.{limit_outcome}
use Rattle.semilinear_value.proofs.ValueLaws.{encoded_value}
use Rattle.normalizer_laws.specs.Collect.{Emitted, Collected, nonlinear, linear, collect_terms}
use Rattle.normalizer_laws.specs.Register.{register_all}
use Rattle.normalizer_laws.specs.Normalize.{collected_form, collected_outcome, normalize_tree}
use Rattle.normalizer_laws.specs.Normalize.{normalize_to_semilinear}
use Rattle.normalizer_laws.proofs.CollectLaws.{sum_emitted, HasValue, collect_value}
use Rattle.normalizer_laws.proofs.EmittedLaws.{AllGood, GoodCollected, collect_good}
use Rattle.normalizer_laws.proofs.RegisterLaws.{register_all_sum, register_all_ok, register_all_new}

-- ---- the form of what was collected

module _ (w : ℕ) (pos : 1 ≤ w) (hw : w ≤ 64) (t : Tree) (expr : is_expr t ≡ true) (c : ℕ) (l : List Emitted)
    (e : collect_terms w 1 t ≡ linear c l) where
  one_lt : 1 < 2 ^ w
  one_lt = let h : 2 ^ 1 ≤ 2 ^ w = pow_mono pos in omega arith

  good : (c < 2 ^ w) × AllGood w hw l
  unfolding GoodCollected
  good = subst (GoodCollected w hw) e (collect_good w hw t expr 1 one_lt)

  has_value : (vars : List ℕ) → Eqm (2 ^ w) (c + sum_emitted w vars l) (1 * value w vars t)
  unfolding HasValue
  has_value vars =
      subst (λ x. HasValue w vars hw x (1 * value w vars t)) e (collect_value w vars hw t expr 1 (lit< tt))

  -- it has the tree's value under every assignment
  pub collected_value : (vars : List ℕ) → form_value vars (collected_form w c l) ≡ value w vars t
  unfolding form_value collected_form sum_rows rows_ok
  collected_value vars =
      let rows : Eqm (2 ^ w) (sum_rows w vars (register_all w l [])) (0 + sum_emitted w vars l) =
      register_all_sum w vars hw l [] good.1 refl in
      let all : Eqm (2 ^ w) (c + sum_rows w vars (register_all w l [])) (1 * value w vars t) =
      eqm_trans (eqm_add (eqm_refl c) rows) (eqm_trans (eqm_of_eq (omega arith)) (has_value vars)) in
      all.eqm ∙ ap (λ (x : ℕ). x % 2 ^ w) (omega arith) ∙ mod-eq_of_lt (value_lt w vars t)

  -- and is valid where its table keeps the limits
  pub collected_valid : fits_table (collected_form w c l).rows ≡ true → valid_form (collected_form w c l) ≡ true
  unfolding valid_form collected_form rows_ok
  collected_valid fits =
      simp (
        le-leb 1 w pos,
        le-leb w 64 hw,
        lt-ltb c (2 ^ w) good.0,
        fits,
        register_all_ok w [] hw l [] good.1 refl,
      )

-- ---- what was collected

module _ (w c : ℕ) (l : List Emitted) where
  pub collected_nine : fits_table (collected_form w c l).rows ≡ false → collected_outcome w (linear c l) ≡ refused 9
  unfolding collected_outcome limit_outcome
  collected_nine f = simp f

  pub collected_form_lem : fits_table (collected_form w c l).rows ≡ true
      → collected_outcome w (linear c l) ≡ form_outcome (collected_form w c l) false
  unfolding collected_outcome limit_outcome
  collected_form_lem f = simp f

-- ---- a tree

-- what normalising a tree gives, by the first test that decides
pub data TreeCase (w : ℕ) (t : Tree) : Type 0 where
  not_linear : collect_terms w 1 t ≡ nonlinear → normalize_tree w t ≡ refused 8 → TreeCase w t
  too_large : (c : ℕ) (l : List Emitted) → collect_terms w 1 t ≡ linear c l
      → fits_table (collected_form w c l).rows ≡ false → normalize_tree w t ≡ refused 9 → TreeCase w t
  written : (c : ℕ) (l : List Emitted) → collect_terms w 1 t ≡ linear c l
      → fits_table (collected_form w c l).rows ≡ true → normalize_tree w t ≡ form_outcome (collected_form w c l) false
      → TreeCase w t

module _ (w : ℕ) (t : Tree) where
  pub tree_collected : {x : Collected} → collect_terms w 1 t ≡ x → normalize_tree w t ≡ collected_outcome w x
  unfolding normalize_tree
  tree_collected e = ap (collected_outcome w) e

  pub tree_eight : collect_terms w 1 t ≡ nonlinear → normalize_tree w t ≡ refused 8
  unfolding collected_outcome
  tree_eight e = tree_collected e

  module _ (c : ℕ) (l : List Emitted) (e : collect_terms w 1 t ≡ linear c l) where
    pub tree_nine : fits_table (collected_form w c l).rows ≡ false → normalize_tree w t ≡ refused 9
    tree_nine f = tree_collected e ∙ collected_nine w c l f

    pub tree_form : fits_table (collected_form w c l).rows ≡ true
        → normalize_tree w t ≡ form_outcome (collected_form w c l) false
    tree_form f = tree_collected e ∙ collected_form_lem w c l f

  pub tree_case : TreeCase w t
  tree_case = go (collect_terms w 1 t) refl
    where
      fit : (c : ℕ) (l : List Emitted) → collect_terms w 1 t ≡ linear c l
          → (b : Bool) → fits_table (collected_form w c l).rows ≡ b → TreeCase w t
      fit c l e true f = written c l e f (tree_form c l e f)
      fit c l e false f = too_large c l e f (tree_nine c l e f)

      go : (x : Collected) → collect_terms w 1 t ≡ x → TreeCase w t
      go nonlinear e = not_linear e (tree_eight e)
      go (linear c l) e = fit c l e (fits_table (collected_form w c l).rows) refl

-- ---- the bytes of an expression

-- what the bytes s of an expression give where the tree u is normalised for them: their own, or one that stands for it
unfoldable pub file_outcome : List ℕ → ℕ → Tree → Outcome
file_outcome s len u =
    when (eqb (expr_refusal s) 1) (λ _. refused 1)
    (λ _. when (not (eqb len 57360)) (λ _. refused 2)
    (λ _. when (not (eqb (expr_refusal s) 0)) (λ _. refused (expr_refusal s)) (λ _. normalize_tree (width s) u)))

pub normalize_file : (s : List ℕ) (len : ℕ) → normalize_to_semilinear s len ≡ file_outcome s len (decode s)
unfolding normalize_to_semilinear file_outcome
normalize_file s len = refl

-- an outcome o of this kind, by the first test that decides
pub data FileCase (o : Outcome) (s : List ℕ) (len : ℕ) (u : Tree) : Type 0 where
  wrong_length : expr_refusal s ≡ 1 → o ≡ refused 1 → FileCase o s len u
  wrong_slice : (expr_refusal s ≡ 1 → ⊥) → (len ≡ 57360 → ⊥) → o ≡ refused 2 → FileCase o s len u
  no_expression : (expr_refusal s ≡ 1 → ⊥) → (expr_refusal s ≡ 0 → ⊥) → len ≡ 57360 → o ≡ refused (expr_refusal s)
      → FileCase o s len u
  expression : expr_refusal s ≡ 0 → len ≡ 57360 → o ≡ normalize_tree (width s) u → FileCase o s len u

module _ (s : List ℕ) (len : ℕ) (u : Tree) {o : Outcome} (is : o ≡ file_outcome s len u) where
  pub file_one : expr_refusal s ≡ 1 → o ≡ refused 1
  unfolding file_outcome
  file_one e = is ∙ simp (eq-eqb (expr_refusal s) 1 e)

  pub file_two : (expr_refusal s ≡ 1 → ⊥) → (len ≡ 57360 → ⊥) → o ≡ refused 2
  unfolding file_outcome
  file_two e n = is ∙ simp (ne_eqb (expr_refusal s) 1 e, ne_eqb len 57360 n)

  pub file_refused : (expr_refusal s ≡ 1 → ⊥) → (expr_refusal s ≡ 0 → ⊥) → len ≡ 57360 → o ≡ refused (expr_refusal s)
  unfolding file_outcome
  file_refused e z n = is ∙ simp (ne_eqb (expr_refusal s) 1 e, eq-eqb len 57360 n, ne_eqb (expr_refusal s) 0 z)

  pub file_tree : expr_refusal s ≡ 0 → len ≡ 57360 → o ≡ normalize_tree (width s) u
  unfolding file_outcome
  file_tree z n = is ∙ simp (ne_eqb (expr_refusal s) 1 (omega arith), eq-eqb len 57360 n, eq-eqb (expr_refusal s) 0 z)

  pub file_case : FileCase o s len u
  file_case = go (ℕ_discrete (expr_refusal s) 1) (ℕ_discrete len 57360) (ℕ_discrete (expr_refusal s) 0)
    where
      go : Dec (expr_refusal s ≡ 1) → Dec (len ≡ 57360) → Dec (expr_refusal s ≡ 0) → FileCase o s len u
      go (yes e) b c = wrong_length e (file_one e)
      go (no e) (no n) c = wrong_slice e n (file_two e n)
      go (no e) (yes n) (yes z) = expression z n (file_tree z n)
      go (no e) (yes n) (no z) = no_expression e z n (file_refused e z n)

-- the elements of an accepted outcome
elements : Outcome → List ℕ
elements (accepted l ns) = l
elements (refused n) = []

pub not_accepted : {A : Type 0} {o : Outcome} {n : ℕ} {b ns : List ℕ} → o ≡ refused n → 0 < n → o ≡ accepted b ns → A
unfolding refusal_of
not_accepted {n} f h e = let z : n ≡ 0 = ap refusal_of (sym f ∙ e) in absurd (omega arith)

-- 1 beside a refusal
tag : Outcome → ℕ
tag (accepted l ns) = 0
tag (refused n) = 1

-- a refusal is not 0
pub file_refusal_lem : (s : List ℕ) (len : ℕ) (u : Tree) {o : Outcome} → o ≡ file_outcome s len u → (n : ℕ) → o ≡ refused n
    → 0 < n
unfolding refusal_of tag form_outcome
file_refusal_lem s len u {o} is n e = go (file_case s len u is)
  where
    same : {k : ℕ} → o ≡ refused k → n ≡ k
    same f = ap refusal_of (sym e ∙ f)

    by_tree : o ≡ normalize_tree (width s) u → TreeCase (width s) u → 0 < n
    by_tree q (not_linear x f) = let k = same (q ∙ f) in omega (arith, k)
    by_tree q (too_large c l x fits f) = let k = same (q ∙ f) in omega (arith, k)
    by_tree q (written c l x fits f) =
        let z : ◌≡◌ {A = ℕ} 0 1 = ap tag (sym (q ∙ f) ∙ e) in absurd (omega (arith, z))

    go : FileCase o s len u → 0 < n
    go (wrong_length x f) = let k = same f in omega (arith, k)
    go (wrong_slice x k f) = let k = same f in omega (arith, k)
    go (no_expression x z k f) = let j = same f in omega (arith, z, j)
    go (expression z k f) = by_tree f (tree_case (width s) u)

pub normalize_refused : (s : List ℕ) (len n : ℕ) → normalize_to_semilinear s len ≡ refused n → 0 < n
normalize_refused s len = file_refusal_lem s len (decode s) (normalize_file s len)

-- what an accepted call gives: the bytes of a valid form of the expression's width and value, and its numbers
pub record Normalized (s bytes numbers : List ℕ) : Type 0 where
  pub form : Form
  pub encoded : bytes ≡ encode_form form
  pub counted : numbers ≡ length bytes ∷ term_count form.rows ∷ 0 ∷ []
  pub valid : valid_form form ≡ true
  pub wide : form.bitwidth ≡ width s
  pub kept : (vars : List ℕ) → form_value vars form ≡ expr_value s vars
  pub new : new_rows form.rows ≡ true

-- the tree u stands for t: an expression where t is one, and of the same value at w bits under every assignment
pub record StandsFor (w : ℕ) (t u : Tree) : Type 0 where
  pub expr : is_expr t ≡ true → is_expr u ≡ true
  pub valued : (vars : List ℕ) → value w vars u ≡ value w vars t

module _ (s : List ℕ) (h : IsBytes s) (len : ℕ) (u : Tree)
    (stands : expr_refusal s ≡ 0 → StandsFor (width s) (decode s) u) (bytes numbers : List ℕ) where
  from_tree : expr_refusal s ≡ 0 → normalize_tree (width s) u ≡ accepted bytes numbers
      → TreeCase (width s) u → Normalized s bytes numbers
  unfolding elements numbers_of form_outcome collected_form new_rows
  from_tree z o (not_linear e f) = not_accepted f (omega arith) o
  from_tree z o (too_large c l e fits f) = not_accepted f (omega arith) o
  from_tree z o (written c l e fits f) =
      let w : ℕ = width s in
      let tree : tree_refusal w s ≡ 0 = accepted_tree s z in
      let root = accepted_root w s tree in
      let expr : is_expr u ≡ true = (stands z).expr (accept_expr w s h tree) in
      let terms : ℕ = term_count (collected_form w c l).rows in
      let same : bytes ≡ encode_form (collected_form w c l) = ap elements (sym o ∙ f) in
      record {
        form = collected_form w c l;
        encoded = same;
        counted = ap (numbers_of 3) (sym o ∙ f) ∙ ap (λ (x : List ℕ). length x ∷ terms ∷ 0 ∷ []) (sym same);
        valid = collected_valid w root.width_pos root.width_le u expr c l e fits;
        wide = refl;
        kept =
            λ vars.
            collected_value w root.width_pos root.width_le u expr c l e vars
            ∙ (stands z).valued vars
            ∙ sym (expr_value_accepted s vars z refl);
        new = register_all_new w [] root.width_le l [] refl;
      }

  pub file_form : {o : Outcome} → o ≡ file_outcome s len u → o ≡ accepted bytes numbers → Normalized s bytes numbers
  file_form {o} is given = go (file_case s len u is)
    where
      go : FileCase o s len u → Normalized s bytes numbers
      go (wrong_length e f) = not_accepted f (omega arith) given
      go (wrong_slice e n f) = not_accepted f (omega arith) given
      go (no_expression e z n f) = not_accepted f (omega arith) given
      go (expression z n f) = from_tree z (sym f ∙ given) (tree_case (width s) u)

-- a form that normalising gives has the value of the expression, under every assignment
pub normalized_value : {s bytes numbers : List ℕ} → Normalized s bytes numbers → (vars : List ℕ)
    → semilinear_value bytes vars ≡ expr_value s vars
normalized_value n vars =
    ap (λ (b : List ℕ). semilinear_value b vars) n.encoded
    ∙ encoded_value n.form n.valid vars
    ∙ n.kept vars

module _ (s : List ℕ) (h : IsBytes s) (len : ℕ) (bytes numbers : List ℕ)
    (given : normalize_to_semilinear s len ≡ accepted bytes numbers) where
  pub normalize_form : Normalized s bytes numbers
  normalize_form =
      let itself : StandsFor (width s) (decode s) (decode s) = record { expr = λ e. e; valued = λ vars. refl } in
      file_form s h len (decode s) (λ _. itself) bytes numbers (normalize_file s len) given

  pub normalize_value : (vars : List ℕ) → semilinear_value bytes vars ≡ expr_value s vars
  normalize_value = normalized_value normalize_form
