-- Either rules (rules_laws/specs/Rules.antt): the refusals of a file, and that what the descent comes to is the form of
-- the tree that rules 1 are given, under rules 2 by way of the folded copy.
use mathlib.Core.Path.{◌≡◌, refl, ap, sym, ◌∙◌}
use Prim.Native.Nat.{ℕ, ◌+◌, ◌≤◌}
use native.Mathlib.Omega.{arith}
use native.Mathlib.Decide.{ℕ_discrete}
use mathlib.Core.List.{List}
use mathlib.Core.Bool.{true, false}
use lib.ListN.{length, take}
use lib.Dec.{lit<}
use borrow.Author.Tests.{eq-eqb, ne_eqb}
use Rattle.base.specs.Outcome.{Outcome, refused}
use Rattle.base.specs.Put.{put}
use Rattle.base.proofs.PutLaws.{take_put, length_put}
use Rattle.record.specs.Fields.{width, size}
use Rattle.record.specs.Tree.{Tree, encode, IsBytes}
use Rattle.record.specs.Decode.{decode}
use Rattle.record.proofs.EncodeLaws.{encoded, length_encode}
use Rattle.expr_refusal.specs.Refusal.{is_expr, tree_refusal, expr_refusal}
use Rattle.expr_refusal.proofs.RefusalLaws.{accepted_root, sized_accepted}
use Rattle.expr.proofs.IsExprLaws.{expr_encodable}
use Rattle.expr.proofs.AcceptLaws.{accept_expr, expr_accept, size_accepted}
use Rattle.expr.proofs.ExprValueLaws.{accepted_tree}
use Rattle.std.specs.Prelude.{Result}
use Rattle.base.specs.declared.refusal.Refusal.{Refusal}
use Rattle.semilinear.specs.declared.outcome.Answer.{Answer}
use Rattle.semilinear.specs.Answers.{in_numbers, GivesForm}
use Rattle.atom_table.proofs.PassLaws.{gives_same}
use Rattle.normalizer_laws.specs.Normalize.{normalize_tree, normalize_to_semilinear}
use Rattle.normalizer_laws.proofs.NormalizeLaws.{tree_collected, file_outcome, normalize_file, file_one, file_two}
use Rattle.normalizer_laws.proofs.NormalizeLaws.{file_refused, file_tree}
use Rattle.rules_laws.specs.Rules.{fold_literals, rewrite_nots, ruled_tree, normalize_ruled}
use Rattle.rules_laws.proofs.FoldLaws.{fold_expr}
use Rattle.rules_laws.proofs.DescendLaws.{descend_one, descend_two}
use Rattle.rules_laws.proofs.RulesLaws.{ruled_file}
use Rattle.ways.specs.Marks.{marks_of, Marked}
use Rattle.ways.proofs.MarksLaws.{length_marks}
use Rattle.ways.proofs.SpanOfLaws.{size_sized}
use Rattle.literals.specs.Folding.{Folded}
use Rattle.literals.proofs.FoldingLaws.{fold_size}
use Rattle.semilinear_normalizer.specs.WorkRoom.{descended}
use Rattle.semilinear_normalizer.specs.Copy.{Copied}
use Rattle.semilinear_normalizer.specs.FileRefusal.{file_refusal}

-- ---- the refusals of a file

module _ (s : List ℕ) (len : ℕ) where
  pub file_first : expr_refusal s ≡ 1 → 1 ≡ file_refusal s len
  unfolding file_refusal
  file_first e = sym (simp (eq-eqb (expr_refusal s) 1 e))

  pub file_slice : (expr_refusal s ≡ 1 → ⊥) → (len ≡ 57360 → ⊥) → 2 ≡ file_refusal s len
  unfolding file_refusal
  file_slice e n = sym (simp (ne_eqb (expr_refusal s) 1 e, ne_eqb len 57360 n))

  pub file_own : (expr_refusal s ≡ 1 → ⊥) → len ≡ 57360 → expr_refusal s ≡ file_refusal s len
  unfolding file_refusal
  file_own e n = sym (simp (ne_eqb (expr_refusal s) 1 e, eq-eqb len 57360 n))

  -- where there is none the file is an expression, and the slice is as long as it must be
  pub file_reached : file_refusal s len ≡ 0 → (expr_refusal s ≡ 0) × (len ≡ 57360)
  file_reached z = go (ℕ_discrete (expr_refusal s) 1) (ℕ_discrete len 57360)
    where
      go : Dec (expr_refusal s ≡ 1) → Dec (len ≡ 57360) → (expr_refusal s ≡ 0) × (len ≡ 57360)
      go (yes e) b = absurd (omega (arith, file_first e, z))
      go (no e) (no n) = absurd (omega (arith, file_slice e n, z))
      go (no e) (yes n) = (file_own e n ∙ z, n)

  -- where there is one it is what the file gives, whatever tree stands for its own
  pub file_refuses : (u : Tree) {o : Outcome} → o ≡ file_outcome s len u → (file_refusal s len ≡ 0 → ⊥)
      → o ≡ refused (file_refusal s len)
  file_refuses u {o} is nz = go (ℕ_discrete (expr_refusal s) 1) (ℕ_discrete len 57360)
    where
      go : Dec (expr_refusal s ≡ 1) → Dec (len ≡ 57360) → o ≡ refused (file_refusal s len)
      go (yes e) b = file_one s len u is e ∙ ap refused (file_first e)
      go (no e) (no n) = file_two s len u is e n ∙ ap refused (file_slice e n)
      go (no e) (yes n) =
          file_refused s len u is e (λ z. nz (sym (file_own e n) ∙ z)) n ∙ ap refused (file_own e n)

-- a refusal r that was found and handed over
pub gives_refusal : (s : List ℕ) (len : ℕ) (u : Tree) {o : Outcome} → o ≡ file_outcome s len u → {n : ℕ}
    → n ≡ file_refusal s len → (n ≡ 0 → ⊥) → (r : Result Answer Refusal) {e : List ℕ} → GivesForm (refused n) len r e
    → GivesForm o len r e
gives_refusal s len u is en nz r {e} g =
    gives_same (file_refuses s len u is (λ z. nz (en ∙ z)) ∙ ap refused (sym en)) len (in_numbers r) e g

-- ---- the tree of a file that is accepted

-- by rules 1
pub gives_plain : (s : List ℕ) (len : ℕ) {w : ℕ} → w ≡ width s → file_refusal s len ≡ 0 → (r : Result Answer Refusal) {e : List ℕ}
    → GivesForm (descended false w (decode s)) 57360 r e → GivesForm (normalize_to_semilinear s len) len r e
gives_plain s len ew z r {e} g =
    let p = file_reached s len z in
    let hw : width s ≤ 64 = (accepted_root (width s) s (accepted_tree s p.0)).width_le in
    let one = descend_one (width s) hw 1 (decode s) (lit< tt) in
    rw p.1
    (gives_same
    (file_tree s 57360 (decode s) (normalize_file s 57360) p.0 refl
    ∙ tree_collected (width s) (decode s) (sym one)) 57360 (in_numbers r) e (rw ew at g))

-- by rules 2
pub gives_ruled : (s : List ℕ) (len : ℕ) {w : ℕ} → w ≡ width s → file_refusal s len ≡ 0 → (r : Result Answer Refusal) {e : List ℕ}
    → GivesForm (normalize_tree w (ruled_tree true w (decode s))) 57360 r e
    → GivesForm (normalize_ruled true s len) len r e
gives_ruled s len ew z r {e} g =
    let p = file_reached s len z in
    rw p.1
    (gives_same (file_tree s 57360 (ruled_tree true (width s) (decode s)) (ruled_file true s 57360) p.0 refl) 57360 (in_numbers r)
    e (rw ew at g))

-- ---- the folded copy

-- the marks of a whole file, at the front of where they were put
module _ (w : ℕ) (s : List ℕ) (ok : tree_refusal w s ≡ 0) {before after : List ℕ} {r : ℕ}
    (marked : Marked (decode s) 0 before after r) (room : size s ≤ length before) where
  marks_count : length (marks_of (decode s)) ≡ size s
  marks_count = length_marks (decode s) ∙ sym (size_sized s (sized_accepted w s ok))

  pub whole_marks : {n : ℕ} → n ≡ size s → take n after ≡ marks_of (decode s)
  whole_marks {n} en =
      let end : n ≡ 0 + length (marks_of (decode s)) = omega (arith, marks_count) in
      ap (take n) marked.written
      ∙ ap (λ (k : ℕ). take k (put before 0 (marks_of (decode s)))) end
      ∙ take_put before 0 (marks_of (decode s)) (omega (arith, marks_count))

-- the bytes that `fold_literals` put at the front of where the copy stands
module _ (w : ℕ) (s : List ℕ) (h : IsBytes s) (ok : tree_refusal w s ≡ 0) {before after : List ℕ} {end : ℕ}
    (folded : Folded w false (decode s) 0 before after end) (room : length s ≤ length before) where
  abbrev f : Tree
  f = fold_literals w false (decode s)

  pub copied : Copied w s after end
  copied =
      let root = accepted_root w s ok in
      let expr : is_expr f ≡ true = fold_expr w root.width_le false (decode s) (accept_expr w s h ok) in
      let n = length_encode w f in
      let few : end ≤ length s = omega (arith, folded.ends, fold_size w false (decode s), size_accepted w s h ok) in
      let e : end ≡ 0 + length (encode w f) = omega (arith, folded.ends, n) in
      let same = ap length folded.written ∙ length_put before 0 (encode w f) (omega (arith, few, e, room)) in
      let bytes : take end after ≡ encode w f =
      ap (take end) folded.written
      ∙ ap (λ (k : ℕ). take k (put before 0 (encode w f))) e
      ∙ take_put before 0 (encode w f) (omega (arith, few, e, room)) in
      record {
        accepted = rw bytes (expr_accept w root.width_pos root.width_le f expr);
        tree = ap decode bytes ∙ (encoded w f (expr_encodable f expr)).back;
        inside = omega (arith, same, few, room);
        count = ap length bytes ∙ omega (arith, e);
        few = few;
      }

-- the descent over the copy t turns its Nots
pub gives_folded : (w : ℕ) → w ≤ 64 → (s : List ℕ) {after : List ℕ} {end : ℕ} → Copied w s after end → {t : List ℕ}
    → t ≡ take end after → (r : Result Answer Refusal) {e : List ℕ} → GivesForm (descended true w (decode t)) 57360 r e
    → GivesForm (normalize_tree w (ruled_tree true w (decode s))) 57360 r e
unfolding ruled_tree
gives_folded w hw s copy et r {e} g =
    let f : Tree = fold_literals w false (decode s) in
    gives_same
    (tree_collected w (rewrite_nots w f) (sym (descend_two w hw 1 f (lit< tt)))
    ∙ ap (λ (x : Tree). descended true w x) (sym (ap decode et ∙ copy.tree))) 57360 (in_numbers r) e g
