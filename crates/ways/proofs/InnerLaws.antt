-- A part of the file whose root is a Not (specs/Spans.antt): what the complement is of stands before the root.
use mathlib.Core.Path.{◌≡◌, refl, ap, ◌∙◌}
use Prim.Native.Nat.{ℕ, ◌-◌}
use native.Mathlib.Decide.{ℕ_discrete}
use mathlib.Core.List.{List}
use mathlib.Core.Bool.{true, false}
use borrow.Author.Tests.{ne_eqb}
use Rattle.record.specs.Fields.{kind, amount, arity}
use Rattle.record.specs.Tree.{Tree}
use Rattle.record.specs.Tree.Tree.{Unary}
use Rattle.record.specs.Decode.{decode}
use Rattle.record.proofs.LeafLaws.{leaf_both}
use Rattle.normalizer_laws.specs.Collect.{is_not, operand}
use Rattle.ways.specs.Spans.{span_of, Accepted}
use Rattle.ways.proofs.SpanOfLaws.{body_accepted, tree_leaf, tree_one, tree_two}

module _ {w : ℕ} {file : List ℕ} {s e : ℕ} (h : Accepted w file s e) where
  abbrev t : List ℕ
  t = span_of file s e

  not_arity : kind t ≡ 7 → 1 ≡ arity (kind t)
  unfolding arity
  not_arity k = rw k refl

  -- the complement's operand
  not_tree : kind t ≡ 7 → decode t ≡ Unary 7 (amount t) (decode (span_of file s (e - 16)))
  not_tree k =
      tree_one h (not_arity k) refl ∙ ap (λ (j : ℕ). Unary j (amount t) (decode (span_of file s (e - 16)))) k

  pub not_inner : kind (span_of file s e) ≡ 7 → Accepted w file s (e - 16)
  not_inner k = body_accepted h (not_arity k) refl

  pub not_root : kind (span_of file s e) ≡ 7 → is_not (decode (span_of file s e)) ≡ true
  unfolding is_not
  not_root k = ap is_not (not_tree k)

  pub not_operand : kind (span_of file s e) ≡ 7 → operand (decode (span_of file s e)) ≡ decode (span_of file s (e - 16))
  unfolding operand
  not_operand k = ap operand (not_tree k)

  -- no other root is one
  pub other_root : (kind (span_of file s e) ≡ 7 → ⊥) → is_not (decode (span_of file s e)) ≡ false
  unfolding is_not
  other_root k = go (ℕ_discrete (arity (kind t)) 0) (ℕ_discrete (arity (kind t)) 1)
    where
      go : Dec (arity (kind t) ≡ 0) → Dec (arity (kind t) ≡ 1) → is_not (decode t) ≡ false
      go (yes a) d = ap is_not (tree_leaf h refl a) ∙ leaf_both (λ (u : Tree). is_not u ≡ false) t refl refl
      go (no p) (yes a) = ap is_not (tree_one h refl a) ∙ ne_eqb (kind t) 7 k
      go (no p) (no q) = ap is_not (tree_two h refl p q)
