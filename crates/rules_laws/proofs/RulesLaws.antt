-- Normalising by either rules keeps the value and gives a valid form (specs/Rules.antt): one argument, over the tree
-- that rules 1 are given. Rules 1 are as they were.
use mathlib.Core.Path.{◌≡◌, refl, ap, sym, ◌∙◌}
use Prim.Native.Nat.{ℕ, ◌≤◌, ◌<◌}
use native.Mathlib.Omega.{arith}
use native.Mathlib.Decide.{ℕ_discrete}
use mathlib.Core.List.{List}
use mathlib.Core.Bool.{Bool, true, false}
use borrow.Author.Tests.{eq-eqb, ne_eqb}
use Rattle.base.specs.Outcome.{accepted, refused, refusal_of}
use Rattle.record.specs.Fields.{width}
use Rattle.record.specs.Tree.{Tree, IsBytes}
use Rattle.record.specs.Decode.{decode}
use Rattle.expr_refusal.specs.Refusal.{is_expr}
use Rattle.expr_refusal.proofs.RefusalLaws.{accepted_root}
use Rattle.expr.specs.Value.{value}
use Rattle.expr.specs.ExprValue.{expr_value}
use Rattle.expr.proofs.ExprValueLaws.{accepted_tree}
use Rattle.semilinear_value.specs.Value.{semilinear_value}
use Rattle.normalizer_laws.specs.Normalize.{normalize_to_semilinear}
use Rattle.normalizer_laws.proofs.NormalizeLaws.{Normalized, StandsFor, file_outcome, normalize_file}
use Rattle.normalizer_laws.proofs.NormalizeLaws.{not_accepted, file_refusal_lem, file_form, normalized_value}
use Rattle.rules_laws.specs.Rules.{fold_literals, ruled_tree, normalize_ruled, normalize_by_rules}
use Rattle.rules_laws.proofs.FoldLaws.{fold_value, fold_expr}
use Rattle.rules_laws.proofs.NotsLaws.{nots_value, nots_expr}

-- ---- the tree that rules 1 are given

pub ruled_value : (two : Bool) (w : ℕ) (vars : List ℕ) (t : Tree) → value w vars (ruled_tree two w t) ≡ value w vars t
unfolding ruled_tree
ruled_value false w vars t = refl
ruled_value true w vars t = nots_value w vars (fold_literals w false t) ∙ fold_value w vars false t

pub ruled_expr : (two : Bool) (w : ℕ) → w ≤ 64 → (t : Tree) → is_expr t ≡ true → is_expr (ruled_tree two w t) ≡ true
unfolding ruled_tree
ruled_expr false w hw t e = e
ruled_expr true w hw t e = nots_expr w hw (fold_literals w false t) (fold_expr w hw false t e)

ruled_stands : (two : Bool) (w : ℕ) → w ≤ 64 → (t : Tree) → StandsFor w t (ruled_tree two w t)
ruled_stands two w hw t = record { expr = ruled_expr two w hw t; valued = λ vars. ruled_value two w vars t }

-- ---- either rules

pub ruled_file : (two : Bool) (s : List ℕ) (len : ℕ)
    → normalize_ruled two s len ≡ file_outcome s len (ruled_tree two (width s) (decode s))
unfolding normalize_ruled file_outcome
ruled_file two s len = refl

-- rules 1 are as they were
pub ruled_one : (s : List ℕ) (len : ℕ) → normalize_ruled false s len ≡ normalize_to_semilinear s len
unfolding ruled_tree
ruled_one s len = ruled_file false s len ∙ sym (normalize_file s len)

pub ruled_form : (two : Bool) (s : List ℕ) → IsBytes s → (len : ℕ) (bytes numbers : List ℕ)
    → normalize_ruled two s len ≡ accepted bytes numbers → Normalized s bytes numbers
ruled_form two s h len bytes numbers =
    file_form s h len (ruled_tree two (width s) (decode s))
    (λ z. ruled_stands two (width s) (accepted_root (width s) s (accepted_tree s z)).width_le (decode s))
    bytes numbers (ruled_file two s len)

-- ---- the rules by number

module _ (rules : ℕ) (s : List ℕ) (len : ℕ) where
  pub rules_first : rules ≡ 1 → normalize_by_rules rules s len ≡ normalize_ruled false s len
  unfolding normalize_by_rules
  rules_first e = simp (eq-eqb rules 1 e)

  pub rules_second : rules ≡ 2 → normalize_by_rules rules s len ≡ normalize_ruled true s len
  unfolding normalize_by_rules
  rules_second e = simp (ne_eqb rules 1 (omega arith), eq-eqb rules 2 e)

  pub rules_other : (rules ≡ 1 → ⊥) → (rules ≡ 2 → ⊥) → normalize_by_rules rules s len ≡ refused 18
  unfolding normalize_by_rules
  rules_other p q = simp (ne_eqb rules 1 p, ne_eqb rules 2 q)

  -- what is given, by the rules that are named
  pub data RulesCase : Type 0 where
    known : (two : Bool) → normalize_by_rules rules s len ≡ normalize_ruled two s len → RulesCase
    unknown : (rules ≡ 1 → ⊥) → (rules ≡ 2 → ⊥) → normalize_by_rules rules s len ≡ refused 18 → RulesCase

  pub rules_case : RulesCase
  rules_case = go (ℕ_discrete rules 1) (ℕ_discrete rules 2)
    where
      go : Dec (rules ≡ 1) → Dec (rules ≡ 2) → RulesCase
      go (yes e) d = known false (rules_first e)
      go (no p) (yes e) = known true (rules_second e)
      go (no p) (no q) = unknown p q (rules_other p q)

  -- a refusal is not 0
  pub rules_refused : (n : ℕ) → normalize_by_rules rules s len ≡ refused n → 0 < n
  unfolding refusal_of
  rules_refused n e = go rules_case
    where
      go : RulesCase → 0 < n
      go (known two f) = file_refusal_lem s len (ruled_tree two (width s) (decode s)) (f ∙ ruled_file two s len) n e
      go (unknown p q f) = let k : n ≡ 18 = ap refusal_of (sym e ∙ f) in omega (arith, k)

  -- what is accepted is a valid form of the expression's width and value
  pub rules_form : IsBytes s → (bytes numbers : List ℕ) → normalize_by_rules rules s len ≡ accepted bytes numbers
      → Normalized s bytes numbers
  rules_form h bytes numbers given = go rules_case
    where
      go : RulesCase → Normalized s bytes numbers
      go (known two f) = ruled_form two s h len bytes numbers (sym f ∙ given)
      go (unknown p q f) = not_accepted f (omega arith) given

  pub rules_value : IsBytes s → (bytes numbers : List ℕ) → normalize_by_rules rules s len ≡ accepted bytes numbers
      → (vars : List ℕ) → semilinear_value bytes vars ≡ expr_value s vars
  rules_value h bytes numbers given = normalized_value (rules_form h bytes numbers given)

-- under rules 1 every answer is that of normalising without a number
pub rules_one : (s : List ℕ) (len : ℕ) → normalize_by_rules 1 s len ≡ normalize_to_semilinear s len
rules_one s len = rules_first 1 s len refl ∙ ruled_one s len
