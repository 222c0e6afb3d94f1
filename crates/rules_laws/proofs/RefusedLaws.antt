-- The refusals of normalising by rules, both ways (specs/Rules.antt): 18 exactly for other rules than 1 and 2, whatever
-- bytes and length; by either rules 1 to 6 of the bytes as given, 8 and 9 of the tree that rules 1 are given.
use mathlib.Core.Path.{◌≡◌, sym, ◌∙◌}
use Prim.Native.Nat.{ℕ, ◌≤◌, ◌<◌}
use native.Mathlib.Omega.{arith}
use mathlib.Core.Logic.{◌↔◌}
use mathlib.Core.List.{List}
use mathlib.Core.Bool.{Bool}
use Rattle.base.specs.Outcome.{refused}
use Rattle.record.specs.Fields.{width}
use Rattle.record.specs.Tree.{Tree}
use Rattle.record.specs.Decode.{decode}
use Rattle.expr_refusal.specs.Refusal.{expr_refusal}
use Rattle.normalizer_laws.specs.Collect.{nonlinear, collect_terms}
use Rattle.normalizer_laws.proofs.RefusedLaws.{Reached, TooLarge, file_one_iff, file_two_iff, file_expr_iff}
use Rattle.normalizer_laws.proofs.RefusedLaws.{file_at_most_nine, file_eight_iff, file_nine_iff}
use Rattle.rules_laws.specs.Rules.{ruled_tree, normalize_ruled, normalize_by_rules}
use Rattle.rules_laws.proofs.RulesLaws.{ruled_file, RulesCase, known, unknown, rules_case, rules_other}

module _ (two : Bool) (s : List ℕ) (len : ℕ) where
  abbrev ruled : Tree
  ruled = ruled_tree two (width s) (decode s)

  pub ruled_one_iff : (normalize_ruled two s len ≡ refused 1) ↔ (expr_refusal s ≡ 1)
  ruled_one_iff = file_one_iff s len ruled (ruled_file two s len)

  pub ruled_two_iff : (normalize_ruled two s len ≡ refused 2) ↔ ((expr_refusal s ≡ 1 → ⊥) × (len ≡ 57360 → ⊥))
  ruled_two_iff = file_two_iff s len ruled (ruled_file two s len)

  -- refusals 3 to 6
  pub ruled_expr_iff : (n : ℕ) → 3 ≤ n → n < 7
      → (normalize_ruled two s len ≡ refused n) ↔ ((expr_refusal s ≡ n) × (len ≡ 57360))
  ruled_expr_iff = file_expr_iff s len ruled (ruled_file two s len)

  pub ruled_eight_iff : (normalize_ruled two s len ≡ refused 8)
      ↔ (Reached s len × (collect_terms (width s) 1 (ruled_tree two (width s) (decode s)) ≡ nonlinear))
  ruled_eight_iff = file_eight_iff s len ruled (ruled_file two s len)

  pub ruled_nine_iff : (normalize_ruled two s len ≡ refused 9)
      ↔ (Reached s len × TooLarge (width s) (ruled_tree two (width s) (decode s)))
  ruled_nine_iff = file_nine_iff s len ruled (ruled_file two s len)

pub rules_eighteen_iff : (rules : ℕ) (s : List ℕ) (len : ℕ)
    → (normalize_by_rules rules s len ≡ refused 18) ↔ ((rules ≡ 1 → ⊥) × (rules ≡ 2 → ⊥))
rules_eighteen_iff rules s len = (λ e. go e (rules_case rules s len), λ h. rules_other rules s len h.0 h.1)
  where
    go : normalize_by_rules rules s len ≡ refused 18 → RulesCase rules s len → (rules ≡ 1 → ⊥) × (rules ≡ 2 → ⊥)
    go e (known two f) =
        let high = file_at_most_nine s len (ruled_tree two (width s) (decode s)) (ruled_file two s len) 18 (sym f ∙ e) in
        absurd (omega (arith, high))
    go e (unknown p q f) = (p, q)
