-- The Rust's truth tables have a word of w bits for each row (semilinear.rs 109-161). For trees without literal and Shr
-- they are equal exactly when the tables of specs/Truth.antt at width 1 and place 0 are.
use mathlib.Core.Path.{◌≡◌, refl, ap, sym, ◌∙◌}
use Prim.Native.Nat.{ℕ, zero, suc, ◌^◌, ◌≤◌, ◌<◌}
use native.Mathlib.Omega.{arith}
use native.Mathlib.Nat.{mod-eq_of_lt}
use mathlib.Core.Logic.{◌↔◌}
use mathlib.Core.List.{List, [], ◌∷◌}
use mathlib.Core.Bool.{true, false}
use lib.ListN.{length, get_or}
use Rattle.arith.specs.Bit.{bit_at}
use Rattle.arith.proofs.BitLaws.{bit_zero, bits_below_lem}
use Rattle.base.specs.Limits.{var_limit}
use Rattle.record.specs.Tree.{Tree}
use Rattle.base.proofs.ListsLaws.{eq_of_eq_list}
use Rattle.expr_refusal.specs.Refusal.{is_expr}
use Rattle.expr_utils.specs.Utils.{has_arith}
use Rattle.expr.specs.Value.{value}
use Rattle.expr.specs.Vars.{occurs, support, same_vars}
use Rattle.expr.proofs.IsExprLaws.{occurs_lt}
use Rattle.truth.specs.Truth.{bit_of, row_bits, table}
use Rattle.truth.specs.Key.{is_pure}
use Rattle.truth.proofs.BitwiseLaws.{Bitwise}
use Rattle.truth.proofs.BitOfLaws.{bit_value, bit_of_agree}
use Rattle.truth.proofs.TruthLaws.{row_bits_lt, table_lt, table_bit, table_place, Pure, pure_parts}
use Rattle.truth.proofs.TruthLaws.{pure_bitwise, SameTable, same_value}

-- the assignment that gives the n low variables the words b
unfoldable pub words_of : ℕ → (ℕ → ℕ) → List ℕ
words_of zero b = []
words_of (suc n) b = b 0 ∷ words_of n (λ v. b (suc v))

words_at : (n : ℕ) (b : ℕ → ℕ) (v : ℕ) → v < n → get_or (words_of n b) v 0 ≡ b v
unfolding words_of
words_at zero b v h = absurd (omega arith)
words_at (suc n) b zero h = refl
words_at (suc n) b (suc v) h = words_at n (λ x. b (suc x)) v (omega arith)

-- row i of the Rust's table of the variables vs (semilinear.rs 111-161): the value at w bits where each is 0 or 1
unfoldable pub row_word : ℕ → List ℕ → ℕ → Tree → ℕ
row_word w vs i t = value w (words_of var_limit (row_bits 0 vs i)) t

module _ (w : ℕ) (vs : List ℕ) (hw : 1 ≤ w) where
  row_word_bit : (t : Tree) → Bitwise t → (i : ℕ) → bit_at (row_word w vs i t) 0 ≡ bit_of w 0 (row_bits 0 vs i) t
  unfolding row_word
  row_word_bit t b i =
      bit_value w 0 (omega arith) (words_of var_limit (row_bits 0 vs i)) t b
      ∙ bit_of_agree w 0 (λ v. bit_at (get_or (words_of var_limit (row_bits 0 vs i)) v 0) 0) (row_bits 0 vs i) t same
    where
      same : (v : ℕ) → occurs v t ≡ true → bit_at (get_or (words_of var_limit (row_bits 0 vs i)) v 0) 0 ≡ row_bits 0 vs i v
      same v o =
          ap (λ (x : ℕ). bit_at x 0) (words_at var_limit (row_bits 0 vs i) v (occurs_lt v t b.expr o))
          ∙ bit_zero (row_bits 0 vs i v)
          ∙ mod-eq_of_lt (row_bits_lt 0 vs i v)

  -- equal rows of w-bit words make equal tables at place 0
  word_rows : (t u : Tree) → Bitwise t → Bitwise u → (n : ℕ)
      → ((i : ℕ) → i < 2 ^ n → row_word w vs i t ≡ row_word w vs i u) → table w 0 vs n t ≡ table w 0 vs n u
  word_rows t u bt bu n e =
      bits_below_lem (2 ^ n) (table w 0 vs n t) (table w 0 vs n u) (table_lt w 0 vs t n) (table_lt w 0 vs u n)
      (λ i h.
      table_bit w 0 vs t n i h
      ∙ sym (row_word_bit t bt i)
      ∙ ap (λ (x : ℕ). bit_at x 0) (e i h)
      ∙ row_word_bit u bu i
      ∙ sym (table_bit w 0 vs u n i h))

-- the Rust's tables are equal exactly when those at width 1 and place 0 are
pub word_tables : (w : ℕ) → 1 ≤ w → (t u : Tree) → is_pure t ≡ true → is_pure u ≡ true → same_vars t u ≡ true
    → is_expr t ≡ true → is_expr u ≡ true → has_arith t ≡ false → has_arith u ≡ false
    → ((i : ℕ) → i < 2 ^ length (support t) → row_word w (support t) i t ≡ row_word w (support t) i u)
    ↔ (table 1 0 (support t) (length (support t)) t ≡ table 1 0 (support t) (length (support t)) u)
unfolding row_word same_vars
word_tables w hw t u pt pu s et eu at au = (there, back)
  where
    pure_l : Pure t
    pure_l = pure_parts t pt

    pure_r : Pure u
    pure_r = pure_parts u pu

    bits_l : Bitwise t
    bits_l = pure_bitwise t pure_l et at

    bits_r : Bitwise u
    bits_r = pure_bitwise u pure_r eu au

    there : ((i : ℕ) → i < 2 ^ length (support t) → row_word w (support t) i t ≡ row_word w (support t) i u)
        → table 1 0 (support t) (length (support t)) t ≡ table 1 0 (support t) (length (support t)) u
    there e =
        let n : ℕ = length (support t) in
        table_place 1 w 0 0 (omega arith) (omega arith) (support t) n t bits_l pure_l.no_literal
        ∙ word_rows w (support t) hw t u bits_l bits_r n e
        ∙ table_place w 1 0 0 (omega arith) (omega arith) (support t) n u bits_r pure_r.no_literal

    back : table 1 0 (support t) (length (support t)) t ≡ table 1 0 (support t) (length (support t)) u
        → (i : ℕ) → i < 2 ^ length (support t) → row_word w (support t) i t ≡ row_word w (support t) i u
    back e i h =
        let same : SameTable t u =
        record {
          pure_l = pure_l;
          pure_r = pure_r;
          vars = eq_of_eq_list (support t) (support u) s;
          tables = e;
        } in
        same_value t u same et eu at au w (words_of var_limit (row_bits 0 (support t) i))
