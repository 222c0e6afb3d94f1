-- Laws of the key (specs/Key.antt): a key is what `key_of` makes, and trees have the same table exactly when their keys
-- are equal.
use mathlib.Core.Path.{◌≡◌, refl, ap, ap₂, sym, ◌∙◌}
use Prim.Native.Nat.{ℕ, ◌-◌, ◌*◌, ◌%◌, ◌^◌, ◌≤◌, ◌<◌, min}
use native.Mathlib.Omega.{arith}
use mathlib.Core.List.{List, [], ◌∷◌}
use mathlib.Core.Bool.{Bool, true, false, ◌&&◌, and-true, and-false}
use lib.ListN.{length, get_or, replicate}
use lib.Dec.{eqb}
use lib.Bits.{bit_and, and_mask}
use lib.Pow.{pow_mono}
use borrow.Author.Tests.{ne_eqb, le-leb, lt-leb}
use Rattle.arith.specs.Width.{bitmask}
use Rattle.base.specs.Choice.{when}
use Rattle.base.specs.Lists.{eq_list}
use Rattle.record.specs.Tree.{Tree}
use Rattle.base.proofs.BoolLaws.{false_true}
use Rattle.base.proofs.ListsLaws.{eq_of_eq_list, eq_list_self}
use Rattle.expr_utils.specs.declared.Traits.{Traits}
use Rattle.expr_utils.specs.Utils.{has_literal, has_shr, traits_of}
use Rattle.expr.specs.Vars.{no_var, first_vars, support, same_vars}
use Rattle.truth.specs.Truth.{place_of, table_f, table}
use Rattle.truth.specs.Key.{shared_vars, is_pure, same_table, not_pure, key_of}
use Rattle.truth.proofs.TruthLaws.{table_lt, pure_parts}
use Rattle.truth.proofs.FirstVarsLaws.{place_first, table_first, same_of_first, first_of_same}

-- ---- a key, word by word

key_none : (t : Tree) → is_pure t ≡ false → not_pure ∷ replicate 6 0 ≡ key_of t
unfolding key_of
key_none t e = simp e

key_some : (t : Tree) → is_pure t ≡ true → table 1 0 (support t) (length (support t)) t ∷ first_vars 6 0 t ≡ key_of t
unfolding key_of
key_some t e = simp e

pub length_key : (t : Tree) → length (key_of t) ≡ 7
unfolding key_of first_vars
length_key t = go (is_pure t)
  where
    go : (b : Bool)
        → length
        (when b (λ _. table 1 0 (support t) (length (support t)) t ∷ first_vars 6 0 t) (λ _. not_pure ∷ replicate 6 0))
        ≡ 7
    go true = refl
    go false = refl

-- the low 2 ^ n rows of a word
mask_rows : (x n : ℕ) → n ≤ 6 → bit_and x (bitmask (1 * 2 ^ n % 2 ^ 32)) ≡ x % 2 ^ (2 ^ n)
unfolding bitmask
mask_rows x n h =
    let few : 2 ^ n ≤ 2 ^ 6 = pow_mono h in
    let e : min (1 * 2 ^ n % 2 ^ 32) 64 ≡ 2 ^ n = omega arith in
    ap (λ (k : ℕ). bit_and x (2 ^ k - 1)) e ∙ and_mask x (2 ^ n)

-- x: what the tree holds
module _ (t : Tree) {x : Traits} (hx : x ≡ traits_of t) where
  literal_of : has_literal t ≡ x.literal
  unfolding traits_of
  literal_of = ap (λ (y : Traits). y.literal) (sym hx)

  shr_of : has_shr t ≡ x.shr
  unfolding traits_of
  shr_of = ap (λ (y : Traits). y.shr) (sym hx)

  pub key_literal : x.literal ≡ true → not_pure ∷ replicate 6 0 ≡ key_of t
  unfolding is_pure
  key_literal e = key_none t (simp (literal_of ∙ e))

  pub key_shr : x.shr ≡ true → not_pure ∷ replicate 6 0 ≡ key_of t
  unfolding is_pure
  key_shr e = key_none t (simp (shr_of ∙ e, and-false))

  -- n: the place of the first of the six words vs that is no variable
  module _ {vs : List ℕ} {n : ℕ} (hv : vs ≡ first_vars 6 0 t) (hn : n ≡ place_of no_var vs) where
    counted : n ≡ min 6 (length (support t))
    counted = hn ∙ ap (place_of no_var) hv ∙ place_first t 6

    pub key_vars : 5 < n → not_pure ∷ replicate 6 0 ≡ key_of t
    unfolding is_pure
    key_vars h = key_none t (simp (lt-leb (length (support t)) shared_vars (omega (arith, counted)), and-false))

    pure_of : x.literal ≡ false → x.shr ≡ false → n ≤ 5 → is_pure t ≡ true
    unfolding is_pure
    pure_of e f h =
        simp (literal_of ∙ e, shr_of ∙ f, le-leb (length (support t)) shared_vars (omega (arith, counted)))

    key_rows : n ≤ 5 → (y m : ℕ) → y ≡ table_f 64 1 0 vs t → m ≡ bitmask (1 * 2 ^ n % 2 ^ 32)
        → bit_and y m ≡ table 1 0 (support t) (length (support t)) t
    key_rows h y m hy hm =
        let k : n ≡ length (support t) = omega (arith, counted) in
        ap (bit_and y) hm
        ∙ mask_rows y n (omega arith)
        ∙ ap₂ (λ (a b : ℕ). a % 2 ^ (2 ^ b)) (hy ∙ ap (λ (l : List ℕ). table_f 64 1 0 l t) hv) k
        ∙ table_first t 64 6 1 0 (omega arith) (omega (arith, pow_mono h, ap (λ (b : ℕ). 2 ^ b) k))

    pub key_words : x.literal ≡ false → x.shr ≡ false → n ≤ 5 → {y m : ℕ} → y ≡ table_f 64 1 0 vs t
        → m ≡ bitmask (1 * 2 ^ n % 2 ^ 32)
        → bit_and y m ∷ get_or vs 0 0 ∷ get_or vs 1 0 ∷ get_or vs 2 0 ∷ get_or vs 3 0 ∷ get_or vs 4 0 ∷ get_or vs 5 0 ∷ []
        ≡ key_of t
    unfolding first_vars
    key_words e f h {y} {m} hy hm =
        ap₂ ◌∷◌ (key_rows h y m hy hm)
        (ap (λ (l : List ℕ). get_or l 0 0 ∷ get_or l 1 0 ∷ get_or l 2 0 ∷ get_or l 3 0 ∷ get_or l 4 0 ∷ get_or l 5 0 ∷ []) hv)
        ∙ key_some t (pure_of e f h)

-- ---- sharing by keys

-- a tree that is not shared by its table
pub not_pure_same : (u t : Tree) → is_pure t ≡ false → same_table u t ≡ false
unfolding same_table
not_pure_same u t e = simp (e, and-false)

pub not_pure_key : (t : Tree) → is_pure t ≡ false → get_or (key_of t) 0 0 ≡ not_pure
not_pure_key t e = ap (λ (l : List ℕ). get_or l 0 0) (sym (key_none t e))

-- one that is: its table is no number that stands for none
table_low : (t : Tree) → is_pure t ≡ true → table 1 0 (support t) (length (support t)) t < not_pure
table_low t e =
    let n : ℕ = length (support t) in
    let rows : 2 ^ n ≤ 2 ^ 5 = pow_mono (pure_parts t e).few in
    let few : 2 ^ (2 ^ n) ≤ 2 ^ (2 ^ 5) = pow_mono rows in
    omega (arith, table_lt 1 0 (support t) t n)

pub pure_key : (t : Tree) → is_pure t ≡ true → eqb (get_or (key_of t) 0 0) not_pure ≡ false
pure_key t e =
    ap (λ (l : List ℕ). eqb (get_or l 0 0) not_pure) (sym (key_some t e))
    ∙ ne_eqb (table 1 0 (support t) (length (support t)) t) not_pure (λ q. omega (arith, table_low t e))

-- the same table: the same key
pub same_table_key : (u t : Tree) → is_pure t ≡ true → same_table u t ≡ eq_list (key_of u) (key_of t)
unfolding same_table same_vars eq_list
same_table_key u t pt = go (is_pure u) refl
  where
    ku : ℕ
    ku = table 1 0 (support u) (length (support u)) u

    kt : ℕ
    kt = table 1 0 (support t) (length (support t)) t

    vars_differ : is_pure u ≡ true → eq_list (support u) (support t) ≡ false
        → (b : Bool) → eq_list (first_vars 6 0 u) (first_vars 6 0 t) ≡ b → b ≡ false
    vars_differ pu d false e = refl
    vars_differ pu d true e =
        let few-u = (pure_parts u pu).few in
        let few-t = (pure_parts t pt).few in
        let same =
        same_of_first 6 u t (omega arith) (omega arith) (eq_of_eq_list (first_vars 6 0 u) (first_vars 6 0 t) e) in
        false_true (sym d ∙ ap (λ (l : List ℕ). eq_list l (support t)) same ∙ eq_list_self (support t))

    both : is_pure u ≡ true → (b : Bool) → eq_list (support u) (support t) ≡ b
        → b && eqb ku (table 1 0 (support u) (length (support u)) t)
        ≡ eqb ku kt && eq_list (first_vars 6 0 u) (first_vars 6 0 t)
    both pu true e =
        let same : support u ≡ support t = eq_of_eq_list (support u) (support t) e in
        let words : eq_list (first_vars 6 0 u) (first_vars 6 0 t) ≡ true =
        ap (λ (l : List ℕ). eq_list l (first_vars 6 0 t)) (first_of_same 6 u t same) ∙ eq_list_self (first_vars 6 0 t) in
        ap (λ (vs : List ℕ). eqb ku (table 1 0 vs (length vs) t)) same
        ∙ sym (ap (◌&&◌ (eqb ku kt)) words ∙ and-true (eqb ku kt))
    both pu false e = simp (vars_differ pu e _ refl, and-false)

    shared : Bool
    shared = eq_list (support u) (support t) && eqb ku (table 1 0 (support u) (length (support u)) t)

    go : (b : Bool) → is_pure u ≡ b → is_pure u && (is_pure t && shared) ≡ eq_list (key_of u) (key_of t)
    go true pu =
        rw (← key_some u pu, ← key_some t pt) (simp (pu, pt) (both pu (eq_list (support u) (support t)) refl))
    go false pu =
        rw (← key_none u pu, ← key_some t pt)
        (simp (pu, ne_eqb not_pure kt (λ q. omega (arith, table_low t pt))))
