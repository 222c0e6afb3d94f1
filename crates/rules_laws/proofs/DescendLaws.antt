-- The descent with a rule for Not is that of rules 1 on the tree rewritten (specs/Descend.antt); without the rule it is
-- that of rules 1 on the tree itself. Both by one argument.
use mathlib.Core.Path.{◌≡◌, refl, ap, ap₂, sym, ◌∙◌}
use Prim.Native.Nat.{ℕ, ◌+◌, ◌-◌, ◌*◌, ◌%◌, ◌^◌, ◌≤◌, ◌<◌}
use native.Mathlib.Omega.{arith}
use mathlib.Core.List.{[], append-nil}
use mathlib.Core.Bool.{Bool, true, false, not, ◌&&◌, ◌||◌, or-false}
use lib.Dec.{eqb}
use lib.Pow.{pow_pos}
use Rattle.arith.specs.Width.{word_bits, mod_add, mod_mul, mod_neg}
use Rattle.arith.proofs.CongruenceLaws.{eqm_of_eq, eqm_refl, eqm_trans, eqm_mod, eqm_add, eqm_mul_l, eqm_small}
use Rattle.arith.proofs.CongruenceLaws.{eqm_multiple, eqm_neg_unique}
use Rattle.arith.proofs.WidthLaws.{mod_mul_eqm, mod_mul_lt, mod_neg_eqm, mod_neg_lt}
use Rattle.base.specs.Choice.{when}
use Rattle.base.proofs.BoolLaws as bools
use Rattle.record.specs.Tree.{Tree}
use Rattle.record.specs.Tree.Tree.{Constant, Variable, Unary, Binary}
use Rattle.expr_utils.specs.Utils.{has_kind, has_var_dep, has_arith}
use Rattle.expr.specs.Value.{value}
use Rattle.semilinear.proofs.RowsLaws.{word_lt}
use Rattle.normalizer_laws.specs.Collect.{Collected, nonlinear, linear, join_collected, collect_atom, collect_constant}
use Rattle.normalizer_laws.specs.Collect.{collect_and, collect_masked, collect_terms}
use Rattle.rules_laws.specs.Rules.{not_rule, rewrite_nots}
use Rattle.rules_laws.specs.Descend.{descend}
use Rattle.rules_laws.proofs.NotsLaws.{minus_one, not_cases, is_not_lem, nots_value, nots_variable}
use Rattle.rules_laws.proofs.NotsLaws.{nots_arith, nots_same}

-- two choices by one test, arm by arm
when_if : (b : Bool) (x y u v : Collected) → (b ≡ true → x ≡ u) → (b ≡ false → y ≡ v)
    → when b (λ _. x) (λ _. y) ≡ when b (λ _. u) (λ _. v)
when_if true x y u v p q = p refl
when_if false x y u v p q = q refl

module _ (nots : Bool) (w : ℕ) (hw : w ≤ 64) where
  -- f stands for t: what is collected of f is what the descent gives for t
  record Follows (t f : Tree) : Type 0 where
    variable : has_var_dep f ≡ has_var_dep t
    arithmetic : has_arith f ≡ has_arith t
    valued : value w [] f ≡ value w [] t
    same : has_arith t ≡ false → f ≡ t
    collects : (c : ℕ) → c < 2 ^ 64 → descend nots w c t ≡ collect_terms w c f

  constant_same : (c : ℕ) (t f : Tree) → value w [] f ≡ value w [] t → collect_constant w c t ≡ collect_constant w c f
  unfolding collect_constant
  constant_same c t f e = ap (λ (x : ℕ). linear (mod_mul c x w) []) (sym e)

  neg_word : (c : ℕ) → mod_neg c w < 2 ^ 64
  neg_word c = word_lt w _ hw (mod_neg_lt c w hw)

  mul_word : (c m : ℕ) → mod_mul c m w < 2 ^ 64
  mul_word c m = word_lt w _ hw (mod_mul_lt c m w hw)

  -- a root with one child to which no rule is applied
  unary_collects : (k a : ℕ) (t f : Tree) → Follows t f → nots && (eqb k 7 && has_arith t) ≡ false
      → value w [] (Unary k a f) ≡ value w [] (Unary k a t)
      → (c : ℕ) → c < 2 ^ 64 → descend nots w c (Unary k a t) ≡ collect_terms w c (Unary k a f)
  unfolding descend collect_terms
  unary_collects k a t f h off e c hc =
      rw (h.variable, h.arithmetic)
      (when_if (eqb c 0) _ _ _ _ (λ _. refl)
      (λ _. when_if (not (has_var_dep t)) _ _ _ _ (λ _. constant_same c (Unary k a t) (Unary k a f) e)
      (λ _. when_if (eqb k 8) _ _ _ _ (λ _. h.collects (mod_neg c w) (neg_word c))
      (λ _. rw off
      (when_if (has_arith t) _ _ _ _ (λ _. refl)
      (λ n. ap (λ (x : Tree). collect_atom c (Unary k a x)) (sym (h.same n))))))))

  -- a root with two
  binary_collects : (k : ℕ) (l r x y : Tree) → Follows l x → Follows r y
      → value w [] (Binary k x y) ≡ value w [] (Binary k l r)
      → (c : ℕ) → c < 2 ^ 64 → descend nots w c (Binary k l r) ≡ collect_terms w c (Binary k x y)
  unfolding descend collect_terms
  binary_collects k l r x y h i e c hc =
      rw (h.variable, h.arithmetic, h.valued, i.variable, i.arithmetic, i.valued)
      (when_if (eqb c 0) _ _ _ _ (λ _. refl)
      (λ _. when_if (not (has_var_dep l || has_var_dep r)) _ _ _ _ (λ _. constant_same c (Binary k l r) (Binary k x y) e)
      (λ _. when_if (eqb k 2) _ _ _ _ (λ _. ap₂ (join_collected w) (h.collects c hc) (i.collects c hc))
      (λ _. when_if (eqb k 3) _ _ _ _ (λ _. product)
      (λ _. when_if (has_arith l || has_arith r) _ _ _ _ (λ _. refl) bitwise)))))
    where
      product : when (not (has_var_dep l)) (λ _. descend nots w (mod_mul c (value w [] l) w) r)
          (λ _. when (not (has_var_dep r)) (λ _. descend nots w (mod_mul c (value w [] r) w) l) (λ _. nonlinear))
          ≡ when (not (has_var_dep l)) (λ _. collect_terms w (mod_mul c (value w [] l) w) y)
          (λ _. when (not (has_var_dep r)) (λ _. collect_terms w (mod_mul c (value w [] r) w) x) (λ _. nonlinear))
      product =
          when_if (not (has_var_dep l)) _ _ _ _ (λ _. i.collects _ (mul_word c (value w [] l)))
          (λ _. when_if (not (has_var_dep r)) _ _ _ _ (λ _. h.collects _ (mul_word c (value w [] r))) (λ _. refl))

      bitwise : has_arith l || has_arith r ≡ false
          → when (eqb k 4) (λ _. collect_and w c l r)
          (λ _. when (not (has_var_dep l)) (λ _. collect_masked w k c (descend nots w c r) r l)
          (λ _. when (not (has_var_dep r)) (λ _. collect_masked w k c (descend nots w c l) l r)
          (λ _. collect_atom c (Binary k l r))))
          ≡ when (eqb k 4) (λ _. collect_and w c x y)
          (λ _. when (not (has_var_dep l)) (λ _. collect_masked w k c (collect_terms w c y) y x)
          (λ _. when (not (has_var_dep r)) (λ _. collect_masked w k c (collect_terms w c x) x y)
          (λ _. collect_atom c (Binary k x y))))
      bitwise n =
          let p = bools.or_false (has_arith l) (has_arith r) n in
          let el : l ≡ x = sym (h.same p.0) in
          let er : r ≡ y = sym (i.same p.1) in
          when_if (eqb k 4) _ _ _ _ (λ _. ap₂ (collect_and w c) el er)
          (λ _. when_if (not (has_var_dep l)) _ _ _ _
          (λ _. ap (λ (z : Collected). collect_masked w k c z r l) (i.collects c hc)
          ∙ ap₂ (λ (u v : Tree). collect_masked w k c (collect_terms w c y) u v) er el)
          (λ _. when_if (not (has_var_dep r)) _ _ _ _
          (λ _. ap (λ (z : Collected). collect_masked w k c z l r) (h.collects c hc)
          ∙ ap₂ (λ (u v : Tree). collect_masked w k c (collect_terms w c x) u v) el er)
          (λ _. ap₂ (λ (u v : Tree). collect_atom c (Binary k u v)) el er)))

-- ---- without the rule

module _ (w : ℕ) (hw : w ≤ 64) where
  itself : (t : Tree) → Follows false w hw t t
  unfolding descend collect_terms
  itself (Constant v) =
      record { variable = refl; arithmetic = refl; valued = refl; same = λ _. refl; collects = λ c hc. refl }
  itself (Variable i) =
      record { variable = refl; arithmetic = refl; valued = refl; same = λ _. refl; collects = λ c hc. refl }
  itself (Unary k a t) =
      record {
        variable = refl;
        arithmetic = refl;
        valued = refl;
        same = λ _. refl;
        collects = unary_collects false w hw k a t t (itself t) refl refl;
      }
  itself (Binary k l r) =
      record {
        variable = refl;
        arithmetic = refl;
        valued = refl;
        same = λ _. refl;
        collects = binary_collects false w hw k l r l r (itself l) (itself r) refl;
      }

  -- rules 1: the descent is as it was
  pub descend_one : (c : ℕ) (t : Tree) → c < 2 ^ 64 → descend false w c t ≡ collect_terms w c t
  descend_one c t hc = (itself t).collects c hc

-- ---- with the rule

module _ (w : ℕ) (hw : w ≤ 64) where
  -- c times 2 ^ w - 1 is -c
  neg_ones : (c : ℕ) → c < 2 ^ 64 → mod_neg c w ≡ mod_mul c ((2 ^ w - 1) % 2 ^ w) w
  neg_ones c hc =
      eqm_small (mod_neg_lt c w hw) (mod_mul_lt c ((2 ^ w - 1) % 2 ^ w) w hw)
      (eqm_neg_unique c (mod_neg_eqm c w hw hc)
      (eqm_trans (eqm_add (mod_mul_eqm c ((2 ^ w - 1) % 2 ^ w) w hw) (eqm_refl c))
      (eqm_trans (eqm_add (eqm_mul_l c (eqm_mod (2 ^ w) (2 ^ w - 1))) (eqm_refl c))
      (eqm_trans (eqm_of_eq (whole c (2 ^ w) (pow_pos w))) (eqm_multiple (2 ^ w) c)))))
    where
      whole : (c m : ℕ) → 0 < m → c * (m - 1) + c ≡ c * m
      whole c m h = let e : m - 1 + 1 ≡ m = omega arith in omega (arith, ap (λ (y : ℕ). c * y) e)

  add_comm : (a b : ℕ) → mod_add a b w ≡ mod_add b a w
  unfolding mod_add
  add_comm a b = ap (λ (x : ℕ). x % 2 ^ word_bits w) (omega arith)

  -- a constant before or behind
  join_swap : (d e : ℕ) → d ≡ e → (x : Collected)
      → join_collected w (linear d []) x ≡ join_collected w x (linear e [])
  unfolding join_collected
  join_swap d e q nonlinear = refl
  join_swap d e q (linear b l) =
      ap₂ linear (add_comm d b ∙ ap (λ (y : ℕ). mod_add b y w) q) (sym (append-nil l))

  -- what rules 1 collect of -f - 1
  minus_collects : (c : ℕ) (f : Tree) → eqb c 0 ≡ false → has_var_dep f ≡ true
      → collect_terms w c (minus_one w f)
      ≡ join_collected w (collect_terms w (mod_neg c w) f) (linear (mod_mul c ((2 ^ w - 1) % 2 ^ w) w) [])
  unfolding collect_terms collect_constant has_kind value
  minus_collects c f z v = simp (z, v)

  minus_closed : (c : ℕ) (f : Tree) → eqb c 0 ≡ false → has_var_dep f ≡ false
      → collect_terms w c (minus_one w f) ≡ collect_constant w c (minus_one w f)
  unfolding collect_terms has_kind
  minus_closed c f z v = simp (z, v)

  minus_none : (c : ℕ) (f : Tree) → eqb c 0 ≡ true → collect_terms w c (minus_one w f) ≡ linear 0 []
  unfolding collect_terms
  minus_none c f z = simp z

  -- what the descent gives for a Not over an Add, Mul or Neg
  not_goes : (c k a : ℕ) (t : Tree) → k ≡ 7 → has_arith t ≡ true → eqb c 0 ≡ false → has_var_dep t ≡ true
      → descend true w c (Unary k a t) ≡ join_collected w (linear (mod_neg c w) []) (descend true w (mod_neg c w) t)
  unfolding descend
  not_goes c k a t e h z v = rw e (simp (z, v, h))

  not_closed : (c k a : ℕ) (t : Tree) → eqb c 0 ≡ false → has_var_dep t ≡ false
      → descend true w c (Unary k a t) ≡ collect_constant w c (Unary k a t)
  unfolding descend
  not_closed c k a t z v = simp (z, v)

  not_none : (c k a : ℕ) (t : Tree) → eqb c 0 ≡ true → descend true w c (Unary k a t) ≡ linear 0 []
  unfolding descend
  not_none c k a t z = simp z

  not_collects : (k a : ℕ) (t f : Tree) → Follows true w hw t f → k ≡ 7 → has_arith t ≡ true
      → value w [] (minus_one w f) ≡ value w [] (Unary k a t)
      → (c : ℕ) → c < 2 ^ 64 → descend true w c (Unary k a t) ≡ collect_terms w c (minus_one w f)
  not_collects k a t f h e n q c hc = go (eqb c 0) (has_var_dep t) refl refl
    where
      go : (z v : Bool) → eqb c 0 ≡ z → has_var_dep t ≡ v
          → descend true w c (Unary k a t) ≡ collect_terms w c (minus_one w f)
      go true v z d = not_none c k a t z ∙ sym (minus_none c f z)
      go false false z d =
          not_closed c k a t z d
          ∙ constant_same true w hw c (Unary k a t) (minus_one w f) q
          ∙ sym (minus_closed c f z (h.variable ∙ d))
      go false true z d =
          not_goes c k a t e n z d
          ∙ join_swap (mod_neg c w) _ (neg_ones c hc) _
          ∙ ap (λ (x : Collected). join_collected w x (linear (mod_mul c ((2 ^ w - 1) % 2 ^ w) w) []))
          (h.collects (mod_neg c w) (neg_word true w hw c))
          ∙ sym (minus_collects c f z (h.variable ∙ d))

  unary_rule : (k a : ℕ) (t : Tree) → Follows true w hw t (rewrite_nots w t)
      → value w [] (not_rule w k a t (rewrite_nots w t)) ≡ value w [] (Unary k a t)
      → (c : ℕ) → c < 2 ^ 64 → descend true w c (Unary k a t) ≡ collect_terms w c (not_rule w k a t (rewrite_nots w t))
  unary_rule k a t h =
      not_cases (λ (x : Tree). value w [] x ≡ value w [] (Unary k a t)
      → (c : ℕ) → c < 2 ^ 64 → descend true w c (Unary k a t) ≡ collect_terms w c x) w k a t (rewrite_nots w t)
      (λ b q. let p = is_not_lem k t b in not_collects k a t (rewrite_nots w t) h p.0 p.1 q)
      (λ b q. unary_collects true w hw k a t (rewrite_nots w t) h b q)

  rewritten : (t : Tree) → Follows true w hw t (rewrite_nots w t)
  unfolding descend collect_terms rewrite_nots
  rewritten (Constant v) =
      record { variable = refl; arithmetic = refl; valued = refl; same = λ _. refl; collects = λ c hc. refl }
  rewritten (Variable i) =
      record { variable = refl; arithmetic = refl; valued = refl; same = λ _. refl; collects = λ c hc. refl }
  rewritten (Unary k a t) =
      record {
        variable = nots_variable w (Unary k a t);
        arithmetic = nots_arith w (Unary k a t);
        valued = nots_value w [] (Unary k a t);
        same = nots_same w (Unary k a t);
        collects = unary_rule k a t (rewritten t) (nots_value w [] (Unary k a t));
      }
  rewritten (Binary k l r) =
      record {
        variable = nots_variable w (Binary k l r);
        arithmetic = nots_arith w (Binary k l r);
        valued = nots_value w [] (Binary k l r);
        same = nots_same w (Binary k l r);
        collects =
            binary_collects true w hw k l r (rewrite_nots w l) (rewrite_nots w r) (rewritten l) (rewritten r)
            (nots_value w [] (Binary k l r));
      }

  -- rules 2: the descent with the rule is that of rules 1 on the tree rewritten
  pub descend_two : (c : ℕ) (t : Tree) → c < 2 ^ 64 → descend true w c t ≡ collect_terms w c (rewrite_nots w t)
  descend_two c t hc = (rewritten t).collects c hc
