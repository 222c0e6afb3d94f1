-- Two functions of an assignment that agree under every assignment of one place agree under all: place by place, where
-- each has the same sum under two pairs of assignments with the same bits (SwapLaws). No minus and no sum over the
-- places is needed: what an assignment has at its places below q + 1, with all zeros, has the bits of what it has below
-- q, with what it has at q.
use mathlib.Core.Path.{◌≡◌, ap, sym, ◌∙◌}
use Prim.Native.Nat.{ℕ, zero, suc, ◌+◌, ◌*◌, ◌%◌, ◌^◌, ◌≤◌, ◌<◌}
use native.Mathlib.Nat.{zero-mod, zero-mul, one-mul, mod-one, mod-mod}
use native.Mathlib.Decide.{ℕ_discrete, dec_lt}
use native.Mathlib.Omega.{arith}
use mathlib.Core.List.{List, [], map}
use lib.ListN.{get_or, get_or-map}
use Rattle.arith.specs.Bit.{bit_at}
use Rattle.arith.specs.Congruence.{Eqm}
use Rattle.arith.proofs.BitLaws.{bit_lt, bit_of_zero, bit_cases, bit_pow, bit_pow_other, bit_mod, bit_mod_past}
use Rattle.arith.proofs.CongruenceLaws.{eqm_of_eq, eqm_sym, eqm_trans, eqm_add, eqm_cancel, eqm_small}
use Rattle.judge_laws.proofs.SwapLaws.{SameBits, Crossing, straight, crossed, Swapped}

-- ---- parts of an assignment

get_or_map_zero : (f : ℕ → ℕ) → f 0 ≡ 0 → (l : List ℕ) (v : ℕ) → get_or (map f l) v 0 ≡ f (get_or l v 0)
get_or_map_zero f z l v = ap (get_or (map f l) v) (sym z) ∙ get_or-map f l v 0

-- its places below q
below : ℕ → List ℕ → List ℕ
below q vars = map (λ (n : ℕ). n % 2 ^ q) vars

-- its place q
unfoldable pub only_at : ℕ → List ℕ → List ℕ
only_at q vars = map (λ (n : ℕ). bit_at n q * 2 ^ q) vars

below_at : (q : ℕ) (vars : List ℕ) (v : ℕ) → get_or (below q vars) v 0 ≡ get_or vars v 0 % 2 ^ q
unfolding below
below_at q vars v = get_or_map_zero (λ n. n % 2 ^ q) (zero-mod (2 ^ q)) vars v

pub only_at_lem : (q : ℕ) (vars : List ℕ) (v : ℕ) → get_or (only_at q vars) v 0 ≡ bit_at (get_or vars v 0) q * 2 ^ q
unfolding only_at
only_at_lem q vars v =
    get_or_map_zero (λ n. bit_at n q * 2 ^ q) (ap (λ (d : ℕ). d * 2 ^ q) (bit_of_zero q) ∙ zero-mul (2 ^ q)) vars v

-- a bit at place q, read there and elsewhere
pub bit_there : (q d : ℕ) → d < 2 → bit_at (d * 2 ^ q) q ≡ d
bit_there q d h =
    bit_cases (λ (d : ℕ). bit_at (d * 2 ^ q) q ≡ d)
    (ap (λ (n : ℕ). bit_at n q) (zero-mul (2 ^ q)) ∙ bit_of_zero q)
    (ap (λ (n : ℕ). bit_at n q) (one-mul (2 ^ q)) ∙ bit_pow q) d h

pub bit_elsewhere : (q p d : ℕ) → (p ≡ q → ⊥) → d < 2 → bit_at (d * 2 ^ q) p ≡ 0
bit_elsewhere q p d n h =
    bit_cases (λ (d : ℕ). bit_at (d * 2 ^ q) p ≡ 0)
    (ap (λ (n : ℕ). bit_at n p) (zero-mul (2 ^ q)) ∙ bit_of_zero p)
    (ap (λ (n : ℕ). bit_at n p) (one-mul (2 ^ q)) ∙ bit_pow_other q p n) d h

-- ---- the places below q + 1 and none have the bits of those below q and of q

module _ (q : ℕ) (vars : List ℕ) where
  none_only : (p : ℕ) → (p ≡ q → ⊥) → SameBits [] (only_at q vars) p
  none_only p n =
      record {
        bits =
            λ v.
            bit_of_zero p
            ∙ sym (bit_elsewhere q p (bit_at (get_or vars v 0) q) n (bit_lt (get_or vars v 0) q))
            ∙ ap (λ (m : ℕ). bit_at m p) (sym (only_at_lem q vars v));
      }

  next_bit : (p v : ℕ) → p < suc q → bit_at (get_or (below (suc q) vars) v 0) p ≡ bit_at (get_or vars v 0) p
  next_bit p v h = ap (λ (m : ℕ). bit_at m p) (below_at (suc q) vars v) ∙ bit_mod (get_or vars v 0) (suc q) p h

  past_bit : (k p v : ℕ) → k ≤ p → bit_at (get_or (below k vars) v 0) p ≡ 0
  past_bit k p v h = ap (λ (m : ℕ). bit_at m p) (below_at k vars v) ∙ bit_mod_past (get_or vars v 0) k p h

  crossing : (p : ℕ) → Dec (p ≡ q) → Dec (p < q) → Crossing (below (suc q) vars) [] (below q vars) (only_at q vars) p
  crossing p (yes e) d =
      crossed
      (record {
        bits =
            λ v.
            next_bit p v (omega arith)
            ∙ ap (bit_at (get_or vars v 0)) e
            ∙ sym (bit_there q (bit_at (get_or vars v 0) q) (bit_lt (get_or vars v 0) q))
            ∙ ap (bit_at (bit_at (get_or vars v 0) q * 2 ^ q)) (sym e)
            ∙ ap (λ (m : ℕ). bit_at m p) (sym (only_at_lem q vars v));
      })
      (record { bits = λ v. bit_of_zero p ∙ sym (past_bit q p v (omega arith)) })
  crossing p (no n) (yes l) =
      straight
      (record {
        bits =
            λ v.
            next_bit p v (omega arith)
            ∙ sym (ap (λ (m : ℕ). bit_at m p) (below_at q vars v) ∙ bit_mod (get_or vars v 0) q p l);
      })
      (none_only p n)
  crossing p (no n) (no l) =
      straight
      (record { bits = λ v. past_bit (suc q) p v (omega arith) ∙ sym (past_bit q p v (omega arith)) })
      (none_only p n)

  swapped : (w : ℕ) → Swapped w (below (suc q) vars) [] (below q vars) (only_at q vars)
  swapped w p h = crossing p (ℕ_discrete p q) (dec_lt p q)

-- ---- functions of an assignment

-- of w bits, the same where the words are modulo 2 ^ w, and of the same sum under two pairs with the same bits
pub record Additive (w : ℕ) (f : List ℕ → ℕ) : Type 0 where
  pub small : (vars : List ℕ) → f vars < 2 ^ w
  pub cut : (a b : List ℕ) → ((v : ℕ) → get_or a v 0 % 2 ^ w ≡ get_or b v 0 % 2 ^ w) → f a ≡ f b
  pub adds : (a b x y : List ℕ) → Swapped w a b x y → Eqm (2 ^ w) (f a + f b) (f x + f y)

module _ (w : ℕ) (f g : List ℕ → ℕ) (F : Additive w f) (G : Additive w g) (none : f [] ≡ g [])
    (singles : (q : ℕ) → q < w → (vars : List ℕ) → f (only_at q vars) ≡ g (only_at q vars)) (vars : List ℕ) where
  none_of : (h : List ℕ → ℕ) → Additive w h → h (below 0 vars) ≡ h []
  none_of h H =
      H.cut (below 0 vars) [] (λ v. ap (λ (n : ℕ). n % 2 ^ w) (below_at 0 vars v ∙ mod-one (get_or vars v 0)))

  all_of : (h : List ℕ → ℕ) → Additive w h → h (below w vars) ≡ h vars
  all_of h H =
      H.cut (below w vars) vars
      (λ v. ap (λ (n : ℕ). n % 2 ^ w) (below_at w vars v) ∙ mod-mod (get_or vars v 0) (2 ^ w))

  upto : (q : ℕ) → q ≤ w → Eqm (2 ^ w) (f (below q vars)) (g (below q vars))
  upto zero h = eqm_of_eq (none_of f F ∙ none ∙ sym (none_of g G))
  upto (suc q) h =
      let s = swapped q vars w in
      let z : ℕ = f [] in
      eqm_cancel z
      (eqm_trans (F.adds (below (suc q) vars) [] (below q vars) (only_at q vars) s)
      (eqm_trans (eqm_add (upto q (omega arith)) (eqm_of_eq (singles q (omega arith) vars)))
      (eqm_trans (eqm_sym (G.adds (below (suc q) vars) [] (below q vars) (only_at q vars) s))
      (eqm_of_eq (ap (λ (n : ℕ). g (below (suc q) vars) + n) (sym none))))))

  -- agreement at all zeros and under every assignment of one place is agreement
  pub agree : f vars ≡ g vars
  agree =
      eqm_small (F.small vars) (G.small vars)
      (eqm_trans (eqm_of_eq (sym (all_of f F))) (eqm_trans (upto w (omega arith)) (eqm_of_eq (all_of g G))))
