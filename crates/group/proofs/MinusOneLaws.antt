-- Laws of the change of coefficients to 2 ^ w - 1 (specs/Steps.antt) as the code does it.
use mathlib.Core.Path.{◌≡◌, refl, ap, sym, ◌∙◌}
use Prim.Native.Nat.{ℕ, ◌-◌, ◌^◌, ◌≤◌, ◌<◌}
use mathlib.Core.Bool.{Bool, true, false, not, ◌&&◌}
use lib.Dec.{eqb}
use Rattle.arith.specs.Width.{bitmask}
use Rattle.arith.proofs.WidthLaws.{bitmask_ones}
use Rattle.arith.specs.Effective.{can_change_coefficient_to}
use Rattle.base.specs.Choice.{when}
use Rattle.group.specs.declared.Group.{Group}
use Rattle.group.specs.Group.{Entry, at, put_entry, is_live}
use Rattle.group.specs.Steps.{minus_one_at, to_minus_one}
use Rattle.entries.specs.Tests.{becomes_minus_one}
use Rattle.base.proofs.LoopLaws.{when_both, for_same, for_keeps}

abbrev pub becomes_minus_one_at : ℕ → Group → ℕ → Bool
becomes_minus_one_at w g i = becomes_minus_one (at g i) w

test_becomes : (w : ℕ) (e : Entry)
    → (is_live e && (not (eqb e.coeff (2 ^ w - 1)) && can_change_coefficient_to e.coeff (2 ^ w - 1) e.mask w))
    ≡ becomes_minus_one e w
unfolding becomes_minus_one
test_becomes w e = go (is_live e) (eqb e.coeff (2 ^ w - 1)) (can_change_coefficient_to e.coeff (2 ^ w - 1) e.mask w)
  where
    go : (a b t : Bool) → (a && (not b && t)) ≡ when a (λ _. when b (λ _. false) (λ _. t)) (λ _. false)
    go false b t = refl
    go true true t = refl
    go true false t = refl

module _ (w i : ℕ) (g : Group) where
  pub minus_one_at_same : becomes_minus_one_at w g i ≡ false → minus_one_at w i g ≡ g
  unfolding minus_one_at
  minus_one_at_same h = simp (test_becomes w (at g i) ∙ h)

  -- the entry with this coefficient, and the group
  abbrev pub minus_one_entry : ℕ → Entry
  minus_one_entry minus = record { coeff = minus; mask = (at g i).mask; atom = (at g i).atom; mark = (at g i).mark }

  abbrev pub minus_one_group : ℕ → Group
  minus_one_group minus = put_entry g i (minus_one_entry minus)

  pub minus_one_at_set : w ≤ 64 → {minus : ℕ} → minus ≡ bitmask w → becomes_minus_one_at w g i ≡ true
      → minus_one_at w i g ≡ minus_one_group minus
  unfolding minus_one_at
  minus_one_at_set hw e h =
      let done : minus_one_at w i g ≡ minus_one_group (2 ^ w - 1) = simp (test_becomes w (at g i) ∙ h) in
      done ∙ ap minus_one_group (sym (e ∙ bitmask_ones w hw))

pub minus_one_none : (w : ℕ) (g : Group) → ((i : ℕ) → i < g.len → becomes_minus_one_at w g i ≡ false) → g ≡ to_minus_one w g
unfolding to_minus_one
minus_one_none w g h = sym (for_same (minus_one_at w) 0 g.len g (λ i _ u. minus_one_at_same w i g (h i u)))

len_minus_one_at : (w i : ℕ) (r : Group) → (minus_one_at w i r).len ≡ r.len
unfolding minus_one_at put_entry
len_minus_one_at w i r =
    let e = at r i in
    when_both (λ (k : Group). k.len ≡ r.len)
    (is_live e && (not (eqb e.coeff (2 ^ w - 1)) && can_change_coefficient_to e.coeff (2 ^ w - 1) e.mask w))
    (put_entry r i (minus_one_entry w i r (2 ^ w - 1))) r (λ _. refl) (λ _. refl)

pub len_to_minus_one : (w : ℕ) (g : Group) → (to_minus_one w g).len ≡ g.len
unfolding to_minus_one
len_to_minus_one w g =
    for_keeps (λ (r : Group). r.len ≡ g.len) (minus_one_at w) 0 g.len g
    (λ i r _ _ e. len_minus_one_at w i r ∙ e) refl
