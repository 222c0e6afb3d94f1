-- Laws of the drop of terms without effect and of the join of two entries (specs/Steps.antt) as the code does them.
use Rattle.made.specs.declared.Made.{Made}
use mathlib.Core.Path.{◌≡◌, refl, ap, sym, subst, ◌∙◌}
use Prim.Native.Nat.{ℕ, ◌<◌}
use mathlib.Core.List.{List}
use mathlib.Core.Bool.{Bool, true, false, ◌&&◌}
use lib.ListN.{length, get_or}
use lib.Bits.{bit_or}
use Rattle.arith.specs.Effective.{can_change_coefficient_to}
use Rattle.base.specs.Choice.{when}
use Rattle.record.specs.Tree.{Tree}
use Rattle.group.specs.declared.Group.{Group}
use Rattle.semilinear.specs.Form.{Row}
use Rattle.group.specs.Group.{Entry, at, put_entry, is_live, consumed, work}
use Rattle.made.specs.Rows.{create_masked}
use Rattle.group.specs.Steps.{drop_at, drop_zero, join_at}
use Rattle.made.specs.Made.{Grew}
use Rattle.group.specs.Made.{Stands, Stepped}
use Rattle.entries.specs.Tests.{drops_of}
use Rattle.group.proofs.SteppedLaws.{stepped_of}
use Rattle.base.proofs.LoopLaws.{when_both, for_same, for_keeps}

-- ---- the drop

abbrev pub drops_entry : ℕ → Group → ℕ → Bool
drops_entry w g i = drops_of (at g i) w

test_drops : (w : ℕ) (e : Entry) → (is_live e && can_change_coefficient_to e.coeff 0 e.mask w) ≡ drops_of e w
unfolding drops_of
test_drops w e = go (is_live e)
  where
    go : (b : Bool) → (b && can_change_coefficient_to e.coeff 0 e.mask w)
        ≡ when b (λ _. can_change_coefficient_to e.coeff 0 e.mask w) (λ _. false)
    go true = refl
    go false = refl

module _ (w i : ℕ) (g : Group) where
  pub drop_at_same : drops_entry w g i ≡ false → drop_at w i g ≡ g
  unfolding drop_at
  drop_at_same h = simp (test_drops w (at g i) ∙ h)

  -- the group without an entry
  abbrev pub drop_group : Group
  drop_group = put_entry g i (consumed (at g i))

  pub drop_at_drop : drops_entry w g i ≡ true → drop_at w i g ≡ drop_group
  unfolding drop_at
  drop_at_drop h = simp (test_drops w (at g i) ∙ h)

pub drop_none : (w : ℕ) (g : Group) → ((i : ℕ) → i < g.len → drops_entry w g i ≡ false) → g ≡ drop_zero w g
unfolding drop_zero
drop_none w g h = sym (for_same (drop_at w) 0 g.len g (λ i _ u. drop_at_same w i g (h i u)))

len_drop_at : (w i : ℕ) (r : Group) → (drop_at w i r).len ≡ r.len
unfolding drop_at put_entry
len_drop_at w i r =
    let e = at r i in
    when_both (λ (k : Group). k.len ≡ r.len) (is_live e && can_change_coefficient_to e.coeff 0 e.mask w)
    (put_entry r i (consumed e)) r (λ _. refl) (λ _. refl)

pub len_drop_zero : (w : ℕ) (g : Group) → (drop_zero w g).len ≡ g.len
unfolding drop_zero
len_drop_zero w g =
    for_keeps (λ (r : Group). r.len ≡ g.len) (drop_at w) 0 g.len g (λ i r _ _ e. len_drop_at w i r ∙ e) refl

-- ---- the join

abbrev pub joined_mask : Group → ℕ → ℕ → ℕ
joined_mask g i j = bit_or (at g i).mask (at g j).mask

-- the entry i with the bits of another
abbrev pub joined_entry : Group → ℕ → ℕ → ℕ → ℕ → Entry
joined_entry g c i j n = record { coeff = c; mask = joined_mask g i j; atom = n; mark = (at g i).mark }

-- the group with entry j joined to entry i
abbrev pub join_group : Group → ℕ → ℕ → ℕ → ℕ → Group
join_group g c i j n = put_entry (put_entry g i (joined_entry g c i j n)) j (consumed (at g j))

join_at_is : (w : ℕ) (t : Tree) (c i j : ℕ) (g : Group) (l : List Row)
    → join_at w t c i j (work g l) ≡ work (join_group g c i j (length l)) (create_masked w t (joined_mask g i j) l)
unfolding join_at work
join_at_is w t c i j g l = refl

pub joined_stepped : {w : ℕ} (t : Tree) (c i j : ℕ) {g r : Group} {made : Made} {out : List ℕ} {made' : Made} {out' : List ℕ}
    → Grew w 1 (create_masked w t (joined_mask g i j)) made out made' out'
    → r ≡ join_group g c i j made.rows
    → Stepped w 1 (join_at w t c i j) g made out r made' out'
unfolding work put_entry
joined_stepped {w} t c i j {g} {r} {made' = made'} {out' = out'} grew e =
    stepped_of grew.room grew.later grew.long (ap (λ (k : Group). k.len) e)
    (λ l held.
    subst (Stands w r made' out') (sym (join_at_is w t c i j g l))
    (record { same = e ∙ ap (λ (n : ℕ). join_group g c i j n) held.rows; held = grew.held l held }))
