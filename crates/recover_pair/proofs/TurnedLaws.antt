-- Laws of the steps on two entries (specs/Recovering.antt): an Xor recovered and a mask eliminated as the code does it,
-- a step that is not made, and the same step under another name.
use Rattle.made.specs.declared.Made.{Made}
use mathlib.Core.Path.{◌≡◌, refl, ap, ap₂, sym, subst, ◌∙◌}
use Prim.Native.Nat.{ℕ, ◌+◌, ◌-◌, ◌^◌, ◌≤◌}
use native.Mathlib.Omega.{arith}
use mathlib.Core.List.{List}
use mathlib.Core.Bool.{false}
use lib.ListN.{length, get_or, set}
use lib.Seq.{get_or-set_same}
use Rattle.arith.specs.Width.{mod_add, mod_mul}
use Rattle.record.specs.Tree.{Tree}
use Rattle.semilinear.specs.Form.{Row}
use Rattle.group.specs.declared.Group.{Group}
use Rattle.group.specs.Group.{at, put_entry, consumed}
use Rattle.made.specs.Rows.{create_row}
use Rattle.made.specs.Made.{with_constant, Room, Held, Grew, Makes}
use Rattle.entries.specs.declared.Mark.TheVariants.{Rewritten, Widened}
use Rattle.structure_laws.specs.RecoverStructure.{Recovery, row_with, with_bare, recover_xor, eliminate_mask}
use Rattle.pairing.specs.Recovering.{xor_tree, XorMakes, StandsRecovery, Turned, recovery}
use Rattle.bare.specs.Showing.{BareFound}
use Rattle.bare.proofs.ConstantLaws.{room_kept, held_kept}

-- ---- what a step asks

pub xor_makes : {w hash : ℕ} {b : List ℕ} {made : Made} {out : List ℕ} → Makes w 1 hash b made out → XorMakes w b made out
xor_makes h =
    record { same = h.basis.same; encodable = h.basis.encodable; room = h.room; more = h.more }

-- ---- steps

-- for every rows that the table holds
turned_of : {w n : ℕ} {f : Recovery → Recovery} {g r : Group} {made : Made} {out : List ℕ} {made' : Made} {out' : List ℕ} → Room made' out'
    → made'.rows ≤ made.rows + n → length out' ≡ length out → r.len ≡ g.len
    → ((l : List Row) → Held w made out l → StandsRecovery w r made' out' (f (recovery g l made.constant)))
    → Turned w n f g made out r made' out'
turned_of {w} {f = f} {g} {r} {made} {made' = made'} {out' = out'} room le long len k =
    record {
      room = room;
      rows_le = le;
      long = long;
      len = len;
      stands = λ x s.
          subst (λ (y : Recovery). StandsRecovery w r made' out' (f y))
          (ap₂ (λ (h : Group) (c : ℕ). recovery h x.rows c) s.same s.constant) (k x.rows s.held);
    }

pub turned_none : {w n : ℕ} {g : Group} {made : Made} {out : List ℕ} → Room made out → Turned w n (λ x. x) g made out g made out
turned_none r = record { room = r; rows_le = omega arith; long = refl; len = refl; stands = λ x s. s }

-- what the code knows where its ways meet
pub turned_met : {w n : ℕ} {f : Recovery → Recovery} {g r q : Group} {made : Made} {out : List ℕ} {made' : Made} {out' : List ℕ} {made'' : Made} {out'' : List ℕ}
    → made'' ≡ made' → out'' ≡ out' → q ≡ r → Turned w n f g made out r made' out' → Turned w n f g made out q made'' out''
turned_met em eo er p = rw (em, eo, er) p

-- the same step of this group
pub turned_as : {w n : ℕ} {f h : Recovery → Recovery} {g r : Group} {made : Made} {out : List ℕ} {made' : Made} {out' : List ℕ}
    → ((x : Recovery) → g ≡ x.group → f x ≡ h x) → Turned w n f g made out r made' out'
    → Turned w n h g made out r made' out'
turned_as e p =
    record {
      room = p.room;
      rows_le = p.rows_le;
      long = p.long;
      len = p.len;
      stands = λ x s. rw (← (e x s.same)) (p.stands x s);
    }

-- ---- an Xor recovered

-- the group; n rows before, with the full mask f
abbrev pub xor_group : Group → ℕ → ℕ → ℕ → ℕ → Group
xor_group g src dst f n =
    put_entry
    (put_entry g src (record { coeff = (at g dst).coeff; mask = f; atom = n; mark = Rewritten }))
    dst (consumed (at g dst))

module _ (w : ℕ) (t : Tree) (src dst : ℕ) where
  xor_is : (g : Group) (l : List Row) (c : ℕ)
      → recover_xor w t src dst (recovery g l c)
      ≡ recovery (xor_group g src dst (2 ^ w - 1) (length l))
      (create_row (xor_tree (at g src).mask t) l)
      (mod_add c (mod_mul (at g src).coeff (at g src).mask w) w)
  unfolding recover_xor
  xor_is g l c = refl

  pub xor_turned : {g r : Group} {made : Made} {out : List ℕ} {made' : Made} {out' : List ℕ} {made'' : Made} {f : ℕ} → f ≡ 2 ^ w - 1
      → Grew w 1 (create_row (xor_tree (at g src).mask t)) made out made' out'
      → {p : ℕ} → p ≡ mod_mul (at g src).coeff (at g src).mask w
      → made'' ≡ with_constant made' (mod_add made'.constant p w)
      → r ≡ xor_group g src dst f made.rows
      → Turned w 1 (recover_xor w t src dst) g made out r made'' out'
  unfolding put_entry
  xor_turned {g} {r} {made} {out} {made'} {out'} {made''} {f} ef grew {p} ep em e =
      let v : ℕ = mod_add made'.constant p w in
      rw em
      (turned_of (room_kept made' v grew.room)
      grew.later.rows_le
      grew.long (ap (λ (x : Group). x.len) e)
      (λ l held.
      subst (StandsRecovery w r (with_constant made' v) out') (sym (xor_is g l made.constant))
      (record {
        same = e ∙ ap₂ (xor_group g src dst) ef held.rows;
        held = held_kept made' v (grew.held l held);
        constant = ap₂ (λ (a b : ℕ). mod_add a b w) grew.later.constant ep;
      })))

-- ---- a mask eliminated

-- the group; the basis has the number n
abbrev pub widened : Group → ℕ → ℕ → ℕ → ℕ → ℕ → Group
widened g d i j f n =
    put_entry
    (put_entry g i (record { coeff = d; mask = (at g i).mask; atom = (at g i).atom; mark = (at g i).mark }))
    j (record { coeff = (at g j).coeff; mask = f; atom = n; mark = Widened })

module _ (w : ℕ) (t : Tree) (d i j : ℕ) where
  eliminate_is : (g : Group) (l : List Row) (c : ℕ)
      → eliminate_mask w t d i j (recovery g l c)
      ≡ recovery (widened g d i j (2 ^ w - 1) (row_with w t 0 l)) (with_bare w t l) c
  unfolding eliminate_mask
  eliminate_is g l c = refl

  pub eliminate_turned : {g r : Group} {made : Made} {out : List ℕ} {made' : Made} {out' : List ℕ} {f n : ℕ} → f ≡ 2 ^ w - 1
      → made.table.full ≡ false → BareFound w t n made out made' out' → r ≡ widened g d i j f n
      → Turned w 1 (eliminate_mask w t d i j) g made out r made' out'
  unfolding put_entry
  eliminate_turned {g} {r} {made} {made' = made'} {out' = out'} ef more bare e =
      turned_of bare.room bare.later.rows_le bare.long (ap (λ (x : Group). x.len) e)
      (λ l held.
      subst (StandsRecovery w r made' out') (sym (eliminate_is g l made.constant))
      (record {
        same = e ∙ ap₂ (widened g d i j) ef (bare.found more l held);
        held = bare.held more l held;
        constant = bare.later.constant;
      }))
