-- Laws of `recover_pair`, `recover_at` and `recover_group` (specs/RecoverStructure.antt): they keep what
-- `KeptRecovery` says of a group beside its table and the constant.
use mathlib.Core.Path.{◌≡◌, refl, sym, ap, ◌∙◌}
use Prim.Native.Nat.{ℕ, ◌+◌, ◌-◌, ◌%◌, ◌^◌, ◌≤◌, ◌<◌}
use native.Mathlib.Omega.{arith}
use native.Mathlib.Nat.{add_comm}
use mathlib.Core.List.{List}
use mathlib.Core.Bool.{true, not}
use mathlib.Core.Logic.{◌≢◌}
use lib.Dec.{eqb, ltb, leb}
use borrow.Author.Tests.{eqb-true, ltb-true, not-false}
use Rattle.arith.specs.Width.{mod_add, mod_sub}
use Rattle.arith.proofs.WidthLaws.{mod_add_lem}
use Rattle.record.specs.Tree.{Tree}
use Rattle.base.proofs.BoolLaws.{false_true, and_true}
use Rattle.group.specs.declared.Group.{Group}
use Rattle.semilinear.specs.Form.{Row, rows_ok}
use Rattle.group.specs.Group.{Entry, at}
use Rattle.semilinear.proofs.AtomLaws.{Atom}
use Rattle.base.proofs.LoopLaws.{when_both, first_from, first_true, for_keeps}
use Rattle.structure_laws.specs.RecoverStructure.{Recovery, recover_pair, is_partner, partner_of, recover_at}
use Rattle.structure_laws.specs.RecoverStructure.{count_ones, as_gathered, looks, recover_group}
use Rattle.entries.specs.declared.Mark.{Mark}
use Rattle.entries.specs.declared.Mark.TheVariants.{Live, Consumed, Widened, Rewritten}
use Rattle.entries.specs.Marks.{not_consumed}
use Rattle.structure_laws.proofs.HeldLaws.{KeptRecovery}
use Rattle.structure_laws.proofs.RecoverPairLaws.{Pair, live_of_mark, pair_swap, xor_keeps, eliminate_keeps}

-- ---- the search

partner_after : (w : ℕ) (g : Group) (i : ℕ) → i + 1 ≤ partner_of w g i
unfolding partner_of
partner_after w g i = first_from (is_partner (2 ^ w - 1 - (at g i).mask) g) (i + 1) g.len

partner_fits_lem : (w : ℕ) (g : Group) (i : ℕ) → partner_of w g i < g.len
    → (as_gathered (at g (partner_of w g i)).mark ≡ true)
    × ((at g (partner_of w g i)).mask ≡ 2 ^ w - 1 - (at g i).mask)
unfolding partner_of is_partner
partner_fits_lem w g i l =
    let p = and_true _ _ (first_true (is_partner (2 ^ w - 1 - (at g i).mask) g) (i + 1) g.len l) in
    (p.0, eqb-true _ _ p.1)

-- an entry that looks, and one as it was gathered, are live and not rewritten
live_looks : (u : Mark) → looks u ≡ true → not_consumed u ≡ true
live_looks Live e = refl
live_looks Consumed e = false_true e
live_looks Widened e = refl
live_looks Rewritten e = false_true e

plain_looks : (u : Mark) → looks u ≡ true → u ≢ Rewritten
plain_looks u e q = false_true (sym (ap looks q) ∙ e)

looks_gathered : (u : Mark) → as_gathered u ≡ true → looks u ≡ true
looks_gathered Live e = refl
looks_gathered Consumed e = false_true e
looks_gathered Widened e = refl
looks_gathered Rewritten e = false_true e

-- an entry that looks, and the one that it finds
partner_pair : (w : ℕ) (g : Group) (i : ℕ) → looks (at g i).mark ≡ true
    → partner_of w g i < g.len → Pair w g i (partner_of w g i)
partner_pair w g i t l =
    let j : ℕ = partner_of w g i in
    let after : i + 1 ≤ j = partner_after w g i in
    let looks-j : looks (at g j).mark ≡ true = looks_gathered (at g j).mark (partner_fits_lem w g i l).0 in
    record {
      i_lt = omega (arith, after, l);
      j_lt = l;
      apart = λ (z : j ≡ i). omega (arith, after, z);
      live_i = live_of_mark (at g i) (live_looks (at g i).mark t);
      live_j = live_of_mark (at g j) (live_looks (at g j).mark looks-j);
      plain_i = plain_looks (at g i).mark t;
      plain_j = plain_looks (at g j).mark looks-j;
      complement = (partner_fits_lem w g i l).1;
    }

-- ---- the pair, the entry and the group

module _ (w : ℕ) (hw : w ≤ 64) (vars : List ℕ) (b : Tree) (hb : Atom b) (g0 : Group) (rows0 : List Row)
    (ok : rows_ok w rows0 ≡ true) (c0 : ℕ) where
  abbrev K : Recovery → Type 0
  K x = KeptRecovery w vars b g0 rows0 c0 x

  pub pair_keeps : (i j : ℕ) (x : Recovery) → K x → Pair w x.group i j → K (recover_pair w b i j x)
  unfolding recover_pair
  pair_keeps i j x h p =
      let e : Entry = at x.group i in
      let f : Entry = at x.group j in
      when_both K (eqb (mod_add e.coeff f.coeff w) 0) _ _
      (λ t.
      let z : mod_add e.coeff f.coeff w ≡ 0 = eqb-true _ _ t in
      when_both K (leb (count_ones e.mask) (count_ones f.mask)) _ _
      (λ _. xor_keeps w hw vars b hb g0 rows0 ok c0 x h i j p z)
      (λ _.
      xor_keeps w hw vars b hb g0 rows0 ok c0 x h j i (pair_swap w hw vars b hb g0 rows0 ok c0 x h i j p)
      (mod_add_swap f.coeff e.coeff ∙ z)))
      (λ t.
      when_both K (eqb (mod_sub e.coeff f.coeff w) 0) _ _ (λ _. h)
      (λ _. eliminate_keeps w hw vars b hb g0 rows0 ok c0 x h i j p))
    where
      mod_add_swap : (a c : ℕ) → mod_add a c w ≡ mod_add c a w
      mod_add_swap a c =
          mod_add_lem a c w hw ∙ ap (λ (n : ℕ). n % 2 ^ w) (add_comm a c) ∙ sym (mod_add_lem c a w hw)

  at_keeps : (i : ℕ) (x : Recovery) → K x → K (recover_at w b i x)
  unfolding recover_at
  at_keeps i x h =
      let g : Group = x.group in
      when_both K (not (looks (at g i).mark)) _ _ (λ _. h)
      (λ t.
      when_both K (ltb (partner_of w g i) g.len) _ _
      (λ u. pair_keeps i (partner_of w g i) x h (partner_pair w g i (not-false _ t) (ltb-true _ _ u)))
      (λ _. h))

  pub recover_group_keeps : (x : Recovery) → K x → K (recover_group w b x)
  unfolding recover_group
  recover_group_keeps x h = for_keeps K (recover_at w b) 0 x.group.len x (λ i y a l k. at_keeps i y k) h
