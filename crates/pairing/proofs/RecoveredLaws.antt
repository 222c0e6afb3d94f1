-- Laws of the loop over the entries of a group (specs/Recovering.antt): a turn more, the end, and that rows which pass a
-- limit pass it whatever is recovered.
use Rattle.made.specs.declared.Made.{Made}
use mathlib.Core.Path.{◌≡◌, refl, ap, sym, subst, ◌∙◌}
use Prim.Native.Nat.{ℕ, ◌+◌, ◌-◌, ◌≤◌, ◌<◌}
use native.Mathlib.Omega.{arith}
use native.Mathlib.Decide.{ℕ_discrete}
use mathlib.Core.List.{List}
use mathlib.Core.Bool.{true, false, not}
use lib.ListN.{length}
use lib.Dec.{eqb, ltb, leb}
use Rattle.arith.specs.Width.{mod_add, mod_sub}
use Rattle.base.specs.Loop.{for_in}
use Rattle.record.specs.Tree.{Tree}
use Rattle.base.proofs.BoolLaws.{false_true}
use Rattle.base.proofs.LoopLaws.{when_both, for_none, for_more, for_keeps, for_split}
use Rattle.semilinear.specs.Form.{Row, fits_table}
use Rattle.made.proofs.CoeffsLaws.{create_past}
use Rattle.group.specs.declared.Group.{Group}
use Rattle.group.specs.Group.{Entry, at}
use Rattle.made.specs.Rows.{create_row}
use Rattle.made.specs.Made.{Room}
use Rattle.structure_laws.specs.RecoverStructure.{looks, Recovery, row_with, with_bare, recover_xor, eliminate_mask}
use Rattle.structure_laws.specs.RecoverStructure.{count_ones, recover_pair, partner_of, recover_at, recover_group}
use Rattle.pairing.specs.Recovering.{StandsRecovery, Turned, Recovers, Recovered}

-- what holds below i, and of i, holds below i + 1
pub below_more : (P : ℕ → Type 0) (i : ℕ) → ((k : ℕ) → k < i → P k) → P i → (k : ℕ) → k < i + 1 → P k
below_more P i h p k l = go (ℕ_discrete k i)
  where
    go : Dec (k ≡ i) → P k
    go (yes e) = subst P (sym e) p
    go (no e) = h k (omega arith)

-- ---- rows that pass a limit

abbrev Past : Recovery → Type 0
Past x = fits_table x.rows ≡ false

pub past_bare : (w : ℕ) (t : Tree) (l : List Row) → fits_table l ≡ false → fits_table (with_bare w t l) ≡ false
unfolding with_bare
past_bare w t l h =
    when_both (λ (m : List Row). fits_table m ≡ false) (ltb (row_with w t 0 l) (length l)) l (create_row t l)
    (λ _. h) (λ _. create_past t l h)

module _ (w : ℕ) (t : Tree) where
  past_xor : (i j : ℕ) (x : Recovery) → Past x → Past (recover_xor w t i j x)
  unfolding recover_xor
  past_xor i j x h = create_past _ x.rows h

  past_eliminate : (d i j : ℕ) (x : Recovery) → Past x → Past (eliminate_mask w t d i j x)
  unfolding eliminate_mask
  past_eliminate d i j x h = past_bare w t x.rows h

  past_pair : (i j : ℕ) (x : Recovery) → Past x → Past (recover_pair w t i j x)
  unfolding recover_pair
  past_pair i j x h =
      let e : Entry = at x.group i in
      let f : Entry = at x.group j in
      when_both Past (eqb (mod_add e.coeff f.coeff w) 0) _ _
      (λ _. when_both Past (leb (count_ones e.mask) (count_ones f.mask)) _ _ (λ _. past_xor i j x h)
      (λ _. past_xor j i x h))
      (λ _. when_both Past (eqb (mod_sub e.coeff f.coeff w) 0) _ _ (λ _. h)
      (λ _. past_eliminate (mod_sub e.coeff f.coeff w) i j x h))

  past_at : (i : ℕ) (x : Recovery) → Past x → Past (recover_at w t i x)
  unfolding recover_at
  past_at i x h =
      let g : Group = x.group in
      when_both Past (not (looks (at g i).mark)) _ _ (λ _. h)
      (λ _. when_both Past (ltb (partner_of w g i) g.len) _ _ (λ _. past_pair i (partner_of w g i) x h) (λ _. h))

  past_from : (a b : ℕ) (x : Recovery) → Past x → Past (for_in (recover_at w t) a b x)
  past_from a b x h = for_keeps Past (recover_at w t) a b x (λ i y _ _ k. past_at i y k) h

  pub past_group : (x : Recovery) → fits_table x.rows ≡ false → fits_table (recover_group w t x).rows ≡ false
  unfolding recover_group
  past_group x h = past_from 0 x.group.len x h

-- ---- turns

pub recovers_of : {w : ℕ} {g : Group} {made : Made} {out : List ℕ} {x : Recovery} → StandsRecovery w g made out x
    → Recovers w g made out x
recovers_of s = record { stands = λ _. s; past = s.held.holds.past }

abbrev turns : ℕ → Tree → ℕ → Recovery → Recovery
turns w t n = for_in (recover_at w t) 0 n

module _ (w : ℕ) (t : Tree) {g : Group} {made : Made} {out : List ℕ} where
  pub recovered_start : Room made out → Recovered w 0 (turns w t 0) g made out g made out
  recovered_start room =
      record {
        room = room;
        rows_le = omega arith;
        long = refl;
        len = refl;
        recovers = λ x s.
            subst (Recovers w g made out) (sym (for_none (recover_at w t) 0 0 x (omega arith))) (recovers_of s);
      }

  module _ {i : ℕ} {q : Group} {made' : Made} {out' : List ℕ} (p : Recovered w i (turns w t i) g made out q made' out') where
    pub recovered_turn : made'.table.full ≡ false → {r : Group} {made'' : Made} {out'' : List ℕ}
        → Turned w 1 (recover_at w t i) q made' out' r made'' out''
        → Recovered w (i + 1) (turns w t (i + 1)) g made out r made'' out''
    recovered_turn more {r} {made''} {out''} s =
        record {
          room = s.room;
          rows_le = omega (arith, p.rows_le, s.rows_le);
          long = s.long ∙ p.long;
          len = s.len ∙ p.len;
          recovers = λ x stands.
              subst (Recovers w r made'' out'') (sym (for_more (recover_at w t) 0 i x (omega arith)))
              (recovers_of (s.stands (turns w t i x) ((p.recovers x stands).stands more)));
        }

    module _ {n : ℕ} (en : n ≡ g.len) (le : i ≤ n) (few : n ≤ 256) where
      len_of : (x : Recovery) → StandsRecovery w g made out x → n ≡ x.group.len
      len_of x s = en ∙ ap (λ (k : Group). k.len) s.same

      group_of_lem : (x : Recovery) → StandsRecovery w g made out x → turns w t n x ≡ recover_group w t x
      unfolding recover_group
      group_of_lem x s = ap (λ (k : ℕ). turns w t k x) (len_of x s)

      -- the table is full: the other turns do not matter
      pub recovered_stop : made'.table.full ≡ true → Recovered w 256 (recover_group w t) g made out q made' out'
      recovered_stop full =
          record {
            room = p.room;
            rows_le = omega (arith, p.rows_le);
            long = p.long;
            len = p.len;
            recovers = λ x s.
                let m : i + (n - i) ≡ n = omega arith in
                let all : for_in (recover_at w t) i (i + (n - i)) (turns w t i x) ≡ recover_group w t x =
                sym (for_split (recover_at w t) i (n - i) x) ∙ ap (λ (k : ℕ). turns w t k x) m ∙ group_of_lem x s in
                record {
                  stands = λ more. false_true (sym more ∙ full);
                  past = λ _.
                      subst Past all (past_from w t i (i + (n - i)) (turns w t i x) ((p.recovers x s).past full));
                };
          }

      -- or all turns are made
      pub recovered_done : n ≤ i → Recovered w 256 (recover_group w t) g made out q made' out'
      recovered_done ge =
          record {
            room = p.room;
            rows_le = omega (arith, p.rows_le);
            long = p.long;
            len = p.len;
            recovers = λ x s.
                let m : i ≡ n = omega arith in
                subst (Recovers w q made' out') (ap (λ (k : ℕ). turns w t k x) m ∙ group_of_lem x s) (p.recovers x s);
          }
