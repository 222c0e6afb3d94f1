-- Laws of `renumber`: the terms of the rows that have one, in their order.
use Rattle.atom_table.proofs.TermLengthLaws.{length_term, put_none}
use mathlib.Core.Path.{◌≡◌, refl, ap, ap₂, sym, ◌∙◌}
use Prim.Native.Nat.{ℕ, zero, suc, ◌+◌, ◌*◌, ◌^◌, ◌≤◌, ◌<◌}
use native.Mathlib.Omega.{arith}
use native.Mathlib.Nat.{le_refl}
use mathlib.Core.List.{List, [], ◌++◌, append_assoc, append-nil}
use mathlib.Core.Bool.{Bool, true, false}
use lib.ListN.{length, drop, length-append, length-drop}
use Rattle.base.specs.Choice.{when}
use Rattle.base.specs.Put.{put}
use Rattle.base.proofs.PutLaws.{put_then, length_put}
use Rattle.semilinear.specs.Form.{term_bytes}
use Rattle.semilinear.specs.Items.{front_word, is_term}
use Rattle.atom_table.specs.declared.table.Written.{Written}
use Rattle.semilinear.specs.declared.items.Term.{Term}
use Rattle.semilinear.specs.Atoms.{FrontTerm}
use Rattle.compaction.specs.Compact.{renumber_f, renumber, TermsCopied}
use Rattle.semilinear.proofs.ItemsLaws.{term_big}

-- ---- the equations

renumber_f_enough : (m n w j : ℕ) (q : List ℕ) → length q ≤ m → length q ≤ n → renumber_f m w j q ≡ renumber_f n w j q
unfolding renumber_f
renumber_f_enough zero zero w j q h k = refl
renumber_f_enough zero (suc n) w j q h k = none (is_term q) refl
  where
    none : (b : Bool) → is_term q ≡ b
        → [] ≡ when (is_term q) (λ _. term_bytes w j (front_word q) ++ renumber_f n w (j + 1) (drop 16 q)) (λ _. [])
    none true e = absurd (omega (arith, term_big q e))
    none false e = simp e
renumber_f_enough (suc m) zero w j q h k = none (is_term q) refl
  where
    none : (b : Bool) → is_term q ≡ b
        → when (is_term q) (λ _. term_bytes w j (front_word q) ++ renumber_f m w (j + 1) (drop 16 q)) (λ _. []) ≡ []
    none true e = absurd (omega (arith, term_big q e))
    none false e = simp e
renumber_f_enough (suc m) (suc n) w j q h k =
    go (is_term q) refl
    (λ e. renumber_f_enough m n w (j + 1) (drop 16 q) (omega (arith, length-drop 16 q, term_big q e))
    (omega (arith, length-drop 16 q, term_big q e)))
  where
    go : (b : Bool) → is_term q ≡ b
        → (is_term q ≡ true → renumber_f m w (j + 1) (drop 16 q) ≡ renumber_f n w (j + 1) (drop 16 q))
        → when (is_term q) (λ _. term_bytes w j (front_word q) ++ renumber_f m w (j + 1) (drop 16 q)) (λ _. [])
        ≡ when (is_term q) (λ _. term_bytes w j (front_word q) ++ renumber_f n w (j + 1) (drop 16 q)) (λ _. [])
    go true e below = simp (e, below e)
    go false e below = simp e

pub renumber_term : (w j : ℕ) (q : List ℕ) → is_term q ≡ true
    → renumber w j q ≡ term_bytes w j (front_word q) ++ renumber w (j + 1) (drop 16 q)
unfolding renumber renumber_f
renumber_term w j q e =
    renumber_f_enough (length q) (suc (length q)) w j q (le_refl _) (omega arith)
    ∙ simp (
      e,
      renumber_f_enough (length q) (length (drop 16 q)) w (j + 1) (drop 16 q) (omega (arith, length-drop 16 q))
          (le_refl _),
    )

pub renumber_end : (w j : ℕ) (q : List ℕ) → is_term q ≡ false → renumber w j q ≡ []
unfolding renumber renumber_f
renumber_end w j q e = renumber_f_enough (length q) (suc (length q)) w j q (le_refl _) (omega arith) ∙ simp e

-- the terms before those that r has left are put, as x says
pub record Renumbered (w to : ℕ) (q before : List ℕ) (x : Written) (after r : List ℕ) : Type 0 where
  pub inside : x.used + length r ≡ to + length q
  pub bytes : x.used ≡ to + 16 * x.terms
  pub done : List ℕ
  pub all : done ++ renumber w x.terms r ≡ renumber w 0 q
  pub length_done : x.used ≡ to + length done
  pub written : after ≡ put before to done
  pub same_length : length after ≡ length before

module _ (w to : ℕ) (q before : List ℕ) (room : to + length q ≤ length before) where
  pub renumbered_start : Renumbered w to q before (record { used = to; terms = 0 }) before q
  renumbered_start =
      record {
        inside = refl;
        bytes = omega arith;
        done = [];
        all = refl;
        length_done = omega arith;
        written = put_none before to;
        same_length = refl;
      }

  module _ (x : Written) (d : List ℕ) {r t : List ℕ} {a : Term} (h : Renumbered w to q before x d r) (g : FrontTerm r a t) where
    -- the term has room, and its number is small
    pub term_room : (x.used + 16 ≤ length d) × (length q ≤ 57360 → x.terms < 2 ^ 16)
    term_room = (
      omega (arith, term_big r g.stands, h.inside, h.same_length, room),
      λ short. omega (arith, term_big r g.stands, h.inside, h.bytes, short),
    )

    pub renumbered_term : (e : List ℕ) → e ≡ put d x.used (term_bytes w x.terms a.coeff)
        → Renumbered w to q before (record { used = x.used + 16; terms = x.terms + 1 }) e t
    renumbered_term e p =
        let y : List ℕ = term_bytes w x.terms a.coeff in
        let ly : length y ≡ 16 = length_term w x.terms a.coeff in
        let w' : e ≡ put before to (h.done ++ y) =
        p ∙ ap (λ (z : List ℕ). put z x.used y) h.written
        ∙ put_then before to h.done y x.used (omega (arith, h.length_done, h.inside, room)) (sym h.length_done) in
        let ld : x.used + 16 ≡ to + length (h.done ++ y) = omega (arith, length-append h.done y, h.length_done) in
        let step : renumber w x.terms r ≡ y ++ renumber w (x.terms + 1) t =
        renumber_term w x.terms r g.stands
        ∙ ap₂ (λ (a b : List ℕ). a ++ b) (ap (term_bytes w x.terms) (sym g.coeff))
        (ap (renumber w (x.terms + 1)) (sym g.rest)) in
        record {
          inside = omega (arith, h.inside, ap length g.rest, length-drop 16 r, term_big r g.stands);
          bytes = omega (arith, h.bytes);
          done = h.done ++ y;
          all = append_assoc h.done y _ ∙ ap (λ (z : List ℕ). h.done ++ z) (sym step) ∙ h.all;
          length_done = ld;
          written = w';
          same_length =
              ap length w' ∙ length_put before to (h.done ++ y) (omega (arith, ld, term_room.0, h.same_length));
        }

  pub renumbered_end : (x : Written) (d : List ℕ) {r : List ℕ} → Renumbered w to q before x d r → is_term r ≡ false
      → TermsCopied w to q before d x
  renumbered_end x d {r} h e =
      let same : h.done ≡ renumber w 0 q =
      sym (append-nil h.done) ∙ ap (λ (z : List ℕ). h.done ++ z) (sym (renumber_end w x.terms r e)) ∙ h.all in
      record {
        place = omega (arith, h.length_done, ap length same);
        count = omega (arith, h.length_done, h.bytes, ap length same);
        written = h.written ∙ ap (put before to) same;
      }
