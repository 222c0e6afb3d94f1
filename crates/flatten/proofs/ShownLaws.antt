-- Laws of a table with its coefficients (specs/Flattening.antt): a coefficient put in its place, and steps that follow
-- each other.
use Rattle.made.specs.declared.Made.{Made}
use mathlib.Core.Path.{◌≡◌, refl, ap, sym, ◌∙◌}
use Prim.Native.Nat.{ℕ, suc, ◌+◌, ◌-◌, ◌<◌}
use native.Mathlib.Omega.{arith}
use mathlib.Core.List.{List, [], ◌∷◌, ◌++◌, append_assoc}
use lib.ListN.{length, get_or, set, replicate, length-append}
use lib.Seq.{set_at, get_or-set_same}
use Rattle.base.specs.Put.{put, padded}
use Rattle.record.specs.Tree.{size_of}
use Rattle.semilinear.specs.Form.{Row, tree_records, fits_table}
use Rattle.atom_table.specs.Terms.{coeffs_of}
use Rattle.atom_table.proofs.TermsLaws.{length_coeffs, coeffs_append}
use Rattle.atom_table.proofs.HoldsLaws.{bare_rows, holds_bare}
use Rattle.made.specs.Made.{with_constant, Room, Held}
use Rattle.made.specs.Shown.{Shown}
use Rattle.flatten.specs.Flattening.{bare_row, Extended}
use Rattle.bare.proofs.ConstantLaws.{room_kept, held_kept}

-- ---- coefficients

-- one of them, in the midst of the others and of zeros
set_between : (a b : List ℕ) (x y n i : ℕ) → i ≡ length a
    → set (padded n (a ++ (x ∷ b))) i y ≡ padded n (a ++ (y ∷ b))
unfolding padded
set_between a b x y n i e =
    let k : length (a ++ (x ∷ b)) ≡ length (a ++ (y ∷ b)) = simp length-append in
    let z : List ℕ = replicate (n - length (a ++ (y ∷ b))) 0 in
    rw k
    (ap (λ (d : List ℕ). set d i y) (append_assoc a (x ∷ b) z)
    ∙ set_at a x (b ++ z) y i (sym e)
    ∙ sym (append_assoc a (y ∷ b) z))

-- one more behind them
pub set_behind : (a : List ℕ) (y n i : ℕ) → i ≡ length a → length a < n
    → set (padded n a) i y ≡ padded n (a ++ (y ∷ []))
unfolding padded
set_behind a y n i e h =
    let m : ℕ = n - length (a ++ (y ∷ [])) in
    let k : n - length a ≡ suc m = omega (arith, length-append a (y ∷ [])) in
    rw k (set_at a 0 (replicate m 0) y i (sym e) ∙ sym (append_assoc a (y ∷ []) (replicate m 0)))

-- ---- a row with another coefficient

module _ (x y : Row) (e : bare_row x ≡ bare_row y) (b : List Row) where
  bare_other : (a : List Row) → bare_rows (a ++ (x ∷ b)) ≡ bare_rows (a ++ (y ∷ b))
  unfolding bare_rows bare_row
  bare_other [] = ap (λ (r : Row). r ∷ bare_rows b) e
  bare_other (z ∷ a) = rw (bare_other a)

  length_other : (a : List Row) → length (a ++ (x ∷ b)) ≡ length (a ++ (y ∷ b))
  length_other a = simp length-append

  records_other : (a : List Row) → tree_records (a ++ (x ∷ b)) ≡ tree_records (a ++ (y ∷ b))
  unfolding tree_records bare_row
  records_other [] = ap (λ (r : Row). size_of r.tree + tree_records b) e
  records_other (z ∷ a) = rw (records_other a)

  pub fits_other : (a : List Row) → fits_table (a ++ (x ∷ b)) ≡ fits_table (a ++ (y ∷ b))
  unfolding fits_table
  fits_other a = rw (length_other a, records_other a)

  pub held_other : (w : ℕ) (made : Made) (out : List ℕ) (a : List Row) → Held w made out (a ++ (x ∷ b))
      → Held w made out (a ++ (y ∷ b))
  held_other w made out a h =
      record {
        holds = holds_bare (a ++ (x ∷ b)) (a ++ (y ∷ b)) (bare_other a) w made.table out h.holds;
        clean = h.clean;
        rows = h.rows ∙ length_other a;
      }

  -- its coefficient put in its place
  pub shown_put : (w : ℕ) (made : Made) (out coeffs coeffs' : List ℕ) (a : List Row) → coeffs' ≡ set coeffs (length a) y.coeff
      → Shown w made out coeffs (a ++ (x ∷ b)) → Shown w made out coeffs' (a ++ (y ∷ b))
  unfolding coeffs_of
  shown_put w made out coeffs coeffs' a put h =
      record {
        held = held_other w made out a h.held;
        terms = λ fit.
            put
            ∙ ap (λ (d : List ℕ). set d (length a) y.coeff)
            (h.terms (fits_other a ∙ fit) ∙ ap (padded 256) (coeffs_append a (x ∷ b)))
            ∙ set_between (coeffs_of a) (coeffs_of b) x.coeff y.coeff 256 (length a) (sym (length_coeffs a))
            ∙ ap (padded 256) (sym (coeffs_append a (y ∷ b)));
      }

-- ---- steps

pub extended_then : {w n m : ℕ} {F G : List Row → List Row} {k j : ℕ → ℕ}
    {made : Made} {out coeffs : List ℕ} {made' : Made} {out' coeffs' : List ℕ} {made'' : Made} {out'' coeffs'' : List ℕ}
    → Extended w n F k made out coeffs made' out' coeffs' → Extended w m G j made' out' coeffs' made'' out'' coeffs''
    → Extended w (n + m) (λ l. G (F l)) (λ x. j (k x)) made out coeffs made'' out'' coeffs''
extended_then {F = F} {j = j} a b =
    record {
      room = b.room;
      rows_le = omega (arith, a.rows_le, b.rows_le);
      constant = b.constant ∙ ap j a.constant;
      long = b.long ∙ a.long;
      wide = b.wide ∙ a.wide;
      shown = λ l h. b.shown (F l) (a.shown l h);
    }

-- the same step under other names
pub extended_as : {w n : ℕ} {F G : List Row → List Row} {k j : ℕ → ℕ} {made : Made} {out coeffs : List ℕ} {made' : Made} {out' coeffs' : List ℕ}
    → ((l : List Row) → F l ≡ G l) → ((x : ℕ) → k x ≡ j x) → Extended w n F k made out coeffs made' out' coeffs'
    → Extended w n G j made out coeffs made' out' coeffs'
extended_as {made = made} f g a =
    record {
      room = a.room;
      rows_le = a.rows_le;
      constant = a.constant ∙ g made.constant;
      long = a.long;
      wide = a.wide;
      shown = λ l h. rw (← (f l)) (a.shown l h);
    }

-- another constant alone
module _ (w : ℕ) (made : Made) (out coeffs : List ℕ) (r : Room made out) (k : ℕ → ℕ) where
  abbrev with : Made
  with = with_constant made (k made.constant)

  pub extended_constant : {made' : Made} → made' ≡ with → Extended w 0 (λ l. l) k made out coeffs made' out coeffs
  extended_constant e =
      let v : ℕ = k made.constant in
      rw e record {
        room = room_kept made v r;
        rows_le = omega arith;
        constant = refl;
        long = refl;
        wide = refl;
        shown = λ l h. record { held = held_kept made v h.held; terms = h.terms };
      }
