-- The walk of a truth table below Not and Shr: the rows of a tree are those of a subtree at a place as high or higher,
-- complemented or as they are. A place and a width are the halves of one number (HalvesLaws.antt).
use mathlib.Core.Path.{◌≡◌, refl, ap, sym, ◌∙◌}
use Prim.Native.Nat.{ℕ, ◌+◌, ◌-◌, ◌/◌, ◌%◌, ◌^◌, ◌≤◌, ◌<◌}
use native.Mathlib.Omega.{arith}
use mathlib.Core.List.{List}
use mathlib.Core.Bool.{Bool, true, false, not}
use Rattle.base.specs.Choice.{when}
use Rattle.record.specs.Fields.{kind, amount, size, arity}
use Rattle.record.specs.Span.{body, sized}
use Rattle.record.specs.Decode.{leaf, decode}
use Rattle.record.proofs.DecodeLaws.{decode_leaf, decode_one, child_body}
use Rattle.truth.specs.Truth.{table_f}
use Rattle.truth.proofs.TruthLaws.{table_f_lt}
use Rattle.truth.proofs.RowsLaws.{rows_not, rows_shift, rows_past}
use Rattle.truth.proofs.HalvesLaws.{halves_shift}

-- rows, complemented or as they are
abbrev pub flipped : Bool → ℕ → ℕ
flipped b x = when b (λ _. 2 ^ 64 - 1 - x) (λ _. x)

flipped_not : (b : Bool) (x : ℕ) → x < 2 ^ 64 → flipped (not b) x ≡ flipped b (2 ^ 64 - 1 - x)
flipped_not true x h = omega arith
flipped_not false x h = refl

-- the rows of the span s at the place and the width of n, over the variables vs
abbrev pub rows_of : List ℕ → List ℕ → ℕ → ℕ
rows_of vs s n = table_f 64 (n / 4294967296) (n % 4294967296) vs (decode s)

-- at a root without children
pub rows_leaf : (vs s : List ℕ) (n : ℕ) → sized s ≡ true → {j : ℕ} → j ≡ arity (kind s) → j ≡ 0 → {x : ℕ}
    → ((w : ℕ) → x ≡ table_f 64 w (n % 4294967296) vs (leaf s)) → x ≡ rows_of vs s n
rows_leaf vs s n h ej none e = rw (decode_leaf s h ej none) (e (n / 4294967296))

-- from the span t at n to the span s at m
pub record ChainPassed (vs t : List ℕ) (n : ℕ) (s : List ℕ) (m : ℕ) (b : Bool) : Type 0 where
  pub ok : sized s ≡ true
  pub fits : m < 2 ^ 64
  pub falls : size s ≤ size t
  pub rows : {x : ℕ} → x ≡ rows_of vs s m → flipped b x ≡ rows_of vs t n

pub passed_none : (vs t : List ℕ) (n : ℕ) → n < 2 ^ 64 → sized t ≡ true → ChainPassed vs t n t n false
passed_none vs t n hn h = record { ok = h; fits = hn; falls = omega arith; rows = λ e. e }

-- past a root with one child
module _ {vs t : List ℕ} {n : ℕ} {s : List ℕ} {m : ℕ} {b : Bool} (p : ChainPassed vs t n s m b) {j : ℕ}
    (ej : j ≡ arity (kind s)) (one : j ≡ 1) where
  pub passed_not : kind s ≡ 7 → {r : List ℕ} → r ≡ body s → ChainPassed vs t n r m (not b)
  passed_not hk {r} er =
      let child = child_body s p.ok ej one er in
      record {
        ok = child.ok;
        fits = p.fits;
        falls = omega (arith, child.falls, p.falls);
        rows = λ {x} e.
            flipped_not b x (rw e (table_f_lt _ _ _ _ 64))
            ∙ p.rows
            (rows_not 64 _ _ vs (kind s) (amount s) (decode r) hk e
            ∙ sym (ap (table_f 64 _ _ vs) (decode_one s p.ok ej one er)));
      }

  module _ (shift : kind s ≡ 7 → ⊥) where
    pub passed_shift : (a : ℕ) → a ≡ amount s → m % 4294967296 + a < m / 4294967296
        → {r : List ℕ} → r ≡ body s → ChainPassed vs t n r (m + a) b
    passed_shift a ea h {r} er =
        let child = child_body s p.ok ej one er in
        let placed = halves_shift m a (omega (arith, p.fits)) in
        record {
          ok = child.ok;
          fits = omega (arith, placed.0, placed.1, p.fits);
          falls = omega (arith, child.falls, p.falls);
          rows = λ {x} e.
              p.rows
              (rows_shift 64 _ _ vs (kind s) (amount s) (decode r) shift
              (placed.1 ∙ ap (λ (y : ℕ). m % 4294967296 + y) ea) (omega (arith, placed.1)) (rw placed.0 at e)
              ∙ sym (ap (table_f 64 _ _ vs) (decode_one s p.ok ej one er)));
        }

    pub passed_past : m / 4294967296 ≤ m % 4294967296 + amount s → flipped b 0 ≡ rows_of vs t n
    passed_past h =
        p.rows
        (rows_past 64 _ _ vs (kind s) (amount s) (decode (body s)) shift h
        ∙ sym (ap (table_f 64 _ _ vs) (decode_one s p.ok ej one refl)))
