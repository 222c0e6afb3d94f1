-- Laws of the loop over the groups (specs/Turns.antt): after k groups the words, bytes and coefficients show a state of
-- which the other groups make what all groups make of the first one.
use Rattle.made.specs.declared.Made.{Made}
use mathlib.Core.Path.{◌≡◌, refl, subst, ◌∙◌}
use Prim.Native.Nat.{ℕ, ◌+◌, ◌*◌, ◌≤◌}
use native.Mathlib.Omega.{arith}
use mathlib.Core.List.{List, [], ◌∷◌}
use lib.ListN.{length, get_or, drop}
use Rattle.record.specs.Tree.{Tree}
use Rattle.made.specs.Made.{Room}
use Rattle.group.specs.Turns.{in_turn, EachAllowed}

-- f a turn, which P allows; R what is shown of a state; n the rows that a turn adds at most
module _ {S : Type 0} (f : Tree → S → S) (P : Tree → S → Type 0) (R : Made → List ℕ → List ℕ → S → Type 0) (n : ℕ)
    (bases : List Tree) where
  -- a state is shown of which the groups from k on make what all make of s
  pub record Still (k : ℕ) (s : S) (made : Made) (out coeffs : List ℕ) : Type 0 where
    pub state : S
    pub shown : R made out coeffs state
    pub allowed : EachAllowed f P (drop k bases) state
    pub same : in_turn f (drop k bases) state ≡ in_turn f bases s

  pub record Going (k : ℕ) (made₀ : Made) (out₀ coeffs₀ : List ℕ) (made : Made) (out coeffs : List ℕ) : Type 0 where
    pub room : Room made out
    pub rows_le : made.rows ≤ made₀.rows + k * n
    pub long : length out ≡ length out₀
    pub wide : length coeffs ≡ length coeffs₀
    pub still : (s : S) → EachAllowed f P bases s → R made₀ out₀ coeffs₀ s → Still k s made out coeffs

  pub turns_start : (made : Made) (out coeffs : List ℕ) → Room made out → Going 0 made out coeffs made out coeffs
  turns_start made out coeffs room =
      record {
        room = room;
        rows_le = omega arith;
        long = refl;
        wide = refl;
        still = λ s allowed shown. record { state = s; shown = shown; allowed = allowed; same = refl };
      }

  module _ (k : ℕ) {made₀ : Made} {out₀ coeffs₀ : List ℕ} {made : Made} {out coeffs : List ℕ} (g : Going k made₀ out₀ coeffs₀ made out coeffs) where
    -- one group more
    pub turns_next : {b : Tree} {made' : Made} {out' coeffs' : List ℕ} → drop k bases ≡ b ∷ drop (k + 1) bases
        → Room made' out' → made'.rows ≤ made.rows + n → length out' ≡ length out
        → length coeffs' ≡ length coeffs
        → ((s : S) → P b s → R made out coeffs s → R made' out' coeffs' (f b s))
        → Going (k + 1) made₀ out₀ coeffs₀ made' out' coeffs'
    unfolding in_turn EachAllowed
    turns_next {b} next room more long wide turn =
        record {
          room = room;
          rows_le = omega (arith, g.rows_le, more);
          long = long ∙ g.long;
          wide = wide ∙ g.wide;
          still = λ s allowed shown.
              let before = g.still s allowed shown in
              let allowed' = rw next at before.allowed in
              let same' = rw next at before.same in
              record {
                state = f b before.state;
                shown = turn before.state allowed'.0 before.shown;
                allowed = allowed'.1;
                same = same';
              };
        }

    -- no more groups
    pub turns_done : drop k bases ≡ [] → (s : S) → EachAllowed f P bases s → R made₀ out₀ coeffs₀ s
        → R made out coeffs (in_turn f bases s)
    unfolding in_turn
    turns_done none s allowed shown =
        let last = g.still s allowed shown in
        let same : last.state ≡ in_turn f bases s = rw none at last.same in
        subst (R made out coeffs) same last.shown
