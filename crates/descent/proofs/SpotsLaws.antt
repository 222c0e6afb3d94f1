-- Laws of specs/Spots.antt: atoms that stand in a lent slice keep what they stand for when another one is put behind
-- them, and what one more atom adds to what was collected.
use mathlib.Core.Path.{◌≡◌, refl, ap, ◌∙◌}
use Prim.Native.Nat.{ℕ, zero, suc, ◌+◌, ◌≤◌, ◌<◌}
use native.Mathlib.Omega.{arith}
use native.Mathlib.Decide.{dec_lt}
use native.Mathlib.Numerals.{add-one}
use mathlib.Core.List.{List, [], ◌∷◌, ◌++◌}
use lib.ListN.{length, get_or, length-set}
use lib.Seq.{get_or-set_same, get_or-set_other}
use Rattle.std.specs.Prelude.{Some}
use Rattle.arith.specs.Width.{mod_add}
use Rattle.arith.proofs.WidthLaws.{mod_add_lt}
use Rattle.descent.specs.declared.collect.Atom.{Atom}
use Rattle.descent.specs.declared.collect.Descent.{Descent}
use Rattle.normalizer_laws.specs.Collect.{linear, join_collected}
use Rattle.descent.specs.Spots.{no_atom, atom_of, spot_at, spots_in, collected_in, AtomOk, SpotsOk, Collects, Pushed}

-- ---- the first atoms

-- atoms that are the same
spots_same : (file : List ℕ) (before after : List Atom) (n : ℕ)
    → ((i : ℕ) → i < n → get_or after i no_atom ≡ get_or before i no_atom)
    → spots_in file after n ≡ spots_in file before n
unfolding spots_in spot_at
spots_same file before after zero h = refl
spots_same file before after (suc n) h =
    rw (spots_same file before after n (λ i k. h i (omega arith)), h n (omega arith)) refl

-- ---- one atom more

module _ (file : List ℕ) (n : ℕ) (a : Atom) (before : List Atom) (d : Descent) (after : List Atom) (r : Descent)
    (p : Pushed n a before d after r) (room : d.count < length before) where
  length_push : length after ≡ length before
  length_push = ap length p.written ∙ length-set before d.count a

  old : (i : ℕ) → i < d.count → get_or after i no_atom ≡ get_or before i no_atom
  old i h =
      ap (λ (l : List Atom). get_or l i no_atom) p.written
      ∙ get_or-set_other before d.count i a no_atom (omega arith)

  new : get_or after d.count no_atom ≡ a
  new =
      ap (λ (l : List Atom). get_or l d.count no_atom) p.written
      ∙ get_or-set_same before d.count a no_atom room

  spots_push : spots_in file after (d.count + 1) ≡ spots_in file before d.count ++ (atom_of file a ∷ [])
  unfolding spots_in spot_at
  spots_push = rw (add-one d.count, spots_same file before after d.count old, new) refl

  ok_push : (w : ℕ) → AtomOk w file a → SpotsOk w file before d.count → SpotsOk w file after r.count
  ok_push w h ok i l = go (dec_lt i d.count)
    where
      go : Dec (i < d.count) → AtomOk w file (get_or after i no_atom)
      go (yes k) = rw (old i k) (ok i k)
      go (no k) =
          let z : i ≡ d.count = omega (arith, ap (λ (x : Descent). x.count) p.state) in
          rw (z, new) h

  -- the step adds k to the constant, and this atom
  pub collects_push : (w k : ℕ) → w ≤ 64 → n ≡ mod_add d.constant k w → AtomOk w file a
      → Collects w file 1 (linear k (atom_of file a ∷ [])) before d after (Some r)
  unfolding join_collected collected_in
  collects_push w k hw con h =
      record {
        collected =
            rw (
              ap (λ (x : Descent). x.constant) p.state,
              ap (λ (x : Descent). x.count) p.state,
              spots_push,
              con,
            ) refl;
        stepped =
            record {
              few = omega (arith, ap (λ (x : Descent). x.count) p.state);
              fits =
                  rw (ap (λ (x : Descent). x.constant) p.state, con) (mod_add_lt d.constant k w hw);
              spots = ok_push w h;
            };
        same_length = length_push;
      }
