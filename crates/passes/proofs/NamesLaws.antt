-- The number of a name: a law for each test.
use mathlib.Core.Path.{◌≡◌}
use mathlib.Core.List.{List}
use mathlib.Core.Bool.{Bool, true, false}
use Prim.Native.Nat.{ℕ}
use Rattle.base.specs.Lists.{eq_list}
use Rattle.passes.specs.Names.{is_name, named, pass_number}

module _ (name function short : List ℕ) where
  pub name_function : eq_list name function ≡ true → true ≡ is_name name function short
  unfolding is_name
  name_function e = rw e

  pub name_short : eq_list name function ≡ false → {r : Bool} → r ≡ eq_list name short → r ≡ is_name name function short
  unfolding is_name
  name_short e h = rw e h

module _ (name : List ℕ) where
  pub number_refine : named name "refine_terms" "refine" ≡ true → 1 ≡ pass_number name
  unfolding pass_number
  number_refine e = rw e

  module _ (n1 : named name "refine_terms" "refine" ≡ false) where
    pub number_recover : named name "recover_structure" "recover" ≡ true → 2 ≡ pass_number name
    unfolding pass_number
    number_recover e = rw (n1, e)

    module _ (n2 : named name "recover_structure" "recover" ≡ false) where
      pub number_coalesce : named name "coalesce_terms" "coalesce" ≡ true → 3 ≡ pass_number name
      unfolding pass_number
      number_coalesce e = rw (n1, n2, e)

      module _ (n3 : named name "coalesce_terms" "coalesce" ≡ false) where
        pub number_flatten : named name "flatten_complex_atoms" "flatten" ≡ true → 4 ≡ pass_number name
        unfolding pass_number
        number_flatten e = rw (n1, n2, n3, e)

        module _ (n4 : named name "flatten_complex_atoms" "flatten" ≡ false) where
          pub number_compact : named name "compact_atom_table" "compact" ≡ true → 5 ≡ pass_number name
          unfolding pass_number
          number_compact e = rw (n1, n2, n3, n4, e)

          pub number_none : named name "compact_atom_table" "compact" ≡ false → 0 ≡ pass_number name
          unfolding pass_number
          number_none e = rw (n1, n2, n3, n4, e)
