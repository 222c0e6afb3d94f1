-- One atom registered, by what the searches find (specs/Index.antt): the row that has its tree, the row that has its
-- key, or none.
use mathlib.Core.Path.{◌≡◌, ap, sym, ◌∙◌}
use Prim.Native.Nat.{ℕ, ◌<◌}
use native.Mathlib.Omega.{arith}
use mathlib.Core.List.{List, [], ◌∷◌, ◌++◌}
use lib.ListN.{take, set}
use Rattle.std.specs.Prelude.{Option, None, Some}
use Rattle.record.specs.Tree.{IsBytes}
use Rattle.record.specs.Decode.{decode}
use Rattle.expr_refusal.specs.Refusal.{tree_refusal}
use Rattle.expr.specs.Hash.{structural_hash}
use Rattle.truth.specs.Key.{key_of}
use Rattle.atom_table.specs.declared.table.Table.{Table}
use Rattle.semilinear.specs.Form.{Row}
use Rattle.normalizer_laws.specs.Register.{shared_row, register_atom}
use Rattle.register.specs.Index.{index_rows, Indexed, Registers, Searchable, emitted, appended_row, row_by_hash}
use Rattle.register.specs.declared.index.Entry.{Entry}
use Rattle.register.specs.Index.{row_by_key, entry_at, grown}
use Rattle.register.proofs.IndexLaws.{length_rows_in, searchable}
use Rattle.register.proofs.SharedLaws.{or_n, shared_lt, key_lt, shared_by_hash, shared_by_key}
use Rattle.register.proofs.RegisteredLaws.{register_shared, register_more}
use Rattle.register.proofs.AppendedLaws.{index_room, at_inside, registers_add}

module _ (w : ℕ) (tab : Table) (index : List Entry) (out : List ℕ) (h : Indexed w tab index out) where
  pub searchable_indexed : Searchable index out tab.count
  searchable_indexed =
      searchable w index out tab.at tab.count h.entries (at_inside w tab index out h)
      (index_room w tab index out h)

  module _ (c : ℕ) (t : List ℕ) (ht : IsBytes t) (ho : IsBytes out) (ok : tree_refusal w t ≡ 0) where
    abbrev n : ℕ
    n = tab.count

    abbrev rows : List Row
    rows = index_rows index out n

    abbrev next : List Row
    next = register_atom w (emitted c t) rows

    registers_grown : (j : ℕ) → j < n → shared_row w (decode t) rows ≡ j → {after : List Entry}
        → after ≡ set index j (grown w c (entry_at index j)) → Registers w next after out tab
    registers_grown j l shared e =
        rw (register_shared w (emitted c t) rows shared)
        (registers_add w tab index out h (appended_row (emitted c t)) j l e)

    module _ {hash : ℕ} (hh : hash ≡ structural_hash (decode t)) where
      same_is : {x : Option ℕ} → x ≡ row_by_hash n hash t index out
          → x ≡ row_by_hash n (structural_hash (decode t)) t index out
      same_is hs = hs ∙ ap (λ (x : ℕ). row_by_hash n x t index out) hh

      pub same_lt : {j : ℕ} → Some j ≡ row_by_hash n hash t index out → j < n
      same_lt hs = shared_lt n hash t index out (sym hs)

      pub registers_by_hash : {j : ℕ} → Some j ≡ row_by_hash n hash t index out → {after : List Entry}
          → after ≡ set index j (grown w c (entry_at index j)) → Registers w next after out tab
      registers_by_hash {j} hs =
          registers_grown j (same_lt hs)
          (shared_by_hash w index out tab.at n h.entries ho t ht ok (sym (same_is hs)))

      module _ (none : None ≡ row_by_hash n hash t index out) {key : List ℕ} (hk : key ≡ key_of (decode t)) where
        shared_is : {found : Option ℕ} → found ≡ row_by_key key (take n index)
            → shared_row w (decode t) rows ≡ or_n n found
        shared_is hf =
            shared_by_key w index out tab.at n h.entries ho t ht ok (index_room w tab index out h) (sym (same_is none))
            ∙ ap (or_n n) (sym (hf ∙ ap (λ (k : List ℕ). row_by_key k (take n index)) hk))

        pub registers_by_key : {j : ℕ} → Some j ≡ row_by_key key (take n index) → {after : List Entry}
            → after ≡ set index j (grown w c (entry_at index j)) → Registers w next after out tab
        unfolding or_n
        registers_by_key {j} hf =
            registers_grown j (key_lt n key index (index_room w tab index out h) (sym hf)) (shared_is hf)

        pub registers_new : None ≡ row_by_key key (take n index) → {after : List Entry} {wrote : List ℕ} {r : Table}
            → Registers w (rows ++ (appended_row (emitted c t) ∷ [])) after wrote r → Registers w next after wrote r
        unfolding or_n
        registers_new hf g =
            rw (register_more w (emitted c t) rows (shared_is hf) (omega (arith, length_rows_in index out n))) g
