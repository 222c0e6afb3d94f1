-- Laws of the facts of an atom in the index (specs/Index.antt): they are what `atom_facts` makes, and a profile word is
-- made from them.
use mathlib.Core.Path.{◌≡◌, refl, ap, ap₂, sym, ◌∙◌}
use Prim.Native.Nat.{ℕ, ◌-◌, ◌*◌, ◌%◌, ◌^◌, ◌≤◌, ◌<◌, min}
use native.Mathlib.Omega.{arith}
use mathlib.Core.List.{List}
use mathlib.Core.Bool.{Bool, true, false}
use lib.ListN.{length}
use lib.Bits.{bit_and, bit_or, and_mask}
use lib.Dec.{ltb}
use lib.Pow.{pow_mono}
use borrow.Author.Tests.{lt-ltb, le-ltb}
use Rattle.arith.specs.Width.{bitmask}
use Rattle.record.specs.Tree.{Tree}
use Rattle.base.proofs.BoolLaws.{or_of_r}
use Rattle.expr.specs.Vars.{no_var, first_vars, support}
use Rattle.truth.specs.Truth.{has_shift, place_of, table_f}
use Rattle.truth.proofs.FirstVarsLaws.{place_first, table_first}
use Rattle.partition_laws.specs.Partition.{column_vars, is_opaque, opaque_word, profile_word}
use Rattle.profile.specs.Edges.{edges_of, atom_edges}
use Rattle.std.specs.Prelude.{None, Some}
use Rattle.std.proofs.lemmas.Option.{none-some, same_Some}
use Rattle.profile.specs.declared.index.AtomFacts.{AtomFacts}
use Rattle.profile.specs.declared.index.Columns.{Columns}
use Rattle.profile.specs.Index.{atom_facts}
use Rattle.partition_laws.proofs.ProfileLaws.{tabled, profile_word_tabled, profile_word_opaque}

module _ (at : ℕ) (t : Tree) where
  opaque : is_opaque t ≡ true → record { at = at; edges = 1; table = None } ≡ atom_facts at t
  unfolding atom_facts
  opaque e = sym (simp e)

  tabled_facts : is_opaque t ≡ false
      → record {
        at = at;
        edges = bit_or (edges_of t) 1;
        table = Some (record { rows = 2 ^ (2 ^ length (support t)) - 1; vars = first_vars 6 0 t });
      } ≡ atom_facts at t
  unfolding atom_facts
  tabled_facts e = sym (simp e)

  -- ---- what the code makes

  pub facts_shift : {x : Bool} → x ≡ has_shift t → x ≡ true → record { at = at; edges = 1; table = None } ≡ atom_facts at t
  unfolding is_opaque
  facts_shift hx e = opaque (or_of_r (ltb column_vars (length (support t))) (has_shift t) (sym hx ∙ e))

  -- n: the place of the first of the six words vs that is no variable
  module _ {vs : List ℕ} {n : ℕ} (hv : vs ≡ first_vars 6 0 t) (hn : n ≡ place_of no_var vs) where
    counted : n ≡ min 6 (length (support t))
    counted = hn ∙ ap (place_of no_var) hv ∙ place_first t 6

    pub facts_many : 5 < n → record { at = at; edges = 1; table = None } ≡ atom_facts at t
    unfolding is_opaque
    facts_many h = opaque (simp (lt-ltb column_vars (length (support t)) (omega (arith, counted))))

    table_of : has_shift t ≡ false → n ≤ 5 → is_opaque t ≡ false
    unfolding is_opaque
    table_of e h = simp (le-ltb column_vars (length (support t)) (omega (arith, counted)), e)

    ones_of : n ≤ 5 → bitmask (1 * 2 ^ n % 2 ^ 32) ≡ 2 ^ (2 ^ length (support t)) - 1
    unfolding bitmask
    ones_of h =
        let few : 2 ^ n ≤ 2 ^ 5 = pow_mono h in
        let e : min (1 * 2 ^ n % 2 ^ 32) 64 ≡ 2 ^ n = omega arith in
        let k : n ≡ length (support t) = omega (arith, counted) in
        ap (λ (m : ℕ). 2 ^ m - 1) e ∙ ap (λ (m : ℕ). 2 ^ (2 ^ m) - 1) k

    pub facts_few : {x : Bool} → x ≡ has_shift t → x ≡ false → n ≤ 5 → {y : ℕ} → y ≡ edges_of t
        → {m : ℕ} → m ≡ bitmask (1 * 2 ^ n % 2 ^ 32)
        → record { at = at; edges = bit_or y 1; table = Some (record { rows = m; vars = vs }) } ≡ atom_facts at t
    facts_few hx e h {y} hy {m} hm = rw (hy, hm ∙ ones_of h, hv) (tabled_facts (table_of (sym hx ∙ e) h))

  -- ---- what stands in them

  pub facts_at : (atom_facts at t).at ≡ at
  unfolding atom_facts
  facts_at = go (is_opaque t) refl
    where
      go : (b : Bool) → is_opaque t ≡ b → (atom_facts at t).at ≡ at
      go true e = simp e
      go false e = simp e

  pub facts_edges : (atom_facts at t).edges ≡ atom_edges t
  unfolding atom_facts atom_edges
  facts_edges = go (is_opaque t) refl
    where
      go : (b : Bool) → is_opaque t ≡ b → (atom_facts at t).edges ≡ atom_edges t
      go true e = simp e
      go false e = simp e

  -- ---- the profile word made from them: no table, the atom is opaque

  pub word_none : (w p i : ℕ) → (atom_facts at t).table ≡ None
      → bit_or 0xDEAD_0000_0000_0000 i ≡ profile_word w p i t
  unfolding opaque_word
  word_none w p i e = go (is_opaque t) refl
    where
      go : (b : Bool) → is_opaque t ≡ b → bit_or 0xDEAD_0000_0000_0000 i ≡ profile_word w p i t
      go true o = sym (profile_word_opaque w p i t o)
      go false o = absurd (none-some _ (sym e ∙ ap (λ (x : AtomFacts). x.table) (sym (tabled_facts o))))

  pub word_some : (w p i : ℕ) (x : Columns) → (atom_facts at t).table ≡ Some x → {y : ℕ} → y ≡ table_f 64 w p x.vars t
      → bit_and y x.rows ≡ profile_word w p i t
  word_some w p i x e {y} hy = go (is_opaque t) refl
    where
      go : (b : Bool) → is_opaque t ≡ b → bit_and y x.rows ≡ profile_word w p i t
      go true o = absurd (none-some x (ap (λ (z : AtomFacts). z.table) (opaque o) ∙ e))
      go false o =
          let n : ℕ = length (support t) in
          let few : n ≤ column_vars = (tabled t o).few in
          let same = same_Some _ x (ap (λ (z : AtomFacts). z.table) (tabled_facts o) ∙ e) in
          let ones : x.rows ≡ 2 ^ (2 ^ n) - 1 = ap (λ (z : Columns). z.rows) (sym same) in
          let vars : x.vars ≡ first_vars 6 0 t = ap (λ (z : Columns). z.vars) (sym same) in
          let rows : 2 ^ n ≤ 2 ^ column_vars = pow_mono few in
          ap₂ bit_and (hy ∙ ap (λ (l : List ℕ). table_f 64 w p l t) vars) ones
          ∙ and_mask (table_f 64 w p (first_vars 6 0 t) t) (2 ^ n)
          ∙ table_first t 64 6 w p (omega arith) (omega arith)
          ∙ sym (profile_word_tabled w p i t o)
