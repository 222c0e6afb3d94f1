-- Laws of the index of a form's atoms (specs/Index.antt): what holds of it after some atoms were put.
use mathlib.Core.Path.{◌≡◌, refl, ap, ap₂, sym, ◌∙◌}
use Prim.Native.Nat.{ℕ, suc, ◌+◌, ◌≤◌, ◌<◌}
use native.Mathlib.Omega.{arith}
use native.Mathlib.Nat.{zero-add}
use native.Mathlib.Decide.{ℕ_discrete}
use mathlib.Core.List.{List, ◌∷◌}
use mathlib.Core.Bool.{true, false}
use lib.ListN.{length, get_or, set, drop}
use lib.Seq.{get_or-set_same, get_or-set_other}
use lib.Bits.{bit_or}
use Rattle.arith.specs.Bit.{bit_at}
use Rattle.arith.proofs.BitLaws.{bit_lt, bit_or_lem}
use Rattle.record.specs.Span.{sized}
use Rattle.record.specs.Tree.{Tree}
use Rattle.record.specs.Tree.Tree.{Constant}
use Rattle.record.specs.Decode.{decode}
use Rattle.expr.proofs.AcceptLaws.{accept_expr}
use Rattle.semilinear.specs.Items.{is_atom, tree_span, atom_count}
use Rattle.semilinear.proofs.ItemsLaws.{fold_atom, fold_done, atoms_ind}
use Rattle.semilinear.proofs.ValidLaws.{atom_parts, first_atom_ok, later_atoms_ok, first_tree_sized}
use Rattle.semilinear.proofs.AcceptLaws.{bytes_tree_span, bytes_after_atom}
use Rattle.profile.specs.Edges.{atom_edges}
use Rattle.profile.specs.Index.{atom_trees, tree_of, AtomsValid, atom_facts, EntryFor, AtomsIndexed}
use Rattle.profile.proofs.EdgesLaws.{edge_start}
use Rattle.profile.proofs.AtomWordsLaws.{facts_at, facts_edges}
use Rattle.profile.specs.declared.index.AtomFacts.{AtomFacts}
use Rattle.semilinear.specs.declared.items.Atom.{Atom}
use Rattle.semilinear.specs.Atoms.{FrontAtom}
use Rattle.semilinear.proofs.ScanLaws.{atom_inside, given_length, given_after}

-- ---- the trees

pub trees_count : (f : List ℕ) → length (atom_trees f) ≡ atom_count f
trees_count =
    atoms_ind (λ f. length (atom_trees f) ≡ atom_count f)
    (λ r e. ap length (fold_done _ _ r e) ∙ sym (fold_done (λ x. 0) (λ x n. 1 + n) r e))
    (λ r e below.
    ap length (fold_atom _ _ r e)
    ∙ omega (arith, fold_atom (λ x. 0) (λ x n. 1 + n) r e, below))

-- ---- some atoms were put

-- the facts of the first i atoms stand in the index; r is left, from the place `at` on
pub record Indexing (f : List ℕ) (index : List AtomFacts) (edges at i : ℕ) (r : List ℕ) : Type 0 where
  pub inside : at ≤ length f
  pub left : r ≡ drop at f
  pub valid : AtomsValid r
  pub count : length (atom_trees f) ≡ i + length (atom_trees r)
  pub rest : (j : ℕ) → tree_of f (i + j) ≡ tree_of r j
  pub entry : (j : ℕ) → j < i → EntryFor f index j (tree_of f j)
  pub start : 0 < i → bit_at edges 0 ≡ 1
  pub covers : (j : ℕ) → j < i → (p : ℕ) → bit_at edges p ≡ 0 → bit_at (atom_edges (tree_of f j)) p ≡ 0

pub indexing_none : (f : List ℕ) (index : List AtomFacts) → AtomsValid f → Indexing f index 0 0 0 f
indexing_none f index v =
    record {
      inside = omega arith;
      left = refl;
      valid = v;
      count = omega arith;
      rest = λ j. ap (tree_of f) (zero-add j);
      entry = λ j h. absurd (omega arith);
      start = λ h. absurd (omega arith);
      covers = λ j h. absurd (omega arith);
    }

module _ (f : List ℕ) (index : List AtomFacts) (edges at i : ℕ) {r : List ℕ} (h : Indexing f index edges at i r) where
  pub indexing_all : is_atom r ≡ false → length (atom_trees f) ≤ length index → AtomsIndexed f index edges
  indexing_all e room =
      let none : length (atom_trees r) ≡ 0 = ap length (fold_done _ _ r e) in
      let all : length (atom_trees f) ≡ i = omega (arith, h.count) in
      record {
        readable = record { room = room; entry = λ j l. h.entry j (omega arith) };
        start = λ l. h.start (omega arith);
        covers = λ j l. h.covers j (omega arith);
      }

  -- the walk gives the atom a
  module _ {a : Atom} {t : List ℕ} (g : FrontAtom r a t) where
    trees_here : atom_trees r ≡ decode a.tree.now ∷ atom_trees t
    trees_here =
        fold_atom _ _ r g.stands
        ∙ ap₂ (λ (x l : List ℕ). decode x ∷ atom_trees l) (sym g.tree) (sym g.rest)

    pub here_sized : sized a.tree.now ≡ true
    here_sized = rw g.tree (first_tree_sized h.valid.width r h.valid.ok g.stands)

    pub here_count : i + 1 ≤ length (atom_trees f)
    here_count = omega (arith, h.count, ap length trees_here)

    pub here_inside : at + (16 + length a.tree.now) ≤ length f
    here_inside = omega (arith, atom_inside f at r h.left g.stands h.inside, given_length g)

    here_tree : tree_of f i ≡ decode a.tree.now
    here_tree =
        let z : i ≡ i + 0 = omega arith in
        ap (tree_of f) z ∙ h.rest 0 ∙ ap (λ (l : List Tree). get_or l 0 (Constant 0)) trees_here

    valid_next : AtomsValid t
    valid_next =
        record {
          bytes = rw g.rest (bytes_after_atom r h.valid.bytes);
          width = h.valid.width;
          ok = rw g.rest (later_atoms_ok h.valid.width r h.valid.ok g.stands);
        }

    module _ {x : AtomFacts} (ex : x ≡ atom_facts at (decode a.tree.now)) (room : i < length index)
        {index' : List AtomFacts} (ei : index' ≡ set index i x) where
      edges_here : x.edges ≡ atom_edges (tree_of f i)
      edges_here =
          ap (λ (y : AtomFacts). y.edges) ex ∙ facts_edges at (decode a.tree.now) ∙ ap atom_edges (sym here_tree)

      entry_here : EntryFor f index' i (tree_of f i)
      entry_here =
          let ok = first_atom_ok h.valid.width r h.valid.ok g.stands in
          record {
            at = at;
            inside = h.inside;
            atom = ap is_atom (sym h.left) ∙ g.stands;
            shape = rw (← h.left) (first_tree_sized h.valid.width r h.valid.ok g.stands);
            tree = ap (λ (l : List ℕ). decode (tree_span l)) (sym h.left) ∙ ap decode (sym g.tree) ∙ sym here_tree;
            expr =
                rw (here_tree, g.tree)
                (accept_expr h.valid.width (tree_span r) (bytes_tree_span r h.valid.bytes)
                (atom_parts h.valid.width r ok).accepted);
            facts = λ d.
                ap (λ (l : List AtomFacts). get_or l i d) ei
                ∙ get_or-set_same index i x d room
                ∙ ex
                ∙ ap (atom_facts at) (sym here_tree);
          }

      entry_before : (j : ℕ) → j < i → EntryFor f index' j (tree_of f j)
      entry_before j l =
          let e = h.entry j l in
          record {
            at = e.at;
            inside = e.inside;
            atom = e.atom;
            shape = e.shape;
            tree = e.tree;
            expr = e.expr;
            facts = λ d.
                ap (λ (l : List AtomFacts). get_or l j d) ei
                ∙ get_or-set_other index i j x d (omega arith)
                ∙ e.facts d;
          }

      pub indexing_atom : Indexing f index' (bit_or edges x.edges) (at + (16 + length a.tree.now)) (i + 1) t
      indexing_atom =
          record {
            inside = here_inside;
            left = given_after g f at h.left;
            valid = valid_next;
            count = omega (arith, h.count, ap length trees_here);
            rest =
                λ j.
                let z : i + 1 + j ≡ i + suc j = omega arith in
                ap (tree_of f) z ∙ h.rest (suc j) ∙ ap (λ (l : List Tree). get_or l (suc j) (Constant 0)) trees_here;
            entry = λ j l. entry_at j l (ℕ_discrete j i);
            start = λ _. start_here;
            covers = λ j l p z. covers_at j l p z (ℕ_discrete j i);
          }
        where
          entry_at : (j : ℕ) → j < i + 1 → Dec (j ≡ i) → EntryFor f index' j (tree_of f j)
          entry_at j l (yes e) = rw e entry_here
          entry_at j l (no d) = entry_before j (omega arith)

          start_here : bit_at (bit_or edges x.edges) 0 ≡ 1
          start_here =
              let e : bit_at x.edges 0 ≡ 1 =
              ap (λ (y : ℕ). bit_at y 0) edges_here ∙ edge_start (tree_of f i) in
              bit_or_lem edges x.edges 0 ∙ omega (arith, bit_lt edges 0)

          covers_at : (j : ℕ) → j < i + 1 → (p : ℕ) → bit_at (bit_or edges x.edges) p ≡ 0 → Dec (j ≡ i)
              → bit_at (atom_edges (tree_of f j)) p ≡ 0
          covers_at j l p z (yes e) =
              let both = bit_or_lem edges x.edges p in
              let low : bit_at x.edges p ≡ 0 = omega arith in
              ap (λ (k : ℕ). bit_at (atom_edges (tree_of f k)) p) e ∙ ap (λ (y : ℕ). bit_at y p) (sym edges_here) ∙ low
          covers_at j l p z (no d) =
              let both = bit_or_lem edges x.edges p in
              let low : bit_at edges p ≡ 0 = omega arith in
              h.covers j (omega arith) p low

-- ---- the facts in an index

module _ {f : List ℕ} {index : List AtomFacts} {i : ℕ} {t : Tree} (e : EntryFor f index i t) (d : AtomFacts) where
  pub entry_start : (get_or index i d).at ≡ e.at
  entry_start = ap (λ (x : AtomFacts). x.at) (e.facts d) ∙ facts_at e.at t

  pub entry_inside : (get_or index i d).at ≤ length f
  entry_inside = omega (arith, entry_start, e.inside)

  pub entry_edges : (get_or index i d).edges ≡ atom_edges t
  entry_edges = ap (λ (x : AtomFacts). x.edges) (e.facts d) ∙ facts_edges e.at t

  pub entry_table : (atom_facts e.at t).table ≡ (get_or index i d).table
  entry_table = ap (λ (x : AtomFacts). x.table) (sym (e.facts d))
