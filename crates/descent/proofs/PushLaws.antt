-- What one more atom collects (specs/Spots.antt, Pushed): a subtree as it stands, a subtree and a literal, and the
-- complement of a subtree and a literal.
use mathlib.Core.Path.{◌≡◌, refl, ap, sym, ◌∙◌}
use Prim.Native.Nat.{ℕ, ◌-◌, ◌^◌, ◌<◌}
use native.Mathlib.Omega.{arith}
use mathlib.Core.List.{List, []}
use mathlib.Core.Bool.{true, false}
use lib.ListN.{length}
use lib.Dec.{eqb}
use Rattle.arith.specs.Width.{mod_add, mod_mul}
use Rattle.record.specs.Fields.{kind}
use Rattle.record.specs.Tree.{Tree}
use Rattle.record.specs.Tree.Tree.{Constant, Binary}
use Rattle.record.specs.Decode.{decode}
use Rattle.expr_utils.specs.Utils.{has_var_dep}
use Rattle.std.specs.Prelude.{Option, None, Some}
use Rattle.descent.specs.declared.collect.Atom.{Atom}
use Rattle.descent.specs.declared.collect.Descent.{Descent}
use Rattle.normalizer_laws.specs.Collect.{linear, collect_atom, collect_not, collect_and, and_coeff}
use Rattle.ways.specs.Spans.{span_of, Accepted}
use Rattle.descent.specs.Spots.{spot_tree, atom_of, not_atom, Collects, Pushed, Ready}
use Rattle.ways.specs.Sides.{collect_literal}
use Rattle.normalizer_laws.proofs.JoinLaws.{mod_add_zero}
use Rattle.normalizer_laws.proofs.AndLaws.{literal_not, literal_atom, and_zero}
use Rattle.ways.proofs.InnerLaws.{not_inner, not_root, not_operand, other_root}
use Rattle.descent.proofs.SpotsLaws.{collects_push}
use Rattle.descent.proofs.CollectsLaws.{collects_as, collects_none, collects_constant}
use Rattle.descent.proofs.CollectsLaws.{collects_then, ready_after, ready_less}

-- an atom of a subtree alone, and of a subtree and a literal
abbrev pub alone : ℕ → ℕ → ℕ → Atom
alone c s e = record { spot = record { coeff = c; start = s; end = e }; literal = None }

abbrev pub with_literal : ℕ → ℕ → ℕ → ℕ → Atom
with_literal c s e v = record { spot = record { coeff = c; start = s; end = e }; literal = Some v }

module _ (w : ℕ) (file : List ℕ) (before : List Atom) (d : Descent) (after : List Atom) (r : Descent)
    (ready : Ready w 1 before d) where
  room : d.count < length before
  room = omega (arith, ready.room)

  same : d.constant ≡ mod_add d.constant 0 w
  same = sym (mod_add_zero d.constant w ready.width ready.fits)

  module _ (c s e : ℕ) (h : Accepted w file s e) where
    pub atom_push : Pushed d.constant (alone c s e) before d after r
        → Collects w file 1 (collect_atom c (decode (span_of file s e))) before d after (Some r)
    unfolding collect_atom atom_of spot_tree
    atom_push p =
        collects_push file d.constant (alone c s e) before d after r p room w 0 ready.width same
        (record { span = h; literal_lt = tt })

    literal_push : (v : ℕ) → v < 2 ^ w → Pushed d.constant (with_literal c s e v) before d after r
        → Collects w file 1 (collect_atom c (Binary 4 (decode (span_of file s e)) (Constant v))) before d after (Some r)
    unfolding collect_atom atom_of spot_tree
    literal_push v small p =
        collects_push file d.constant (with_literal c s e v) before d after r p room w 0 ready.width same
        (record { span = h; literal_lt = small })

    pub not_push : (v : ℕ) → v < 2 ^ w
        → Pushed (mod_add d.constant (mod_mul c v w) w) (not_atom w c s e v) before d after r
        → Collects w file 1 (collect_not w c (decode (span_of file s e)) v) before d after (Some r)
    unfolding collect_not atom_of spot_tree not_atom
    not_push v small p =
        collects_push file _ (not_atom w c s e v) before d after r p room w (mod_mul c v w) ready.width refl
        (record { span = h; literal_lt = small })

  -- ---- the And of a subtree and a literal that the descent makes

  module _ (c s e v : ℕ) (h : Accepted w file s e) (small : v < 2 ^ w) where
    abbrev And : Tree → Type 0
    And t = Collects w file 1 (collect_and w c t (Constant v)) before d after (Some r)

    pub literal_and_plain : eqb c 0 ≡ false → (kind (span_of file s e) ≡ 7 → ⊥)
        → Pushed d.constant (with_literal c s e v) before d after r → And (decode (span_of file s e))
    literal_and_plain some k p =
        collects_as (literal_atom w c _ v small some (other_root h k)) (literal_push c s e h v small p)

    pub literal_and_not : eqb c 0 ≡ false → kind (span_of file s e) ≡ 7
        → has_var_dep (decode (span_of file s e)) ≡ true
        → Pushed (mod_add d.constant (mod_mul c v w) w) (not_atom w c s (e - 16) v) before d after r
        → And (decode (span_of file s e))
    literal_and_not some k var p =
        collects_as
        (literal_not w c _ v small some (not_root h k) var
        ∙ ap (λ (t : Tree). collect_not w c t v) (not_operand h k))
        (not_push c s (e - 16) (not_inner h k) v small p)

pub literal_and_zero : (w : ℕ) (file : List ℕ) (spots : List Atom) (d : Descent) → Ready w 1 spots d → (c : ℕ)
    (t : Tree) (v : ℕ) → c ≡ 0 → Collects w file 1 (collect_and w c t (Constant v)) spots d spots (Some d)
literal_and_zero w file spots d ready c t v e =
    collects_as (and_zero w c t (Constant v) e) (collects_none w file 1 spots d ready)

-- ---- what x ^ v and x | v have beside x

module _ (w : ℕ) (file : List ℕ) (spots : List Atom) (d : Descent) (ready : Ready w 1 spots d) (c v : ℕ) (e : Descent)
    (same : e ≡ record { constant = mod_add d.constant (mod_mul c v w) w; count = d.count }) where
  constant_first : Collects w file 0 (linear (mod_mul c v w) []) spots d spots (Some e)
  constant_first = collects_constant w file 0 spots d (ready_less 0 (omega arith) ready) (mod_mul c v w) e same

  pub ready_literal : Ready w 1 spots e
  ready_literal =
      ready_after w ready.width file 0 1 (linear (mod_mul c v w) []) (linear 0 []) spots d spots e constant_first
      ready

  pub collects_literal : (k : ℕ) (t : Tree) (after : List Atom) (r : Option Descent)
      → Collects w file 1 (collect_and w (and_coeff w k c) t (Constant v)) spots e after r
      → Collects w file 1 (collect_literal w k c t v) spots d after r
  unfolding collect_literal
  collects_literal k t after r h =
      collects_then w ready.width file 0 1 _ _ spots d spots e constant_first after r h
