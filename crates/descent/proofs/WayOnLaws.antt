-- The way on from a spot of the file whose root is no Add (ways/specs/Sides.antt, Goes and Masks): what is collected at
-- the smaller spot makes up what is collected here.
use mathlib.Core.Path.{◌≡◌, refl, ap, ◌∙◌}
use Prim.Native.Nat.{ℕ, ◌+◌, ◌≤◌}
use native.Mathlib.Omega.{arith}
use mathlib.Core.List.{List, []}
use mathlib.Core.Bool.{Bool, true, false}
use Rattle.std.specs.Prelude.{Option, None, Some}
use Rattle.arith.specs.Width.{mod_add}
use Rattle.record.specs.Tree.{Tree, size_of}
use Rattle.ways.specs.declared.side.Spot.{Spot}
use Rattle.ways.specs.declared.side.Side.{Side}
use Rattle.descent.specs.declared.collect.Atom.{Atom}
use Rattle.descent.specs.declared.collect.Descent.{Descent}
use Rattle.normalizer_laws.specs.Collect.{Collected, linear, join_collected}
use Rattle.rules_laws.specs.Descend.{descend}
use Rattle.descent.specs.Spots.{Collects, Ready, turn_by}
use Rattle.ways.specs.Sides.{tree_at, side_tree, Goes, Masks, join_turned, collect_literal}
use Rattle.descent.proofs.CollectsLaws.{collects_as, collects_more, collects_constant, collects_then}
use Rattle.descent.proofs.CollectsLaws.{collects_stop, ready_after, ready_less}
use Rattle.descent.proofs.DescentLaws.{AllOf, SpotOf}

-- to one child, from a Not that is turned with a constant
pub way_goes : (nots : Bool) (w : ℕ) (file marks : List ℕ) (x : Spot) (c : ℕ) (turned : Bool) (b : Side)
    → Goes nots w file marks x.start x.coeff (tree_at file x) c turned b → w ≤ 64 → {y : Spot} → SpotOf c b y
    → {a : List Atom} {d : Descent} → Ready w (size_of (tree_at file x)) a d
    → {t : Descent} → t ≡ turn_by turned c w d → {f : List Atom} {e : Option Descent}
    → AllOf nots w file y a t f e → AllOf nots w file x a d f e
unfolding turn_by join_turned
way_goes nots w file marks x c turned b goes hw {y} ey {a} {d} ready {t} et {f} {e} first = go turned refl
  where
    here : Tree
    here = side_tree file b

    under : Collects w file (size_of here) (descend nots w c here) a t f e
    under =
        let yc : y.coeff ≡ c = ap (λ (z : Spot). z.coeff) ey in
        let same : tree_at file y ≡ here = ap (tree_at file) ey in
        rw (same, yc) at first

    less : size_of here ≤ size_of (tree_at file x)
    less = omega (arith, goes.smaller)

    go : (u : Bool) → turned ≡ u → AllOf nots w file x a d f e
    go false off =
        let same : t ≡ d = et ∙ simp off in
        let plain : descend nots w x.coeff (tree_at file x) ≡ descend nots w c here = goes.same ∙ simp off in
        collects_more (size_of (tree_at file x)) less (collects_as plain (rw same at under))
    go true on =
        let added : t ≡ record { constant = mod_add d.constant c w; count = d.count } = et ∙ simp on in
        let joined : descend nots w x.coeff (tree_at file x) ≡ join_collected w (linear c []) (descend nots w c here) =
        goes.same ∙ simp on in
        let none : Ready w 0 a d = ready_less 0 (omega arith) ready in
        collects_more (size_of (tree_at file x)) (omega (arith, less))
        (collects_as joined
        (collects_then w hw file 0 (size_of here) (linear c []) (descend nots w c here) a d a t
        (collects_constant w file 0 a d none c t added) f e under))

-- to one child and then to the And of it and a literal
module _ {nots : Bool} {w : ℕ} {file marks : List ℕ} (x : Spot) {k : ℕ} {b : Side}
    (m : Masks nots w file marks x.start k x.coeff (tree_at file x) b) (hw : w ≤ 64) {y : Spot} (ey : SpotOf x.coeff b y)
  where
    abbrev here : Tree
    here = side_tree file b

    abbrev literal : Collected
    literal = collect_literal w k x.coeff here b.value

    under : {a : List Atom} {d : Descent} {f : List Atom} {e : Option Descent} → AllOf nots w file y a d f e
        → Collects w file (size_of here) (descend nots w x.coeff here) a d f e
    under first =
        let c : y.coeff ≡ x.coeff = ap (λ (z : Spot). z.coeff) ey in
        let same : tree_at file y ≡ here = ap (tree_at file) ey in
        rw (same, c) at first

    pub way_masked_stop : {a : List Atom} {d : Descent} {f : List Atom} → AllOf nots w file y a d f None
        → AllOf nots w file x a d f None
    way_masked_stop {a} {d} {f} first =
        collects_more (size_of (tree_at file x)) (omega (arith, m.smaller))
        (collects_as m.same
        (collects_stop w file (size_of here) 1 (descend nots w x.coeff here) literal a d f (under first)))

    module _ {a : List Atom} {d : Descent} {f : List Atom} {e : Descent} (first : AllOf nots w file y a d f (Some e)) where
      pub ready_masked : Ready w (size_of (tree_at file x)) a d → Ready w 1 f e
      ready_masked ready =
          ready_after w hw file (size_of here) 1 (descend nots w x.coeff here) literal a d f e (under first)
          (ready_less (size_of here + 1) (omega (arith, m.smaller)) ready)

      pub way_masked_then : {g : List Atom} {r : Option Descent} → Collects w file 1 literal f e g r
          → AllOf nots w file x a d g r
      way_masked_then {g} {r} second =
          collects_more (size_of (tree_at file x)) (omega (arith, m.smaller))
          (collects_as m.same
          (collects_then w hw file (size_of here) 1 (descend nots w x.coeff here) literal a d f e (under first) g r
          second))
