-- What is found collapses: the three entries may, and the step on them is that of the definition.
use Rattle.made.specs.declared.Made.{Made}
use Rattle.group.proofs.CollapseLaws.{Collapsible, found_collapsible, collapse_none, collapse_found}
use mathlib.Core.Path.{◌≡◌, ap, sym, ◌∙◌}
use Prim.Native.Nat.{ℕ, ◌<◌}
use native.Mathlib.Omega.{arith}
use mathlib.Core.List.{List}
use Rattle.record.specs.Tree.{Tree}
use Rattle.group.specs.declared.Group.{Group}
use Rattle.collapse_search.specs.declared.find.Three.{Three}
use Rattle.group.specs.Collapse.{find_third, find_second, find_first, collapse_at, three_term_collapse}
use Rattle.made.specs.Made.{Room}
use Rattle.group.specs.Made.{Stepped}
use Rattle.std.specs.Prelude.{None, Some}
use Rattle.collapse_search.specs.Links.{IsThree, FoundThree}
use Rattle.group.proofs.SteppedLaws.{stepped_none, stepped_as, stepped_met}

-- the three numbers that the code found, one by one
found_as : {w : ℕ} {g : Group} {r : Three} (P : ℕ → ℕ → ℕ → Type 0) → IsThree w g r
    → P (find_first w g) (find_second w g (find_first w g))
    (find_third w g (find_first w g) (find_second w g (find_first w g)))
    → P r.first r.second r.third
found_as {w} {g} {r} P p h =
    let e = p.first_is in
    let f = p.second_is ∙ ap (find_second w g) e in
    let d = p.third_is ∙ ap (λ (x : ℕ). find_third w g x r.second) e
    ∙ ap (find_third w g (find_first w g)) f in
    rw (e, f, d) h

pub three_collapsible : (w : ℕ) (g : Group) (r : Three) → FoundThree w g (Some r) → Collapsible w g r.first r.second r.third
unfolding FoundThree
three_collapsible w g r p =
    found_as (Collapsible w g) p (found_collapsible w g (omega (arith, p.first_is, p.first_lt)))

-- where the ways of the code meet: nothing was found, or the three entries collapsed
module _ {w : ℕ} (t : Tree) {g r : Group} {made : Made} {out : List ℕ} {made' : Made} {out' : List ℕ} where
  pub collapse_same : FoundThree w g None → Room made out → made' ≡ made → out' ≡ out → r ≡ g
      → Stepped w 2 (three_term_collapse w t) g made out r made' out'
  unfolding FoundThree
  collapse_same p room em eo er =
      stepped_met em eo er
      (stepped_as (omega arith)
      (λ x q.
      sym (collapse_none w t x
      (rw (← q) (λ (u : find_first w g < g.len). omega (arith, p)))))
      (stepped_none room))

  pub collapse_met : (f : Three) → FoundThree w g (Some f) → {q : Group} {made'' : Made} {out'' : List ℕ}
      → Stepped w 2 (collapse_at w t f.first f.second f.third) g made out q made'' out''
      → made' ≡ made'' → out' ≡ out'' → r ≡ q → Stepped w 2 (three_term_collapse w t) g made out r made' out'
  unfolding FoundThree
  collapse_met f p s em eo er =
      let l : find_first w g < g.len = omega (arith, p.first_is, p.first_lt) in
      stepped_met em eo er
      (stepped_as (omega arith)
      (λ x q.
      found_as (λ i j k. collapse_at w t i j k x ≡ three_term_collapse w t x) p
      (rw q (collapse_found w t x (rw (← q) l))))
      s)
