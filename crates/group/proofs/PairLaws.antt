-- Laws of the merge of pairs (specs/Steps.antt) as the code does it.
use Rattle.made.specs.declared.Made.{Made}
use mathlib.Core.Path.{◌≡◌, refl, ap, sym, ◌∙◌}
use Prim.Native.Nat.{ℕ, ◌+◌, ◌<◌}
use native.Mathlib.Omega.{arith}
use mathlib.Core.List.{List, [], ◌∷◌}
use mathlib.Core.Bool.{Bool, true, false, not, ◌&&◌, ◌||◌}
use lib.Bits.{bit_and}
use lib.Dec.{eqb, ltb}
use borrow.Author.Tests.{eq-eqb, eqb-true, ltb-true}
use Rattle.arith.specs.Effective.{can_change_coefficient_to}
use Rattle.base.specs.Choice.{when}
use Rattle.record.specs.Tree.{Tree}
use Rattle.group.specs.declared.Group.{Group}
use Rattle.std.specs.Prelude.{Option, None, Some}
use Rattle.base.specs.Loop.{for_in, first_in}
use Rattle.group.specs.Group.{Entry, at, is_live, Work}
use Rattle.group.specs.Steps.{join_at, pair_at, pair_merge, slot_fits, place_at, place_bucket, bucket_keys, place_buckets}
use Rattle.group.specs.Steps.{bucket_merge}
use Rattle.made.specs.Made.{Room}
use Rattle.group.specs.Made.{Stepped}
use Rattle.entries.specs.Tests.{pair_of}
use Rattle.group.specs.Pair.{join_found}
use Rattle.group.proofs.SteppedLaws.{stepped_as, stepped_none, stepped_met}
use Rattle.base.proofs.LoopLaws.{when_both, first_true, for_same}
use Rattle.base.proofs.BoolLaws.{and_true}

-- what the code asks of the entries i and j
abbrev pub pair_entry : ℕ → Group → ℕ → ℕ → Option ℕ
pair_entry w g i j = pair_of (at g i) (at g j) w

pair_found : (w : ℕ) (t : Tree) (i j : ℕ) (x : Work)
    → join_found w t i j (pair_entry w x.group i j) x ≡ pair_at w t i j x
unfolding pair_at pair_of join_found
pair_found w t i j x =
    let e = at x.group i in
    let f = at x.group j in
    go e.coeff f.coeff (is_live e) (is_live f) (eqb (bit_and e.mask f.mask) 0) (eqb e.coeff f.coeff)
    (can_change_coefficient_to f.coeff e.coeff f.mask w) (can_change_coefficient_to e.coeff f.coeff e.mask w)
  where
    go : (c d : ℕ) (u v z q r s : Bool)
        → join_found w t i j
        (when (not u) (λ _. None) (λ _. when (not v) (λ _. None) (λ _. when (not z) (λ _. None)
        (λ _. when q (λ _. Some c) (λ _. when r (λ _. Some c) (λ _. when s (λ _. Some d) (λ _. None))))))) x
        ≡ when (not u || not v) (λ _. x)
        (λ _. when (not z) (λ _. x) (λ _. when q (λ _. join_at w t c i j x) (λ _. when r (λ _. join_at w t c i j x)
        (λ _. when s (λ _. join_at w t d i j x) (λ _. x)))))
    go c d false v z q r s = refl
    go c d true false z q r s = refl
    go c d true true false q r s = refl
    go c d true true true true r s = refl
    go c d true true true false true s = refl
    go c d true true true false false true = refl
    go c d true true true false false false = refl

-- the step by what was found
pair_as : (w : ℕ) (t : Tree) (i j : ℕ) (g : Group) (found f : Option ℕ) → found ≡ pair_entry w g i j → found ≡ f
    → (x : Work) → g ≡ x.group → join_found w t i j f x ≡ pair_at w t i j x
pair_as w t i j g found f e h x q =
    ap (λ (k : Option ℕ). join_found w t i j k x) (sym h ∙ e ∙ ap (λ (k : Group). pair_entry w k i j) q)
    ∙ pair_found w t i j x

module _ {w : ℕ} (t : Tree) (i j : ℕ) {g r : Group} {found : Option ℕ} {made : Made} {out : List ℕ} {made' : Made} {out' : List ℕ}
    (e : found ≡ pair_entry w g i j) where
  pub pair_apart : found ≡ None → Room made out → made' ≡ made → out' ≡ out → r ≡ g
      → Stepped w 1 (pair_at w t i j) g made out r made' out'
  unfolding join_found
  pair_apart h room em eo er =
      stepped_met em eo er (stepped_as (omega arith) (pair_as w t i j g found None e h) (stepped_none room))

  pub pair_joins : (c : ℕ) → found ≡ Some c → {q : Group} {made'' : Made} {out'' : List ℕ}
      → Stepped w 1 (join_at w t c i j) g made out q made'' out'' → made' ≡ made'' → out' ≡ out'' → r ≡ q
      → Stepped w 1 (pair_at w t i j) g made out r made' out'
  unfolding join_found
  pair_joins c h p em eo er =
      stepped_met em eo er (stepped_as (omega arith) (pair_as w t i j g found (Some c) e h) p)

-- the loops over the group's length are the step
pub pair_loop : {w n : ℕ} (t : Tree) {g r : Group} {made : Made} {out : List ℕ} {made' : Made} {out' : List ℕ}
    → Stepped w n (for_in (λ (i : ℕ). for_in (pair_at w t i) (i + 1) g.len) 0 g.len) g made out r made' out'
    → Stepped w n (pair_merge w t) g made out r made' out'
unfolding pair_merge
pair_loop {w} t {g} p =
    stepped_as (omega arith)
    (λ x e. ap (λ (k : Group). for_in (λ (i : ℕ). for_in (pair_at w t i) (i + 1) k.len) 0 k.len x) e) p

-- ---- where no pair joins, both merges change nothing

abbrev pub NoPair : ℕ → Group → Type 0
NoPair w g = (i j : ℕ) → i < j → j < g.len → pair_entry w g i j ≡ None

pub pair_none : (w : ℕ) (t : Tree) (x : Work) → NoPair w x.group → pair_merge w t x ≡ x
unfolding pair_merge join_found
pair_none w t x h =
    for_same _ 0 x.group.len x
    (λ i _ li. for_same (pair_at w t i) (i + 1) x.group.len x
    (λ j le lj. sym (pair_as w t i j x.group (pair_entry w x.group i j) None refl (h i j (omega arith) lj) x refl)))

-- an entry that fits a slot would have joined it
slot_pair : (w : ℕ) (e f : Entry) → is_live e ≡ true → is_live f ≡ true → bit_and e.mask f.mask ≡ 0 → e.coeff ≡ f.coeff
    → pair_of e f w ≡ Some e.coeff
unfolding pair_of
slot_pair w e f p q z r = simp (p, q, eq-eqb (bit_and e.mask f.mask) 0 z, eq-eqb e.coeff f.coeff r)

none_some : {c : ℕ} → None ≡ Some c → ⊥
none_some e = absurd cc

slot_joins : (w : ℕ) (g : Group) (r i k : ℕ) → pair_entry w g r i ≡ None → is_live (at g i) ≡ true
    → (at g i).coeff ≡ k → slot_fits k (at g i).mask g r ≡ true → ⊥
unfolding slot_fits
slot_joins w g r i k h live same fits =
    let p = and_true (is_live (at g r)) _ fits in
    let q = and_true (eqb (at g r).coeff k) _ p.1 in
    none_some (sym h ∙ slot_pair w (at g r) (at g i) p.0 live (eqb-true _ _ q.1) (eqb-true _ _ q.0 ∙ sym same))

place_none : (w : ℕ) (t : Tree) (k i : ℕ) (x : Work) → NoPair w x.group → i < x.group.len → place_at w t k i x ≡ x
unfolding place_at
place_none w t k i x h li =
    let g = x.group in
    let fits = slot_fits k (at g i).mask g in
    let slot = first_in fits 0 i in
    when_both (λ (y : Work). y ≡ x) (is_live (at g i) && eqb (at g i).coeff k)
    (when (ltb slot i) (λ _. join_at w t k slot i x) (λ _. x)) x
    (λ e.
    let p = and_true (is_live (at g i)) (eqb (at g i).coeff k) e in
    when_both (λ (y : Work). y ≡ x) (ltb slot i) (join_at w t k slot i x) x
    (λ u.
    let l : slot < i = ltb-true slot i u in
    absurd
    (slot_joins w g slot i k (h slot i l li) p.0 (eqb-true _ _ p.1) (first_true fits 0 i l)))
    (λ _. refl))
    (λ _. refl)

pub bucket_none : (w : ℕ) (t : Tree) (x : Work) → NoPair w x.group → bucket_merge w t x ≡ x
unfolding bucket_merge place_buckets place_bucket
bucket_none w t x h = go (bucket_keys x.group)
  where
    go : (l : List ℕ) → place_buckets w t l x ≡ x
    go [] = refl
    go (k ∷ l) =
        ap (place_buckets w t l) (for_same (place_at w t k) 0 x.group.len x (λ i _ li. place_none w t k i x h li))
        ∙ go l
