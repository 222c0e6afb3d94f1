-- Laws of a group coalesced in turn (specs/Coalescing.antt): it is settled or rewritten, and the groups follow each other.
use Rattle.made.specs.declared.Made.{Made}
use mathlib.Core.Path.{◌≡◌, refl, ap, sym, subst, ◌∙◌, ap₂}
use Prim.Native.Nat.{ℕ, ◌+◌, ◌≤◌, ◌<◌}
use native.Mathlib.Omega.{arith}
use mathlib.Core.List.{List, [], ◌∷◌}
use mathlib.Core.Bool.{false, ◌||◌}
use lib.ListN.{length, drop}
use lib.Dec.{ltb, leb}
use borrow.Author.Tests.{lt-ltb, le-ltb, le-leb, lt-leb}
use Rattle.std.specs.Prelude.{Option}
use Rattle.record.specs.Tree.{Tree}
use Rattle.base.proofs.LoopLaws.{when_both}
use Rattle.semilinear.specs.Form.{Row, fits_table}
use Rattle.group.specs.declared.Group.{Group}
use Rattle.group.specs.Group.{Entry, used, at, empty_group, group_of, settle}
use Rattle.views.specs.Grouping.{variable_basis}
use Rattle.made.specs.Made.{Room}
use Rattle.views.specs.declared.View.{View}
use Rattle.group.specs.Gathered.{gathered, add_word, settle_words}
use Rattle.lone.specs.Lone.{lone_group}
use Rattle.group.proofs.GatherLaws.{gathered_atoms}
use Rattle.group.proofs.SettleWordsLaws.{length_words}
use Rattle.group.proofs.ShownLaws.{settle_fits, settle_length, shown_settle}
use Rattle.group.specs.Turns.{in_turn, EachAllowed}
use Rattle.group.proofs.TurnsLaws as turns
use Rattle.lone.proofs.LoneLaws.{lone_len, settle_lone}
use Rattle.structure_laws.specs.Carried.{Carried, carried_of}
use Rattle.structure_laws.specs.CoalesceTerms.{carried_rows, coalesce_group, coalesce_all}
use Rattle.bare.specs.Showing.{Shows}
use Rattle.carried.specs.Coalescing.{carried_in, IsCarried, Coalesced}
use Rattle.carried.proofs.CarriedToLaws.{carried_few}
use Rattle.carried.proofs.NewTermsLaws.{rows_past, rows_longer, coalesced_as}

-- ---- one group

module _ (w : ℕ) (t : Tree) (g : Group) where
  abbrev own : List Carried
  own = carried_of w (used g)

  abbrev entries : ℕ
  entries = length own

  pub group_past : (l : List Row) → fits_table l ≡ false → fits_table (coalesce_group w t g l) ≡ false
  unfolding coalesce_group
  group_past l h =
      when_both (λ (r : List Row). fits_table r ≡ false) (ltb g.len 2 || leb g.len entries) (settle w g l)
      (carried_rows w t own l) (λ _. settle_fits w g l ∙ h) (λ _. rows_past w t own l h)

  pub group_longer : w ≤ 64 → (l : List Row) → length l ≤ length (coalesce_group w t g l)
  unfolding coalesce_group
  group_longer hw l =
      when_both (λ (r : List Row). length l ≤ length r) (ltb g.len 2 || leb g.len entries) (settle w g l)
      (carried_rows w t own l) (λ _. omega (arith, settle_length w g l))
      (λ _. rows_longer w t hw own l)

  short_settled : g.len < 2 → (l : List Row) → coalesce_group w t g l ≡ settle w g l
  unfolding coalesce_group
  short_settled h l = simp (lt-ltb g.len 2 h)

  many_settled : 2 ≤ g.len → g.len ≤ entries → (l : List Row) → coalesce_group w t g l ≡ settle w g l
  unfolding coalesce_group
  many_settled two h l = simp (le-ltb g.len 2 two, le-leb g.len entries h)

  rewritten : 2 ≤ g.len → entries < g.len → (l : List Row)
      → coalesce_group w t g l ≡ carried_rows w t own l
  unfolding coalesce_group
  rewritten two h l = simp (le-ltb g.len 2 two, lt-leb g.len entries h)

  -- what the bits of the group carry, as the code finds it
  module _ (hw : w ≤ 64) {carried₀ bits₀ carried bits : List ℕ} {r : ℕ}
      (c : IsCarried own carried₀ bits₀ carried bits r) where
    count_is : r ≡ entries
    count_is = c.count

    pub carried_count : r ≤ 64
    unfolding carried_of
    carried_count = omega (arith, count_is, carried_few w (used g) w)

  module _ (made : Made) (out coeffs : List ℕ) (hw : w ≤ 64) (n : ℕ) (below : (k : ℕ) → k < g.len → (at g k).atom < n)
      (room : Room made out) where
    -- the group is settled
    settled_turn : {coeffs' : List ℕ} → coeffs' ≡ settle_words w (used g) coeffs
        → ((l : List Row) → coalesce_group w t g l ≡ settle w g l)
        → Coalesced w n 64 (coalesce_group w t g) made out coeffs made out coeffs'
    settled_turn e is =
        record {
          room = room;
          rows_le = omega arith;
          long = refl;
          wide = ap length e ∙ length_words w (used g) coeffs;
          shows = λ l le s.
              rw (is l)
              (record {
                shown = λ more.
                    shown_settle w g l hw (λ k lt _. omega (arith, below k lt, le)) (s.shown more).held
                    (s.shown more).terms e;
                past = λ full. settle_fits w g l ∙ s.past full;
              });
        }

    pub short_turn : {coeffs' : List ℕ} → coeffs' ≡ settle_words w (used g) coeffs
        → g.len < 2 → Coalesced w n 64 (coalesce_group w t g) made out coeffs made out coeffs'
    short_turn e h = settled_turn e (short_settled h)

    module _ (two : 2 ≤ g.len) {carried₀ bits₀ carried bits : List ℕ} {r : ℕ}
        (c : IsCarried own carried₀ bits₀ carried bits r) where
      pub many_turn : {coeffs' : List ℕ} → coeffs' ≡ settle_words w (used g) coeffs
          → g.len ≤ r → Coalesced w n 64 (coalesce_group w t g) made out coeffs made out coeffs'
      many_turn e h = settled_turn e (many_settled two (omega (arith, count_is hw c, h)))

      -- or rewritten
      pub rewritten_turn : r < g.len → {made' : Made} {out' coeffs' : List ℕ}
          → Coalesced w 0 r (carried_rows w t (carried_in r carried bits)) made out coeffs made' out' coeffs'
          → Coalesced w n 64 (coalesce_group w t g) made out coeffs made' out' coeffs'
      rewritten_turn h p =
          coalesced_as (omega arith) (carried_count hw c)
          (λ l. ap (λ (x : List Carried). carried_rows w t x l) c.are
          ∙ sym (rewritten two (omega (arith, count_is hw c, h)) l)) p

-- the group that was gathered
module _ (f : List ℕ) (views : List (Option View)) (hash : ℕ) (b : List ℕ) (n : ℕ) {g : Group} (e : g ≡ gathered f views hash b n)
    (most : n ≤ 256) where
  pub atoms_below : (k : ℕ) → k < g.len → (at g k).atom < n
  atoms_below = rw e (gathered_atoms f views hash b n most)

  -- where it is that of one row alone, its coefficient is added to that row
  module _ (w : ℕ) (t : Tree) (v : View) (i : ℕ) (hw : w ≤ 64) {made : Made} {out coeffs coeffs' : List ℕ} where
    pub lone_turn : Room made out → g ≡ lone_group v i → coeffs' ≡ add_word w v.coeff i coeffs
        → Coalesced w n 64 (coalesce_group w t g) made out coeffs made out coeffs'
    lone_turn room lone p =
        let one : g.len ≡ 1 = ap (λ (q : Group). q.len) lone ∙ lone_len v i in
        short_turn w t g made out coeffs hw n atoms_below room
        (p
        ∙ sym (settle_lone v i w coeffs)
        ∙ ap (λ (q : Group). settle_words w (used q) coeffs) (sym lone))
        (omega (arith, one))

-- what is known of lent entries is known of the group
module _ {w v : ℕ} {es : List Entry} (g : Group) (ew : v ≡ w) (ee : es ≡ used g) where
  pub carried_at : {carried₀ bits₀ carried bits : List ℕ} {r : ℕ}
      → IsCarried (carried_of v es) carried₀ bits₀ carried bits r → IsCarried (carried_of w (used g)) carried₀ bits₀ carried bits r
  carried_at h = rw (ew, ee) at h

  pub settled_at : (coeffs : List ℕ) → settle_words v es coeffs ≡ settle_words w (used g) coeffs
  settled_at coeffs = ap₂ (λ (k : ℕ) (l : List Entry). settle_words k l coeffs) ew ee

-- the same of the group by its name
pub coalesced_of : (w m n : ℕ) (t : Tree) {g h : Group} {made : Made} {out coeffs : List ℕ} {made' : Made} {out' coeffs' : List ℕ} → g ≡ h
    → Coalesced w m n (coalesce_group w t g) made out coeffs made' out' coeffs'
    → Coalesced w m n (coalesce_group w t h) made out coeffs made' out' coeffs'
coalesced_of w m n t {made = made} {out} {coeffs} {made'} {out'} {coeffs'} e p =
    subst (λ (g : Group). Coalesced w m n (coalesce_group w t g) made out coeffs made' out' coeffs') e p

-- ---- the groups in turn

-- at least n rows are shown
pub record ShowsMany (w n : ℕ) (made : Made) (out coeffs : List ℕ) (l : List Row) : Type 0 where
  pub many : n ≤ length l
  pub shows : Shows w made out coeffs l

-- one basis, as `coalesce_all` takes it
unfoldable pub coalesce_turn : ℕ → List Row → Tree → List Row → List Row
coalesce_turn w before b = coalesce_group w b (group_of variable_basis w b 0 before empty_group)

-- nothing is asked of the rows
abbrev Any : Tree → List Row → Type 0
Any b l = Unit {0}

-- the loop of group/proofs/TurnsLaws.antt
abbrev pub Going : (w : ℕ) (before : List Row) (bases : List Tree) (n k : ℕ) (made₀ : Made) (out₀ coeffs₀ : List ℕ) (made : Made) (out coeffs : List ℕ)
    → Type 0
Going w before bases n = turns.Going (coalesce_turn w before) Any (ShowsMany w n) 64 bases

module _ (w : ℕ) (hw : w ≤ 64) (before : List Row) where
  all_in_turn : (a : List Tree) (l : List Row) → in_turn (coalesce_turn w before) a l ≡ coalesce_all w before a l
  unfolding in_turn coalesce_turn coalesce_all
  all_in_turn [] l = refl
  all_in_turn (b ∷ a) l = all_in_turn a (coalesce_turn w before b l)

  any_all : (a : List Tree) (l : List Row) → EachAllowed (coalesce_turn w before) Any a l
  unfolding EachAllowed
  any_all [] l = tt
  any_all (b ∷ a) l = (tt, any_all a (coalesce_turn w before b l))

  module _ (bases : List Tree) (n : ℕ) {made₀ : Made} {out₀ coeffs₀ : List ℕ} where
    pub all_none : Room made₀ out₀ → Going w before bases n 0 made₀ out₀ coeffs₀ made₀ out₀ coeffs₀
    all_none = turns.turns_start (coalesce_turn w before) Any (ShowsMany w n) 64 bases made₀ out₀ coeffs₀

    module _ (k : ℕ) {made : Made} {out coeffs : List ℕ} (p : Going w before bases n k made₀ out₀ coeffs₀ made out coeffs) where
      pub all_next : {b : Tree} {g : Group} {made' : Made} {out' coeffs' : List ℕ} → drop k bases ≡ b ∷ drop (k + 1) bases
          → g ≡ group_of variable_basis w b 0 before empty_group
          → Coalesced w n 64 (coalesce_group w b g) made out coeffs made' out' coeffs'
          → Going w before bases n (k + 1) made₀ out₀ coeffs₀ made' out' coeffs'
      unfolding coalesce_turn
      all_next {b} next own q =
          turns.turns_next (coalesce_turn w before) Any (ShowsMany w n) 64 bases k p next q.room q.rows_le
          q.long q.wide
          (λ l _ s.
          record {
            many = omega (arith, s.many, group_longer w b (group_of variable_basis w b 0 before empty_group) hw l);
            shows = (coalesced_of w n 64 b own q).shows l s.many s.shows;
          })

      pub all_done : k ≤ 256 → drop k bases ≡ []
          → Coalesced w n 16384 (coalesce_all w before bases) made₀ out₀ coeffs₀ made out coeffs
      all_done few none =
          record {
            room = p.room;
            rows_le = omega (arith, p.rows_le, few);
            long = p.long;
            wide = p.wide;
            shows = λ l le s.
                rw (← all_in_turn bases l)
                (turns.turns_done (coalesce_turn w before) Any (ShowsMany w n) 64 bases k p none l (any_all bases l)
                (record { many = le; shows = s })).shows;
          }
