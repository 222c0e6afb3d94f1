-- Laws of steps of a group beside a table in words (specs/Made.antt): none, one after another, a loop of them, and the
-- same step under another name.
use Rattle.made.specs.declared.Made.{Made}
use mathlib.Core.Path.{◌≡◌, refl, ap, sym, subst, ◌∙◌}
use Prim.Native.Nat.{ℕ, ◌+◌, ◌≤◌}
use native.Mathlib.Omega.{arith}
use mathlib.Core.List.{List}
use lib.ListN.{length}
use Rattle.group.specs.declared.Group.{Group}
use Rattle.base.proofs.LoopLaws.{for_none, for_more}
use Rattle.semilinear.specs.Form.{Row}
use Rattle.base.specs.Loop.{for_in}
use Rattle.group.specs.Group.{Work, work, on_group}
use Rattle.made.specs.Made.{Room, Later, Held}
use Rattle.group.specs.Made.{Stands, Stepped}

-- ---- steps

-- the work is the group and the rows
pub stands_work : {w : ℕ} {g : Group} {made : Made} {out : List ℕ} (x : Work) → Stands w g made out x → x ≡ work g x.rows
unfolding work
stands_work x s = ap (λ (r : Group). work r x.rows) (sym s.same)

pub later_none : {n : ℕ} {made : Made} → Later n made made
later_none = record { rows_le = omega arith; constant = refl }

module _ {w : ℕ} {g : Group} {made : Made} {out : List ℕ} where
  pub stepped_none : Room made out → Stepped w 0 (λ x. x) g made out g made out
  stepped_none r = record { room = r; later = later_none; long = refl; len = refl; stands = λ x s. s }

  module _ {n : ℕ} {f : Work → Work} {r : Group} {made' : Made} {out' : List ℕ} where
    -- for every rows that the table holds
    pub stepped_of : Room made' out' → Later n made made' → length out' ≡ length out → r.len ≡ g.len
        → ((l : List Row) → Held w made out l → Stands w r made' out' (f (work g l)))
        → Stepped w n f g made out r made' out'
    stepped_of room later long len k =
        record {
          room = room;
          later = later;
          long = long;
          len = len;
          stands = λ x s.
              subst (λ (y : Work). Stands w r made' out' (f y)) (sym (stands_work x s)) (k x.rows s.held);
        }

    -- the same step of this group, and a looser count
    pub stepped_as : {m : ℕ} {h : Work → Work} → n ≤ m → ((x : Work) → g ≡ x.group → f x ≡ h x)
        → Stepped w n f g made out r made' out' → Stepped w m h g made out r made' out'
    stepped_as le e p =
        record {
          room = p.room;
          later = record { rows_le = omega (arith, p.later.rows_le); constant = p.later.constant };
          long = p.long;
          len = p.len;
          stands = λ x s. rw (← (e x s.same)) (p.stands x s);
        }

    -- what the code knows where its ways meet
    pub stepped_met : {q : Group} {made'' : Made} {out'' : List ℕ} → made'' ≡ made' → out'' ≡ out' → q ≡ r
        → Stepped w n f g made out r made' out' → Stepped w n f g made out q made'' out''
    stepped_met em eo er p = rw (em, eo, er) p

    -- and another step behind it
    pub stepped_then : {m : ℕ} {h : Work → Work} {q : Group} {made'' : Made} {out'' : List ℕ}
        → Stepped w n f g made out r made' out' → Stepped w m h r made' out' q made'' out''
        → Stepped w (n + m) (λ x. h (f x)) g made out q made'' out''
    stepped_then p t =
        record {
          room = t.room;
          later =
              record {
                rows_le = omega (arith, p.later.rows_le, t.later.rows_le);
                constant = t.later.constant ∙ p.later.constant;
              };
          long = t.long ∙ p.long;
          len = t.len ∙ p.len;
          stands = λ x s. t.stands (f x) (p.stands x s);
        }

-- ---- a loop of steps

module _ {w : ℕ} (f : ℕ → Work → Work) (a : ℕ) {g : Group} {made : Made} {out : List ℕ} where
  pub loop_none : Room made out → Stepped w 0 (for_in f a a) g made out g made out
  loop_none r = stepped_as (omega arith) (λ x e. sym (for_none f a a x (omega arith))) (stepped_none r)

  pub loop_turn : (i : ℕ) {k m : ℕ} {r q : Group} {made' : Made} {out' : List ℕ} {made'' : Made} {out'' : List ℕ} → a ≤ i
      → Stepped w k (for_in f a i) g made out r made' out' → Stepped w m (f i) r made' out' q made'' out''
      → {n : ℕ} → k + m ≤ n → Stepped w n (for_in f a (i + 1)) g made out q made'' out''
  loop_turn i h p t le = stepped_as le (λ x e. sym (for_more f a i x h)) (stepped_then p t)

  -- at the loop's end
  pub loop_done : (i n : ℕ) {k m : ℕ} {r : Group} {made' : Made} {out' : List ℕ} → i ≤ n → n ≤ i → k ≤ m
      → Stepped w k (for_in f a i) g made out r made' out' → Stepped w m (for_in f a n) g made out r made' out'
  loop_done i n h b le p =
      let e : i ≡ n = omega arith in
      stepped_as le (λ x _. ap (λ (k : ℕ). for_in f a k x) e) p

-- ---- a step that leaves the table

pub stepped_group : {w : ℕ} {g r : Group} {made : Made} {out : List ℕ} (f : Group → Group) → Room made out → r ≡ f g
    → (f g).len ≡ g.len
    → Stepped w 0 (on_group f) g made out r made out
unfolding on_group work
stepped_group f room e n = stepped_of room later_none refl (ap (λ (k : Group). k.len) e ∙ n) (λ l held. record { same = e; held = held })
