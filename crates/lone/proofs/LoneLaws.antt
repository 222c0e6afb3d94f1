-- Laws of specs/Lone.antt: the group of a basis that one row alone has, its entry, what refining and settling make of it.
use Rattle.made.specs.declared.Made.{Made}
use mathlib.Core.Path.{◌≡◌, refl, ap, ◌∙◌}
use Prim.Native.Nat.{ℕ, ◌+◌, ◌≤◌, ◌<◌}
use native.Mathlib.Omega.{arith}
use native.Mathlib.Decide.{dec_lt, ℕ_discrete}
use mathlib.Core.List.{List}
use mathlib.Core.Bool.{true, false}
use lib.ListN.{length, get_or}
use Rattle.base.specs.Loop.{for_in}
use Rattle.base.proofs.ListsLaws.{eq_list_self}
use Rattle.base.proofs.LoopLaws.{for_ind, for_none, for_more}
use Rattle.record.specs.Tree.{Tree}
use Rattle.group.specs.declared.Group.{Group}
use Rattle.views.specs.declared.View.{View}
use Rattle.group.specs.Group.{Entry, used, at, is_live, empty_group, push_entry}
use Rattle.made.specs.Made.{Room}
use Rattle.group.specs.Made.{Stepped}
use Rattle.group.specs.Ready.{AtReady, AtFirst}
use Rattle.group.specs.Stages.{cut_and_drop, merge_all}
use Rattle.entries.specs.Marks.{blank}
use Rattle.entries.specs.Tests.{cut_of, drops_of, becomes_minus_one, NoSingle, NoMerge}
use Rattle.group.specs.Collapse.{three_term_collapse}
use Rattle.std.specs.Prelude.{Option, Some}
use Rattle.views.specs.Views.{found_at, view_at, basis_bytes, has_basis}
use Rattle.group.specs.Gathered.{gather_at, gathered, add_word, settle_word, settle_word_at, settle_words}
use Rattle.lone.specs.Lone.{LoneReady, FirstReady, lone_group, live_entry, Stays}
use Rattle.views.proofs.HasBasisLaws.{basis_same}
use Rattle.group.proofs.GatherLaws.{gather_same, gather_push}
use Rattle.group.proofs.EntryLaws.{sized_empty, at_push, used_at, length_used}
use Rattle.group.proofs.SettleWordsLaws.{word_live}
use Rattle.group.proofs.SteppedLaws.{stepped_then}
use Rattle.group.proofs.StagesLaws.{single_none, merge_none}
use Rattle.collapse_search.proofs.FindLaws.{three_few}
use Rattle.collapse_search.proofs.CollapseMetLaws.{collapse_same}

-- ---- the group

-- a fact of the numbers from a to below i, and of i
pub from_more : (P : ℕ → Type 0) (a i : ℕ) → ((k : ℕ) → a ≤ k → k < i → P k) → P i → (k : ℕ) → a ≤ k → k < i + 1 → P k
from_more P a i h p k low high = go (ℕ_discrete k i)
  where
    go : Dec (k ≡ i) → P k
    go (yes e) = rw e p
    go (no n) = h k low (omega arith)

module _ (f : List ℕ) (views : List (Option View)) (hash : ℕ) (b : List ℕ) (first n : ℕ) (lt : first < n)
    (has : has_basis f (found_at views first) hash b ≡ true)
    (before : (k : ℕ) → 0 ≤ k → k < first → has_basis f (found_at views k) hash b ≡ false)
    (behind : (k : ℕ) → first + 1 ≤ k → k < n → has_basis f (found_at views k) hash b ≡ false) where
  -- no entry up to the row, one behind it
  record Sofar (i : ℕ) (g : Group) : Type 0 where
    none : i ≤ first → g ≡ empty_group
    one : first < i → g ≡ lone_group (view_at views first) first

  turn : (i : ℕ) (g : Group) → 0 ≤ i → i < n → Sofar i g → Sofar (i + 1) (gather_at f views hash b i g)
  unfolding lone_group
  turn i g a u s = go (dec_lt i first) (ℕ_discrete i first)
    where
      go : Dec (i < first) → Dec (i ≡ first) → Sofar (i + 1) (gather_at f views hash b i g)
      go (yes l) d =
          record {
            none = λ h. gather_same f views hash b i g (before i a l) ∙ s.none (omega arith);
            one = λ h. absurd (omega arith);
          }
      go (no l) (yes e) =
          record {
            none = λ h. absurd (omega arith);
            one = λ h.
                gather_push f views hash b i g (ap (λ k. has_basis f (found_at views k) hash b) e ∙ has)
                ∙ ap (λ (k : ℕ). push_entry g (view_at views k).coeff (view_at views k).mask k) e
                ∙ ap (λ (q : Group). push_entry q (view_at views first).coeff (view_at views first).mask first)
                (s.none (omega arith));
          }
      go (no l) (no d) =
          let later : first < i = omega arith in
          record {
            none = λ h. absurd (omega arith);
            one = λ h. gather_same f views hash b i g (behind i (omega arith) u) ∙ s.one later;
          }

  pub gathered_lone : gathered f views hash b n ≡ lone_group (view_at views first) first
  unfolding gathered
  gathered_lone =
      (for_ind Sofar (gather_at f views hash b) 0 empty_group n (omega arith) turn
      (record { none = λ _. refl; one = λ h. absurd (omega arith) })).one lt

-- a row has its own basis
own_basis : (f : List ℕ) (v : View) → has_basis f (Some v) v.hash (basis_bytes f v) ≡ true
own_basis f v = basis_same f v v.hash (basis_bytes f v) refl ∙ eq_list_self (basis_bytes f v)

pub at_lone : {w k : ℕ} {f : List ℕ} {views : List (Option View)} {x n : ℕ} {made : Made} {out : List ℕ} → AtReady w k f views x n made out
    → LoneReady f views (view_at views x).hash (basis_bytes f (view_at views x)) x n
at_lone {f = f} {views} {x} h =
    let v : View = view_at views x in
    record {
      readable = h.readable;
      within = h.within;
      has_basis_lem = ap (λ (o : Option View). has_basis f o v.hash (basis_bytes f v)) h.some ∙ own_basis f v;
    }

pub at_first : {w k : ℕ} {f : List ℕ} {views : List (Option View)} {x n : ℕ} {made : Made} {out : List ℕ} → AtFirst w k f views x n made out
    → FirstReady f views (view_at views x).hash (basis_bytes f (view_at views x)) x n
at_first h = record { lone = at_lone h.ready; none_before = h.none_before }

-- ---- its entry

module _ (v : View) (i : ℕ) where
  abbrev lone_entry : Entry
  lone_entry = live_entry v.coeff v.mask i

  pub at_lone_entry : at (lone_group v i) 0 ≡ lone_entry
  unfolding lone_group empty_group
  at_lone_entry = at_push empty_group v.coeff v.mask i sized_empty (omega arith)

  pub lone_len : (lone_group v i).len ≡ 1
  unfolding lone_group push_entry empty_group
  lone_len = refl

  pub lone_used : length (used (lone_group v i)) ≡ (lone_group v i).len
  lone_used = length_used (lone_group v i)

  -- ---- settling it adds its coefficient to its row
  pub settle_lone : (w : ℕ) (l : List ℕ) → settle_words w (used (lone_group v i)) l ≡ add_word w v.coeff i l
  unfolding settle_words is_live
  settle_lone w l =
      let g : Group = lone_group v i in
      ap (λ (n : ℕ). for_in (settle_word_at w (used g)) 0 n l) (lone_used ∙ lone_len)
      ∙ for_more (settle_word_at w (used g)) 0 0 l (omega arith)
      ∙ ap (settle_word_at w (used g) 0) (for_none (settle_word_at w (used g)) 0 0 l (omega arith))
      ∙ ap (λ (e : Entry). settle_word w e l) (used_at g 0 (omega (arith, lone_len)) ∙ at_lone_entry)
      ∙ word_live w lone_entry l refl

  -- ---- refining leaves it
  module _ {w : ℕ} (h : Stays w v.coeff v.mask) where
    -- each entry is this one
    used_lone : (k : ℕ) → k < length (used (lone_group v i)) → get_or (used (lone_group v i)) k blank ≡ lone_entry
    used_lone k l =
        let z : k ≡ 0 = omega (arith, l, lone_used, lone_len) in
        used_at (lone_group v i) k (omega (arith, l, lone_used)) ∙ ap (at (lone_group v i)) z ∙ at_lone_entry

    no_single : NoSingle w (used (lone_group v i))
    unfolding cut_of drops_of is_live
    no_single =
        record {
          no_cut = λ k l. rw (used_lone k l) h.no_cut;
          no_drop = λ k l. rw (used_lone k l) h.no_drop;
        }

    no_merge : NoMerge w (used (lone_group v i))
    unfolding becomes_minus_one is_live
    no_merge =
        record {
          no_pair = λ j k p l. absurd (omega (arith, p, l, lone_used, lone_len));
          no_minus_one = λ k l. rw (used_lone k l) h.no_minus_one;
        }

    pub refined_lone : (t : Tree) {made : Made} {out : List ℕ} → Room made out
        → Stepped w 2 (λ x. three_term_collapse w t (merge_all w t (cut_and_drop w t x))) (lone_group v i) made out
        (lone_group v i) made out
    refined_lone t room =
        stepped_then
        (stepped_then (single_none t {n = 0} no_single room) (merge_none t {n = 0} no_merge room))
        (collapse_same t (three_few w (lone_group v i) (omega (arith, lone_len))) room refl refl refl)
