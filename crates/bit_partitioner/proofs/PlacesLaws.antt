-- Laws of the loop over places (specs/Places.antt): the profile of a place is that of the place before, moved, and each
-- turn joins one place as `classes_f` does.
use mathlib.Core.Path.{◌≡◌, refl, ap, ap₂, sym, ◌∙◌}
use Prim.Native.Nat.{ℕ, zero, suc, ◌+◌, ◌-◌, ◌*◌, ◌≤◌, ◌<◌}
use native.Mathlib.Omega.{arith}
use native.Mathlib.Nat.{zero-add, mul-le-mul_right}
use native.Mathlib.Numerals.{add-one}
use native.Mathlib.Decide.{ℕ_discrete}
use mathlib.Core.List.{List, []}
use lib.ListN.{length, get_or}
use lib.Seq.{ext_get_or}
use borrow.Author.Tests.{eq-eqb, ne_eqb}
use Rattle.arith.specs.Bit.{bit_at}
use Rattle.arith.proofs.BitLaws.{bit_lt}
use Rattle.base.specs.Put.{padded}
use Rattle.semilinear.specs.Form.{Row}
use Rattle.semilinear.specs.Items.{after_atoms}
use Rattle.bit_partitioner.specs.declared.places.Places.{Places}
use Rattle.partition_laws.specs.Partition.{PartitionClass, profile_word, profile_from, join_class}
use Rattle.partition_laws.specs.Partition.{classes_f, class_words}
use Rattle.profile.specs.Edges.{atom_edges}
use Rattle.partition_laws.specs.Classes.{EachClass, class_number, add_place, ClassesIn, count_after, Joins}
use Rattle.profile.specs.Index.{atom_trees, tree_of, IndexReadable, AtomsIndexed}
use Rattle.profile.specs.Profile.{moved_word, WordsMoved}
use Rattle.bit_partitioner.specs.Places.{form_rows, PlacesJoined, PlacedNext, AllPlaced}
use Rattle.partition_laws.proofs.PartitionLaws.{classes_length}
use Rattle.partition_laws.proofs.ProfileLaws.{profile_length, profile_at}
use Rattle.profile.specs.declared.index.AtomFacts.{AtomFacts}
use Rattle.profile.proofs.EdgesLaws.{word_still, edge_start}
use Rattle.classes.proofs.ClassWordsLaws.{class_inside, length_add_place, join_number, number_lt}
use Rattle.classes.proofs.JoinLaws.{classes_old}
use Rattle.profile.proofs.MoveLaws.{moved_edge, moved_still, rows_length, rows_tree}

-- ---- profiles

module _ (f : List ℕ) (w : ℕ) where
  -- the profile of place p
  abbrev pub profile_of : ℕ → List ℕ
  profile_of p = profile_from w p 0 (form_rows f)

  length_profile : (p : ℕ) → length (profile_of p) ≡ length (atom_trees f)
  length_profile p = profile_length w p 0 (form_rows f) ∙ rows_length f (after_atoms f)

  word_of : (p i : ℕ) → i < length (atom_trees f) → get_or (profile_of p) i 0 ≡ profile_word w p i (tree_of f i)
  word_of p i h =
      profile_at w p 0 (form_rows f) i (omega (arith, rows_length f (after_atoms f)))
      ∙ ap₂ (profile_word w p) (zero-add i) (rows_tree f (after_atoms f) i)

  module _ (index : List AtomFacts) (r : IndexReadable f index) (hw : w ≤ 64) where
    -- no edge at p + 1: the word is that of p
    same_word : (p i : ℕ) → suc p < w → i < length (atom_trees f) → bit_at (atom_edges (tree_of f i)) (suc p) ≡ 0
        → profile_word w p i (tree_of f i) ≡ profile_word w (suc p) i (tree_of f i)
    same_word p i hp h z = sym (word_still w p hp hw (tree_of f i) (r.entry i h).expr i z)

    pub profile_moved : (p : ℕ) → p < w → {before after : List ℕ} → length before ≡ length (atom_trees f)
        → (0 < p → before ≡ profile_of (p - 1)) → WordsMoved f w p before after → after ≡ profile_of p
    profile_moved p hp {before} {after} n last m =
        ext_get_or 0 after (profile_of p) (m.long ∙ n ∙ sym (length_profile p))
        (λ i hi.
        let inside : i < length (atom_trees f) = omega (arith, m.long) in
        m.word i (omega (arith, m.long))
        ∙ word p hp last i inside (ℕ_discrete (bit_at (atom_edges (tree_of f i)) p) 1)
        ∙ sym (word_of p i inside))
      where
        word : (p : ℕ) → p < w → (0 < p → before ≡ profile_of (p - 1)) → (i : ℕ) → i < length (atom_trees f)
            → Dec (bit_at (atom_edges (tree_of f i)) p ≡ 1)
            → moved_word w p i (tree_of f i) (get_or before i 0) ≡ profile_word w p i (tree_of f i)
        word p hp last i h (yes b) = moved_edge w p i (tree_of f i) (get_or before i 0) b
        word zero hp last i h (no d) = absurd (d (edge_start (tree_of f i)))
        word (suc p) hp last i h (no d) =
            let z : suc p - 1 ≡ p = omega arith in
            moved_still w (suc p) i (tree_of f i) (get_or before i 0) d
            ∙ ap (λ (l : List ℕ). get_or l i 0) (last (omega arith) ∙ ap profile_of z)
            ∙ word_of p i h
            ∙ same_word p i hp h (omega (arith, bit_lt (atom_edges (tree_of f i)) (suc p)))

  -- no atom has an edge at p + 1: the profile is that of p
  pub profile_still : (index : List AtomFacts) (edges : ℕ) → AtomsIndexed f index edges → w ≤ 64 → (p : ℕ) → suc p < w
      → bit_at edges (suc p) ≡ 0 → profile_of p ≡ profile_of (suc p)
  profile_still index edges x hw p hp z =
      ext_get_or 0 (profile_of p) (profile_of (suc p)) (length_profile p ∙ sym (length_profile (suc p)))
      (λ i hi.
      let inside : i < length (atom_trees f) = omega (arith, length_profile p) in
      word_of p i inside
      ∙ same_word index x.readable hw p i hp inside (x.covers i inside (suc p) z)
      ∙ sym (word_of (suc p) i inside))

-- ---- one turn

classes_next : (w : ℕ) (rows : List Row) (p : ℕ)
    → classes_f (p + 1) w rows ≡ join_class p (profile_from w p 0 rows) (classes_f p w rows)
unfolding classes_f
classes_next w rows p = rw add-one refl

-- a place of the last profile is in a class
last_class : (w : ℕ) (rows : List Row) (q : List ℕ) (p : ℕ) → 0 < p → q ≡ profile_from w (p - 1) 0 rows
    → class_number q (classes_f p w rows) < length (classes_f p w rows)
unfolding classes_f
last_class w rows q zero l e = absurd (omega arith)
last_class w rows q (suc p) l e =
    let z : suc p - 1 ≡ p = omega arith in
    rw (e ∙ ap (λ (k : ℕ). profile_from w k 0 rows) z) (number_lt (profile_from w p 0 rows) p (classes_f p w rows))

module _ (f : List ℕ) (w : ℕ) (x : Places) (p : ℕ) (before out : List ℕ) (h : PlacesJoined f w x p before out) where
  -- there are at most as many classes as places, so that there is room for one more
  pub count_place : x.count ≤ p
  count_place = omega (arith, h.classes.count, classes_length w (form_rows f) p)

  pub room_next : p < 64 → 64 * (length before + 1) ≤ length out
      → (x.count + 1) * (length before + 1) ≤ length out
  room_next l room =
      let m : (x.count + 1) * (length before + 1) ≤ 64 * (length before + 1) =
      mul-le-mul_right (length before + 1) (omega (arith, count_place)) in
      omega arith

  -- the class of the place before is one of the classes
  pub class_lt : 0 < p → x.class < x.count
  class_lt l =
      omega (arith, h.classes.count, h.class l, last_class w (form_rows f) before p l (h.last l))

  -- the next place has this profile and this class
  next_of : {profile after : List ℕ} {c k : ℕ} → length after ≡ length out → profile ≡ profile_of f w p
      → ClassesIn (length profile) after k (join_class p profile (classes_f p w (form_rows f)))
      → c ≡ class_number profile (classes_f p w (form_rows f))
      → PlacedNext f w p (record { class = c; count = k }) profile out after
  next_of {profile} long e classes class =
      let l : List PartitionClass = classes_f p w (form_rows f) in
      let next : classes_f (p + 1) w (form_rows f) ≡ join_class p profile l =
      classes_next w (form_rows f) p ∙ ap (λ (q : List ℕ). join_class p q l) (sym e) in
      let z : p ≡ p + 1 - 1 = omega arith in
      record {
        long = long;
        placed =
            record {
              long = ap length e ∙ length_profile f w p;
              classes = rw next classes;
              last = λ _. e ∙ ap (profile_of f w) z;
              class = λ _. class ∙ sym (join_number profile p l) ∙ ap (class_number profile) (sym next);
            };
      }

  -- where no atom has an edge, the place joins the class of the place before
  module _ (index : List AtomFacts) (edges : ℕ) (ix : AtomsIndexed f index edges) (some : 0 < length (atom_trees f))
      (hp : p < w) (hw : w ≤ 64) (z : bit_at edges p ≡ 0) where
    pub still_pos : 0 < p
    still_pos = go (ℕ_discrete p 0)
      where
        go : Dec (p ≡ 0) → 0 < p
        go (yes e) = absurd (omega (arith, ix.start some, sym (ap (bit_at edges) e) ∙ z))
        go (no d) = omega arith

    pub still_room : 64 * (length before + 1) ≤ length out → x.class * (length before + 1) < length out
    still_room room =
        omega (
          arith,
          class_inside (length before) {j = x.class} {k = x.count} (class_lt still_pos),
          room_next (omega arith) room,
        )

    pub placed_still : {after : List ℕ} → after ≡ add_place (x.class * (length before + 1)) p out
        → PlacedNext f w p (record { class = x.class; count = x.count }) before out after
    placed_still ha =
        let s : suc (p - 1) ≡ p = omega (arith, still_pos) in
        let e : before ≡ profile_of f w p =
        h.last still_pos
        ∙ profile_still f w index edges ix hw (p - 1) (omega arith) (ap (bit_at edges) s ∙ z)
        ∙ ap (profile_of f w) s in
        let n = ap length ha ∙ length_add_place (x.class * (length before + 1)) p out in
        next_of n e
        (classes_old before out x.count p (classes_f p w (form_rows f)) h.classes
        (h.class still_pos) (class_lt still_pos) ha)
        (h.class still_pos)

  -- and else that of its profile
  pub placed_joined : (index : List AtomFacts) → IndexReadable f index → p < w → w ≤ 64 → {profile : List ℕ}
      → WordsMoved f w p before profile
      → {after : List ℕ} {r : ℕ} → Joins p profile out x.count after r
      → {k : ℕ} → k ≡ count_after x.count r
      → PlacedNext f w p (record { class = r; count = k }) profile out after
  placed_joined index rd hp hw {profile} m j {k} hk =
      let l : List PartitionClass = classes_f p w (form_rows f) in
      let here : ClassesIn (length profile) out x.count l = rw m.long h.classes in
      next_of j.long (profile_moved f w index rd hw p hp h.long h.last m) (rw hk (j.classes l here))
      (j.class l here)

module _ (k r : ℕ) where
  pub count_new : r ≡ k → k + 1 ≡ count_after k r
  unfolding count_after
  count_new e = simp (eq-eqb r k e)

  pub count_same : (r ≡ k → ⊥) → k ≡ count_after k r
  unfolding count_after
  count_same d = simp (ne_eqb r k d)

-- ---- the loop

pub placed_none : (f : List ℕ) (w : ℕ) (profile out : List ℕ) → length profile ≡ length (atom_trees f)
    → out ≡ padded (length out) [] → PlacesJoined f w (record { class = 0; count = 0 }) 0 profile out
unfolding classes_f EachClass class_words
placed_none f w profile out n z =
    record {
      long = n;
      classes = record { count = refl; each = tt; words = z };
      last = λ l. absurd (omega arith);
      class = λ l. absurd (omega arith);
    }

pub placed_all : (f : List ℕ) (w : ℕ) (x : Places) (profile before after : List ℕ) → PlacesJoined f w x w profile after
    → length after ≡ length before → AllPlaced f w before after x.count
placed_all f w x profile before after h n =
    record {
      number = h.classes.count;
      words = h.classes.words ∙ ap (λ (k : ℕ). padded k (class_words (classes_f w w (form_rows f)))) n;
    }
