-- Laws of joining a place to classes that stand in words: the class that the search finds is that of the profile, and
-- what the code then writes are the words of `join_class`.
use mathlib.Core.Path.{◌≡◌, refl, ap, ap₂, sym, ◌∙◌}
use Prim.Native.Nat.{ℕ, suc, ◌+◌, ◌-◌, ◌*◌, ◌%◌, ◌^◌, ◌≤◌, ◌<◌}
use native.Mathlib.Omega.{arith}
use native.Mathlib.Nat.{zero-add}
use mathlib.Core.List.{List, [], ◌∷◌, ◌++◌}
use lib.ListN.{length, get_or, take, drop, length-append, length-take, length-drop}
use lib.Seq.{get_or-take, get_or-drop, ext_get_or}
use borrow.Author.Tests.{eq-eqb, ne_eqb}
use Rattle.base.specs.Lists.{eq_list}
use Rattle.base.specs.Put.{put, padded}
use Rattle.base.proofs.PutLaws.{put_then, put_padded_at, length_put}
use Rattle.base.specs.Loop.{first_f, first_in}
use Rattle.base.proofs.LoopLaws.{first_le}
use Rattle.partition_laws.specs.Partition.{PartitionClass, join_class, class_words}
use Rattle.partition_laws.specs.Classes.{HasWords, class_number, has_profile, add_place, ClassesIn, count_after}
use Rattle.partition_laws.specs.Classes.{Joins}
use Rattle.partition_laws.proofs.PartitionLaws.{class_at, each_at}
use Rattle.partition_laws.proofs.ProfileLaws.{class_words_length, class_words_at, get_or_padded}
use Rattle.classes.proofs.ClassWordsLaws.{class_inside, one_shl, length_add_place, add_place_padded}
use Rattle.classes.proofs.ClassWordsLaws.{number_first, join_new, join_old_length, join_words, words_old}
use Rattle.classes.proofs.ClassWordsLaws.{words_new}

-- the words of k classes have their place
words_length : (n : ℕ) (out : List ℕ) (k : ℕ) (l : List PartitionClass) → ClassesIn n out k l
    → length (class_words l) ≡ k * (n + 1)
words_length n out k l h = class_words_length n l h.each ∙ ap (λ (m : ℕ). m * (n + 1)) (sym h.count)

-- the place p joins class r of the words, which is that of its profile
pub classes_old : (q out : List ℕ) (k p : ℕ) (l : List PartitionClass) → ClassesIn (length q) out k l
    → {r : ℕ} → r ≡ class_number q l → r < k → {after : List ℕ} → after ≡ add_place (r * (length q + 1)) p out
    → ClassesIn (length q) after k (join_class p q l)
classes_old q out k p l h {r} e old {after} ha =
    let low : class_number q l < length l = omega (arith, h.count) in
    let at : ℕ = r * (length q + 1) in
    let inside : at < length (class_words l) =
    omega (arith, words_length (length q) out k l h, class_inside (length q) old) in
    let long : length after ≡ length out = ap length ha ∙ length_add_place at p out in
    record {
      count = h.count ∙ sym (join_old_length q p l low);
      each = join_words q p (length q) refl l h.each;
      words =
          ha
          ∙ ap (add_place at p) h.words
          ∙ add_place_padded at p (length out) (class_words l) inside
          ∙ ap (λ (i : ℕ). padded (length out) (add_place (i * (length q + 1)) p (class_words l))) e
          ∙ ap₂ padded (sym long) (sym (words_old q p (length q) l h.each low));
    }

-- r: the class that the search finds
module _ (q out : List ℕ) (k p : ℕ) (room : (k + 1) * (length q + 1) ≤ length out) {r : ℕ}
    (hr : r ≡ first_in (has_profile out q) 0 k) where
  found_le : r ≤ k
  found_le = omega (arith, hr, first_le (has_profile out q) 0 k (omega arith))

  -- there is room for its words
  pub found_room : r * (length q + 1) + (length q + 1) ≤ length out
  found_room = omega (arith, class_inside (length q) {j = r} {k = k + 1} (omega (arith, found_le)))

  module _ (l : List PartitionClass) (h : ClassesIn (length q) out k l) where
    abbrev n : ℕ
    n = length q

    -- the words of class j's profile
    profile_in : (j : ℕ) → j < length l → take n (drop (j * (n + 1) + 1) out) ≡ (class_at l j).profile
    profile_in j hj =
        let inside = class_inside n {j = j} {k = k} (omega (arith, h.count)) in
        let words : length (class_at l j).profile ≡ n = each_at (HasWords n) l h.each j hj in
        let long : length (take n (drop (j * (n + 1) + 1) out)) ≡ n =
        length-take n (drop (j * (n + 1) + 1) out) ∙ rw (length-drop (j * (n + 1) + 1) out) (omega arith) in
        ext_get_or 0 (take n (drop (j * (n + 1) + 1) out)) (class_at l j).profile (long ∙ sym words)
        (λ i hi.
        let z : j * (n + 1) + 1 + i ≡ j * (n + 1) + suc i = omega arith in
        get_or-take n (drop (j * (n + 1) + 1) out) i 0 (omega arith)
        ∙ get_or-drop (j * (n + 1) + 1) out i 0
        ∙ ap₂ (λ (m : List ℕ) (y : ℕ). get_or m y 0) h.words z
        ∙ get_or_padded (length out) (class_words l) (j * (n + 1) + suc i)
        ∙ class_words_at n l h.each j hj (suc i) (omega arith))

    number_found : r ≡ class_number q l
    unfolding first_in
    number_found =
        let z : k - 0 ≡ length l = omega (arith, h.count) in
        hr
        ∙ ap (λ (m : ℕ). first_f m (has_profile out q) 0) z
        ∙ number_first q (has_profile out q) l 0
        (λ j hj.
        let e : 0 + j ≡ j = omega arith in
        ap (has_profile out q) e ∙ ap (λ (m : List ℕ). eq_list m q) (profile_in j hj))
        ∙ zero-add (class_number q l)

  module _ (old : r < k) {after : List ℕ} (ha : after ≡ add_place (r * (length q + 1)) p out) where
    old_classes : (l : List PartitionClass) → ClassesIn (length q) out k l
        → ClassesIn (length q) after (count_after k r) (join_class p q l)
    unfolding count_after
    old_classes l h =
        simp (ne_eqb r k (omega arith)) (classes_old q out k p l h (number_found l h) old ha)

    pub joins_old : Joins p q out k after r
    joins_old =
        record {
          class_le = found_le;
          long = ap length ha ∙ length_add_place (r * (length q + 1)) p out;
          classes = old_classes;
          class = number_found;
        }

  module _ (new : k ≤ r) {after : List ℕ} (hp : p < 64)
      (ha : after ≡ put (put out (r * (length q + 1)) (1 * 2 ^ p % 2 ^ 64 ∷ [])) (r * (length q + 1) + 1) q) where
    last : r ≡ k
    last = omega (arith, found_le)

    new_put : after ≡ put out (k * (length q + 1)) (2 ^ p ∷ q)
    new_put =
        ha
        ∙ put_then out (r * (length q + 1)) (1 * 2 ^ p % 2 ^ 64 ∷ []) q (r * (length q + 1) + 1)
        (omega (arith, ap (λ (m : ℕ). m * (length q + 1)) last)) (omega arith)
        ∙ ap₂ (λ (m x : ℕ). put out (m * (length q + 1)) (x ∷ q)) last (one_shl p hp)

    new_long : length after ≡ length out
    new_long = ap length new_put ∙ length_put out (k * (length q + 1)) (2 ^ p ∷ q) (omega arith)

    new_classes : (l : List PartitionClass) → ClassesIn (length q) out k l
        → ClassesIn (length q) after (count_after k r) (join_class p q l)
    unfolding count_after
    new_classes l h =
        let full : class_number q l ≡ length l = sym (number_found l h) ∙ last ∙ h.count in
        let new : PartitionClass = record { mask = 2 ^ p; profile = q } in
        let j : join_class p q l ≡ l ++ (new ∷ []) = join_new q p l full in
        record {
          count =
              simp (eq-eqb r k last)
              (sym (ap length j ∙ length-append l (new ∷ []) ∙ omega (arith, h.count)));
          each = join_words q p (length q) refl l h.each;
          words =
              new_put
              ∙ ap (λ (o : List ℕ). put o (k * (length q + 1)) (2 ^ p ∷ q)) h.words
              ∙ put_padded_at (length out) (class_words l) (2 ^ p ∷ q) (k * (length q + 1))
              (sym (words_length (length q) out k l h))
              ∙ ap₂ padded (sym new_long) (sym (words_new q p l) ∙ ap class_words (sym j));
        }

    pub joins_new : Joins p q out k after r
    joins_new = record { class_le = found_le; long = new_long; classes = new_classes; class = number_found }
