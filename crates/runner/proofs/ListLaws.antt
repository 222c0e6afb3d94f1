-- The list in words (specs/RunPasses.antt), two words at a time.
use mathlib.Core.Path.{◌≡◌, refl, ap, ap₂, sym, ◌∙◌}
use Prim.Native.Nat.{ℕ, zero, suc, ◌+◌, ◌-◌, ◌*◌, ◌≤◌, ◌<◌}
use native.Mathlib.Omega.{arith}
use native.Mathlib.Decide.{dec_lt}
use mathlib.Core.List.{List, [], ◌∷◌}
use mathlib.Core.Bool.{Bool, true, false, ◌&&◌}
use lib.ListN.{length, get_or, take, drop, drop_of_length-le}
use lib.Seq.{drop-cons}
use lib.Dec.{leb, eqb}
use borrow.Author.Tests.{le-leb, lt-leb}
use Rattle.std.specs.Prelude.{Option, Some, None, IsSome}
use Rattle.std.proofs.lemmas.List.{drop-drop}
use Rattle.std.specs.Simd.{first_chunks}
use Rattle.base.specs.Choice.{when}
use Rattle.claims.specs.Calls.{Pass as ClaimedPass}
use Rattle.runner.specs.declared.passes.Pass.{Pass}
use Rattle.runner.specs.declared.passes.Pass.TheVariants.{Refine, Recover, Coalesce, Flatten, Compact}
use Rattle.runner.specs.declared.passes.Call.{Call}
use Rattle.runner.specs.Passes.{claimed, claimed_call, number_of, is_call_of, IsCallRead}
use Rattle.runner.specs.RunPasses.{pass_at, call_of, calls_of, is_pass, is_call, is_list}

-- ---- a pass by its number

pub number_pass : (pass : Pass) → is_pass (number_of pass) ≡ true
unfolding is_pass
number_pass Refine = refl
number_pass Recover = refl
number_pass Coalesce = refl
number_pass Flatten = refl
number_pass Compact = refl

pub number_at : (pass : Pass) → pass_at (number_of pass) ≡ claimed pass
unfolding pass_at
number_at Refine = refl
number_at Recover = refl
number_at Coalesce = refl
number_at Flatten = refl
number_at Compact = refl

-- what two words are read as is their call
pub read_of : (words : List ℕ) (c : Call) → IsCallRead words (Some c)
    → claimed_call c ≡ call_of (get_or words 0 0) (get_or words 1 0)
read_of words c (p, n) =
    ap₂ (λ (pass : ClaimedPass) (len : ℕ). record { pass = pass; len = len })
    (sym (number_at c.pass) ∙ ap pass_at p) n

-- whether it is a call for slices of a and b bytes
pub read_fits : (a b : ℕ) (words : List ℕ) (c : Call) → IsCallRead words (Some c)
    → is_call_of a b words ≡ leb c.len a && leb c.len b
unfolding is_call
read_fits a b words c (p, n) = rw (← p, ← n, number_pass c.pass) refl

pub read_none : (a b : ℕ) (words : List ℕ) → is_pass (get_or words 0 0) ≡ false → is_call_of a b words ≡ false
unfolding is_call
read_none a b words e = rw e refl

-- the words of a chunk
pub chunk_at : (k i : ℕ) (words : List ℕ) (d : List ℕ) → i < k
    → get_or (first_chunks 2 k words) i d ≡ take 2 (drop (i * 2) words)
chunk_at zero i words d h = absurd (omega (arith, h))
chunk_at (suc k) zero words d h = refl
chunk_at (suc k) (suc i) words d h =
    let next : 2 + i * 2 ≡ suc i * 2 = omega arith in
    chunk_at k i (drop 2 words) d (omega (arith, h))
    ∙ ap (take 2) (drop-drop (i * 2) 2 words ∙ ap (λ (n : ℕ). drop n words) next)

-- the same of a slice of such chunks
pub chunk_in : (words : List ℕ) (chunks : List (List ℕ)) (k i : ℕ) → chunks ≡ first_chunks 2 k words → i < k
    → get_or chunks i [] ≡ take 2 (drop (i * 2) words)
chunk_in words chunks k i e h = ap (λ (l : List (List ℕ)). get_or l i []) e ∙ chunk_at k i words [] h

-- ---- the words of a list

module _ (words : List ℕ) (i : ℕ) where
  abbrev pass : ℕ
  pass = get_or words i 0

  abbrev len : ℕ
  len = get_or words (i + 1) 0

  two : i + 2 ≤ length words → drop i words ≡ pass ∷ len ∷ drop (i + 2) words
  two h =
      let one : i + 1 ≡ suc i = omega arith in
      let next : i + 2 ≡ suc (suc i) = omega arith in
      rw (one, next, drop-cons words i 0 (omega arith), drop-cons words (suc i) 0 (omega arith))

  pub calls_turn : i + 2 ≤ length words → calls_of (drop i words) ≡ call_of pass len ∷ calls_of (drop (i + 2) words)
  unfolding calls_of
  calls_turn h = rw (two h)

  module _ (a b : ℕ) where
    pub list_end : length words ≤ i → is_list a b (drop i words) ≡ true
    unfolding is_list
    list_end h = rw (drop_of_length-le words {i = i} h)

    pub list_odd : i < length words → length words - i < 2 → is_list a b (drop i words) ≡ false
    unfolding is_list
    list_odd h k = rw (drop-cons words i 0 h, drop_of_length-le words {i = suc i} (omega arith))

    -- nothing, or one word, is left
    pub list_last : (k : ℕ) → length words ≡ i + k → k < 2 → is_list a b (drop i words) ≡ eqb k 0
    list_last zero e h = list_end (omega (arith, e))
    list_last (suc zero) e h = list_odd (omega (arith, e)) (omega (arith, e))
    list_last (suc (suc k)) e h = absurd (omega (arith, h))

    pub list_pass : i + 2 ≤ length words → is_pass pass ≡ false → is_list a b (drop i words) ≡ false
    unfolding is_list is_call
    list_pass h n = rw (two h, n)

    pub list_a : i + 2 ≤ length words → is_pass pass ≡ true → a < len → is_list a b (drop i words) ≡ false
    unfolding is_list is_call
    list_a h e k = rw (two h, e, lt-leb len a k)

    pub list_b : i + 2 ≤ length words → is_pass pass ≡ true → len ≤ a → b < len → is_list a b (drop i words) ≡ false
    unfolding is_list is_call
    list_b h e l k = rw (two h, e, le-leb len a l, lt-leb len b k)

    pub list_turn : i + 2 ≤ length words → is_pass pass ≡ true → len ≤ a → len ≤ b
        → is_list a b (drop i words) ≡ is_list a b (drop (i + 2) words)
    unfolding is_list is_call
    list_turn h e l k = rw (two h, e, le-leb len a l, le-leb len b k)

    -- what a list says of its next call
    pub record Next : Type 0 where
      pub two_words : i + 2 ≤ length words
      pub fits_a : len ≤ a
      pub fits_b : len ≤ b
      pub rest : is_list a b (drop (i + 2) words) ≡ true

    none : {A : Type 0} → is_list a b (drop i words) ≡ true → is_list a b (drop i words) ≡ false → A
    none t f = let z : ◌≡◌ {A = ℕ} 0 1 = cc in absurd (omega (arith, z))

    pub list_next : i < length words → is_list a b (drop i words) ≡ true → Next
    list_next h t = go (dec_lt (length words - i) 2) (is_pass pass) refl (dec_lt a len) (dec_lt b len)
      where
        go : Dec (length words - i < 2) → (x : Bool) → is_pass pass ≡ x → Dec (a < len) → Dec (b < len) → Next
        go (yes k) x p q r = none t (list_odd h k)
        go (no k) false p q r = none t (list_pass (omega arith) p)
        go (no k) true p (yes q) r = none t (list_a (omega arith) p q)
        go (no k) true p (no q) (yes r) = none t (list_b (omega arith) p (omega arith) r)
        go (no k) true p (no q) (no r) =
            record {
              two_words = omega arith;
              fits_a = omega arith;
              fits_b = omega arith;
              rest = sym (list_turn (omega arith) p (omega arith) (omega arith)) ∙ t;
            }

    -- the next two words as a chunk
    module _ (chunk : List ℕ) (e : chunk ≡ take 2 (drop i words)) (h : i + 2 ≤ length words) where
      chunk_words : chunk ≡ pass ∷ len ∷ []
      chunk_words = e ∙ ap (take 2) (two h)

      chunk_decides : is_list a b (drop i words) ≡ when (is_call_of a b chunk) (λ _. is_list a b (drop (i + 2) words)) (λ _. false)
      unfolding is_list
      chunk_decides = rw (two h, chunk_words) refl

      pub chunk_passed : is_call_of a b chunk ≡ true → is_list a b (drop i words) ≡ is_list a b (drop (i + 2) words)
      chunk_passed p = rw p at chunk_decides

      pub chunk_stops : is_call_of a b chunk ≡ false → is_list a b (drop i words) ≡ false
      chunk_stops p = rw p at chunk_decides

    -- what the next two words are read as
    pub record Read (o : Option Call) : Type 0 where
      pub some : IsSome o
      pub call : (c : Call) → o ≡ Some c → claimed_call c ≡ call_of pass len

    pub list_read : (chunk : List ℕ) → chunk ≡ take 2 (drop i words) → i < length words
        → is_list a b (drop i words) ≡ true → (o : Option Call) → IsCallRead chunk o → Read o
    list_read chunk e h t o r = go o r
      where
        n : Next
        n = list_next h t

        words-are : chunk ≡ pass ∷ len ∷ []
        words-are = chunk_words chunk e n.two_words

        go : (o : Option Call) → IsCallRead chunk o → Read o
        go None r = none t (list_pass n.two_words (sym (ap (λ (l : List ℕ). is_pass (get_or l 0 0)) words-are) ∙ r))
        go (Some c) r =
            record {
              some = refl;
              call =
                  λ d q. ap claimed_call (sym (some_same q))
                  ∙ read_of chunk c r
                  ∙ ap (λ (l : List ℕ). call_of (get_or l 0 0) (get_or l 1 0)) words-are;
            }
          where
            some_same : {d : Call} → ◌≡◌ {A = Option Call} (Some c) (Some d) → c ≡ d
            some_same q = cc
