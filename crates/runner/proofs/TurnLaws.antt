-- One call on the form that lies in the slice (`Lies`).
use mathlib.Core.Path.{◌≡◌, ap, sym, ◌∙◌}
use Prim.Native.Nat.{ℕ, ◌≤◌, ◌<◌}
use native.Mathlib.Omega.{arith}
use native.Mathlib.Decide.{ℕ_discrete}
use native.Mathlib.Nat.{zero-add}
use mathlib.Core.List.{List, ◌++◌, append-nil}
use mathlib.Core.Bool.{Bool, true, false, not}
use lib.ListN.{length, get_or, take, drop, length-take, drop_of_length-le}
use lib.Seq.{length-take-le, take_at, take-take, take-length}
use Rattle.base.specs.Choice.{when}
use Rattle.base.specs.Put.{put, padded}
use Rattle.base.proofs.PutLaws.{take_padded, length_padded}
use Rattle.semilinear.specs.Form.{Form, term_count, encode_form, valid_form}
use Rattle.base.specs.Outcome.{Outcome, accepted, refused, refusal_of, numbers_of, written_of}
use Rattle.semilinear.specs.Outcome.{form_outcome}
use Rattle.semilinear.specs.Answers.{InNumbers, GivesNumbers}
use Rattle.semilinear.proofs.FormLaws.{length_form_le}
use Rattle.atom_table.proofs.MadeLaws.{Made, made, not_made}
use Rattle.claims.specs.Calls.{Call, pass_gives, use_of, after_call}
use Rattle.claims.proofs.CallsLaws.{pass_keeps, pass_two}
use Rattle.runner.specs.Placed.{Lies, bytes_in, InSlices}

module _ {t slice : List ℕ} {used terms : ℕ} (h : Lies t used terms slice) where
  pub used_le : used ≤ 57360
  used_le = omega (arith, h.count, ap length h.encoded, length_form_le h.form h.valid)

  pub slice_length : length slice ≡ 57360
  slice_length =
      ap length h.written ∙ length_padded 57360 t (omega (arith, used_le, h.count))

  pub take_lies : take used slice ≡ t
  take_lies = ap (λ (n : ℕ). take n slice) h.count ∙ ap (take (length t)) h.written ∙ take_padded 57360 t

-- a piece over all of a slice
pub put_whole : (d s : List ℕ) → length d ≡ length s → put d 0 s ≡ s
unfolding put
put_whole d s e =
    ap (λ (n : ℕ). s ++ drop n d) (zero-add (length s))
    ∙ ap (λ (l : List ℕ). s ++ l) (drop_of_length-le d {i = length s} (omega (arith, e)))
    ∙ append-nil s

-- what a call wrote to the first n elements of a slice
module _ (d last : List ℕ) (n : ℕ) (fits : n ≤ length d) (kept : length last ≡ length (take n d)) where
  pub part_length : length last ≡ n
  part_length = kept ∙ length-take-le n d fits

  pub part : take n (last ++ drop n d) ≡ last
  part = take_at last (drop n d) n part_length

module _ (c : Call) {t slice : List ℕ} {used terms : ℕ} (h : Lies t used terms slice) (r : InNumbers) (out : List ℕ)
    (g : GivesNumbers (pass_gives c.pass t c.len) c.len r out) where
  given_made : Made h.form (pass_gives c.pass t c.len)
  given_made = rw h.encoded (pass_keeps h.form h.valid c.len c.pass)

  pub turn_refused : (r.refusal ≡ 0 → ⊥) → after_call c t ≡ t
  unfolding after_call use_of refusal_of form_outcome
  turn_refused nz = go given_made
    where
      go : Made h.form (pass_gives c.pass t c.len) → use_of t (pass_gives c.pass t c.len) ≡ t
      go (made f flag k new e) = absurd (nz (g.number ∙ ap refusal_of e))
      go (not_made n pos e) = ap (use_of t) e

  -- what an accepted call gives lies in its own slice, which is a whole one
  pub record Accepted : Type 0 where
    pub whole : c.len ≡ 57360
    pub lies : Lies (after_call c t) r.used r.terms out

  accepted_form : (f : Form) (flag : Bool) → valid_form f ≡ true → c.len ≡ 57360
      → pass_gives c.pass t c.len ≡ form_outcome f flag → Accepted
  unfolding after_call use_of numbers_of written_of form_outcome
  accepted_form f flag ok whole e =
      let all = g.beside ∙ ap (λ (o : Outcome). take 3 (numbers_of 3 o)) e in
      let same : after_call c t ≡ encode_form f = ap (use_of t) e in
      record {
        whole = whole;
        lies =
            record {
              form = f;
              encoded = same;
              valid = ok;
              count = ap (λ (l : List ℕ). get_or l 0 0) all ∙ ap length (sym same);
              terms_count = ap (λ (l : List ℕ). get_or l 1 0) all;
              written =
                  g.written
                  ∙ ap (written_of c.len) e
                  ∙ ap (λ (n : ℕ). padded n (encode_form f)) whole
                  ∙ ap (padded 57360) (sym same);
            };
      }

  pub turn_accepted : r.refusal ≡ 0 → Accepted
  unfolding refusal_of
  turn_accepted z = by_length (ℕ_discrete c.len 57360)
    where
      not_refused : {A : Type 0} (n : ℕ) → 0 < n → pass_gives c.pass t c.len ≡ refused n → A
      not_refused n pos e =
          let number : r.refusal ≡ n = g.number ∙ ap refusal_of e in absurd (omega (arith, number, pos, z))

      by_made : c.len ≡ 57360 → Made h.form (pass_gives c.pass t c.len) → Accepted
      by_made whole (made f flag k new e) = accepted_form f flag k.valid whole e
      by_made whole (not_made n pos e) = not_refused n pos e

      by_length : Dec (c.len ≡ 57360) → Accepted
      by_length (yes e) = by_made e given_made
      by_length (no n) =
          not_refused 2 (omega arith)
          (ap (λ (s : List ℕ). pass_gives c.pass s c.len) h.encoded
          ∙ pass_two h.form h.valid c.len c.pass n)

-- ---- the two slices

-- what was written to the first n elements is what they hold now
pub parted : (o : ℕ → Outcome) (n : ℕ) (r : InNumbers) (d last : List ℕ) → n ≤ length d → length last ≡ length (take n d)
    → GivesNumbers (o (length (take n d))) (length (take n d)) r last → GivesNumbers (o n) n r (take n (last ++ drop n d))
parted o n r d last le kept g = rw (part d last n le kept) (rw (length-take-le n d le) at g)

pub room : (l : List ℕ) {t : List ℕ} {used terms : ℕ} → Lies t used terms (take 57360 l) → 57360 ≤ length l
room l h = omega (arith, slice_length h, length-take 57360 l)

pub used_room : (l : List ℕ) {t : List ℕ} {used terms : ℕ} → Lies t used terms (take 57360 l) → used ≤ length l
used_room l h = omega (arith, room l h, used_le h)

pub bytes_lies : (l : List ℕ) {t : List ℕ} {used terms : ℕ} → Lies t used terms (take 57360 l) → take used l ≡ t
bytes_lies l {used = used} h = sym (take-take used 57360 l (used_le h)) ∙ take_lies h

-- the same bytes in an equal slice
pub moved : {t l m : List ℕ} {used terms : ℕ} → Lies t used terms l → m ≡ l → Lies t used terms m
moved h e =
    record {
      form = h.form;
      encoded = h.encoded;
      valid = h.valid;
      count = h.count;
      terms_count = h.terms_count;
      written = e ∙ h.written;
    }

pub bytes_in_lem : {t : List ℕ} {first : Bool} {used terms : ℕ} {a b : List ℕ} → InSlices t first used terms a b
    → bytes_in first used a b ≡ t
bytes_in_lem {first = first} {a = a} {b = b} p = bytes_lies (when first (λ _. a) (λ _. b)) p.lies

differ : {A : Type 0} → false ≡ true → A
differ h = let z : ◌≡◌ {A = ℕ} 0 1 = cc in absurd (omega (arith, z))

module _ (c : Call) {used terms : ℕ} {a b : List ℕ} (r : InNumbers) (d : List ℕ) where
  pub first_refused : {first : Bool} → first ≡ true → InSlices (bytes_in first used a b) first used terms a b
      → GivesNumbers (pass_gives c.pass (take used a) c.len) c.len r (take c.len d) → (r.refusal ≡ 0 → ⊥)
      → InSlices (after_call c (bytes_in first used a b)) first used terms a d
  first_refused {first = false} e h g nz = differ e
  first_refused {first = true} e h g nz = rw (turn_refused c h.lies r _ g nz) (record { lies = h.lies })

  pub first_accepted : {first : Bool} → first ≡ true → InSlices (bytes_in first used a b) first used terms a b
      → GivesNumbers (pass_gives c.pass (take used a) c.len) c.len r (take c.len d) → r.refusal ≡ 0
      → InSlices (after_call c (bytes_in first used a b)) (not first) r.used r.terms a d
  first_accepted {first = false} e h g z = differ e
  first_accepted {first = true} e h g z =
      let x = turn_accepted c h.lies r _ g z in
      record { lies = moved x.lies (ap (λ (n : ℕ). take n d) (sym x.whole)) }

  pub second_refused : {first : Bool} → first ≡ false → InSlices (bytes_in first used a b) first used terms a b
      → GivesNumbers (pass_gives c.pass (take used b) c.len) c.len r (take c.len d) → (r.refusal ≡ 0 → ⊥)
      → InSlices (after_call c (bytes_in first used a b)) first used terms d b
  second_refused {first = true} e h g nz = differ (sym e)
  second_refused {first = false} e h g nz = rw (turn_refused c h.lies r _ g nz) (record { lies = h.lies })

  pub second_accepted : {first : Bool} → first ≡ false → InSlices (bytes_in first used a b) first used terms a b
      → GivesNumbers (pass_gives c.pass (take used b) c.len) c.len r (take c.len d) → r.refusal ≡ 0
      → InSlices (after_call c (bytes_in first used a b)) (not first) r.used r.terms d b
  second_accepted {first = true} e h g z = differ (sym e)
  second_accepted {first = false} e h g z =
      let x = turn_accepted c h.lies r _ g z in
      record { lies = moved x.lies (ap (λ (n : ℕ). take n d) (sym x.whole)) }

module _ {t : List ℕ} {used terms : ℕ} {a b : List ℕ} where
  pub first_asks : {first : Bool} → first ≡ true → InSlices t first used terms a b → used ≤ length a
  first_asks {first = false} e h = differ e
  first_asks {first = true} e h = used_room a h.lies

  pub second_asks : {first : Bool} → first ≡ false → InSlices t first used terms a b → used ≤ length b
  second_asks {first = true} e h = differ (sym e)
  second_asks {first = false} e h = used_room b h.lies

  pub second_room : {first : Bool} → first ≡ false → InSlices t first used terms a b → 57360 ≤ length b
  second_room {first = true} e h = differ (sym e)
  second_room {first = false} e h = room b h.lies

  pub settled_first : {first : Bool} → first ≡ true → length a ≡ 57360 → InSlices t first used terms a b
      → Lies t used terms a
  settled_first {first = false} e n h = differ e
  settled_first {first = true} e n h = moved h.lies (sym (ap (λ (k : ℕ). take k a) (sym n) ∙ take-length a))

  pub settled_second : {first : Bool} → first ≡ false → length a ≡ 57360 → InSlices t first used terms a b
      → (l : List ℕ) → l ≡ take (length a) b → Lies t used terms l
  settled_second {first = true} e n h l w = differ (sym e)
  settled_second {first = false} e n h l w = moved h.lies (w ∙ ap (λ (k : ℕ). take k b) n)
