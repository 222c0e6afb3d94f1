-- The list run from its first call on (`run_list`), and handed over (`run_from`).
use mathlib.Core.Path.{◌≡◌, refl, ap, sym, ◌∙◌}
use Prim.Native.Nat.{ℕ, ◌+◌, ◌≤◌, ◌<◌}
use mathlib.Core.List.{List}
use mathlib.Core.Bool.{Bool, true, false}
use lib.ListN.{length, get_or, take, drop, drop_of_length-le}
use lib.Seq.{take-length}
use Rattle.semilinear.specs.Form.{Form, term_count}
use Rattle.semilinear.specs.DecodeForm.{decode_form}
use Rattle.base.specs.Outcome.{refusal_of, numbers_of, written_of}
use Rattle.semilinear.specs.Answers.{InNumbers, GivesNumbers}
use Rattle.semilinear.proofs.EncodeFormLaws.{form_decode}
use Rattle.claims.specs.Calls.{Call, after_call, in_use}
use Rattle.runner.specs.RunPasses.{call_of, calls_of, is_list, bytes_outcome}
use Rattle.runner.specs.Placed.{Lies, bytes_in, InSlices}
use Rattle.runner.proofs.ListLaws.{Next, calls_turn, list_next}
use Rattle.runner.proofs.TurnLaws.{slice_length, moved, bytes_in_lem}

-- the bytes in use are read off where they lie
pub placed_again : {t : List ℕ} {first : Bool} {used terms : ℕ} {a b : List ℕ} → InSlices t first used terms a b
    → InSlices (bytes_in first used a b) first used terms a b
placed_again p = rw (bytes_in_lem p) p

-- what holds before the call at the words from i on: the bytes t lie in the slice, and the rest of the list makes of
-- them what the whole list makes of the first bytes
pub record Running (words first : List ℕ) (len spare-len : ℕ) (sheet spare : List ℕ) (first-slice : Bool) (used terms i : ℕ)
    : Type 0 where
  pub inside : i ≤ length words
  pub list : is_list len spare-len (drop i words) ≡ true
  pub sheet_length : length sheet ≡ len
  pub spare_length : length spare ≡ spare-len
  pub bytes : List ℕ
  pub lies : InSlices bytes first-slice used terms sheet spare
  pub same : in_use (calls_of (drop i words)) bytes ≡ in_use (calls_of words) first

module _ {words first : List ℕ} {len spare-len : ℕ} {sheet spare : List ℕ} {one : Bool} {used terms i : ℕ}
    (v : Running words first len spare-len sheet spare one used terms i) where
  pub running_next : i < length words → Next words i len spare-len
  running_next h = list_next words i len spare-len h v.list

  pub running_lies : InSlices (bytes_in one used sheet spare) one used terms sheet spare
  running_lies = placed_again v.lies

  abbrev next_call : Call
  next_call = call_of (get_or words i 0) (get_or words (i + 1) 0)

  pub running_turn : i < length words → {sheet' spare' : List ℕ} {one' : Bool} {used' terms' : ℕ}
      → InSlices (after_call next_call (bytes_in one used sheet spare)) one' used' terms' sheet' spare'
      → length sheet' ≡ length sheet → length spare' ≡ length spare → {j : ℕ} → j ≡ i + 2
      → Running words first len spare-len sheet' spare' one' used' terms' j
  unfolding in_use
  running_turn h l a b e =
      let n = running_next h in
      rw e (record {
        inside = n.two_words;
        list = n.rest;
        sheet_length = a ∙ v.sheet_length;
        spare_length = b ∙ v.spare_length;
        bytes = _;
        lies = l;
        same =
            ap (λ (s : List ℕ). in_use (calls_of (drop (i + 2) words)) (after_call next_call s)) (bytes_in_lem v.lies)
            ∙ ap (λ (calls : List Call). in_use calls v.bytes) (sym (calls_turn words i n.two_words))
            ∙ v.same;
      })

  pub running_end : length words ≤ i → InSlices (in_use (calls_of words) first) one used terms sheet spare
  unfolding in_use calls_of
  running_end h =
      let e : v.bytes ≡ in_use (calls_of words) first =
      ap (λ (l : List ℕ). in_use (calls_of l) v.bytes) (sym (drop_of_length-le words {i = i} h)) ∙ v.same in
      rw (sym e) v.lies

-- settled, the bytes are the list's
pub placed_bytes : {t : List ℕ} {first : Bool} {used terms : ℕ} {a b l : List ℕ} → InSlices t first used terms a b
    → Lies (bytes_in first used a b) used terms l → Lies t used terms l
placed_bytes p h = rw (sym (bytes_in_lem p)) h

-- what lies in a whole slice is placed in it
pub lies_placed : {used terms : ℕ} {a : List ℕ} (b : List ℕ) → Lies (take used a) used terms a
    → InSlices (bytes_in true used a b) true used terms a b
lies_placed {a = a} b h =
    let all : take 57360 a ≡ a = ap (λ (k : ℕ). take k a) (sym (slice_length h)) ∙ take-length a in
    record { lies = moved h all }

-- the bytes t and their numbers handed over
pub lies_given : {t l : List ℕ} {used terms : ℕ} → Lies t used terms l
    → GivesNumbers (bytes_outcome t) 57360 (record { refusal = 0; used = used; terms = terms; flag = false }) l
unfolding bytes_outcome refusal_of numbers_of written_of
lies_given {t} h =
    let rows : h.form ≡ decode_form t = sym (form_decode h.form h.valid) ∙ ap decode_form (sym h.encoded) in
    let terms-are = h.terms_count ∙ ap (λ (f : Form). term_count f.rows) rows in
    record { number = refl; beside = rw (h.count, terms-are) refl; written = h.written }
