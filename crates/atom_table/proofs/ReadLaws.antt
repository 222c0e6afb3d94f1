-- Laws of what reads a form and has a result slice (semilinear/specs/PassOutcome.antt, read_outcome): its refusals are
-- those of `open_outcome`, and where there is none the bytes are a form, the slice has its length, and what is given is
-- given.
use mathlib.Core.Path.{◌≡◌, refl, ap, sym, ◌∙◌}
use Prim.Native.Nat.{ℕ, ◌≤◌}
use native.Mathlib.Omega.{arith}
use mathlib.Core.List.{List, []}
use mathlib.Core.Bool.{Bool, true, false, not}
use Rattle.std.specs.Prelude.{Result, Err}
use Rattle.base.specs.Refusal.{refusal_number}
use Rattle.base.specs.declared.refusal.Refusal.{Refusal}
use Rattle.base.proofs.RefusalLaws.{number_not}
use lib.ListN.{length, replicate, length-replicate}
use lib.Dec.{eqb}
use borrow.Author.Tests.{eq-eqb, ne_eqb, eqb-true}
use Rattle.base.specs.Choice.{when}
use Rattle.base.specs.Put.{padded}
use Rattle.base.proofs.PutLaws.{padded_nil}
use Rattle.semilinear.specs.declared.outcome.Answer.{Answer}
use Rattle.semilinear.specs.Form.{Form}
use Rattle.semilinear.specs.Valid.{length_refused, is_semilinear}
use Rattle.semilinear.specs.DecodeForm.{read_form}
use Rattle.base.specs.Outcome.{Outcome, accepted, refused, refusal_of, numbers_of, written_of, Gives}
use Rattle.semilinear.specs.Answers.{in_numbers, GivesForm}
use Rattle.semilinear.specs.PassOutcome.{read_outcome, open_outcome, pass_outcome}
use Rattle.semilinear.proofs.OutcomeLaws.{gives_refused}
use Rattle.atom_table.proofs.PassLaws.{length_le, gives_same}

-- ---- the refusals, by the first test that decides

module _ (whole : ℕ) (s : List ℕ) (len : ℕ) where
  pub open_length : length_refused s ≡ true → 1 ≡ refusal_of (open_outcome whole s len)
  unfolding open_outcome refusal_of
  open_length e = simp e

  pub open_slice : length_refused s ≡ false → (len ≡ whole → ⊥) → 2 ≡ refusal_of (open_outcome whole s len)
  unfolding open_outcome refusal_of
  open_slice e n = simp (e, ne_eqb len whole n)

  pub open_form : length_refused s ≡ false → len ≡ whole → is_semilinear s ≡ false
      → 10 ≡ refusal_of (open_outcome whole s len)
  unfolding open_outcome refusal_of
  open_form e n z = simp (e, eq-eqb len whole n, z)

  pub open_none : length_refused s ≡ false → len ≡ whole → is_semilinear s ≡ true
      → 0 ≡ refusal_of (open_outcome whole s len)
  unfolding open_outcome refusal_of
  open_none e n z = simp (e, eq-eqb len whole n, z)

-- ---- what a call gives behind it

-- s is a form, and the slice has its length
pub record Opened (whole : ℕ) (s : List ℕ) (len : ℕ) : Type 0 where
  pub short : length s ≤ 57360
  pub sliced : len ≡ whole
  pub form : is_semilinear s ≡ true

module _ (given : Form → Outcome) (whole : ℕ) (s : List ℕ) (len : ℕ) where
  -- the same tests: no refusal, and what is given; or the same refusal, which is not 0
  pub data Read : Type 0 where
    read_given : Opened whole s len → read_outcome whole given s len ≡ given (read_form s)
        → refusal_of (open_outcome whole s len) ≡ 0 → Read
    read_refused : (n : ℕ) → (n ≡ 0 → ⊥) → read_outcome whole given s len ≡ refused n
        → refusal_of (open_outcome whole s len) ≡ n → Read

  pub read_cases : Read
  unfolding open_outcome refusal_of
  read_cases = by_length (length_refused s) refl
    where
      by_form : length_refused s ≡ false → eqb len whole ≡ true → (c : Bool) → is_semilinear s ≡ c → Read
      by_form el en true e =
          read_given (record { short = length_le s el; sliced = eqb-true len whole en; form = e })
          (simp (el, en, e)) (simp (el, en, e))
      by_form el en false e = read_refused 10 (λ z. omega (arith, z)) (simp (el, en, e)) (simp (el, en, e))

      by_slice : length_refused s ≡ false → (b : Bool) → eqb len whole ≡ b → Read
      by_slice el true e = by_form el e (is_semilinear s) refl
      by_slice el false e = read_refused 2 (λ z. omega (arith, z)) (simp (el, e)) (simp (el, e))

      by_length : (a : Bool) → length_refused s ≡ a → Read
      by_length true e = read_refused 1 (λ z. omega (arith, z)) (simp e) (simp e)
      by_length false e = by_slice e (eqb len whole) refl

  pub opened : (r : ℕ) → r ≡ refusal_of (open_outcome whole s len) → r ≡ 0
      → Opened whole s len × (read_outcome whole given s len ≡ given (read_form s))
  opened r e z = go read_cases
    where
      go : Read → Opened whole s len × (read_outcome whole given s len ≡ given (read_form s))
      go (read_given o p q) = (o, p)
      go (read_refused n ne p q) = absurd (ne (sym q ∙ sym e ∙ z))

  pub shut : (r : ℕ) → r ≡ refusal_of (open_outcome whole s len) → (r ≡ 0 → ⊥)
      → read_outcome whole given s len ≡ refused r
  shut r e ne = go read_cases
    where
      go : Read → read_outcome whole given s len ≡ refused r
      go (read_given o p q) = absurd (ne (e ∙ q))
      go (read_refused n z p q) = p ∙ ap refused (sym q ∙ sym e)

-- ---- the front door hands over the refusal and zeros

-- both ways the slice is all zeros
written_open : (whole : ℕ) (s : List ℕ) (len n : ℕ) → written_of n (open_outcome whole s len) ≡ replicate n 0
unfolding open_outcome written_of
written_open whole s len n = go (length_refused s) (eqb len whole) (is_semilinear s)
  where
    none : Outcome
    none = accepted [] []

    go : (a b c : Bool)
        → written_of n (when a (λ _. refused 1)
        (λ _. when (not b) (λ _. refused 2) (λ _. when c (λ _. none) (λ _. refused 10)))) ≡ replicate n 0
    go true b c = refl
    go false false c = refl
    go false true false = refl
    go false true true = sym (padded_nil n)

pub gives_open : (whole : ℕ) (s : List ℕ) (len r : ℕ) (out : List ℕ)
    → r ≡ refusal_of (open_outcome whole s (length out)) → out ≡ replicate len 0
    → Gives (open_outcome whole s len) len r [] out
gives_open whole s len r out e z =
    let n : length out ≡ len = ap length z ∙ length-replicate len 0 in
    record {
      number = e ∙ ap (λ (k : ℕ). refusal_of (open_outcome whole s k)) n;
      beside = refl;
      written = z ∙ sym (written_open whole s len len);
    }

pub open_zeros : (whole : ℕ) (s : List ℕ) (len r : ℕ) (out : List ℕ) → Gives (open_outcome whole s len) len r [] out
    → out ≡ replicate len 0
open_zeros whole s len r out g = g.written ∙ written_open whole s len len

-- ---- the entry point of a pass

-- let in: the bytes are a form, and the slice has its length and is all zeros; what is given is given
module _ (s : List ℕ) (len : ℕ) {out : List ℕ} (door : Gives (open_outcome 57360 s len) len 0 [] out) where
  pub pass_open : Opened 57360 s len
  pass_open = (opened (λ f. refused 0) 57360 s len 0 door.number refl).0

  pub pass_zeros : out ≡ padded 57360 []
  pass_zeros = open_zeros 57360 s len 0 out door ∙ ap (λ (k : ℕ). replicate k 0) pass_open.sliced ∙ padded_nil 57360

  pub pass_given : (given : Form → Outcome) (r : Result Answer Refusal) {out' : List ℕ}
      → GivesForm (given (read_form s)) 57360 r out' → GivesForm (pass_outcome given s len) len r out'
  unfolding pass_outcome
  pass_given given r {out'} h =
      gives_same (opened given 57360 s len 0 door.number refl).1 len (in_numbers r) out' (rw pass_open.sliced h)

-- refused at the door
pub pass_shut : (given : Form → Outcome) (s : List ℕ) (len : ℕ) {out : List ℕ} {e : Refusal}
    → Gives (open_outcome 57360 s len) len (refusal_number e) [] out → {r : Result Answer Refusal} → r ≡ Err e
    → GivesForm (pass_outcome given s len) len r out
unfolding pass_outcome
pass_shut given s len {out} {e} door {r} is =
    gives_same (shut given 57360 s len (refusal_number e) door.number (number_not e)) len (in_numbers r) out
    (gives_refused (refusal_number e) len (in_numbers r) out (ap in_numbers is)
    (open_zeros 57360 s len (refusal_number e) out door))
