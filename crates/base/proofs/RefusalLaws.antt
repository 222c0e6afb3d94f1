-- Laws of specs/Refusal.antt: the lower of two refusals has the lower number, no refusal has the number 0, and
-- a refusal is passed on by `?` as it is.
use Rattle.std.proofs.Common.{◌≡◌, ℕ, ◌<◌, min, Bool, true, eqb, List, [], ◌∷◌, length, get_or, refl, sym, ap, ◌∙◌, lit<, arith, ltb, false}
use Rattle.std.specs.List.{list_all}
use Rattle.std.specs.Prelude.{Result, Ok, Err, IsErr, IsErrAnd, is_ok}
use Rattle.std.proofs.lemmas.Result.{err_from_is_err_and}
use Rattle.std.specs.Ordering.{ord_min}
use Rattle.std.proofs.lemmas.Bool.{ltb-true, eqb-true}
use Rattle.std.proofs.lemmas.List.Folds.{list_all_at}
use Rattle.base.proofs.BoolLaws.{false_true}
use Rattle.base.specs.contracts.refusal.RefusalOrd.TheImpl.{cmp-value}
use Rattle.base.specs.declared.refusal.Refusal.{Refusal}
use Rattle.base.specs.declared.refusal.Refusal.TheVariants.{Length, ResultLength, Record, Width, Cast, ShiftCount, NotLinear, TooLarge}
use Rattle.base.specs.declared.refusal.Refusal.TheVariants.{NotSemilinear, WidthsDiffer, Variables, ShiftedVariable, Rules, Run, Days, Passes}
use Rattle.base.specs.Refusal.{refusal_number, number_of}

-- all of them
abbrev all : List Refusal
all =
    Length ∷ ResultLength ∷ Record ∷ Width ∷ Cast ∷ ShiftCount ∷ NotLinear ∷ TooLarge ∷ NotSemilinear ∷ WidthsDiffer ∷ Variables ∷ ShiftedVariable ∷ Rules ∷ Run ∷ Days ∷ Passes ∷ []

at_true : {A : Type 0} (f : A → Bool) (l : List A) → list_all f l ≡ true → (k : ℕ) → k < length l → (d : A) → f (get_or l k d) ≡ true
at_true f l e k h d = go (f (get_or l k d)) refl
  where
    go : (b : Bool) → f (get_or l k d) ≡ b → f (get_or l k d) ≡ true
    go true p = p
    go false p = false_true (sym (list_all_at f l k d h p) ∙ e)

-- a test that all of them pass
each : (f : Refusal → Bool) → list_all f all ≡ true → (r : Refusal) → f r ≡ true
each f e Length = at_true f all e 0 (lit< tt) Length
each f e ResultLength = at_true f all e 1 (lit< tt) ResultLength
each f e Record = at_true f all e 2 (lit< tt) Record
each f e Width = at_true f all e 3 (lit< tt) Width
each f e Cast = at_true f all e 4 (lit< tt) Cast
each f e ShiftCount = at_true f all e 5 (lit< tt) ShiftCount
each f e NotLinear = at_true f all e 6 (lit< tt) NotLinear
each f e TooLarge = at_true f all e 7 (lit< tt) TooLarge
each f e NotSemilinear = at_true f all e 8 (lit< tt) NotSemilinear
each f e WidthsDiffer = at_true f all e 9 (lit< tt) WidthsDiffer
each f e Variables = at_true f all e 10 (lit< tt) Variables
each f e ShiftedVariable = at_true f all e 11 (lit< tt) ShiftedVariable
each f e Rules = at_true f all e 12 (lit< tt) Rules
each f e Run = at_true f all e 13 (lit< tt) Run
each f e Days = at_true f all e 14 (lit< tt) Days
each f e Passes = at_true f all e 15 (lit< tt) Passes

pub number_min : (a b : Refusal) → refusal_number (ord_min cmp-value.it a b) ≡ min (refusal_number a) (refusal_number b)
number_min a b = eqb-true _ _ (each (λ b. eqb (refusal_number (ord_min cmp-value.it a b)) (min (refusal_number a) (refusal_number b)))
    (each (λ a. list_all (λ b. eqb (refusal_number (ord_min cmp-value.it a b)) (min (refusal_number a) (refusal_number b))) all) refl a) b)

pub number_pos : (r : Refusal) → 0 < refusal_number r
number_pos r = ltb-true _ _ (each (λ r. ltb 0 (refusal_number r)) refl r)

pub number_not : (r : Refusal) → refusal_number r ≡ 0 → ⊥
number_not r e = omega (arith, number_pos r)

-- what the exit of a `?` returns
pub passed_on : {A : Type 0} {r : Result A Refusal} {e : Refusal} → IsErr r × IsErrAnd r (λ x. x ≡ e) → r ≡ Err e
passed_on {r = r} h = let p = err_from_is_err_and r h.1 in p.1 ∙ ap Err p.2

-- what a test of a result says of its number
pub ok_zero : {A : Type 0} (r : Result A Refusal) → is_ok r ≡ true → number_of r ≡ 0
ok_zero (Ok x) e = refl
ok_zero (Err x) e = false_true e

pub not_ok : {A : Type 0} (r : Result A Refusal) → is_ok r ≡ false → number_of r ≡ 0 → ⊥
not_ok (Ok x) e = false_true (sym e)
not_ok (Err x) e = number_not x
