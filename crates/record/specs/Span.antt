-- Spans of records: where the spans of a root's children lie, and recursion over them. Every list of bytes has
-- such parts, so that what is defined by `fold` is defined of any bytes.
use Rattle.std.specs.Prelude.{ℕ, zero, suc, ◌-◌, ◌*◌, List, Bool, false, ◌&&◌, length, take, drop, ltb, eqb}
use Rattle.base.specs.Choice.{when}
use Rattle.record.specs.Fields.{u16, kind, size, arity}
use Rattle.base.specs.Limits.{record_length}

-- where the right child's span begins: the size of the record before the root says how long it is
unfoldable pub cut : List ℕ → ℕ
cut s = when (ltb (length s) 32) (λ _. 0) (λ _. length s - record_length - record_length * u16 s (length s - 30))

-- the span of the only child, of the left one and of the right one
unfoldable pub body : List ℕ → List ℕ
body s = take (length s - record_length) s

unfoldable pub left : List ℕ → List ℕ
left s = take (cut s) s

unfoldable pub right : List ℕ → List ℕ
right s = take (length s - record_length - cut s) (drop (cut s) s)

-- recursion over spans: what is too short for a record, a leaf, a root with one child, a root with two
module _ {A : Type 0} (none : A) (leaf : List ℕ → A) (one : List ℕ → A → A) (two : List ℕ → A → A → A) where
  unfoldable pub step : (List ℕ → A) → List ℕ → A
  step f s =
      when (ltb (length s) record_length) (λ _. none)
      (λ _. when (eqb (arity (kind s)) 0) (λ _. leaf s)
      (λ _. when (eqb (arity (kind s)) 1) (λ _. one s (f (body s)))
      (λ _. two s (f (left s)) (f (right s)))))

  unfoldable pub steps_f : ℕ → List ℕ → A
  steps_f zero s = none
  steps_f (suc n) s = step (steps_f n) s

  unfoldable pub fold : List ℕ → A
  fold s = steps_f (length s) s

-- spans whose size fields are right: a leaf has size 1, and a root's span is the records of its size
abbrev pub sized : List ℕ → Bool
sized =
    fold false
    (λ s. eqb (size s * record_length) (length s) && eqb (length s) record_length)
    (λ s x. eqb (size s * record_length) (length s) && x)
    (λ s x y. eqb (size s * record_length) (length s) && (x && y))
