-- `check_bitwise` meets its contract: what is found at a root without, with one and with two children.
use mathlib.Core.Path.{◌≡◌, sym, ap, ap₂, ◌∙◌}
use mathlib.Core.List.{List}
use native.Mathlib.Omega.{arith}
use Prim.Native.Nat.{ℕ}
use Rattle.std.specs.Prelude.{Some}
use Rattle.record.specs.Fields.{kind, arity}
use Rattle.record.proofs.SpanLaws.{left_shorter}
use Rattle.bitwise.specs.Bitwise.{checked, one_checked, two_checked}
use Rattle.bitwise.proofs.BitwiseLaws.{checked_none, checked_root, checked_leaf, one_some, two_none_left}
use Rattle.bitwise.proofs.BitwiseLaws.{two_some, last_one, last_two, last_shorter, last_none}
use Rattle.bitwise.proofs.+check_bitwise.Goals.{then-t-lt-RECORD_LENGTH-via-then-t-lt-RECORD_LENGTH}
use Rattle.bitwise.proofs.+check_bitwise.Goals.{then-t-lt-RECORD_LENGTH-via-else-t-lt-RECORD_LENGTH+then-not-root_ok}
use Rattle.bitwise.proofs.+check_bitwise.Goals as goal

pub returns-then-t-lt-RECORD_LENGTH : goal.returns-then-t-lt-RECORD_LENGTH
returns-then-t-lt-RECORD_LENGTH t c =
    elim c.then-t-lt-RECORD_LENGTH.branch [
      | then-t-lt-RECORD_LENGTH-via-then-t-lt-RECORD_LENGTH w ↦ sym (checked_none _ _ w.if-t-lt-RECORD_LENGTH.true)
      | then-t-lt-RECORD_LENGTH-via-else-t-lt-RECORD_LENGTH+then-not-root_ok w ↦
          sym (checked_root _ _ w.if-t-lt-RECORD_LENGTH.false (sym w.root_ok.ensures ∙ w.if-not-root_ok.true))
    ]

pub returns-then-children-eq0 : goal.returns-then-children-eq0
returns-then-children-eq0 t c =
    ap Some c.leaf_checked.ensures
    ∙ checked_leaf _ _ c.if-t-lt-RECORD_LENGTH.false (sym c.root_ok.ensures ∙ c.if-not-root_ok.false)
    (sym c.root_arity-children.ensures ∙ c.if-children-eq0.true)

pub check_bitwise-requires : goal.check_bitwise-requires
check_bitwise-requires t c =
    (rw c.last_child.ensures (omega (arith, last_shorter c.args.t.now c.if-t-lt-RECORD_LENGTH.false)), tt)

pub returns-in_err-last : goal.returns-in_err-last
returns-in_err-last t c =
    c.from_residual.ensures
    ∙ last_none c.args.w c.args.t.now c.if-t-lt-RECORD_LENGTH.false (sym c.root_ok.ensures ∙ c.if-not-root_ok.false)
    (λ e. c.if-children-eq0.false (c.root_arity-children.ensures ∙ e))
    (ap (checked c.args.w) (sym c.last_child.ensures) ∙ sym c.check_bitwise.ensures ∙ c.in_err-last.was)

pub returns-then-children-eq1 : goal.returns-then-children-eq1
returns-then-children-eq1 t c =
    let t : List ℕ = c.args.t.now in
    let w : ℕ = c.args.w in
    let one = sym c.root_arity-children.ensures ∙ c.if-children-eq1.true in
    ap Some
    (c.one_checked.ensures
    ∙ ap₂ (λ (k a : ℕ). one_checked k a c.in_ok-last.last) c.kind-k.ensures c.amount.ensures.0)
    ∙ one_some w t c.if-t-lt-RECORD_LENGTH.false (sym c.root_ok.ensures ∙ c.if-not-root_ok.false) one c.in_ok-last.last
    (ap (checked w) (sym (c.last_child.ensures ∙ last_one t one)) ∙ sym c.check_bitwise.ensures ∙ c.in_ok-last.was)

pub check_bitwise-requires-2 : goal.check_bitwise-requires-2
check_bitwise-requires-2 t c =
    (rw c.left.ensures (omega (arith, left_shorter c.args.t.now c.if-t-lt-RECORD_LENGTH.false)), tt)

pub returns-in_err-first : goal.returns-in_err-first
returns-in_err-first t c =
    let ar = c.root_arity-children.ensures in
    c.from_residual-in_err-first.ensures
    ∙ two_none_left c.args.w c.args.t.now c.if-t-lt-RECORD_LENGTH.false (sym c.root_ok.ensures ∙ c.if-not-root_ok.false)
    (λ e. c.if-children-eq0.false (ar ∙ e)) (λ e. c.if-children-eq1.false (ar ∙ e))
    (ap (checked c.args.w) (sym c.left.ensures) ∙ sym c.check_bitwise-2.ensures ∙ c.in_err-first.was)

pub returns : goal.returns
returns t c =
    let t : List ℕ = c.args.t.now in
    let w : ℕ = c.args.w in
    let ar = c.root_arity-children.ensures in
    let two : arity (kind t) ≡ 1 → ⊥ = λ e. c.if-children-eq1.false (ar ∙ e) in
    ap Some (c.two_checked.ensures ∙ ap (λ (k : ℕ). two_checked k c.in_ok-first.first c.in_ok-last.last) c.kind-k.ensures)
    ∙ two_some w t c.if-t-lt-RECORD_LENGTH.false (sym c.root_ok.ensures ∙ c.if-not-root_ok.false)
    (λ e. c.if-children-eq0.false (ar ∙ e)) two c.in_ok-first.first c.in_ok-last.last
    (ap (checked w) (sym c.left.ensures) ∙ sym c.check_bitwise-2.ensures ∙ c.in_ok-first.was)
    (ap (checked w) (sym (c.last_child.ensures ∙ last_two t two)) ∙ sym c.check_bitwise.ensures ∙ c.in_ok-last.was)
