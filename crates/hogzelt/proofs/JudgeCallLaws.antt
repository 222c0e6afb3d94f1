-- What a caller learns of a call of `hogzelt_judge`, by its own contract, is all that is claimed of the judge.
use mathlib.Core.Path.{◌≡◌, sym}
use Prim.Native.Nat.{ℕ}
use mathlib.Core.List.{List}
use contract.Lifetimes.{Lfts}
use borrow.Fn.World.{ArgsD}
use borrow.Fn.Kinds.{ended_of}
use denote.Triple.Clauses.{AtExit}
use Rattle.record.specs.Tree.{IsBytes}
use Rattle.judge_laws.specs.Judge.{expr_side, judge_of}
use Rattle.judge_laws.specs.Judged.{IsVerdict, JudgeTold}
use Rattle.judge_laws.proofs.JudgeLaws.{told_exprs}
use Rattle.hogzelt.specs.contracts.hogzelt_judge as judge
use Rattle.hogzelt.proofs.hogzelt_judge.Kinds as judge-kinds
use Rattle.hogzelt.proofs.hogzelt_judge.Reads as judge-reads

-- its arguments, what it returned and the three numbers afterwards (left, right, equal, place, index), and what its
-- contract says of them
pub record JudgeCall (l r : List ℕ) (n e p i : ℕ) : Type 0 where
  pub κs : Lfts 5
  pub args : ArgsD judge.signature κs
  pub exit : AtExit (ended_of 5 judge-kinds.ps judge-kinds.r) κs
  pub learnt : judge-reads.Learnt κs args n exit
  pub reads : args.0.now ≡ l
  pub reads_too : args.1.0.now ≡ r
  pub flags : exit.1.1.0.now ≡ e
  pub places : exit.1.1.1.0.now ≡ p
  pub indexes : exit.1.1.1.1.0.now ≡ i

pub call_judged : (l r : List ℕ) → IsBytes l → IsBytes r → (n e p i : ℕ) → JudgeCall l r n e p i
    → JudgeTold (expr_side l) (expr_side r) n e p i
call_judged l r hl hr n e p i k =
    let given : IsVerdict (judge_of l r) n e p i =
    rw (sym k.reads, sym k.reads_too, sym k.flags, sym k.places, sym k.indexes) k.learnt in
    told_exprs l r hl hr n e p i given
