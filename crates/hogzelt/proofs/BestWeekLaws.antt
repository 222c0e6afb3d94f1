-- What a caller learns of a call of `hogzelt_best_week`, by its own contract, is all that is claimed of the best week.
use mathlib.Core.Path.{◌≡◌, sym}
use Prim.Native.Nat.{ℕ}
use mathlib.Core.List.{List}
use lib.IntN.{ℤ}
use contract.Lifetimes.{Lfts}
use borrow.Fn.World.{ArgsD}
use borrow.Fn.Kinds.{ended_of}
use denote.Triple.Clauses.{AtExit}
use Rattle.best_week.specs.BestWeek.{IsBestWeek}
use Rattle.best_week.specs.Told.{Told}
use Rattle.best_week.proofs.EntryLaws.{told}
use Rattle.hogzelt.specs.contracts.hogzelt_best_week as week
use Rattle.hogzelt.proofs.hogzelt_best_week.Kinds as week-kinds
use Rattle.hogzelt.proofs.hogzelt_best_week.Reads as week-reads

-- its argument, what it returned and the three numbers afterwards (run, found, total, day), and what its contract says
-- of them
pub record WeekCall (s : List ℕ) (r f : ℕ) (t : ℤ) (d : ℕ) : Type 0 where
  pub κs : Lfts 4
  pub args : ArgsD week.signature κs
  pub exit : AtExit (ended_of 4 week-kinds.ps week-kinds.r) κs
  pub learnt : week-reads.Learnt κs args r exit
  pub reads : args.0.now ≡ s
  pub finds : exit.1.0.now ≡ f
  pub sums : exit.1.1.0.now ≡ t
  pub starts : exit.1.1.1.0.now ≡ d

pub call_told : (s : List ℕ) (r f : ℕ) (t : ℤ) (d : ℕ) → WeekCall s r f t d → Told s r f t d
call_told s r f t d k =
    let given : IsBestWeek s r f t d =
    rw (sym k.reads, sym k.finds, sym k.sums, sym k.starts) k.learnt in
    told s r f t d given
