-- What is claimed of a verdict (document 02, #102), and of the four numbers of a call.
use Rattle.std.specs.Prelude.{◌≡◌, ◌⊎◌, true, false, ◌||◌, ℕ, ◌^◌, ◌≤◌, ◌<◌, List, length}
use Rattle.truth.specs.Truth.{shifts_var}
use Rattle.judge_laws.specs.declared.Verdict.{Verdict}
use Rattle.judge_laws.specs.Judge.{Side, joint_vars, judged_vars, judge_refusal, single, judge_sides}

-- the two have the same value under every assignment
abbrev pub SameValue : Side → Side → Type 0
SameValue a b = (vars : List ℕ) → a.value vars ≡ b.value vars

-- the two have the same value under the assignment of place p and index i
abbrev pub AgreeAt : Side → Side → ℕ → ℕ → Type 0
AgreeAt a b p i = a.value (single (joint_vars a b) p i) ≡ b.value (single (joint_vars a b) p i)

-- a place and an index stand before others: by place, then by index
pub data Before (q j p i : ℕ) : Type 0 where
  lower_place : q < p → Before q j p i
  lower_index : q ≡ p → j < i → Before q j p i

-- the assignment of the verdict tells the two apart, and none before it does
pub record FirstUnlike (a b : Side) (p i : ℕ) : Type 0 where
  pub place_lt : p < a.bitwidth
  pub index_lt : i < 2 ^ length (joint_vars a b)
  pub unlike : AgreeAt a b p i → ⊥
  pub earlier : (q j : ℕ) → j < 2 ^ length (joint_vars a b) → Before q j p i → AgreeAt a b q j

-- a pair that is not refused is said to be equal exactly when it has the same value under every assignment; beside
-- "equal" place and index are 0, else they are the first that tell the two apart
pub record Judged (a b : Side) : Type 0 where
  pub same : (judge_sides a b).equal ≡ 1 → SameValue a b
  pub all : SameValue a b → (judge_sides a b).equal ≡ 1
  pub numbers : (judge_sides a b).equal ≡ 1 → ((judge_sides a b).place ≡ 0) × ((judge_sides a b).index ≡ 0)
  pub either : ((judge_sides a b).equal ≡ 0) ⊎ ((judge_sides a b).equal ≡ 1)
  pub unlike : (judge_sides a b).equal ≡ 0 → FirstUnlike a b (judge_sides a b).place (judge_sides a b).index

-- the refusal n of a pair, by the first test that decides: each case shuts out the ones before it
pub data RefusedBy (a b : Side) (n : ℕ) : Type 0 where
  left_refused : (a.refusal ≡ 0 → ⊥) → n ≡ a.refusal → RefusedBy a b n
  right_refused : a.refusal ≡ 0 → (b.refusal ≡ 0 → ⊥) → n ≡ b.refusal → RefusedBy a b n
  widths_differ : a.refusal ≡ 0 → b.refusal ≡ 0 → (a.bitwidth ≡ b.bitwidth → ⊥) → n ≡ 11 → RefusedBy a b n
  too_many : a.refusal ≡ 0 → b.refusal ≡ 0 → a.bitwidth ≡ b.bitwidth → judged_vars < length (joint_vars a b)
      → n ≡ 12 → RefusedBy a b n
  shifted : a.refusal ≡ 0 → b.refusal ≡ 0 → a.bitwidth ≡ b.bitwidth → length (joint_vars a b) ≤ judged_vars
      → shifts_var a.tree || shifts_var b.tree ≡ true → n ≡ 13 → RefusedBy a b n
  not_refused : a.refusal ≡ 0 → b.refusal ≡ 0 → a.bitwidth ≡ b.bitwidth → length (joint_vars a b) ≤ judged_vars
      → shifts_var a.tree ≡ false → shifts_var b.tree ≡ false → n ≡ 0 → RefusedBy a b n

-- the refusal returned and the numbers written are those of the verdict
pub record IsVerdict (v : Verdict) (n e p i : ℕ) : Type 0 where
  pub number : n ≡ v.refusal
  pub flag : e ≡ v.equal
  pub at_place : p ≡ v.place
  pub at_index : i ≡ v.index

-- what a call says that returns n and writes e, p and i: where e is 1, and only there, the two have the same value
-- under every assignment, as far as they are judged
pub record JudgeTold (a b : Side) (n e p i : ℕ) : Type 0 where
  pub refusal : RefusedBy a b n
  pub refused : (n ≡ 0 → ⊥) → (e ≡ 0) × (p ≡ 0) × (i ≡ 0)
  pub same : e ≡ 1 → SameValue a b
  pub all : n ≡ 0 → SameValue a b → e ≡ 1
  pub numbers : e ≡ 1 → (n ≡ 0) × (p ≡ 0) × (i ≡ 0)
  pub either : (e ≡ 0) ⊎ (e ≡ 1)
  pub unlike : n ≡ 0 → e ≡ 0 → FirstUnlike a b p i
