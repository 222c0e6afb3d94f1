-- Any list of calls of the exported functions. A call is known by what its function's own contract lets a caller learn
-- (the generated `Reads.Learnt`), and by nothing else.
use mathlib.Core.Path.{◌≡◌}
use Prim.Native.Nat.{ℕ, zero, suc}
use mathlib.Core.List.{List, [], ◌∷◌}
use mathlib.Core.Bool.{true}
use lib.ListN.{length, get_or, take}
use lib.Dec.{eqb}
use contract.Lifetimes.{Lfts}
use borrow.Fn.World.{ArgsD}
use borrow.Fn.Kinds.{ended_of, Out}
use denote.Triple.Clauses.{AtExit}
use Rattle.arith.specs.Bit.{bit_at}
use Rattle.base.specs.Choice.{when}
use Rattle.record.specs.Fields.{width}
use Rattle.record.specs.Tree.{IsBytes}
use Rattle.expr.specs.ExprValue.{expr_value}
use Rattle.expr.specs.Vars.{support}
use Rattle.truth.specs.Truth.{row_number}
use Rattle.semilinear.specs.Form.{Form, encode_form, valid_form}
use Rattle.semilinear.specs.DecodeForm.{decode_form}
use Rattle.base.specs.Outcome.{accepted}
use Rattle.semilinear_value.specs.Value.{semilinear_value}
use Rattle.normalizer_laws.specs.Normalize.{normalize_to_semilinear}
use Rattle.rules_laws.specs.Rules.{normalize_by_rules}
use Rattle.partition_laws.specs.Columns.{atom_tree, IsRow, Columns}
use Rattle.claims.specs.Atoms.{AllAtoms}
use Rattle.claims.specs.Calls.{Pass, Call, refine_terms_pass, recover_structure_pass, coalesce_terms_pass, flatten_complex_atoms_pass}
use Rattle.claims.specs.Calls.{compact_atom_table_pass, in_use}
use Rattle.runner.specs.RunPasses.{calls_of}
use Rattle.hogzelt.specs.contracts.hogzelt_compact_atom_table as writer
use Rattle.hogzelt.proofs.hogzelt_compact_atom_table.Kinds as writer-kinds
use Rattle.hogzelt.proofs.hogzelt_compact_atom_table.Reads as compact-reads
use Rattle.hogzelt.proofs.hogzelt_compact_atom_table.Statement as compact-stated
use Rattle.hogzelt.proofs.hogzelt_normalize_to_semilinear.Reads as normalize-reads
use Rattle.hogzelt.proofs.hogzelt_normalize_to_semilinear.Statement as normalize-stated
use Rattle.hogzelt.specs.contracts.hogzelt_normalize_by_rules as ruled
use Rattle.hogzelt.proofs.hogzelt_normalize_by_rules.Kinds as ruled-kinds
use Rattle.hogzelt.proofs.hogzelt_normalize_by_rules.Reads as ruled-reads
use Rattle.hogzelt.proofs.hogzelt_normalize_by_rules.Statement as ruled-stated
use Rattle.hogzelt.proofs.hogzelt_refine_terms.Reads as refine-reads
use Rattle.hogzelt.proofs.hogzelt_refine_terms.Statement as refine-stated
use Rattle.hogzelt.proofs.hogzelt_recover_structure.Reads as recover-reads
use Rattle.hogzelt.proofs.hogzelt_recover_structure.Statement as recover-stated
use Rattle.hogzelt.proofs.hogzelt_coalesce_terms.Reads as coalesce-reads
use Rattle.hogzelt.proofs.hogzelt_coalesce_terms.Statement as coalesce-stated
use Rattle.hogzelt.specs.contracts.hogzelt_flatten_complex_atoms as flatten
use Rattle.hogzelt.proofs.hogzelt_flatten_complex_atoms.Kinds as flatten-kinds
use Rattle.hogzelt.proofs.hogzelt_flatten_complex_atoms.Reads as flatten-reads
use Rattle.hogzelt.proofs.hogzelt_flatten_complex_atoms.Statement as flatten-stated
use Rattle.hogzelt.specs.contracts.hogzelt_compute_partitions as partitions
use Rattle.hogzelt.proofs.hogzelt_compute_partitions.Kinds as partitions-kinds
use Rattle.hogzelt.proofs.hogzelt_compute_partitions.Reads as partitions-reads
use Rattle.hogzelt.proofs.hogzelt_compute_partitions.Statement as partitions-stated
use Rattle.hogzelt.specs.contracts.hogzelt_run_passes as run
use Rattle.hogzelt.proofs.hogzelt_run_passes.Kinds as run-kinds
use Rattle.hogzelt.proofs.hogzelt_run_passes.Reads as run-reads
use Rattle.hogzelt.proofs.hogzelt_run_passes.Statement as run-stated

-- ---- what a caller has of a call that returned r

-- what a caller learns of a writer (s, out, used, terms), as a type of claims
abbrev pub Learns : Type 1
Learns = Out 4 writer-kinds.ps writer-kinds.r

-- its argument, the length of its result slice, the number behind used and the bytes of the slice afterwards, and what
-- its contract says of them
pub record Returned (L : Learns) (s : List ℕ) (len r used : ℕ) (out : List ℕ) : Type 0 where
  pub κs : Lfts 4
  pub args : ArgsD writer.signature κs
  pub exit : AtExit (ended_of 4 writer-kinds.ps writer-kinds.r) κs
  pub learnt : L κs args r exit
  pub reads : args.0.now ≡ s
  pub sized : length args.1.0.now ≡ len
  pub uses : exit.1.1.0.now ≡ used
  pub writes : exit.1.0.now ≡ out

-- normalising by the rules that are named first (rules, expr, out, used, terms)
pub record Ruled (rules : ℕ) (s : List ℕ) (len r used : ℕ) (out : List ℕ) : Type 0 where
  pub κs : Lfts 4
  pub args : ArgsD ruled.signature κs
  pub exit : AtExit (ended_of 4 ruled-kinds.ps ruled-kinds.r) κs
  pub learnt : ruled-reads.Learnt κs args r exit
  pub named : args.0 ≡ rules
  pub reads : args.1.0.now ≡ s
  pub sized : length args.1.1.0.now ≡ len
  pub uses : exit.1.1.1.0.now ≡ used
  pub writes : exit.1.1.0.now ≡ out

-- flattening, which has one more number (s, out, used, terms, flattened)
pub record Flattened (s : List ℕ) (len r used : ℕ) (out : List ℕ) : Type 0 where
  pub κs : Lfts 5
  pub args : ArgsD flatten.signature κs
  pub exit : AtExit (ended_of 5 flatten-kinds.ps flatten-kinds.r) κs
  pub learnt : flatten-reads.Learnt κs args r exit
  pub reads : args.0.now ≡ s
  pub sized : length args.1.0.now ≡ len
  pub uses : exit.1.1.0.now ≡ used
  pub writes : exit.1.0.now ≡ out

-- the partition classes (s, out, classes)
pub record Parted (s : List ℕ) (len r count : ℕ) (out : List ℕ) : Type 0 where
  pub κs : Lfts 3
  pub args : ArgsD partitions.signature κs
  pub exit : AtExit (ended_of 3 partitions-kinds.ps partitions-kinds.r) κs
  pub learnt : partitions-reads.Learnt κs args r exit
  pub reads : args.0.now ≡ s
  pub sized : length args.1.0.now ≡ len
  pub counts : exit.1.1.0.now ≡ count
  pub writes : exit.1.0.now ≡ out

-- a list that was run (expr, calls, sheet, spare, used, terms)
pub record Ran (s words : List ℕ) (len r used : ℕ) (sheet : List ℕ) : Type 0 where
  pub κs : Lfts 6
  pub args : ArgsD run.signature κs
  pub exit : AtExit (ended_of 6 run-kinds.ps run-kinds.r) κs
  pub learnt : run-reads.Learnt κs args r exit
  pub reads : args.0.now ≡ s
  pub calls : args.1.0.now ≡ words
  pub sized : length args.1.1.0.now ≡ len
  pub uses : exit.1.1.1.1.0.now ≡ used
  pub writes : exit.1.1.0.now ≡ sheet

-- ---- lists of calls

-- a call of the exported function of a pass: one constructor for each
pub data CallOf (s : List ℕ) (len r used : ℕ) (out : List ℕ) : Pass → Type 0 where
  refines : Returned refine-reads.Learnt s len r used out → CallOf s len r used out refine_terms_pass
  recovers : Returned recover-reads.Learnt s len r used out → CallOf s len r used out recover_structure_pass
  coalesces : Returned coalesce-reads.Learnt s len r used out → CallOf s len r used out coalesce_terms_pass
  flattens : Flattened s len r used out → CallOf s len r used out flatten_complex_atoms_pass
  compacts : Returned compact-reads.Learnt s len r used out → CallOf s len r used out compact_atom_table_pass

-- the bytes in use after a call: those that it says are used of its slice, or the old ones where it is refused
unfoldable pub in_use_after : ℕ → ℕ → List ℕ → List ℕ → List ℕ
in_use_after r used out s = when (eqb r 0) (λ _. take used out) (λ _. s)

-- calls that returned one after the other, from the bytes s to the bytes t: each reads the bytes in use and writes a
-- slice of any length
pub data Trace : List ℕ → List Call → List ℕ → Type 0 where
  none : {s : List ℕ} → Trace s [] s
  then : {s t out : List ℕ} {c : Call} {l : List Call} {r used : ℕ} → CallOf s c.len r used out c.pass
      → Trace (in_use_after r used out s) l t → Trace s (c ∷ l) t

-- the bytes in use after the first n calls
unfoldable pub sheet_after : {s t : List ℕ} {calls : List Call} → ℕ → Trace s calls t → List ℕ
sheet_after {s} n none = s
sheet_after {s} zero (then k rest) = s
sheet_after (suc n) (then k rest) = sheet_after n rest

-- a trace of these calls from these bytes
pub record Traced (s : List ℕ) (calls : List Call) : Type 0 where
  pub last : List ℕ
  pub trace : Trace s calls last

-- ---- what is claimed

-- the words of the partition classes are those of the form, and every assignment has its row, so that what they say of
-- bits they say of every assignment
pub record ColumnsOf (f : Form) (out : List ℕ) (count : ℕ) : Type 0 where
  pub columns : Columns f out count
  pub row_is : (i p : ℕ) (vars : List ℕ)
      → IsRow (atom_tree f i) p vars (row_number (λ v. bit_at (get_or vars v 0) p) (support (atom_tree f i)))

-- of the bytes t in use after the calls, where normalising by these rules wrote for the expression s into len bytes:
-- they are what the definitions give for the same calls; they are those of a valid form of the expression's width, whose
-- atoms have a variable and only kinds 0, 1, 4 to 7 and 9; the value is the expression's; the partition classes are the
-- form's
pub record Claimed (rules : ℕ) (s : List ℕ) (len : ℕ) (calls : List Call) (t : List ℕ) : Type 0 where
  pub first : List ℕ
  pub numbers : List ℕ
  pub normal : normalize_by_rules rules s len ≡ accepted first numbers
  pub bytes : t ≡ in_use calls first
  pub form : Form
  pub encoded : t ≡ encode_form form
  pub valid : valid_form form ≡ true
  pub wide : form.bitwidth ≡ width s
  pub atoms : AllAtoms form
  pub value : (vars : List ℕ) → semilinear_value t vars ≡ expr_value s vars
  pub columns : (n count : ℕ) (out : List ℕ) → Parted t n 0 count out → ColumnsOf form out count

-- a call of an exported function that normalises, and that accepted: by rules 1, or by the rules that are named
pub data Normalizes (s : List ℕ) (len used : ℕ) (out : List ℕ) : ℕ → Type 0 where
  plain : Returned normalize-reads.Learnt s len 0 used out → Normalizes s len used out 1
  by_rules : {rules : ℕ} → Ruled rules s len 0 used out → Normalizes s len used out rules

-- an expression that normalising accepted
pub record Accepted (rules : ℕ) (s : List ℕ) (len used : ℕ) (out : List ℕ) : Type 0 where
  pub are_bytes : IsBytes s
  pub returned : Normalizes s len used out rules

-- some call that normalising accepted
pub record Started (rules : ℕ) (s : List ℕ) (len : ℕ) : Type 0 where
  pub used : ℕ
  pub out : List ℕ
  pub accepts : Accepted rules s len used out

-- demand 3: the exported functions meet their contracts; whatever calls these contracts allow, from an expression that
-- normalising accepted by either rules, the bytes in use at every step are as claimed; there are such calls for every
-- expression that the definition accepts by these rules and every list; running the list gives the same by rules 1; and
-- the partition classes of any bytes that are accepted are those of their form
pub record AnyCalls (M : Type 1) : Type 2 where
  pub normalize_meets : normalize-stated.statement M
  pub ruled_meets : ruled-stated.statement M
  pub refine_meets : refine-stated.statement M
  pub recover_meets : recover-stated.statement M
  pub coalesce_meets : coalesce-stated.statement M
  pub flatten_meets : flatten-stated.statement M
  pub compact_meets : compact-stated.statement M
  pub partitions_meets : partitions-stated.statement M
  pub run_meets : run-stated.statement M
  pub lists : {rules : ℕ} {s : List ℕ} {len used : ℕ} {out : List ℕ} → Accepted rules s len used out
      → {calls : List Call} {t : List ℕ} → Trace (take used out) calls t → Claimed rules s len calls t
  pub beginnings : {rules : ℕ} {s : List ℕ} {len used : ℕ} {out : List ℕ} → Accepted rules s len used out
      → {calls : List Call} {t : List ℕ} (tr : Trace (take used out) calls t) (n : ℕ)
      → Claimed rules s len (take n calls) (sheet_after n tr)
  pub starts : (s : List ℕ) → IsBytes s → (len : ℕ) (b ns : List ℕ) → normalize_to_semilinear s len ≡ accepted b ns
      → Started 1 s len
  pub starts_by : (rules : ℕ) (s : List ℕ) → IsBytes s → (len : ℕ) (b ns : List ℕ)
      → normalize_by_rules rules s len ≡ accepted b ns → Started rules s len
  pub traces : {rules : ℕ} {s : List ℕ} {len used : ℕ} {out : List ℕ} → Accepted rules s len used out
      → (calls : List Call) → Traced (take used out) calls
  pub runs : {s words : List ℕ} {len used : ℕ} {sheet : List ℕ} → IsBytes s → Ran s words len 0 used sheet
      → Claimed 1 s len (calls_of words) (take used sheet)
  pub columns : (s : List ℕ) → IsBytes s → (len count : ℕ) (out : List ℕ) → Parted s len 0 count out
      → ColumnsOf (decode_form s) out count
