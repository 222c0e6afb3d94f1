-- What code reads of a side (specs/Forms.antt), for either kind of bytes.
use mathlib.Core.Path.{◌≡◌, refl, sym}
use Prim.Native.Nat.{ℕ, ◌≤◌}
use mathlib.Core.List.{List}
use mathlib.Core.Bool.{true}
use lib.ListN.{length}
use Rattle.record.specs.Fields.{width}
use Rattle.record.specs.Span.{body, sized}
use Rattle.record.specs.Decode.{decode}
use Rattle.record.proofs.SizedLaws.{sized_big}
use Rattle.expr_refusal.proofs.RefusalLaws.{sized_accepted}
use Rattle.semilinear.specs.Items.{after_atoms}
use Rattle.semilinear.specs.DecodeForm.{decode_form}
use Rattle.semilinear.proofs.AcceptLaws.{accepted_semilinear}
use Rattle.semilinear.proofs.ValidLaws.{semilinear_parts}
use Rattle.judge_laws.specs.Judge.{expr_side}
use Rattle.judge_laws.proofs.SoundLaws.{normal_tree}
use Rattle.judge.specs.declared.sides.SideKind.{SideKind}
use Rattle.judge.specs.declared.sides.SideKind.TheVariants.{Expression, Form}
use Rattle.judge.specs.Forms.{side_of, front_tree, AtomsRead}
use Rattle.judge.proofs.AtomsLaws.{front_rows}

pub side_width : (kind : SideKind) (s : List ℕ) → (side_of kind s).bitwidth ≡ width s
side_width Form s = refl
side_width Expression s = refl

-- ---- a form

pub form_tree : (kind : SideKind) (s : List ℕ) → kind ≡ Form → front_tree (body s) ≡ (side_of kind s).tree
unfolding decode_form
form_tree Form s e = sym (front_rows (body s) 0 (after_atoms (body s)))
form_tree Expression s e = cc

pub form_read : (kind : SideKind) (s : List ℕ) → kind ≡ Form → (side_of kind s).refusal ≡ 0 → AtomsRead (body s)
form_read Form s e z =
    record { bits = width s; ok = (semilinear_parts s (accepted_semilinear s z)).1.atoms }
form_read Expression s e z = cc

-- ---- an expression

pub expr_tree : (kind : SideKind) (s : List ℕ) → kind ≡ Expression → decode s ≡ (side_of kind s).tree
expr_tree Form s e = cc
expr_tree Expression s e = refl

expr_fit : (s : List ℕ) → (expr_side s).refusal ≡ 0 → sized s ≡ true
expr_fit s z = sized_accepted (width s) s (normal_tree s z)

pub expr_sized : (kind : SideKind) (s : List ℕ) → kind ≡ Expression → (side_of kind s).refusal ≡ 0 → sized s ≡ true
expr_sized Form s e z = cc
expr_sized Expression s e z = expr_fit s z

-- ---- either: there is a last record

pub side_big : (kind : SideKind) (s : List ℕ) → (side_of kind s).refusal ≡ 0 → 16 ≤ length s
side_big Form s z = (semilinear_parts s (accepted_semilinear s z)).0.big
side_big Expression s z = sized_big s (expr_fit s z)
