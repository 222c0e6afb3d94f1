-- Laws of equality modulo M. A proof of `Eqm M a b` is often `eqm-intro k l (omega arith)`, with k and l the multiples
-- of M that are added on either side. There is no minus: k stands for -m where k + m is 0 modulo M.
use Rattle.std.proofs.Common.{◌≡◌, ℕ, ◌+◌, ◌-◌, ◌*◌, ◌/◌, ◌%◌, ◌^◌, ◌<◌, ◌≤◌, sym, refl, ap, ◌∙◌, mod-eq_of_lt, div-add-mod', arith}
use native.Mathlib.Nat.{add-mul-mod_self_right, mod-mod, zero-div}
use lib.Pow.{mod-mod-pow}
use Rattle.arith.specs.Congruence.{Eqm}

-- from an equation of numbers, with the multiples of M on either side
pub eqm_intro : {M a b : ℕ} (k l : ℕ) → a + k * M ≡ b + l * M → Eqm M a b
eqm_intro {M} {a} {b} k l e =
    record {
      eqm = sym (add-mul-mod_self_right a k M) ∙ ap (λ (x : ℕ). x % M) e ∙ add-mul-mod_self_right b l M;
    }

-- and back
pub eqm_elim : {M a b : ℕ} → Eqm M a b → a + b / M * M ≡ b + a / M * M
eqm_elim {M} {a} {b} e = omega (arith, div-add-mod' a M, div-add-mod' b M)

pub eqm_of_eq : {M a b : ℕ} → a ≡ b → Eqm M a b
eqm_of_eq {M} e = record { eqm = ap (λ (x : ℕ). x % M) e }

pub eqm_refl : {M : ℕ} (a : ℕ) → Eqm M a a
eqm_refl a = record { eqm = refl }

pub eqm_sym : {M a b : ℕ} → Eqm M a b → Eqm M b a
eqm_sym e = record { eqm = sym e.eqm }

pub eqm_trans : {M a b c : ℕ} → Eqm M a b → Eqm M b c → Eqm M a c
eqm_trans e f = record { eqm = e.eqm ∙ f.eqm }

-- a remainder stands for its number
pub eqm_mod : (M a : ℕ) → Eqm M (a % M) a
eqm_mod M a = record { eqm = mod-mod a M }

-- numbers below M that are equal modulo M are equal
pub eqm_small : {M a b : ℕ} → a < M → b < M → Eqm M a b → a ≡ b
eqm_small ha hb e = sym (mod-eq_of_lt ha) ∙ e.eqm ∙ mod-eq_of_lt hb

pub eqm_add : {M a b c d : ℕ} → Eqm M a b → Eqm M c d → Eqm M (a + c) (b + d)
eqm_add {M} {a} {b} {c} {d} e f =
    eqm_intro (b / M + d / M) (a / M + c / M) (omega (arith, eqm_elim e, eqm_elim f))

pub eqm_mul_l : {M a b : ℕ} (c : ℕ) → Eqm M a b → Eqm M (c * a) (c * b)
eqm_mul_l {M} {a} {b} c e = eqm_intro (b / M * c) (a / M * c) (omega (arith, ap (λ (x : ℕ). x * c) (eqm_elim e)))

pub eqm_mul_r : {M a b : ℕ} (c : ℕ) → Eqm M a b → Eqm M (a * c) (b * c)
eqm_mul_r {M} {a} {b} c e = eqm_intro (b / M * c) (a / M * c) (omega (arith, ap (λ (x : ℕ). x * c) (eqm_elim e)))

pub eqm_mul : {M a b c d : ℕ} → Eqm M a b → Eqm M c d → Eqm M (a * c) (b * d)
eqm_mul {M} {a} {b} {c} {d} e f = eqm_trans (eqm_mul_r c e) (eqm_mul_l b f)

-- what is added on both sides may go
pub eqm_cancel : {M a b : ℕ} (c : ℕ) → Eqm M (a + c) (b + c) → Eqm M a b
eqm_cancel {M} {a} {b} c e = eqm_intro ((b + c) / M) ((a + c) / M) (omega (arith, eqm_elim e))

pub eqm_multiple : (M k : ℕ) → Eqm M (k * M) 0
eqm_multiple M k = eqm_intro 0 k (omega arith)

pub eqm_zero : {M a : ℕ} → Eqm M a 0 → a ≡ a / M * M
eqm_zero {M} {a} e = omega (arith, eqm_elim e, ap (λ (x : ℕ). x * M) (zero-div M))

-- a is c less m * b
pub eqm_minus : {M a c : ℕ} (k m b : ℕ) → Eqm M (k + m) 0 → Eqm M (a + m * b) c → Eqm M a (c + k * b)
eqm_minus {M} {a} {c} k m b n e =
    eqm_intro
    ((k + m) / M * b + c / M)
    ((a + m * b) / M)
    (omega (arith, eqm_elim e, ap (λ (x : ℕ). x * b) (eqm_zero n)))

-- there is one -m modulo M
pub eqm_neg_unique : {M k l : ℕ} (m : ℕ) → Eqm M (k + m) 0 → Eqm M (l + m) 0 → Eqm M k l
eqm_neg_unique m e f = eqm_cancel m (eqm_trans e (eqm_sym f))

-- a shorter remainder after a longer one
pub mod_shorter : (n v w : ℕ) → w ≤ v → n % 2 ^ v % 2 ^ w ≡ n % 2 ^ w
mod_shorter n v w h =
    let e : v ≡ v - w + w = omega arith in
    ap (λ (x : ℕ). n % 2 ^ x % 2 ^ w) e ∙ mod-mod-pow n (v - w) w

-- what is equal modulo 2 ^ v is equal modulo a smaller power
pub eqm_shorter : {a b : ℕ} (v w : ℕ) → w ≤ v → Eqm (2 ^ v) a b → Eqm (2 ^ w) a b
eqm_shorter {a} {b} v w h e =
    record { eqm = sym (mod_shorter a v w h) ∙ ap (λ (x : ℕ). x % 2 ^ w) e.eqm ∙ mod_shorter b v w h }
