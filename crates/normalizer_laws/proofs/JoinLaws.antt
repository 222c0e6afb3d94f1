-- Laws of `join_collected` (specs/Collect.antt): what is collected one after the other, grouped either way, and what
-- adds nothing.
use mathlib.Core.Path.{◌≡◌, refl, ap, ap₂, sym, ◌∙◌}
use Prim.Native.Nat.{ℕ, ◌+◌, ◌%◌, ◌^◌, ◌≤◌, ◌<◌}
use native.Mathlib.Nat.{add_assoc, add-zero, mod-add-mod, add-mod-mod, mod-eq_of_lt}
use mathlib.Core.List.{List, [], append_assoc, append-nil}
use Rattle.arith.specs.Width.{word_bits, mod_add}
use Rattle.arith.proofs.WidthLaws.{mod_add_lem}
use Rattle.normalizer_laws.specs.Collect.{Emitted, Collected, nonlinear, linear, join_collected}

mod_add_assoc : (a b c w : ℕ) → mod_add (mod_add a b w) c w ≡ mod_add a (mod_add b c w) w
unfolding mod_add
mod_add_assoc a b c w =
    let m : ℕ = 2 ^ word_bits w in
    mod-add-mod (a + b) m c ∙ ap (λ (n : ℕ). n % m) (add_assoc a b c) ∙ sym (add-mod-mod a (b + c) m)

pub join_assoc : (w : ℕ) (x y z : Collected)
    → join_collected w (join_collected w x y) z ≡ join_collected w x (join_collected w y z)
unfolding join_collected
join_assoc w nonlinear y z = refl
join_assoc w (linear a l) nonlinear z = refl
join_assoc w (linear a l) (linear b m) nonlinear = refl
join_assoc w (linear a l) (linear b m) (linear c n) = ap₂ linear (mod_add_assoc a b c w) (append_assoc l m n)

-- ---- nothing more

pub mod_add_zero : (c w : ℕ) → w ≤ 64 → c < 2 ^ w → mod_add c 0 w ≡ c
mod_add_zero c w hw h = mod_add_lem c 0 w hw ∙ rw add-zero (mod-eq_of_lt h)

pub join_none : (w : ℕ) → w ≤ 64 → (c : ℕ) (l : List Emitted) → c < 2 ^ w
    → join_collected w (linear c l) (linear 0 []) ≡ linear c l
unfolding join_collected
join_none w hw c l h = rw (mod_add_zero c w hw h, append-nil l)
