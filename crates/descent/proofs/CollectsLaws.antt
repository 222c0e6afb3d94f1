-- Laws of the steps of the descent (specs/Spots.antt, Collects and Ready): what single steps collect, and one step
-- after another.
use mathlib.Core.Path.{◌≡◌, refl, ap, sym, ◌∙◌}
use Prim.Native.Nat.{ℕ, ◌+◌, ◌≤◌}
use native.Mathlib.Omega.{arith}
use mathlib.Core.List.{List, [], append-nil}
use Rattle.std.specs.Prelude.{Option, None, Some, IfSome}
use Rattle.arith.specs.Width.{mod_add}
use Rattle.arith.proofs.WidthLaws.{mod_add_lt}
use Rattle.descent.specs.declared.collect.Atom.{Atom}
use Rattle.descent.specs.declared.collect.Descent.{Descent}
use Rattle.normalizer_laws.specs.Collect.{Collected, nonlinear, linear, join_collected}
use Rattle.descent.specs.Spots.{collected_in, spots_in, Stepped, Collects, Ready}
use Rattle.normalizer_laws.proofs.JoinLaws.{join_assoc, join_none}

-- ---- steps that write no atoms

module _ (w : ℕ) (file : List ℕ) (n : ℕ) (spots : List Atom) (d : Descent) (ready : Ready w n spots d) where
  pub collects_none : Collects w file n (linear 0 []) spots d spots (Some d)
  unfolding collected_in
  collects_none =
      record {
        collected = sym (join_none w ready.width d.constant (spots_in file spots d.count) ready.fits);
        stepped = record { few = omega arith; fits = ready.fits; spots = λ ok. ok };
        same_length = refl;
      }

  -- k is added to the constant
  pub collects_constant : (k : ℕ) (r : Descent)
      → r ≡ record { constant = mod_add d.constant k w; count = d.count }
      → Collects w file n (linear k []) spots d spots (Some r)
  unfolding join_collected collected_in
  collects_constant k r e =
      rw e
      (record {
        collected = ap (linear (mod_add d.constant k w)) (sym (append-nil (spots_in file spots d.count)));
        stepped =
            record { few = omega arith; fits = mod_add_lt d.constant k w ready.width; spots = λ ok. ok };
        same_length = refl;
      })

  pub collects_nonlinear : Collects w file n nonlinear spots d spots None
  unfolding join_collected collected_in
  collects_nonlinear = record { collected = refl; stepped = tt; same_length = refl }

-- ---- one step after another

stepped_more : (w : ℕ) (file : List ℕ) (n : ℕ) (a : List Atom) (d : Descent) (b : List Atom) (r : Option Descent)
    (m : ℕ) → n ≤ m → IfSome r (Stepped w file n a d b) → IfSome r (Stepped w file m a d b)
stepped_more w file n a d b None m h s = tt
stepped_more w file n a d b (Some r) m h s = record { few = omega (arith, s.few); fits = s.fits; spots = s.spots }

-- of a bigger tree
pub collects_more : {w : ℕ} {file : List ℕ} {n : ℕ} {x : Collected} {a : List Atom} {d : Descent} {b : List Atom}
    {r : Option Descent} (m : ℕ) → n ≤ m → Collects w file n x a d b r → Collects w file m x a d b r
collects_more {w} {file} {n} {x} {a} {d} {b} {r} m h c =
    record {
      collected = c.collected;
      stepped = stepped_more w file n a d b r m h c.stepped;
      same_length = c.same_length;
    }

-- with what it collects written otherwise
pub collects_as : {w : ℕ} {file : List ℕ} {n : ℕ} {x y : Collected} {a : List Atom} {d : Descent} {b : List Atom}
    {r : Option Descent} → y ≡ x → Collects w file n x a d b r → Collects w file n y a d b r
collects_as e c = rw e c

-- what is not linear stays so, whatever follows
pub collects_stop : (w : ℕ) (file : List ℕ) (n m : ℕ) (x y : Collected) (a : List Atom) (d : Descent) (b : List Atom)
    → Collects w file n x a d b None → Collects w file (n + m) (join_collected w x y) a d b None
unfolding join_collected collected_in
collects_stop w file n m x y a d b first =
    record {
      collected =
          ap (λ (z : Collected). join_collected w z y) first.collected
          ∙ join_assoc w (linear d.constant (spots_in file a d.count)) x y;
      stepped = tt;
      same_length = first.same_length;
    }

module _ (w : ℕ) (hw : w ≤ 64) (file : List ℕ) (n m : ℕ) (x y : Collected) (a : List Atom) (d : Descent) (b : List Atom)
    (e : Descent) (first : Collects w file n x a d b (Some e)) where
  stepped_then : (c : List Atom) (r : Option Descent) → IfSome r (Stepped w file m b e c)
      → IfSome r (Stepped w file (n + m) a d c)
  stepped_then c None s = tt
  stepped_then c (Some r) s =
      record {
        few = omega (arith, first.stepped.few, s.few);
        fits = s.fits;
        spots = λ ok. s.spots (first.stepped.spots ok);
      }

  pub collects_then : (c : List Atom) (r : Option Descent) → Collects w file m y b e c r
      → Collects w file (n + m) (join_collected w x y) a d c r
  unfolding collected_in
  collects_then c r second =
      record {
        collected =
            second.collected
            ∙ ap (λ (z : Collected). join_collected w z y) first.collected
            ∙ join_assoc w (linear d.constant (spots_in file a d.count)) x y;
        stepped = stepped_then c r second.stepped;
        same_length = second.same_length ∙ first.same_length;
      }

  -- and the next step can be made
  pub ready_after : Ready w (n + m) a d → Ready w m b e
  ready_after ready =
      record {
        width = hw;
        fits = first.stepped.fits;
        room = omega (arith, first.stepped.few, ready.room, first.same_length);
      }

pub ready_less : {w n : ℕ} {spots : List Atom} {d : Descent} (m : ℕ) → m ≤ n → Ready w n spots d → Ready w m spots d
ready_less m h ready =
    record {
      width = ready.width;
      fits = ready.fits;
      room = omega (arith, ready.room);
    }
