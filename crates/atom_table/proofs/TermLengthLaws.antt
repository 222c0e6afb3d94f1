-- The length of a term, and a put of nothing.
use mathlib.Core.Path.{◌≡◌, refl, sym}
use Prim.Native.Nat.{ℕ}
use native.Mathlib.Nat.{add-zero}
use mathlib.Core.List.{List, [], append-nil}
use lib.ListN.{length, take, take-append-drop}
use Rattle.base.specs.Put.{put}
use Rattle.record.specs.Tree.{record_bytes}
use Rattle.semilinear.specs.Form.{term_bytes}

pub length_term : (w j c : ℕ) → length (term_bytes w j c) ≡ 16
unfolding term_bytes record_bytes
length_term w j c = refl

-- ---- putting the terms, one after the other

pub put_none : (d : List ℕ) (at : ℕ) → d ≡ put d at []
unfolding put
put_none d at = sym (rw (append-nil (take at d), add-zero at) (take-append-drop at d))
