-- Laws of the atom `literal ^ basis` (src/xored.rt): its bytes as they are written, and that it is a row more.
use Rattle.made.specs.declared.Made.{Made}
use mathlib.Core.Path.{◌≡◌, refl, ap, ap₂, sym, ◌∙◌}
use Prim.Native.Nat.{ℕ, ◌+◌, ◌-◌, ◌*◌, ◌^◌, ◌≤◌, ◌<◌}
use native.Mathlib.Omega.{arith}
use mathlib.Core.List.{List, [], ◌++◌, append_assoc}
use mathlib.Core.Bool.{true, false}
use lib.ListN.{length, get_or, take, drop, length-append}
use lib.Seq.{take-take}
use Rattle.record.specs.Fields.{size, arity}
use Rattle.record.specs.Span.{sized}
use Rattle.record.specs.Tree.{Tree, size_of, record_bytes, encode, Encodable}
use Rattle.record.specs.Decode.{decode}
use Rattle.base.specs.Put.{put}
use Rattle.record.proofs.BytesLaws.{length_record}
use Rattle.record.proofs.EncodeLaws.{length_encode, size_encode, Encoded, encoded}
use Rattle.base.proofs.PutLaws.{take_put_front, drop_put_front, part_put, put_then}
use Rattle.expr.specs.Hash.{structural_hash}
use Rattle.atom_table.specs.declared.table.Table.{Table}
use Rattle.semilinear.specs.Form.{head_byte}
use Rattle.atom_table.specs.Table.{store_of, atom_span, create_atom}
use Rattle.atom_table.proofs.TableLaws.{created}
use Rattle.made.specs.Rows.{create_row}
use Rattle.made.specs.Made.{made_of, Room, Grew}
use Rattle.made.proofs.WordsLaws.{grew_as, grew_create}
use Rattle.pairing.specs.Recovering.{xor_tree}

-- a piece put before one that is there
put_before : (d : List ℕ) (at : ℕ) (h s : List ℕ) → at + length h + length s ≤ length d
    → put (put d (at + length h) s) at h ≡ put d at (h ++ s)
unfolding put
put_before d at h s fits =
    let i : ℕ = at + length h in
    let rest : List ℕ = drop (i + length s) d in
    let one : take at (put d i s) ≡ take at d =
    sym (take-take at i (put d i s) (omega arith)) ∙ ap (take at) (take_put_front d i s fits)
    ∙ take-take at i d (omega arith) in
    let end : i + length s ≡ at + length (h ++ s) = omega (arith, length-append h s) in
    ap₂ (λ (x y : List ℕ). (x ++ h) ++ y) one (drop_put_front d i s fits)
    ∙ sym (append_assoc (take at d ++ h) s rest)
    ∙ ap (λ (x : List ℕ). x ++ rest) (append_assoc (take at d) h s)
    ∙ ap (λ (n : ℕ). (take at d ++ (h ++ s)) ++ drop n d) end

-- ---- the bytes of the Xor

pub tree_sized : (w : ℕ) (b : List ℕ) → encode w (decode b) ≡ b → Encodable (decode b) → sized b ≡ true
tree_sized w b same ok = rw same at (encoded w (decode b) ok).ok

abbrev pub xor_bytes : ℕ → List ℕ → ℕ → List ℕ
xor_bytes w b m = encode w (xor_tree m (decode b))

module _ (w : ℕ) (b : List ℕ) (m : ℕ) (same : encode w (decode b) ≡ b) where
  basis_size : size_of (decode b) * 16 ≡ length b
  basis_size = sym (length_encode w (decode b)) ∙ ap length same

  basis_fields : size b ≡ size_of (decode b)
  basis_fields = sym (ap size same) ∙ size_encode w (decode b)

  pub xor_size : size (xor_bytes w b m) ≡ size b + 2
  unfolding size_of
  xor_size = omega (arith, size_encode w (xor_tree m (decode b)), basis_fields)

  pub xor_length : length (xor_bytes w b m) ≡ length b + 32
  unfolding size_of
  xor_length = omega (arith, length_encode w (xor_tree m (decode b)), basis_size)

  -- the literal, the basis and the root
  xor_bytes_lem : xor_bytes w b m ≡ (record_bytes 0 0 1 w m ++ b) ++ record_bytes 6 0 (1 + size_of (decode b) + 1) w 0
  unfolding encode size_of
  xor_bytes_lem =
      ap (λ (s : List ℕ). (record_bytes 0 0 1 w m ++ s) ++ record_bytes 6 0 (1 + size_of (decode b) + 1) w 0) same

  pub wrote_tree : (d : List ℕ) (at n : ℕ) → at + 32 + length b ≤ length d → n * 16 ≡ length b + 32
      → {o1 o2 o3 : List ℕ} → o1 ≡ put d at (record_bytes 0 0 1 w m) → o2 ≡ put o1 (at + 16) b
      → o3 ≡ put o2 (at + 16 + length b) (record_bytes 6 0 n w 0) → o3 ≡ put d at (xor_bytes w b m)
  wrote_tree d at n room hn e1 e2 e3 =
      let one : List ℕ = record_bytes 0 0 1 w m in
      let root : List ℕ = record_bytes 6 0 n w 0 in
      let lo : length one ≡ 16 = length_record [] 0 0 1 w m in
      let l2 : length (one ++ b) ≡ length one + length b = length-append one b in
      let same-n : n ≡ 1 + size_of (decode b) + 1 = omega (arith, basis_size) in
      e3
      ∙ ap (λ (o : List ℕ). put o (at + 16 + length b) root) (e2 ∙ ap (λ (o : List ℕ). put o (at + 16) b) e1)
      ∙ ap (λ (s : List ℕ). put s (at + 16 + length b) root)
      (put_then d at one b (at + 16) (omega arith) (omega arith))
      ∙ put_then d at (one ++ b) root (at + 16 + length b) (omega arith) (omega arith)
      ∙ ap (put d at)
      (ap (λ (k : ℕ). (one ++ b) ++ record_bytes 6 0 k w 0) same-n ∙ sym xor_bytes_lem)

  -- the table with this atom more, with the numbers as the code has them
  pub created_xor : (tab : Table) (out : List ℕ) → tab.full ≡ false → tab.count < 256
      → {n : ℕ} → n ≡ size b → tab.records + (n + 2) ≤ 3072
      → {wrote : List ℕ} → wrote ≡ put out tab.at (atom_span w (xor_bytes w b m))
      → store_of
      (record {
        at = tab.at + 48 + length b;
        count = tab.count + 1;
        records = tab.records + (n + 2);
        full = tab.full;
      })
      wrote
      ≡ create_atom w (xor_bytes w b m) (store_of tab out)
  created_xor tab out e l {n} hn fit {wrote} hw =
      let at_same : tab.at + 48 + length b ≡ tab.at + 16 + length (xor_bytes w b m) = omega (arith, xor_length) in
      let hn' : n + 2 ≡ size (xor_bytes w b m) = omega (arith, xor_size) in
      ap (λ (x : ℕ). store_of (record { at = x; count = tab.count + 1; records = tab.records + (n + 2); full = tab.full }) wrote)
      at_same
      ∙ created w (xor_bytes w b m) tab out e l hn' fit hw

  -- what is read back behind the place of the head
  pub span_xored : (d : List ℕ) (at : ℕ) → at + 48 + length b ≤ length d → {o : List ℕ}
      → o ≡ put d (at + 16) (xor_bytes w b m) → take (at + 48 + length b - (at + 16)) (drop (at + 16) o) ≡ xor_bytes w b m
  span_xored d at room e =
      ap (λ (o : List ℕ). take (at + 48 + length b - (at + 16)) (drop (at + 16) o)) e
      ∙ part_put d (at + 16) (xor_bytes w b m) (omega (arith, xor_length)) (at + 48 + length b - (at + 16))
      (omega (arith, xor_length))

  module _ (ok : Encodable (decode b)) (hm : m < 2 ^ 64) where
    xor_encoded : Encoded w (xor_tree m (decode b))
    unfolding Encodable arity
    xor_encoded = encoded w (xor_tree m (decode b)) (refl, hm, ok)

    xor_sized : sized (xor_bytes w b m) ≡ true
    xor_sized = xor_encoded.ok

    pub span_sized : (d : List ℕ) (at : ℕ) → at + 48 + length b ≤ length d → {o : List ℕ}
        → o ≡ put d (at + 16) (xor_bytes w b m) → sized (take (at + 48 + length b - (at + 16)) (drop (at + 16) o)) ≡ true
    span_sized d at room e = ap sized (span_xored d at room e) ∙ xor_sized

    pub wrote_xored : (d : List ℕ) (at n : ℕ) → at + 48 + length b ≤ length d → n * 16 ≡ length b + 32
        → {o1 o2 t : List ℕ} {v : ℕ} → o1 ≡ put d (at + 16) (xor_bytes w b m) → t ≡ xor_bytes w b m
        → v ≡ structural_hash (decode t) → o2 ≡ put o1 at (record_bytes 33 head_byte n w v)
        → o2 ≡ put d at (atom_span w (xor_bytes w b m))
    unfolding atom_span
    wrote_xored d at n room hn {o1} {o2} {t} {v} e1 et ev e2 =
        let s : List ℕ = xor_bytes w b m in
        let head : List ℕ = record_bytes 33 head_byte n w v in
        let lh : length head ≡ 16 = length_record [] 33 head_byte n w v in
        let at_same : at + 16 ≡ at + length head = omega (arith, lh) in
        let size_same : n ≡ size s = omega (arith, xor_size, basis_fields, basis_size) in
        e2
        ∙ ap (λ (o : List ℕ). put o at head) (e1 ∙ ap (λ (i : ℕ). put d i s) at_same)
        ∙ put_before d at head s (omega (arith, lh, xor_length))
        ∙ ap₂ (λ (k u : ℕ). put d at (record_bytes 33 head_byte k w u ++ s)) size_same
        (ev ∙ ap (λ (x : List ℕ). structural_hash (decode x)) et)

    pub grew_xored : (made : Made) (out : List ℕ) → Room made out → {tab : Table} {wrote : List ℕ} {made' : Made}
        → store_of tab wrote ≡ create_atom w (xor_bytes w b m) (store_of made.table out)
        → made' ≡ made_of tab (made.rows + 1) made.constant
        → Grew w 1 (create_row (xor_tree m (decode b))) made out made' wrote
    grew_xored made out r e q =
        grew_as (λ l. ap (λ (u : Tree). create_row u l) xor_encoded.back)
        (grew_create w (xor_bytes w b m) xor_sized (ap (encode w) xor_encoded.back) made out r e q)
