-- What a pass knows on its way to the groups: of the form and its copied table, of the views it has read, of the bases it
-- has found, and of a table that holds the rows without the terms that are in groups.
use Rattle.made.specs.declared.Made.{Made}
use mathlib.Core.Path.{◌≡◌, refl, ap, sym, ◌∙◌}
use Prim.Native.Nat.{ℕ, ◌+◌, ◌^◌, ◌≤◌, ◌<◌}
use native.Mathlib.Omega.{arith}
use mathlib.Core.List.{List, []}
use mathlib.Core.Bool.{Bool, true}
use lib.ListN.{length, get_or, take, drop, length-take}
use lib.Seq.{length-take-le, get_or-take}
use Rattle.record.specs.Fields.{width}
use Rattle.base.specs.Put.{padded}
use Rattle.record.specs.Span.{body}
use Rattle.record.specs.Tree.{Tree, IsBytes}
use Rattle.record.specs.Decode.{decode}
use Rattle.base.proofs.PutLaws.{length_padded}
use Rattle.atom_table.specs.declared.table.Table.{Table}
use Rattle.semilinear.specs.Form.{Row}
use Rattle.semilinear.specs.Items.{atom_count, after_atoms}
use Rattle.semilinear.specs.Valid.{is_semilinear}
use Rattle.semilinear.specs.DecodeForm.{decode_form, read_form, read_rows}
use Rattle.atom_table.specs.Table.{Placed}
use Rattle.atom_table.specs.Terms.{coeffs_of, Copied, FinishRoom}
use Rattle.atom_table.proofs.HoldsLaws.{holds_bare}
use Rattle.atom_table.proofs.TermsLaws.{length_coeffs}
use Rattle.semilinear.proofs.ValidLaws.{semilinear_parts}
use Rattle.group.specs.declared.Group.{Group}
use Rattle.group.specs.Group.{empty_group, group_of}
use Rattle.views.specs.Grouping.{bases_of, ungrouped}
use Rattle.made.specs.Made.{Room, Held, Basis}
use Rattle.made.specs.Shown.{Shown}
use Rattle.std.specs.Prelude.{Option}
use Rattle.views.specs.declared.View.{View}
use Rattle.views.specs.Views.{view_at, basis_bytes, ViewsReady, ViewsRead, Readable}
use Rattle.views.specs.Bases.{first_rows, FirstAre}
use Rattle.group.specs.Gathered.{gathered}
use Rattle.group.specs.Ready.{FormReady, BasesFound, AllReady, AtReady, AtFirst, GroupReady}
use Rattle.group.proofs.ExtendsLaws.{ungrouped_length, ungrouped_bare}
use Rattle.views.proofs.FirstRowsLaws.{first_rows_lem}
use Rattle.group.proofs.GatherLaws.{gather_group, len_gathered}
use Rattle.views.proofs.HasBasisLaws.{readable}
use Rattle.views.proofs.NextBasisLaws.{NextBasis, next_basis, bases_end}
use Rattle.views.proofs.ReadLaws.{length_rows, kept_padded}
use Rattle.group.proofs.ShownLaws.{begun, held_copied, copied_end}

-- ---- the begin

module _ (s : List ℕ) (bytes : IsBytes s) (ok : is_semilinear s ≡ true) where
  -- the words of the copied table hold the rows
  pub held_form : {tab : Table} {out : List ℕ} (k : ℕ) → Copied (read_form s) tab out
      → Held (width s) (begun tab k) out (read_rows 0 (body s) (after_atoms (body s)))
  unfolding decode_form
  held_form {tab} {out} k h = held_copied (read_form s) tab out k h

  -- what a pass works on, as the code reads it
  pub pass_begin : {w k : ℕ} {b : List ℕ} → w ≡ width s → b ≡ body s → {tab : Table} {out : List ℕ}
      → Copied (read_form s) tab out → {coeffs : List ℕ} → coeffs ≡ padded 256 []
      → (atom_count b ≡ tab.count) × FormReady w 256 b tab.at coeffs (begun tab k) out
  unfolding decode_form
  pass_begin {w} {k} {b} ew eb {tab} {out} h clear =
      let parts = semilinear_parts s ok in
      let most : tab.count ≤ 256 = h.holds.placed.atoms_le in
      let count : tab.count ≡ atom_count (body s) =
      (h.holds.kept h.more).count ∙ length_rows (body s) 0 (after_atoms (body s)) in
      rw (ew, eb) (
        sym count,
        record {
          width = parts.0.width_le;
          atoms_ok_lem = parts.1.atoms;
          ends = copied_end s bytes ok tab out h;
          few = omega (arith, count, most);
          clear = clear;
          room = record { placed = (held_form k h).holds.placed };
          made_few = most;
        },
      )

-- and at the end there is room for all terms
pub pass_room : (out coeffs : List ℕ) {made : Made} {out' : List ℕ} → Room made out' → length out' ≡ length out
    → length coeffs ≡ 256 → {tab : Table} → tab ≡ made.table → length out ≡ 57360
    → FinishRoom tab 1 coeffs out'
pass_room out coeffs {out' = out'} room long wide {tab} et e =
    let placed : Placed tab (length out') = rw et room.placed in
    record {
      placed = λ _. placed;
      long = long ∙ e;
      coeffs = λ _. omega (arith, placed.atoms_le, wide);
      step_pos = omega arith;
      step_le = omega arith;
    }

-- ---- the rows without the terms that are in groups

pub ungrouped_held : (only : Tree → Bool) (w : ℕ) {made : Made} {out : List ℕ} (l : List Row) → Held w made out l
    → Held w made out (ungrouped only w l)
ungrouped_held only w {made} {out} l h =
    record {
      holds = holds_bare l (ungrouped only w l) (sym (ungrouped_bare only w l)) w made.table out h.holds;
      clean = h.clean;
      rows = h.rows ∙ sym (ungrouped_length only w l);
    }

-- ---- the views, as the code has read them

module _ {only : Tree → Bool} {w : ℕ} {f coeffs : List ℕ} {views : List (Option View)} {coeffs' : List ℕ} {n : ℕ}
    (v : ViewsRead only w f (read_rows 0 f (after_atoms f)) coeffs views coeffs' n) where
  pub read_count : n ≡ atom_count f
  read_count = v.number ∙ length_rows f 0 (after_atoms f)

  pub read_readable : Readable f views n
  read_readable = rw v.number (readable v.views)

  module _ (e : coeffs ≡ padded 256 []) where
    pub read_wide : atom_count f ≤ 256 → length coeffs' ≡ 256
    read_wide most =
        let rows : List Row = read_rows 0 f (after_atoms f) in
        let own : List Row = ungrouped only w rows in
        ap length (kept_padded v 256 e)
        ∙ length_padded 256 (coeffs_of own)
        (omega (arith, length_coeffs own, ungrouped_length only w rows, length_rows f 0 (after_atoms f)))

    -- a table that holds the rows, with the coefficients that are kept
    pub read_shown : {made : Made} {out : List ℕ} → Held w made out (read_rows 0 f (after_atoms f))
        → Shown w made out coeffs' (ungrouped only w (read_rows 0 f (after_atoms f)))
    read_shown held = record {
      held = ungrouped_held only w (read_rows 0 f (after_atoms f)) held;
      terms = λ _. kept_padded v 256 e;
    }

pub first_same : {rows before after : List ℕ} {r : ℕ} → FirstAre rows before after r → FirstAre rows after after r
first_same s = record { count = s.count; are = s.are; long = refl }

-- ---- the bases, as the code finds them

module _ {only : Tree → Bool} {w : ℕ} {f : List ℕ} {views : List (Option View)} {bases : List ℕ} {n count : ℕ}
    (h : BasesFound only w f views bases n count) where
  abbrev rows : List Row
  rows = read_rows 0 f (after_atoms f)

  pub readable_at : Readable f views n
  readable_at = rw h.number (readable h.viewed)

  pub count_few : count ≤ n
  count_few = omega (arith, h.first.count, (first_rows_lem f views n).few)

  pub count_room : count ≤ length bases
  count_room = omega (arith, h.first.count, ap length h.first.are, length-take count bases)

  pub count_taken : length (take count bases) ≡ count
  count_taken = length-take-le count bases count_room

  -- base k among the first `count`
  pub taken_at : (k : ℕ) → k < count → get_or (take count bases) k 0 ≡ get_or bases k 0
  taken_at k lt = get_or-take count bases k 0 lt

  first_found : FirstAre (first_rows f views (length rows)) bases bases count
  first_found = rw h.number at h.first

  pub next_at : (k : ℕ) → k < count → NextBasis only w f views rows k (get_or bases k 0)
  next_at k lt = next_basis only w f views rows h.viewed first_found k lt

  pub end_at : (k : ℕ) → count ≤ k → drop k (bases_of only w rows []) ≡ []
  end_at k le = bases_end only w f views rows h.viewed first_found k le

  -- the group of a basis
  pub group_at : (k : ℕ) → k < count
      → gathered f views (view_at views (get_or bases k 0)).hash (basis_bytes f (view_at views (get_or bases k 0))) n
      ≡ group_of only w (decode (basis_bytes f (view_at views (get_or bases k 0)))) 0 rows empty_group
  group_at k lt =
      let x : ℕ = get_or bases k 0 in
      let own : Basis w (view_at views x).hash (basis_bytes f (view_at views x)) = (next_at k lt).group.basis in
      ap (gathered f views (view_at views x).hash (basis_bytes f (view_at views x))) h.number
      ∙ gather_group f views (view_at views x).hash (basis_bytes f (view_at views x)) only w rows h.viewed own

pub few_entries : (f : List ℕ) (views : List (Option View)) (hash : ℕ) (b : List ℕ) (n : ℕ) {g : Group} → g ≡ gathered f views hash b n → n ≤ 256
    → g.len ≤ 256
few_entries f views hash b n e h = omega (arith, ap (λ (k : Group). k.len) e, len_gathered f views hash b n)

-- ---- what is asked on the way down

pub form_fewer : {w limit : ℕ} {f : List ℕ} {terms : ℕ} {coeffs : List ℕ} {made : Made} {out : List ℕ}
    → FormReady w limit f terms coeffs made out → {n : ℕ} → atom_count f ≤ n → FormReady w n f terms coeffs made out
form_fewer h le =
    record {
      width = h.width;
      atoms_ok_lem = h.atoms_ok_lem;
      ends = h.ends;
      few = le;
      clear = h.clear;
      room = h.room;
      made_few = h.made_few;
    }

pub form_views : {w limit : ℕ} {f : List ℕ} {terms : ℕ} {coeffs : List ℕ} {made : Made} {out : List ℕ}
    → FormReady w limit f terms coeffs made out → limit ≤ 256 → {views : List (Option View)}
    → atom_count f ≤ length views → ViewsReady w f terms views coeffs
form_views h most room =
    record {
      width = h.width;
      atoms_ok_lem = h.atoms_ok_lem;
      ends = h.ends;
      views_room = room;
      coeffs_room = omega (arith, h.few, most, ap length h.clear ∙ length_padded 256 [] (omega arith));
    }

-- row i of the bases, with a table that some rows were added to
pub all_at : {only : Tree → Bool} {w : ℕ} {f : List ℕ} {views : List (Option View)} {bases : List ℕ} {n count : ℕ} {made : Made} {out : List ℕ}
    → AllReady only w f views bases n count made out → (i : ℕ) → i < count
    → {k : ℕ} {made' : Made} {out' : List ℕ} → Room made' out' → made'.rows + k < 2 ^ 64
    → AtReady w k f views (get_or bases i 0) n made' out'
all_at h i lt room more =
    let next = next_at h.found i lt in
    record {
      width = h.width;
      readable = readable_at h.found;
      few = h.found.few;
      within = omega (arith, next.below, h.found.number);
      some = next.some;
      in_group = next.group;
      room = room;
      more = more;
    }

-- which is the first row of its basis
pub all_first : {only : Tree → Bool} {w : ℕ} {f : List ℕ} {views : List (Option View)} {bases : List ℕ} {n count : ℕ} {made : Made} {out : List ℕ}
    → AllReady only w f views bases n count made out → (i : ℕ) → i < count
    → {k : ℕ} {made' : Made} {out' : List ℕ} → Room made' out' → made'.rows + k < 2 ^ 64
    → AtFirst w k f views (get_or bases i 0) n made' out'
all_first h i lt room more = record { ready = all_at h i lt room more; none_before = (next_at h.found i lt).none_before }

pub at_group : {w k : ℕ} {f : List ℕ} {views : List (Option View)} {x n : ℕ} {made : Made} {out : List ℕ} → AtReady w k f views x n made out
    → GroupReady w k (view_at views x).hash (basis_bytes f (view_at views x)) f views n made out
at_group h =
    record {
      makes = record { width = h.width; basis = h.in_group.basis; room = h.room; more = h.more };
      readable = h.readable;
      few = h.few;
    }
