-- `compare_forms` meets its contract: all zeros first, then the search by sums.
use Rattle.judge.proofs.UnshiftedFormLaws.{form_wide, form_atoms, count_shift, count_le, count_room}
use Rattle.judge.proofs.UnshiftedFormLaws.{zeros_compared, found_compared}
use mathlib.Core.Path.{refl, sym, ◌∙◌}
use native.Mathlib.Omega.{arith}
use lib.ListN.{length}
use lib.Pow.{pow_pos}
use Rattle.judge.proofs.compare_forms.Goals as goal

pub returns-then-a-b : goal.returns-then-a-b
returns-then-a-b c =
    c.unlike.ensures
    ∙ zeros_compared c.args.w c.args.f.now c.args.g.now c.args.vars.now
    c.requires
    (λ e. c.if-a-b.true
    (c.form_value-a.ensures ∙ e ∙ sym c.form_value-b.ensures))

pub slice_bounds-x-end : goal.slice_bounds-x-end
slice_bounds-x-end c =
    count_le c.args.w c.args.f.now c.args.g.now c.args.vars.now c.requires

pub slice_bounds-search_places-end : goal.slice_bounds-search_places-end
slice_bounds-search_places-end c =
    count_room c.args.w c.args.f.now c.args.g.now c.args.vars.now c.requires

pub slice_bounds-y-end : goal.slice_bounds-y-end
slice_bounds-y-end c =
    count_le c.args.w c.args.f.now c.args.g.now c.args.vars.now c.requires

pub slice_bounds-search_places-end-2 : goal.slice_bounds-search_places-end-2
slice_bounds-search_places-end-2 c =
    count_room c.args.w c.args.f.now c.args.g.now c.args.vars.now c.requires

pub search_places-requires : goal.search_places-requires
search_places-requires c =
    let room = count_room c.args.w c.args.f.now c.args.g.now c.args.vars.now
    c.requires in
    let count = count_shift c.args.w c.args.f.now c.args.g.now c.args.vars.now
    c.requires in
    record {
      width = form_wide c.args.w c.args.f.now c.requires.left;
      left = form_atoms c.args.w c.args.f.now c.requires.left;
      right = form_atoms c.args.w c.args.g.now c.requires.right;
      alike = refl;
      some = omega (arith, room, count, pow_pos (length c.args.vars.now));
      few = omega (
        arith,
        room,
        count_le c.args.w c.args.f.now c.args.g.now
            c.args.vars.now c.requires,
      );
    }

pub returns : goal.returns
returns c =
    found_compared c.args.w c.args.f.now c.args.g.now c.args.vars.now c.requires
    (sym c.form_value-a.ensures
    ∙ c.if-a-b.false
    ∙ c.form_value-b.ensures)
    (sym (count_room c.args.w c.args.f.now c.args.g.now c.args.vars.now
    c.requires)
    ∙ count_shift c.args.w c.args.f.now c.args.g.now c.args.vars.now c.requires)
    c.search_places.ensures
