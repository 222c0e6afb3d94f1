-- `normalize_tree` meets its contract: the marks, the descent from the root, and the form of what it collected.
use mathlib.Core.Path.{refl, sym}
use native.Mathlib.Omega.{arith}
use lib.Seq.{length-take-le}
use Rattle.expr_refusal.proofs.RefusalLaws.{accepted_big, sized_accepted}
use Rattle.semilinear_normalizer.proofs.WholeTreeLaws.{whole_at, whole_ready, gives_eight, gives_collected}
use Rattle.semilinear_normalizer.proofs.WholeTreeLaws.{spots_whole, count_whole, index_whole}
use Rattle.semilinear.proofs.OutcomeLaws.{refused_gives}
use Rattle.semilinear_normalizer.proofs.normalize_tree.Goals as goal

pub mark_traits-requires : goal.mark_traits-requires
mark_traits-requires c =
    record { whole = sized_accepted _ _ c.requires.accepted; room = omega (arith, c.requires.marked) }

pub size-n-requires : goal.size-n-requires
size-n-requires c =
    accepted_big _ _ c.requires.accepted

pub slice_bounds-collect_terms-end-2 : goal.slice_bounds-collect_terms-end-2
slice_bounds-collect_terms-end-2 c =
    sym (length-take-le _ _ (omega (arith, c.size-n.ensures.0, c.requires.marked, c.marks-1.given)))

pub collect_terms-found-requires : goal.collect_terms-found-requires
collect_terms-found-requires c = (
  whole_at _ _ (λ i. (c.shared_slice_known-1.given i).fits) c.requires.accepted
      c.mark_traits.ensures c.requires.marked c.size-n.ensures.0 refl,
  whole_ready _ _ (λ i. (c.shared_slice_known-1.given i).fits) c.requires.accepted
      c.requires.collected c.start.ensures,
)

pub returns-in_default : goal.returns-in_default
returns-in_default c =
    gives_eight _ _ (λ i. (c.shared_slice_known-1.given i).fits) c.requires.accepted _
    c.start.ensures c.in_default.ensures
    c.requires.written c.refuse.result (refused_gives c.refuse.ensures)

pub write_form-requires : goal.write_form-requires
write_form-requires c =
    let nothing = c.start.ensures in
    let pre = c.requires in (
      record {
        spots_ok =
            spots_whole _ _ (λ i. (c.shared_slice_known-1.given i).fits) pre.accepted _ nothing
            c.in-Some.ensures;
        inside =
            count_whole _ _ (λ i. (c.shared_slice_known-1.given i).fits) pre.accepted _ nothing
            c.in-Some.ensures pre.collected;
        room = pre.built;
        long = pre.long;
        entries =
            index_whole _ _ (λ i. (c.shared_slice_known-1.given i).fits) pre.accepted _ nothing
            c.in-Some.ensures pre.entries;
      },
      pre.written,
    )

pub returns : goal.returns
returns c =
    gives_collected _ _ (λ i. (c.shared_slice_known-1.given i).fits) c.requires.accepted _
    c.start.ensures c.in-Some.ensures
    c.write_form.result c.write_form.ensures
