-- `find_class` meets its contract: the loop keeps that the classes from `j` on decide.
use mathlib.Core.Path.{◌≡◌, refl, sym, ◌∙◌}
use native.Mathlib.Omega.{arith}
use Rattle.base.proofs.LoopLaws.{first_next, first_here, first_end}
use Rattle.partition_laws.specs.Classes.{has_profile}
use Rattle.classes.proofs.ClassWordsLaws.{profile_read}
use Rattle.classes.proofs.find_class.Goals as goal

pub returns-then-same_words : goal.returns-then-same_words
returns-then-same_words c =
    let test = has_profile c.args.out.now c.args.profile.now in (
      sym
          (c.loop-j.invariant
          ∙ first_here test c.loop-j.j c.args.k c.loop-j-test.true
          (profile_read c.args.profile.now c.args.out.now c.loop-j.j _ refl c.same_words.ensures
          ∙ c.if-same_words.true)),
      c.loop-j-test.true,
    )

pub loop-j-preserved : goal.loop-j-preserved
loop-j-preserved c =
    let test = has_profile c.args.out.now c.args.profile.now in
    c.loop-j.invariant
    ∙ first_next test c.loop-j.j c.args.k c.loop-j-test.true
    (profile_read c.args.profile.now c.args.out.now c.loop-j.j _ refl c.same_words.ensures
    ∙ c.if-same_words.false)

pub returns : goal.returns
returns c =
    let test = has_profile c.args.out.now c.args.profile.now in
    let end : c.loop-j.j ≡ c.args.k = omega (arith, c.loop-j-test.false, c.loop-j.auto.j-end) in
    c.loop-j.invariant ∙ first_end test c.loop-j.j c.args.k (omega (arith, end)) ∙ end
