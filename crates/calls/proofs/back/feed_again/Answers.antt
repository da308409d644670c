use Rattle.std.proofs.Common.{refl, sym, ap, ◌∙◌, arith, take, get_or, length-take-le}
use Rattle.promises.specs.Lifts.{lift_in}
use Rattle.promises.proofs.BackLaws.{again_one}
use Rattle.calls.proofs.back.feed_again.Goals as goal

pub loop-letter-preserved : goal.loop-letter-preserved
loop-letter-preserved c =
    let g = c.args in
    let l = c.loop-letter in
    let i = c.lift_in-code in
    let size = length-take-le g.kept g.letters.now (omega arith) in (
      refl,
      omega (arith, l.invariant.1),
      again_one g.k l.held.n g.kept i.result g.lifts.now g.letters.now (omega (arith, size, l.invariant.1, c.loop-letter-test.true)) c.requires.2
          (i.ensures ∙ ap (λ j. lift_in g.lifts.now (get_or (take g.kept g.letters.now) j 0)) (sym l.invariant.1)) l.invariant.0
          c.append-a.ensures
          ∙ l.invariant.2,
    )
