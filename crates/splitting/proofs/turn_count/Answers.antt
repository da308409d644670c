use Rattle.std.proofs.Common.{◌∙◌, arith}
use Rattle.models.proofs.SplitCode.{turns_more}
use Rattle.splitting.proofs.turn_count.Goals as goal

pub loop-end-preserved : goal.loop-end-preserved
loop-end-preserved c =
    let l = c.loop-end in
    let t = c.turns_in-turns in (
      omega (arith, t.ensures.1),
      turns_more l.a c.from-e.result c.saturating_sub.result l.end-index l.turns t.result c.args.ends.now (omega arith)
          (c.from-e.ensures) c.saturating_sub.ensures t.ensures.0
          ∙ l.invariant.1,
    )
