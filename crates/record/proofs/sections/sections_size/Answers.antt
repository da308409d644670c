use Rattle.std.proofs.Common.{◌∙◌, arith}
use Rattle.record.specs.RecordCode.{sizes_more, sizes_end}
use Rattle.record.proofs.sections.sections_size.Goals as goal

pub loop-end-preserved : goal.loop-end-preserved
loop-end-preserved c =
    let l = c.loop-end in
    let e = c.from-e in
    let s = c.section_size-size in (
      omega (arith, s.ensures.1),
      sizes_more l.a e.result l.end-index l.size s.result c.args.ends.now (omega arith) e.ensures s.ensures.0 ∙ l.invariant.1,
    )

pub returns : goal.returns
returns c = let l = c.loop-end in (omega (arith, sizes_end l.a l.end-index c.args.ends.now (omega arith)), omega arith)
