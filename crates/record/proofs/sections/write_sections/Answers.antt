use Rattle.std.proofs.Common.{arith}
use Rattle.words.specs.Definitions.{word}
use Rattle.record.specs.RecordCode.{sections_more, sections_end}
use Rattle.record.proofs.sections.write_sections.Goals as goal

pub loop-end-preserved : goal.loop-end-preserved
loop-end-preserved c =
    let l = c.loop-end in
    let e = c.from-e in
    let s = c.write_section-next in (
      omega arith,
      omega (arith, s.ensures.small),
      λ after b f. l.invariant.2 after b (sections_more (word c.args.letters.now) l.a e.result l.end-index c.args.ends.now
          (omega arith) e.ensures s.ensures.writes f),
    )

pub returns-clause-writes : goal.returns-clause-writes
returns-clause-writes c =
    let l = c.loop-end in
    l.invariant.2 l.output l.next (sections_end (word c.args.letters.now) l.a l.end-index l.next c.args.ends.now l.output (omega arith))
