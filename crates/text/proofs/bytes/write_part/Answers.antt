use Rattle.std.proofs.Common.{◌∙◌, ◌+◌, ◌-◌, sym, arith}
use Rattle.words.specs.Definitions.{word}
use Rattle.words.specs.Mirror.{stretch_length}
use Rattle.text.specs.WritingCode.{bytes_on, bytes_end}
use Rattle.text.proofs.bytes.write_part.Goals as goal

pub loop-j-preserved : goal.loop-j-preserved
loop-j-preserved c =
    let p = c.args in
    let l = c.loop-j in
    bytes_on (word p.source.now) l.output c.store.new.s p.a p.at l.j (p.count - l.j) (p.count - (l.j + 1)) c.at.result
    (omega arith) c.at.ensures c.store.ensures
    ∙ l.invariant

pub returns : goal.returns
returns c =
    let p = c.args in
    let l = c.loop-j in
    let w = word p.source.now in
    record {
      stored = sym (bytes_end w l.output (p.a + l.j) (p.at + l.j) (p.count - l.j) (omega arith)) ∙ l.invariant;
      reached = omega (arith, stretch_length w p.a p.count);
    }
