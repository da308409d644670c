use Rattle.std.proofs.Common.{◌+◌, ap}
use Rattle.text.specs.WritingCode.{digits_begin, digits_turn}
use Rattle.text.proofs.decimal.write_decimal.Goals as goal

pub loop-last-init : goal.loop-last-init
loop-last-init c =
    let n = c.digit_count in
    digits_begin c.args.output.now c.args.at (c.args.at + n.result) c.args.n (ap (λ x. c.args.at + x) n.ensures.0)

pub loop-last-preserved : goal.loop-last-preserved
loop-last-preserved c =
    let l = c.loop-last in
    digits_turn c.args.output.now l.output c.store.new.s c.args.at l.last c.args.n l.left c.digit.result c.loop-last-test.true l.invariant
    c.store.ensures c.digit.ensures

pub returns-clause-writes : goal.returns-clause-writes
returns-clause-writes c = record {
  stored = c.loop-last.invariant.none c.loop-last-test.false;
  reached = ap (λ x. c.args.at + x) c.digit_count.ensures.0;
}
