use Rattle.std.proofs.Common.{◌∙◌, sym, arith}
use Rattle.std.specs.Prelude.{Some}
use Rattle.reader.specs.ScanCode.{scan_begins, scan_step}
use Rattle.reader.specs.FillCode.{fills_begins, fills_turn, fills_broken}
use Rattle.reader.proofs.unfold.write_picks.Goals as goal

pub loop-b-init : goal.loop-b-init
loop-b-init c = let bytes = c.args.bytes.now in (scan_begins bytes, fills_begins bytes c.args.picks.now)

pub loop-b-preserved : goal.loop-b-preserved
loop-b-preserved c =
    let bytes = c.args.bytes.now in
    let l = c.loop-b in
    let e = scan_step bytes l.b-index l.s (Some c.in-Some.t) (omega arith) l.invariant.0 c.in-Some.ensures in (
      e,
      fills_turn bytes l.b-index c.args.picks.now l.picks c.put.new.picks l.s c.in-Some.t (omega arith) l.invariant.0 e l.invariant.1
          c.put.ensures,
    )

pub returns-in_default : goal.returns-in_default
returns-in_default c =
    let l = c.loop-b in
    fills_broken c.args.bytes.now l.b-index c.args.picks.now l.picks l.s (omega arith) l.invariant.0 (sym c.in_default.is ∙ c.step.ensures)
    l.invariant.1
