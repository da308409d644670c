use Rattle.std.proofs.Common.{◌∙◌, sym, arith, rules}
use Rattle.std.specs.Prelude.{Some}
use Rattle.reader.specs.ScanCode.{scan_begins, scan_step, scan_broken, scan_told}
use Rattle.reader.proofs.scan.scan.Goals as goal

pub loop-i-init : goal.loop-i-init
loop-i-init c = scan_begins c.args.bytes.now

pub loop-i-preserved : goal.loop-i-preserved
loop-i-preserved c =
    let l = c.loop-i in
    scan_step c.args.bytes.now l.i l.s (Some c.in_ok-s.s) (omega arith) l.invariant (sym c.in_ok-s.ensures.ok_part ∙ c.step.ensures)

pub returns-in_err-s : goal.returns-in_err-s
returns-in_err-s c =
    let l = c.loop-i in
    let k = scan_broken c.args.bytes.now l.i l.s (omega arith) l.invariant (sym c.in_err-s.ensures.ok_part ∙ c.step.ensures) in
    search rules

pub returns : goal.returns
returns c =
    let l = c.loop-i in
    c.ok_or-2.ensures.value ∙ rw c.totals.ensures (scan_told c.args.bytes.now l.i l.s (omega arith) l.invariant)
