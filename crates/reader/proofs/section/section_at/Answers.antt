use Rattle.std.proofs.Common.{◌∙◌, sym, ap, arith}
use Rattle.std.specs.Prelude.{Some}
use Rattle.promises.specs.Answers.{found_numbers}
use Rattle.reader.specs.ScanCode.{scan_begins, scan_step}
use Rattle.reader.specs.Tracking.{tracks_begins, tracks_turn, tracks_broken, tracks_ends}
use Rattle.reader.proofs.section.section_at.Goals as goal

pub loop-i-init : goal.loop-i-init
loop-i-init c =
    let bytes = c.args.bytes.now in
    (scan_begins bytes, tracks_begins bytes c.args.at 0 c.nothing.result c.nothing.ensures)

pub loop-i-preserved : goal.loop-i-preserved
loop-i-preserved c =
    let bytes = c.args.bytes.now in
    let l = c.loop-i in
    let t = c.in-Some.t in
    let e = scan_step bytes l.i l.s (Some t) (omega arith) l.invariant.0 c.in-Some.ensures in
    (e, tracks_turn bytes l.i c.args.at l.search c.after-search.result l.s t (omega arith) l.invariant.0 e l.invariant.1 c.after-search.ensures)

pub returns-in_default : goal.returns-in_default
returns-in_default c =
    let l = c.loop-i in
    ap found_numbers
    (c.nothing-in_default.ensures
    ∙ tracks_broken c.args.bytes.now l.i c.args.at l.s (omega arith) l.invariant.0 (sym c.in_default.is ∙ c.step.ensures))

pub returns : goal.returns
returns c =
    let l = c.loop-i in
    ap found_numbers
    (c.settled.ensures ∙ tracks_ends c.args.bytes.now l.i c.args.at l.search l.s (omega arith) l.invariant.0 l.invariant.1)
