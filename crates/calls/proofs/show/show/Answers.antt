use Rattle.std.proofs.Common.{refl, arith}
use Rattle.promises.proofs.Outcomes.{outcome_zero}
use Rattle.promises.proofs.ShowLaws.{part_fits, show_refused, behind_refused}
use Rattle.calls.proofs.show.show.Goals as goal

pub overflow_sub-s : goal.overflow_sub-s
overflow_sub-s c =
    let p = c.args in
    (part_fits p.letters.now p.ends.now p.s (outcome_zero _ c.in-Ok.ensures)).one

pub slice_bounds-result-count-2 : goal.slice_bounds-result-count-2
slice_bounds-result-count-2 c =
    let p = c.args in
    let g = part_fits p.letters.now p.ends.now p.s (outcome_zero _ c.in-Ok.ensures) in
    omega arith

pub slice_bounds-result-start-2 : goal.slice_bounds-result-start-2
slice_bounds-result-start-2 c =
    let p = c.args in
    let g = part_fits p.letters.now p.ends.now p.s (outcome_zero _ c.in-Ok.ensures) in
    omega arith

pub slice_bounds-result-end-2 : goal.slice_bounds-result-end-2
slice_bounds-result-end-2 c =
    let p = c.args in
    let g = part_fits p.letters.now p.ends.now p.s (outcome_zero _ c.in-Ok.ensures) in
    omega arith

pub returns-in_default-clause-show_promise : goal.returns-in_default-clause-show_promise
returns-in_default-clause-show_promise c = show_refused c.args.letters.now c.args.ends.now c.args.s c.in_default.field-0 c.in_default.ensures

pub returns-in_default-clause-place : goal.returns-in_default-clause-place
returns-in_default-clause-place c =
    (refl, omega (arith, behind_refused c.args.letters.now c.args.ends.now c.args.s c.in_default.field-0 c.in_default.ensures))
