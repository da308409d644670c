use Rattle.std.proofs.Common.{refl, sym, length, arith}
use Rattle.promises.proofs.Outcomes.{handed_on, outcome_zero}
use Rattle.promises.proofs.RefusalLaws.{table_fits}
use Rattle.promises.proofs.LiftLaws.{zero_found, zero_missing}
use Rattle.promises.proofs.LentLaws.{table_refused, zero_refused, begun_refused, table_taken}
use Rattle.calls.proofs.load.load.Goals as goal

pub returns-in_err-table_refusal : goal.returns-in_err-table_refusal
returns-in_err-table_refusal c =
    let a = c.args in
    let r = c.in_err-table_refusal in
    rw (handed_on c.from_residual.result r.field-0.0 c.from_residual.ensures.1)
    (table_refused a.held a.lifts.now a.table.now r.field-0.0 r.ensures)

pub returns-in-Some : goal.returns-in-Some
returns-in-Some c =
    let a = c.args in
    let z = zero_found a.table.now c.in-Some.place (sym c.in-Some.ensures) in
    zero_refused a.held a.lifts.now a.table.now c.in_ok-table_refusal.ensures c.in-Some.place z.0 z.1

pub returns-in_err-line16 : goal.returns-in_err-line16
returns-in_err-line16 c =
    let a = c.args in
    let r = c.in_err-line16 in
    rw (handed_on c.from_residual-in_err-line16.result r.field-0.0 c.from_residual-in_err-line16.ensures.1)
    (begun_refused a.held a.lifts.now a.table.now c.in_ok-table_refusal.ensures _ refl (zero_missing a.table.now (sym c.in_default.ensures))
    r.field-0.0 r.ensures)

pub copy_from_slice-requires : goal.copy_from_slice-requires
copy_from_slice-requires c =
    let a = c.args in
    omega (arith, table_fits a.held.n a.held.k (length a.table.now) (outcome_zero _ c.in_ok-table_refusal.ensures))

pub returns : goal.returns
returns c =
    let a = c.args in
    table_taken a.held a.lifts.now a.table.now c.in_ok-table_refusal.ensures _ refl (zero_missing a.table.now (sym c.in_default.ensures))
    c.in_ok-line16.ensures _ c.copy_from_slice.ensures.after
