use Rattle.std.specs.Prelude.{[]}
use Rattle.std.proofs.Common.{refl, sym, ◌∙◌}
use Rattle.std.proofs.KnownBytes.{Consumes-trans}
use Rattle.draft.proofs.Reading.{no_line, one_byte, two_bytes}
use Rattle.draft.proofs.input.first_line.Goals as goal

pub returns-in_err-next_byte : goal.returns-in_err-next_byte
returns-in_err-next_byte g c = no_line [] refl c.in_err-next_byte.ensures c.from_residual.ensures

pub returns-in_err-k : goal.returns-in_err-k
returns-in_err-k g c = one_byte c.in_ok-next_byte.field-0 c.in_ok-next_byte.ensures c.from_residual-in_err-k.ensures

pub returns-in_err-next_byte-2 : goal.returns-in_err-next_byte-2
returns-in_err-next_byte-2 g c =
    one_byte c.in_ok-next_byte.field-0 (Consumes-trans _ _ _ _ [] c.in_ok-next_byte.ensures c.in_err-next_byte-2.ensures)
    c.from_residual-in_err-next_byte-2.ensures

pub returns : goal.returns
returns g c =
    two_bytes (g.R.Read.remaining c.next_byte.new.input) c.in_ok-next_byte.field-0 c.in_ok-next_byte-2.field-0 c.in_ok-k.k c.in_ok-next_byte.ensures c.in_ok-next_byte-2.ensures
    (sym c.sections_of.ensures ∙ c.in_ok-k.was) c.then_some.ensures
