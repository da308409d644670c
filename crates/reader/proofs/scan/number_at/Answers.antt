use Rattle.std.proofs.Common.{◌∙◌, sym}
use Rattle.layout.specs.Reading.{is_digit}
use Rattle.reader.specs.CheckCode.{number_back, number_own}
use Rattle.reader.proofs.scan.number_at.Goals as goal

pub returns-then-is_ascii_digit : goal.returns-then-is_ascii_digit
unfolding is_digit
returns-then-is_ascii_digit c =
    let d = c.digits_at in
    number_back c.args.bytes.now c.args.place c.at.result c.at.ensures d.result
    (sym c.is_ascii_digit.ensures.value ∙ c.if-is_ascii_digit.true) d.ensures.within d.ensures.digits d.ensures.before

pub returns-else-is_ascii_digit : goal.returns-else-is_ascii_digit
unfolding is_digit
returns-else-is_ascii_digit c =
    number_own c.args.bytes.now c.args.place c.at.result c.at.ensures
    (sym c.is_ascii_digit.ensures.value ∙ c.if-is_ascii_digit.false)
