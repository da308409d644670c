-- The code's names of calls and of what they are lent, by the numbers that a script has for them.
use Rattle.std.specs.Prelude.{◌≡◌, false, ℕ, Result, MatchResult}
use Rattle.drive.specs.Script.{is_call, nothing, of_lists, of_bytes, of_input}
use Rattle.drive.specs.declared.numbers.Op.{Op}
use Rattle.drive.specs.declared.numbers.Op.TheVariants.{Start, Feed, Load, Mark, Back, Split, LongestEnding, Mask, RadiusAt, NextShorter, Record, Lift}
use Rattle.drive.specs.declared.numbers.NoCall.{NoCall}
use Rattle.drive.specs.declared.numbers.Source.{Source}
use Rattle.drive.specs.declared.numbers.Source.TheVariants.{Nothing, Lists, Bytes, Input}

abbrev pub op_number : Op → ℕ
op_number Start = 0
op_number Feed = 1
op_number Load = 2
op_number Mark = 3
op_number Back = 4
op_number Split = 16
op_number LongestEnding = 17
op_number Mask = 18
op_number RadiusAt = 19
op_number NextShorter = 20
op_number Record = 21
op_number Lift = 22

-- the call that has the number, or none has it
abbrev pub Decodes : (number : ℕ) → Result Op NoCall → Type 0
Decodes number r = MatchResult r (λ op. op_number op ≡ number) (λ _. is_call number ≡ false)

abbrev pub source_number : Source → ℕ
source_number Nothing = nothing
source_number Lists = of_lists
source_number Bytes = of_bytes
source_number Input = of_input
