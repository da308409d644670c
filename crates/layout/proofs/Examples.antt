-- Worked examples: what some bytes read as, in one table, and what a reader yields of one record.
use Rattle.std.specs.Prelude.{◌≡◌, refl, List, [], ◌∷◌, map, ℕ}
use Prim.Native.String.{String}
use Rattle.text.specs.Definitions.{decimal, bytes}
use Rattle.layout.specs.declared.Turn.TheVariants.{OnPick, Between}
use Rattle.layout.specs.Record.{Folded}
use Rattle.layout.specs.Reading.{Reading, whole, breaks, reading}
use Rattle.layout.specs.Unfolding.{picks_of}
use Rattle.layout.specs.Yield.{walk}

pub record Row : Type 0 where
  pub text : String
  pub reads : Reading

row : String → Reading → Row
row t r = record { text = t; reads = r }

folded : ℕ → String → Folded
folded len half = record { len = len; half = bytes half }

unfoldable pub table : List Row
unfolding row folded
table =
    row "7,2,3,AB,4,CD\n" (whole 7 (folded 3 "AB" ∷ folded 4 "CD" ∷ []))
    -- lengths that do not add up are of the layout
    ∷ row "8,2,3,AB,4,CD\n" (whole 8 (folded 3 "AB" ∷ folded 4 "CD" ∷ []))
    -- an early end
    ∷ row "" (breaks 0)
    ∷ row "204" (breaks 3)
    ∷ row "7,2,3,AB,4,CD" (breaks 13)
    -- a byte behind the line
    ∷ row "7,2,3,AB,4,CD\nx" (breaks 14)
    -- a number outside its range, or with a leading 0, whatever follows it
    ∷ row "2049" (breaks 0)
    ∷ row "2049x" (breaks 0)
    ∷ row "0,1" (breaks 0)
    ∷ row "7,02" (breaks 2)
    ∷ row "7,9,3" (breaks 2)
    ∷ row "7,12,3" (breaks 2)
    ∷ row "7,2,2050," (breaks 4)
    ∷ row "7,2,99999999999999999999999," (breaks 4)
    -- a byte that cannot stand there
    ∷ row "7x" (breaks 1)
    ∷ row "7,,3" (breaks 2)
    ∷ row "7,2,3,A1" (breaks 7)
    ∷ row "7,2,3,Ab" (breaks 7)
    ∷ row "7,2,3,A,4,CD\n" (breaks 7)
    ∷ row "7,2,3,ABC,4,CD\n" (breaks 8)
    ∷ row "7,2,3,AB\n" (breaks 8)
    ∷ row "7,2,3,AB,4,CD,1,A\n" (breaks 13)
    ∷ []

pub examples : map (λ r. reading (bytes r.text)) table ≡ map (λ r. r.reads) table
unfolding table reading bytes
examples = refl

-- and unfolded
pub example_picks : picks_of (record { len = 3; half = bytes "AB" } ∷ record { len = 4; half = bytes "CD" } ∷ []) ≡ bytes "ABACDDC"
unfolding picks_of bytes
example_picks = refl

-- "either on a pick or between two picks": pick 2 of the first three, and between picks 5 and 6
pub example_sections : walk (bytes "7,2,3,AB,4,CD\n") 3 0
    ≡ record { length = 3; turn = OnPick (record { 0 = 2 }) } ∷ record { length = 4; turn = Between (record { 0 = 5 }) } ∷ []
unfolding walk bytes decimal
example_sections = refl

-- "A section read from a record still names its middle": of one pick that pick
pub example_one_pick : walk (bytes "3,2,1,A,2,A\n") 3 0
    ≡ record { length = 1; turn = OnPick (record { 0 = 1 }) } ∷ record { length = 2; turn = Between (record { 0 = 2 }) } ∷ []
unfolding walk bytes decimal
example_one_pick = refl

-- none where the lengths do not add up
pub example_none : walk (bytes "8,2,3,AB,4,CD\n") 3 0 ≡ []
unfolding walk bytes
example_none = refl
