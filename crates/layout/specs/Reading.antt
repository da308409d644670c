-- A record read byte by byte. A state keeps all that was read, so it says which bytes led to it.
use Rattle.std.specs.Prelude.{Bool, cond, ◌&&◌, List, [], ◌∷◌, ◌++◌, ℕ, zero, suc, ◌+◌, ◌-◌, ◌*◌, ◌/◌, leb, ltb, eqb, length, get_or}
use Rattle.std.proofs.Math.Option.{Option, some, none}
use Rattle.words.specs.Definitions.{most_picks, most_sections, first_letter, last_letter}
use Rattle.words.specs.Ranges.{between}
use Rattle.text.specs.Definitions.{comma, line_end, digit_zero}
use Rattle.layout.specs.Record.{Folded}

-- p picks, c sections, fs those read whole, v the number that the digits so far say
pub data State : Type 0 where
  in_picks : (v : ℕ) → State
  in_count : (p v : ℕ) → State
  in_length : (p c : ℕ) (fs : List Folded) (v : ℕ) → State
  in_half : (p c : ℕ) (fs : List Folded) (len : ℕ) (half : List ℕ) → State
  closed : (p : ℕ) (fs : List Folded) → State

abbrev pub start : State
start = in_picks 0

unfoldable pub is_digit : (byte : ℕ) → Bool
is_digit b = between digit_zero (digit_zero + 9) b

unfoldable pub is_letter : (byte : ℕ) → Bool
is_letter b = between first_letter last_letter b

-- the number v, one digit on
abbrev pub onward : (v byte : ℕ) → ℕ
onward v b = 10 * v + (b - digit_zero)

-- a digit that keeps the number within its range; or a comma behind a number
unfoldable pub in_number : (most : ℕ) (more : ℕ → State) (next : State) (v byte : ℕ) → Option State
unfolding is_digit
in_number most more next v b = cond (is_digit b)
    (cond (between 1 most (onward v b)) (some (more (onward v b))) none)
    (cond (eqb b comma && leb 1 v) (some next) none)

-- a letter where the half lacks one; else a comma where a section is to come, and the end of the line where none is
unfoldable pub in_letters : (p c : ℕ) (fs : List Folded) (len : ℕ) (half : List ℕ) (byte : ℕ) → Option State
unfolding is_letter
in_letters p c fs len half b = cond (ltb (length half) ((len + 1) / 2))
    (cond (is_letter b) (some (in_half p c fs len (half ++ b ∷ []))) none)
    (cond (ltb (suc (length fs)) c)
    (cond (eqb b comma) (some (in_length p c (fs ++ record { len = len; half = half } ∷ []) 0)) none)
    (cond (eqb b line_end) (some (closed p (fs ++ record { len = len; half = half } ∷ []))) none))

-- one byte read
unfoldable pub step : State → (byte : ℕ) → Option State
unfolding in_number in_letters
step (in_picks v) b = in_number most_picks in_picks (in_count v 0) v b
step (in_count p v) b = in_number most_sections (in_count p) (in_length p v [] 0) v b
step (in_length p c fs v) b = in_number most_picks (in_length p c fs) (in_half p c fs v []) v b
step (in_half p c fs len half) b = in_letters p c fs len half b
step (closed p fs) b = none

abbrev pub and_then : Option State → (State → Option State) → Option State
and_then none f = none
and_then (some s) f = f s

-- the state after these bytes, where all can be read
unfoldable pub run : State → (bytes : List ℕ) → Option State
unfolding step
run s [] = some s
run s (b ∷ bytes) = and_then (step s b) (λ t. run t bytes)

abbrev pub one_past : Option State → (State → ℕ) → ℕ
one_past none f = 0
one_past (some s) f = suc (f s)

-- how many bytes can be read
unfoldable pub reach : State → (bytes : List ℕ) → ℕ
unfolding step
reach s [] = 0
reach s (b ∷ bytes) = one_past (step s b) (λ t. reach t bytes)

-- the place itself; where a digit stands there behind digits, the place of the first of them
unfoldable pub number_at : (bytes : List ℕ) (place : ℕ) → ℕ
unfolding is_digit
number_at bytes zero = zero
number_at bytes (suc i) = cond (is_digit (get_or bytes i 0) && is_digit (get_or bytes (suc i) 0)) (number_at bytes i) (suc i)

-- What was read: a record's picks and sections, or the place where the bytes break off
pub data Reading : Type 0 where
  whole : (picks : ℕ) (fs : List Folded) → Reading
  breaks : (place : ℕ) → Reading

unfoldable pub reading_of : (place : ℕ) → Option State → Reading
reading_of place (some (closed p fs)) = whole p fs
reading_of place (some (in_picks v)) = breaks place
reading_of place (some (in_count p v)) = breaks place
reading_of place (some (in_length p c fs v)) = breaks place
reading_of place (some (in_half p c fs len half)) = breaks place
reading_of place none = breaks place

unfoldable pub reading : (bytes : List ℕ) → Reading
unfolding run reach reading_of number_at
reading bytes = reading_of (number_at bytes (reach start bytes)) (run start bytes)
