-- The bytes that part fields and close lines, numbers in decimal, and a text's bytes.
use Rattle.std.specs.Prelude.{cond, List, [], ◌∷◌, ◌++◌, ℕ, zero, suc, ◌+◌, ◌/◌, ◌%◌, ltb}
use Prim.Native.Char.{code}
use Prim.Native.String as Text
use Prim.Native.String.{String}

-- byte 44, byte 10, and the digit 0
abbrev pub comma : ℕ
comma = 44

abbrev pub line_end : ℕ
line_end = 10

abbrev pub digit_zero : ℕ
digit_zero = 48

-- the digits of n, at most so many of them
unfoldable pub digits : ℕ → ℕ → List ℕ
digits zero n = []
digits (suc most) n = cond (ltb n 10) ((digit_zero + n) ∷ []) (digits most (n / 10) ++ (digit_zero + n % 10) ∷ [])

-- "Numbers are decimal without leading zeros": a number below 10 is its digit, any other the decimal of its tenth and its last digit
unfoldable pub decimal : ℕ → List ℕ
unfolding digits
decimal n = digits (suc n) n

-- a text's bytes
unfoldable pub bytes : String → List ℕ
bytes Text.[] = []
bytes (Text.◌∷◌ c s) = code c ∷ bytes s
