-- The lifts, fixed and loaded: "Each letter lifts two of eight harnesses; harness h is bit h-1 of a lift byte."
use Rattle.std.specs.Prelude.{◌≡◌, Bool, true, false, ◌≢◌, List, [], ◌∷◌, map, ℕ, zero, suc, ◌+◌, ◌-◌, ◌^◌, ◌<◌, length, get_or}
use Rattle.words.specs.Definitions.{first_letter, bit}
use Rattle.layout.specs.Layout.{Letter}

-- a pair of harnesses
pub record Pair : Type 0 where
  pub low : ℕ
  pub high : ℕ

abbrev pub pair : ℕ → ℕ → Pair
pair low high = record { low = low; high = high }

-- "In letter order A to Z the pairs are 12 13 14 15 16 17 18 23 24 25 26 27 28 34 35 36 37 38 45 46 47 48 56 57 58 67."
abbrev pub pairs : List Pair
pairs =
    pair 1 2 ∷ pair 1 3 ∷ pair 1 4 ∷ pair 1 5 ∷ pair 1 6 ∷ pair 1 7 ∷ pair 1 8
    ∷ pair 2 3 ∷ pair 2 4 ∷ pair 2 5 ∷ pair 2 6 ∷ pair 2 7 ∷ pair 2 8
    ∷ pair 3 4 ∷ pair 3 5 ∷ pair 3 6 ∷ pair 3 7 ∷ pair 3 8
    ∷ pair 4 5 ∷ pair 4 6 ∷ pair 4 7 ∷ pair 4 8
    ∷ pair 5 6 ∷ pair 5 7 ∷ pair 5 8
    ∷ pair 6 7 ∷ []

-- "harness h is bit h-1 of a lift byte"
abbrev pub lift_byte : Pair → ℕ
lift_byte p = 2 ^ (p.low - 1) + 2 ^ (p.high - 1)

-- "The board holds these 26 lifts as a fixed table."
abbrev pub fixed_lifts : List ℕ
fixed_lifts = map lift_byte pairs

-- Any table (document 02, 2.5: "A mill may load 26 lift bytes in place of the fixed table")

abbrev pub table_size : ℕ
table_size = 26

-- the lift of a letter A to Z
abbrev pub lift_in : (lifts : List ℕ) (letter : ℕ) → ℕ
lift_in lifts letter = get_or lifts (letter - first_letter) 0

-- "two picks are the same when their lifts are equal": a row of letters is read as its lifts
abbrev pub lifted_by : (lifts row : List ℕ) → List ℕ
lifted_by lifts row = map (lift_in lifts) row

-- whether "none of them 0"
abbrev pub none_zero : (lifts : List ℕ) → Bool
none_zero [] = true
none_zero (zero ∷ l) = false
none_zero (suc x ∷ l) = none_zero l

-- "the first one's place from 0"; the length where none is 0
abbrev pub first_zero : (lifts : List ℕ) → ℕ
first_zero [] = 0
first_zero (zero ∷ l) = 0
first_zero (suc x ∷ l) = suc (first_zero l)

-- the first 0 stands there
pub record FirstZero (lifts : List ℕ) (place : ℕ) : Type 0 where
  pub within : place < length lifts
  pub zero : get_or lifts place 0 ≡ 0
  pub before : (j : ℕ) → j < place → get_or lifts j 0 ≢ 0

-- no two letters lift alike
abbrev pub Distinct : (lifts : List ℕ) → Type 0
Distinct lifts = (x y : ℕ) → Letter x → Letter y → lift_in lifts x ≡ lift_in lifts y → x ≡ y

-- The fixed table is tested once over all entries: each lift has exactly two of the eight bits, and no two lifts are the same

abbrev pub bits_set : ℕ → ℕ
bits_set x = bit x 0 + bit x 1 + bit x 2 + bit x 3 + bit x 4 + bit x 5 + bit x 6 + bit x 7
