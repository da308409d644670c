-- Laws of `decimal`: its digits one by one, what they say, and how many they are.
use Rattle.std.specs.Prelude.{◌≡◌, refl, ◌≢◌, List, [], ◌∷◌, ◌++◌, ℕ, zero, suc, ◌+◌, ◌-◌, ◌*◌, ◌/◌, ◌%◌, ◌^◌, ◌≤◌, ◌<◌, max, length, get_or}
use Rattle.std.proofs.Common.{sym, ap, ◌∙◌, arith, length-append, lt-ltb, le-ltb}
use Rattle.std.proofs.Math.Decide.{dec_lt}
use Rattle.std.proofs.Math.Nat.{pow-succ'}
use Rattle.std.proofs.Math.ListN.{get_or-append}
use Rattle.std.proofs.lemmas.List.{get_or_at}
use Rattle.text.specs.Definitions.{digit_zero, digits, decimal}

-- The bound on the digits makes no difference where it is above the number.

digits_digit : (most n : ℕ) → n < 10 → digits (suc most) n ≡ (digit_zero + n) ∷ []
unfolding digits
digits_digit most n h = simp (lt-ltb n 10 h)

digits_more : (most n : ℕ) → 10 ≤ n → digits (suc most) n ≡ digits most (n / 10) ++ (digit_zero + n % 10) ∷ []
unfolding digits
digits_more most n h = simp (le-ltb n 10 h)

digits_any : (a b n : ℕ) → n < a → n < b → digits a n ≡ digits b n
digits_any zero b n h k = absurd (omega arith)
digits_any (suc a) zero n h k = absurd (omega arith)
digits_any (suc a) (suc b) n h k = elim (dec_lt n 10) [
  | yes x ↦ digits_digit a n x ∙ sym (digits_digit b n x)
  | no x ↦ digits_more a n (omega arith)
      ∙ ap (λ ds. ds ++ (digit_zero + n % 10) ∷ []) (digits_any a b (n / 10) (omega arith) (omega arith))
      ∙ sym (digits_more b n (omega arith))
]

-- a number below 10 is its digit, any other the decimal of its tenth and its last digit

pub decimal_digit : (n : ℕ) → n < 10 → decimal n ≡ (digit_zero + n) ∷ []
unfolding decimal
decimal_digit n h = digits_digit n n h

pub decimal_more : (n : ℕ) → 10 ≤ n → decimal n ≡ decimal (n / 10) ++ (digit_zero + n % 10) ∷ []
unfolding decimal
decimal_more n h =
    digits_more n n h ∙ ap (λ ds. ds ++ (digit_zero + n % 10) ∷ []) (digits_any n (suc (n / 10)) (n / 10) (omega arith) (omega arith))

-- what holds of the single digits, and of a number if of its tenth, holds of all
pub by_digits : (P : ℕ → List ℕ → Type 0) → ((n : ℕ) → n < 10 → P n ((digit_zero + n) ∷ []))
    → ((n : ℕ) (ds : List ℕ) → 10 ≤ n → P (n / 10) ds → P n (ds ++ (digit_zero + n % 10) ∷ [])) → (n : ℕ) → P n (decimal n)
by_digits P one more n = go (suc n) n (omega arith)
  where
    go : (k n : ℕ) → n < k → P n (decimal n)
    go zero n h = absurd (omega arith)
    go (suc k) n h = elim (dec_lt n 10) [
      | yes x ↦ rw (decimal_digit n x) (one n x)
      | no x ↦ rw (decimal_more n (omega arith)) (more n (decimal (n / 10)) (omega arith) (go k (n / 10) (omega arith)))
    ]

-- What the digits say: read from the first on, each byte less that of the digit 0

abbrev pub value_from : ℕ → List ℕ → ℕ
value_from v [] = v
value_from v (d ∷ ds) = value_from (10 * v + (d - digit_zero)) ds

abbrev pub value : List ℕ → ℕ
value ds = value_from 0 ds

value_last : (v : ℕ) (ds : List ℕ) (d : ℕ) → value_from v (ds ++ d ∷ []) ≡ 10 * value_from v ds + (d - digit_zero)
value_last v [] d = refl
value_last v (x ∷ ds) d = value_last (10 * v + (x - digit_zero)) ds d

pub decimal_value : (n : ℕ) → value (decimal n) ≡ n
decimal_value =
    by_digits (λ n ds. value ds ≡ n) (λ n h. omega arith) (λ n ds h e. value_last 0 ds (digit_zero + n % 10) ∙ omega (arith, e))

-- "without leading zeros": only the decimal of 0 begins with the digit 0
pub decimal_plain : (n : ℕ) → n ≢ 0 → get_or (decimal n) 0 0 ≢ digit_zero
decimal_plain n =
    (by_digits (λ n ds. (0 < length ds) × (n ≢ 0 → get_or ds 0 0 ≢ digit_zero)) (λ n h. (omega arith, λ f. omega arith))
    (λ n ds h p. (
      omega (arith, p.0, length-append ds ((digit_zero + n % 10) ∷ [])),
      λ f e. p.1 (omega arith) (sym (get_or-append ds ((digit_zero + n % 10) ∷ []) 0 0 p.0) ∙ e),
    )) n).1

-- each byte is a digit
pub decimal_digits : (n i : ℕ) → i < length (decimal n) → (digit_zero ≤ get_or (decimal n) i 0) × (get_or (decimal n) i 0 ≤ digit_zero + 9)
decimal_digits n i =
    by_digits (λ n ds. (i : ℕ) → i < length ds → (digit_zero ≤ get_or ds i 0) × (get_or ds i 0 ≤ digit_zero + 9))
    first more n i
  where
    first : (n : ℕ) → n < 10 → (i : ℕ) → i < 1 → (digit_zero ≤ get_or ((digit_zero + n) ∷ []) i 0) × (get_or ((digit_zero + n) ∷ []) i 0 ≤ digit_zero + 9)
    first n h zero l = omega arith
    first n h (suc i) l = absurd (omega arith)

    more : (n : ℕ) (ds : List ℕ) → 10 ≤ n → ((i : ℕ) → i < length ds → (digit_zero ≤ get_or ds i 0) × (get_or ds i 0 ≤ digit_zero + 9))
        → (i : ℕ) → i < length (ds ++ (digit_zero + n % 10) ∷ [])
        → (digit_zero ≤ get_or (ds ++ (digit_zero + n % 10) ∷ []) i 0) × (get_or (ds ++ (digit_zero + n % 10) ∷ []) i 0 ≤ digit_zero + 9)
    more n ds h p i l = elim (dec_lt i (length ds)) [
      | yes x ↦ rw (get_or-append ds ((digit_zero + n % 10) ∷ []) 0 i x) (p i x)
      | no x ↦ rw (get_or_at ds (digit_zero + n % 10) [] 0 i (omega (arith, length-append ds ((digit_zero + n % 10) ∷ [])))) (omega arith)
    ]

-- How many they are

pub length_digit_lem : (n : ℕ) → n < 10 → length (decimal n) ≡ 1
length_digit_lem n h = ap length (decimal_digit n h)

pub length_more : (n : ℕ) → 10 ≤ n → length (decimal n) ≡ length (decimal (n / 10)) + 1
length_more n h = ap length (decimal_more n h) ∙ length-append (decimal (n / 10)) ((digit_zero + n % 10) ∷ [])

length_within : (k n : ℕ) → n < 10 ^ suc k → length (decimal n) ≤ suc k
length_within zero n h = omega (arith, length_digit_lem n h)
length_within (suc k) n h = elim (dec_lt n 10) [
  | yes x ↦ omega (arith, length_digit_lem n x)
  | no x ↦ omega (arith, length_more n (omega arith), length_within k (n / 10) (omega arith))
]

pub length_some : (n : ℕ) → 0 < length (decimal n)
length_some n = elim (dec_lt n 10) [
  | yes x ↦ omega (arith, length_digit_lem n x)
  | no x ↦ omega (arith, length_more n (omega arith))
]

power_above : (k : ℕ) → suc k ≤ 10 ^ k
power_above zero = omega arith
power_above (suc k) = omega (arith, power_above k)

length_above : (k n : ℕ) → 10 ^ k ≤ n → suc k ≤ length (decimal n)
length_above zero n h = length_some n
length_above (suc k) n h = omega (arith, length_more n (omega (arith, power_above k)), length_above k (n / 10) (omega arith))

-- one more than its logarithm; 0 has as many as 1
pub length_power : (n k : ℕ) → 10 ^ k ≤ max n 1 → max n 1 < 10 * 10 ^ k → length (decimal n) ≡ k + 1
length_power n k h l = elim (dec_lt n 1) [
  | yes x ↦ omega (arith, length_digit_lem n (omega arith), power_above k)
  | no x ↦ let z : n < 10 ^ suc k = rw (pow-succ' 10 k) (omega arith) in omega (arith, length_above k n (omega arith), length_within k n z)
]

-- a number of 64 bits has at most twenty
abbrev pub most_digits : ℕ
most_digits = 20

pub length_small : (n : ℕ) → n < 2 ^ 64 → length (decimal n) ≤ most_digits
length_small n h = length_within 19 n (omega arith)
