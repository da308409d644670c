-- Digits: a list's whole run of them, and the first of a run.
use Rattle.std.specs.Prelude.{◌≡◌, refl, Bool, true, false, List, [], ◌∷◌, ◌++◌, ℕ, zero, suc, ◌+◌, ◌≤◌, ◌<◌, length, get_or}
use Rattle.std.proofs.Common.{ap, arith}
use Rattle.std.proofs.Math.Decide.{dec_lt}
use Rattle.std.proofs.Math.ListN.{get_or-eq_default}
use Rattle.words.specs.Ranges.{between_true, true_between}
use Rattle.words.proofs.Cases.{true_false}
use Rattle.text.specs.Definitions.{digit_zero}
use Rattle.layout.specs.Layout.{Every, none as every-none, more as every_more, Digit}
use Rattle.layout.specs.Reading.{is_digit, number_at}

pub digit_true : (b : ℕ) → Digit b → is_digit b ≡ true
unfolding is_digit
digit_true b d = true_between d

pub true_digit : (b : ℕ) → is_digit b ≡ true → Digit b
unfolding is_digit
true_digit b e = between_true digit_zero (digit_zero + 9) b e

-- behind a list's end there is none
pub digit_inside : (bytes : List ℕ) (i : ℕ) → is_digit (get_or bytes i 0) ≡ true → i < length bytes
digit_inside bytes i e = elim (dec_lt i (length bytes)) [
  | yes l ↦ l
  | no l ↦ let m : length bytes ≤ i = omega arith in absurd (omega (arith, (true_digit 0 (rw (get_or-eq_default bytes 0 m) at e)).low))
]

-- the whole run of digits that a list begins with, and what follows it
pub record DigitRun (l : List ℕ) : Type 0 where
  pub digits : List ℕ
  pub rest : List ℕ
  pub is : l ≡ digits ++ rest
  pub all : Every Digit digits
  pub whole : Digit (get_or rest 0 0) → ⊥

pub digit_run : (l : List ℕ) → DigitRun l
digit_run [] = record { digits = []; rest = []; is = refl; all = every-none; whole = λ d. omega (arith, d.low) }
digit_run (b ∷ l) = go (is_digit b) refl (digit_run l)
  where
    go : (t : Bool) → is_digit b ≡ t → DigitRun l → DigitRun (b ∷ l)
    go true e r = record {
      digits = b ∷ r.digits;
      rest = r.rest;
      is = ap (λ x. b ∷ x) r.is;
      all = every_more (true_digit b e) r.all;
      whole = r.whole;
    }
    go false e r = record { digits = []; rest = b ∷ l; is = refl; all = every-none; whole = λ d. true_false (digit_true b d) e }

-- a place where no digit stands behind a digit is its own
pub number_apart : (bytes : List ℕ) (i : ℕ)
    → ((j : ℕ) → suc j ≡ i → is_digit (get_or bytes j 0) ≡ true → is_digit (get_or bytes i 0) ≡ true → ⊥)
    → number_at bytes i ≡ i
unfolding number_at
number_apart bytes zero f = refl
number_apart bytes (suc i) f = go (is_digit (get_or bytes i 0)) refl (is_digit (get_or bytes (suc i) 0)) refl
  where
    go : (a : Bool) → is_digit (get_or bytes i 0) ≡ a → (b : Bool) → is_digit (get_or bytes (suc i) 0) ≡ b → number_at bytes (suc i) ≡ suc i
    go false p b q = rw p
    go true p false q = rw (p, q)
    go true p true q = absurd (f i refl p q)
