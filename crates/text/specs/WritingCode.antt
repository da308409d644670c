-- How the writers go their way: one step of each loop and its end. What the code computed are variables here, each tied by an equation.
use Rattle.std.specs.Prelude.{◌≡◌, refl, List, ℕ, zero, suc, ◌+◌, ◌-◌, ◌/◌, ◌%◌, ◌≤◌, ◌<◌, length, set}
use Rattle.std.proofs.Common.{ap₂, ◌∙◌, add-zero, le_refl, arith, take_all}
use Rattle.std.proofs.Math.Decide.{dec_lt}
use Rattle.std.proofs.Math.Nat.{sub-zero}
use Rattle.std.proofs.lemmas.List.Edits.{sets}
use Rattle.words.specs.Definitions.{word, stretch}
use Rattle.words.specs.Mirror.{prefix_take}
use Rattle.text.specs.Definitions.{digit_zero, decimal}
use Rattle.text.specs.Decimal.{decimal_digit, decimal_more, length_digit_lem, length_more, length_some}
use Rattle.text.specs.Writes.{sets_last}

-- Bytes: j of them are stored, k are left

pub bytes_begin : (w : ℕ → ℕ) (l : List ℕ) (a place k : ℕ) → sets l (place + 0) (stretch w (a + 0) (k - 0)) ≡ sets l place (stretch w a k)
bytes_begin w l a place k = simp (add-zero, sub-zero)

pub bytes_on : (w : ℕ → ℕ) (l l' : List ℕ) (a place j k rest byte : ℕ) → k ≡ suc rest → byte ≡ w (a + j) → l' ≡ set l (place + j) byte
    → sets l' (place + (j + 1)) (stretch w (a + (j + 1)) rest) ≡ sets l (place + j) (stretch w (a + j) k)
bytes_on w l l' a place j k rest byte e f g =
    rw (g, f, e) (ap₂ (λ x y. sets (set l (place + j) (w (a + j))) x (stretch w y rest)) (omega arith) (omega arith))

pub bytes_end : (w : ℕ → ℕ) (l : List ℕ) (a place k : ℕ) → k ≤ 0 → sets l place (stretch w a k) ≡ l
bytes_end w l a place zero h = refl
bytes_end w l a place (suc k) h = absurd (omega arith)

-- a list is the stretch of all of it
pub bytes_all : (bytes : List ℕ) → stretch (word bytes) 0 (length bytes) ≡ bytes
bytes_all bytes = prefix_take bytes (length bytes) (le_refl (length bytes)) ∙ take_all (length bytes) bytes (le_refl (length bytes))

-- Digits: those of n are left, and d is the last of them

module _ (l l' : List ℕ) (place last n d : ℕ) (ends : last + 1 ≡ place + length (decimal n)) (stored : l' ≡ set l last d) where
  pub digits_on : 10 ≤ n → d ≡ digit_zero + n % 10 → sets l' place (decimal (n / 10)) ≡ sets l place (decimal n)
  digits_on h e =
      let at : last ≡ place + length (decimal (n / 10)) = omega (arith, ends, length_more n h) in
      rw (stored, e, at, decimal_more n h) (sets_last l place (decimal (n / 10)) (digit_zero + n % 10))

  pub digits_end : n < 10 → d ≡ digit_zero + n → l' ≡ sets l place (decimal n)
  digits_end h e =
      let at : last ≡ place = omega (arith, ends, length_digit_lem n h) in
      rw (stored, e, at, decimal_digit n h)

-- the digits of `left` are still to be stored, the last of them right before `last`; or none is, and those of n are
pub record Left (l₀ l : List ℕ) (place last n left : ℕ) : Type 0 where
  pub some : place < last → (last ≡ place + length (decimal left)) × (sets l place (decimal left) ≡ sets l₀ place (decimal n))
  pub none : last ≤ place → l ≡ sets l₀ place (decimal n)

pub digits_begin : (l : List ℕ) (place next n : ℕ) → next ≡ place + length (decimal n) → Left l l place next n n
digits_begin l place next n e = record { some = λ h. (e, refl); none = λ h. absurd (omega (arith, length_some n)) }

pub digits_turn : (l₀ l l' : List ℕ) (place last n left d : ℕ) → place < last → Left l₀ l place last n left → l' ≡ set l (last - 1) d
    → d ≡ digit_zero + left % 10 → Left l₀ l' place (last - 1) n (left / 10)
digits_turn l₀ l l' place last n left d h k e f = elim (dec_lt left 10) [
  | yes x ↦ record {
    some = λ m. absurd (omega (arith, q.0, length_digit_lem left x));
    none = λ m. digits_end l l' place (last - 1) left d ends e x (f ∙ omega arith) ∙ q.1;
  }
  | no x ↦ record {
    some = λ m. (omega (arith, q.0, length_more left (omega arith)), digits_on l l' place (last - 1) left d ends e (omega arith) f ∙ q.1);
    none = λ m. absurd (omega (arith, q.0, length_more left (omega arith), length_some (left / 10)));
  }
]
  where
    q : (last ≡ place + length (decimal left)) × (sets l place (decimal left) ≡ sets l₀ place (decimal n))
    q = k.some h

    ends : last - 1 + 1 ≡ place + length (decimal left)
    ends = omega (arith, q.0)

-- there is a place before the last digit of several
pub digits_before : (place last n : ℕ) → last + 1 ≡ place + length (decimal n) → 10 ≤ n
    → (0 < last) × (last - 1 + 1 ≡ place + length (decimal (n / 10)))
digits_before place last n e h = omega (arith, length_more n h, length_some (n / 10))
