-- Words of bits: each bit of a number made of bits, the union, and the move up by one bit.
use Rattle.std.specs.Prelude.{◌≡◌}
use Rattle.std.proofs.Math.Path.{refl, ap}
use Rattle.std.proofs.Common.{sym, ap₂, ◌∙◌, mod-eq_of_lt, mod-lt, pow_mono, pow_pos}
use mathlib.Core.List.{List, [], ◌∷◌}
use Prim.Native.Nat.{ℕ, zero, suc, ◌+◌, ◌-◌, ◌*◌, ◌/◌, ◌%◌, ◌^◌, max, ◌≤◌, ◌<◌}
use native.Mathlib.Omega.{arith}
use Rattle.std.proofs.Math.Nat.{div-div-eq-div-mul, pow-succ', mul-le-mul_right, div-eq_of_lt}
use Rattle.std.proofs.Math.Decide.{ℕ_discrete}
use Rattle.std.specs.Int.Bits.{bit_or, or_step}
use Rattle.std.proofs.lemmas.Nat.{or_block}
use Rattle.std.proofs.Math.Pow.{low, high, field, mod-mod-pow}
use Rattle.words.specs.Definitions.{bit}
use Rattle.words.specs.Computed.{bits, join_all, raised}

-- Union is associative

or_half : (a b : ℕ) → bit_or a b / 2 ≡ bit_or (a / 2) (b / 2)
or_half a b = omega (arith, or_step a b)

or_odd : (a b : ℕ) → bit_or a b % 2 ≡ max (a % 2) (b % 2)
or_odd a b = omega (arith, or_step a b)

or_assoc : (x a b c : ℕ) → a + b + c ≤ x → bit_or (bit_or a b) c ≡ bit_or a (bit_or b c)
or_assoc zero a b c h =
    let p : a ≡ 0 = omega arith in
    let q : b ≡ 0 = omega arith in
    let r : c ≡ 0 = omega arith in
    rw (p, q, r)
or_assoc (suc x) a b c h =
    let h' : bit_or (bit_or (a / 2) (b / 2)) (c / 2) ≡ bit_or (a / 2) (bit_or (b / 2) (c / 2)) = or_assoc x (a / 2) (b / 2) (c / 2) (omega arith) in
    let e : bit_or (bit_or a b / 2) (c / 2) ≡ bit_or (a / 2) (bit_or b c / 2) = rw (or_half a b, or_half b c) h' in
    omega (arith, or_step (bit_or a b) c, or_step a (bit_or b c), or_odd a b, or_odd b c)

pub union_assoc : (a b c : ℕ) → bit_or (bit_or a b) c ≡ bit_or a (bit_or b c)
union_assoc a b c = or_assoc (a + b + c) a b c (omega arith)

-- The bits of any word

bit_low : (x : ℕ) → bit x 0 ≡ x % 2
bit_low x = omega arith

bit_up : (x k : ℕ) → bit x (suc k) ≡ bit (x / 2) k
bit_up x k = ap (λ z. z % 2) (ap (λ z. x / z) (pow-succ' 2 k) ∙ sym (div-div-eq-div-mul x 2 (2 ^ k)))

-- a union has a bit where one of the two words has it
pub union_bit : (k a b : ℕ) → bit (bit_or a b) k ≡ max (bit a k) (bit b k)
union_bit zero a b = bit_low (bit_or a b) ∙ or_odd a b ∙ ap₂ max (sym (bit_low a)) (sym (bit_low b))
union_bit (suc k) a b =
    bit_up (bit_or a b) k ∙ ap (λ z. bit z k) (or_half a b) ∙ union_bit k (a / 2) (b / 2) ∙ ap₂ max (sym (bit_up a k)) (sym (bit_up b k))

-- words with the same bits are the same
bits_tell : (fuel x y : ℕ) → x + y ≤ fuel → ((k : ℕ) → bit x k ≡ bit y k) → x ≡ y
bits_tell zero x y h f = omega arith
bits_tell (suc fuel) x y h f = elim (ℕ_discrete (x + y) 0) [
  | yes z ↦ omega arith
  | no z ↦
      let half = bits_tell fuel (x / 2) (y / 2) (omega arith) (λ k. sym (bit_up x k) ∙ f (suc k) ∙ bit_up y k) in
      let odd : x % 2 ≡ y % 2 = sym (bit_low x) ∙ f 0 ∙ bit_low y in
      omega (arith, half, odd)
]

pub same_bits : (x y : ℕ) → ((k : ℕ) → bit x k ≡ bit y k) → x ≡ y
same_bits x y f = bits_tell (x + y) x y (omega arith) f

-- The number with bits f 0 to f (K - 1)

abbrev pub Bits : (ℕ → ℕ) → Type 0
Bits f = (k : ℕ) → f k ≤ 1

module _ {f : ℕ → ℕ} (small : Bits f) where
  pub bits_lt : (K : ℕ) → bits f K < 2 ^ K
  unfolding bits
  bits_lt zero = omega arith
  bits_lt (suc K) = rw (pow-succ' 2 K) (omega (arith, bits_lt K, mul-le-mul_right (2 ^ K) (small K)))

  bits_mod : (K : ℕ) → bits f (suc K) % 2 ^ K ≡ bits f K
  unfolding bits
  bits_mod K = let e : bits f K + f K * 2 ^ K ≡ f K * 2 ^ K + bits f K = omega arith in rw e (low (f K) K (bits_lt K))

  -- bits below the highest do not depend on it
  bits_below : (K k : ℕ) → k < K → bit (bits f (suc K)) k ≡ bit (bits f K) k
  bits_below K k h =
      let z : K ≡ (K - (1 + k)) + (1 + k) = omega arith in
      let m : bits f (suc K) % 2 ^ (1 + k) ≡ bits f K % 2 ^ (1 + k) =
      sym (mod-mod-pow (bits f (suc K)) (K - (1 + k)) (1 + k))
      ∙ rw (← z) (ap (λ x. x % 2 ^ (1 + k)) (bits_mod K)) in
      sym (field (bits f (suc K)) 1 k) ∙ ap (λ x. x / 2 ^ k) m ∙ field (bits f K) 1 k

  bits_top : (K : ℕ) → bit (bits f (suc K)) K ≡ f K
  unfolding bits
  bits_top K =
      let e : bits f K + f K * 2 ^ K ≡ f K * 2 ^ K + bits f K = omega arith in
      rw (e, high (f K) K (bits_lt K)) (mod-eq_of_lt (omega (arith, small K)))

  -- each bit is the one asked for, and none is above
  pub bits_at : (K k : ℕ) → k < K → bit (bits f K) k ≡ f k
  bits_at zero k h = absurd (omega arith)
  bits_at (suc K) k h = elim (ℕ_discrete k K) [
    | yes e ↦ rw e (bits_top K)
    | no g ↦ bits_below K k (omega arith) ∙ bits_at K k (omega arith)
  ]

  pub bits_past : (K k : ℕ) → K ≤ k → bit (bits f K) k ≡ 0
  bits_past K k h = let z : bits f K / 2 ^ k ≡ 0 = div-eq_of_lt (omega (arith, bits_lt K, pow_mono h)) in rw z

pub bits_as : {f g : ℕ → ℕ} (K : ℕ) → ((k : ℕ) → k < K → f k ≡ g k) → bits f K ≡ bits g K
unfolding bits
bits_as zero h = refl
bits_as (suc K) h = rw (h K (omega arith), bits_as K (λ k l. h k (omega arith)))

-- Union, bit by bit

or_bit : (a b : ℕ) → a ≤ 1 → b ≤ 1 → bit_or a b ≡ max a b
or_bit zero b h l = omega arith
or_bit (suc zero) zero h l = refl
or_bit (suc zero) (suc zero) h l = refl
or_bit (suc zero) (suc (suc b)) h l = absurd (omega arith)
or_bit (suc (suc a)) b h l = absurd (omega arith)

pub or_bits : {f g : ℕ → ℕ} → Bits f → Bits g → (K : ℕ) → bit_or (bits f K) (bits g K) ≡ bits (λ k. max (f k) (g k)) K
unfolding bits
or_bits b c zero = refl
or_bits {f} {g} b c (suc K) =
    let x : bits f K + f K * 2 ^ K ≡ f K * 2 ^ K + bits f K = omega arith in
    let y : bits g K + g K * 2 ^ K ≡ g K * 2 ^ K + bits g K = omega arith in
    ap₂ bit_or x y ∙ or_block K (f K) (g K) (bits f K) (bits g K) (bits_lt b K) (bits_lt c K)
    ∙ ap₂ (λ s t. s * 2 ^ K + t) (or_bit (f K) (g K) (b K) (c K)) (or_bits b c K) ∙ omega arith

-- a list of words joined: each bit is joined
module _ (b : ℕ → ℕ → ℕ) (small : (x : ℕ) → Bits (b x)) (K : ℕ) where
  all_small : (s : List ℕ) (c : ℕ → ℕ) → Bits c → Bits (λ k. join_all max (λ x. b x k) (c k) s)
  unfolding join_all
  all_small [] c h = h
  all_small (x ∷ s) c h = all_small s (λ k. max (c k) (b x k)) (λ k. omega (arith, h k, small x k))

  all_from : (s : List ℕ) (c : ℕ → ℕ) → Bits c → join_all bit_or (λ x. bits (b x) K) (bits c K) s ≡ bits (λ k. join_all max (λ x. b x k) (c k) s) K
  unfolding join_all
  all_from [] c h = refl
  all_from (x ∷ s) c h =
      ap (λ v. join_all bit_or (λ x. bits (b x) K) v s) (or_bits h (small x) K)
      ∙ all_from s (λ k. max (c k) (b x k)) (λ k. omega (arith, h k, small x k))

  bits_none : (K : ℕ) → bits (λ k. 0) K ≡ 0
  unfolding bits
  bits_none zero = refl
  bits_none (suc K) = omega (arith, bits_none K)

  pub joined_bits : (s : List ℕ) → join_all bit_or (λ x. bits (b x) K) 0 s ≡ bits (λ k. join_all max (λ x. b x k) 0 s) K
  joined_bits s = ap (λ z. join_all bit_or (λ x. bits (b x) K) z s) (sym (bits_none K)) ∙ all_from s (λ k. 0) (λ k. omega arith)

  pub joined_small : (s : List ℕ) → Bits (λ k. join_all max (λ x. b x k) 0 s)
  joined_small s = all_small s (λ k. 0) (λ k. omega arith)

-- Moved up one bit, bits above K dropped

pub raised_lt : (K x : ℕ) → raised K x < 2 ^ suc K
raised_lt K x = omega (arith, mod-lt (x * 2) (pow_pos (suc K)))

abbrev pub up : (ℕ → ℕ) → ℕ → ℕ
up f zero = 0
up f (suc k) = f k

up_twice : (f : ℕ → ℕ) (K : ℕ) → bits (up f) (suc K) ≡ 2 * bits f K
unfolding bits
up_twice f zero = omega arith
up_twice f (suc K) = rw (up_twice f K, pow-succ' 2 K) (omega arith)

pub raised_bits : {f : ℕ → ℕ} → Bits f → (K : ℕ) → raised K (bits f (suc K)) ≡ bits (up f) (suc K)
unfolding bits
raised_bits {f} b K =
    let e : (bits f K + f K * 2 ^ K) * 2 ≡ f K * 2 ^ suc K + 2 * bits f K = rw (pow-succ' 2 K) (omega arith) in
    let l : 2 * bits f K < 2 ^ suc K = rw (pow-succ' 2 K) (omega (arith, bits_lt b K)) in
    rw e (low (f K) (suc K) l ∙ sym (up_twice f K))
