-- Lemma 11: a prefix has few leading endings (the paper, Section 4).
use Rattle.std.specs.Prelude.{◌≡◌, refl, ℕ, zero, suc, ◌+◌, ◌*◌, ◌-◌, ◌^◌, ◌≤◌, ◌<◌, length}
use mathlib.Core.List.{List, [], ◌∷◌, Memᴰ}
use Rattle.std.proofs.Common.{arith, mul-le-mul_right}
use Rattle.std.proofs.Math.Nat.{pow-succ'}
use Rattle.std.proofs.Math.Decide.{dec_le}
use Rattle.words.specs.Definitions.{most_picks, most_visits, Leading, Falling, above, Visits}
use Rattle.words.specs.Search.{passing}
use Rattle.words.specs.Mirror.{single_ending}
use Rattle.words.specs.Computed.{least_period, visits}
use Rattle.words.proofs.Laws.{least_period_lem, visits_are}
use Rattle.words.proofs.Lengths.{next_third}
use Rattle.words.proofs.Series.{next_is, period_fits}

-- each entry is less than two thirds of the one before
pub data Shrinking : List ℕ → Type 0 where
  one : {a : ℕ} → 0 < a → Shrinking (a ∷ [])
  next : {a b : ℕ} {s : List ℕ} → 3 * b < 2 * a → Shrinking (b ∷ s) → Shrinking (a ∷ b ∷ s)

pub few : (a : ℕ) (s : List ℕ) → Shrinking (a ∷ s) → 3 ^ length s ≤ a * 2 ^ length s
few a [] (one h) = omega arith
few a (b ∷ s) (next l h) = rw (pow-succ' 2 (length s), pow-succ' 3 (length s)) (omega (arith, few b s h, mul-le-mul_right (2 ^ length s) l))

module _ {w : ℕ → ℕ} {n : ℕ} where
  pub leading_third : {len k : ℕ} → Leading w n len → Leading w n k → k < len → 3 * k < 2 * len
  leading_third {len} {k} a b l =
      let some : 0 < len = omega arith in
      let p = least_period_lem {w = w} {n = n} len some a.is.fits in
      omega (arith, (next_is a p some).most k b l, next_third len (least_period w n len) p.is.pos (period_fits a p some))

  shrinking : (a : ℕ) (s : List ℕ) → ((len : ℕ) → Memᴰ len (a ∷ s) → (0 < len) × Leading w n len) → Falling (a ∷ s) → Shrinking (a ∷ s)
  shrinking a [] f q = one (f a (Memᴰ.head refl)).0
  shrinking a (b ∷ s) f (above g q) =
      let here = f a (Memᴰ.head refl) in
      let after = f b (Memᴰ.tail (Memᴰ.head refl)) in
      next (leading_third here.1 after.1 (g b (Memᴰ.head refl))) (shrinking b s (λ len x. f len (Memᴰ.tail x)) q)

  -- LEMMA 11: c visits at length n
  pub few_visits : {vs : List ℕ} → Visits w n vs → 0 < n → 3 ^ (length vs - 1) ≤ n * 2 ^ (length vs - 1)
  few_visits {vs} h l = go vs h
    where
      go : (vs : List ℕ) → Visits w n vs → 3 ^ (length vs - 1) ≤ n * 2 ^ (length vs - 1)
      go [] h = omega arith
      go (a ∷ s) h =
          let f : (len : ℕ) → Memᴰ len (a ∷ s) → (0 < len) × Leading w n len = λ len. (h.each len).0 in
          let e : suc (length s) - 1 ≡ length s = omega arith in
          rw e (omega (arith, few a s (shrinking a s f h.falling), mul-le-mul_right (2 ^ length s) (f a (Memᴰ.head refl)).1.is.fits))

-- at most 19 numbers have that
past_nineteen : (c : ℕ) → 2048 * 2 ^ (19 + c) < 3 ^ (19 + c)
past_nineteen zero = omega arith
past_nineteen (suc c) =
    let z : 19 + suc c ≡ suc (19 + c) = omega arith in
    rw z (rw (pow-succ' 2 (19 + c), pow-succ' 3 (19 + c)) (omega (arith, past_nineteen c)))

pub nineteen : (c m : ℕ) → m ≤ most_picks → 3 ^ (c - 1) ≤ m * 2 ^ (c - 1) → c ≤ most_visits
nineteen c m h l = elim (dec_le c 19) [
  | yes y ↦ y
  | no y ↦
      let z : c - 1 ≡ 19 + (c - 20) = omega arith in
      absurd (omega (arith, past_nineteen (c - 20), rw z at l, mul-le-mul_right (2 ^ (19 + (c - 20))) h))
]

pub visits_nineteen : (w : ℕ → ℕ) (n : ℕ) → n ≤ most_picks → length (visits w n) ≤ most_visits
unfolding visits passing
visits_nineteen w zero h = omega arith
visits_nineteen w (suc m) h = nineteen _ (suc m) h (few_visits (visits_are w (suc m)) (omega arith))

-- a pick has a visit: its one-pick ending leads
pub visits_some : (w : ℕ → ℕ) (n : ℕ) → 0 < n → 0 < length (visits w n)
visits_some w n h =
    let one : Leading w n 1 = record { is = single_ending w n h; leads = λ k p e l q. omega (arith, q.pos) } in
    some_entry (((visits_are w n).each 1).1 (omega arith, one))
  where
    some_entry : {x : ℕ} {s : List ℕ} → Memᴰ x s → 0 < length s
    some_entry (Memᴰ.head e) = omega arith
    some_entry (Memᴰ.tail m) = omega arith
