-- The laws of the executable forms, in the order of Computed.antt: each means what Definitions.antt says.
use Rattle.std.specs.Prelude.{◌≡◌, ◌↔◌, ℕ, zero, suc, ◌+◌, ◌-◌, ◌*◌, ◌/◌, ◌%◌, ◌^◌, ◌≤◌, ◌<◌}
use Rattle.std.proofs.Math.Path.{refl, ap}
use Rattle.std.proofs.Common.{sym, ◌∙◌, arith}
use Rattle.std.proofs.Math.Option.{Option, some, none}
use Rattle.std.proofs.Math.Nat.{div-div-eq-div-mul, pow-succ'}
use Rattle.std.proofs.Math.Decide.{dec_lt, ℕ_discrete}
use Rattle.words.specs.Definitions.{prefix, Joined, LeastPeriod, Ending, LongestEnding, NextEnding, Mirrored, LongestAt, centre, length_at, radius, Leading, LeadsFrom, LastLead, Visits, bit}
use Rattle.words.specs.Search.{both?, largest, largest_is, smallest_is, passing_is}
use Rattle.words.specs.Mirror.{empty_ending, single_ending, ending?, mirrored?}
use Rattle.words.specs.Periods.{whole_period, period?}
use Rattle.words.specs.Computed.{leading?, leads_from?, least_period, longest, longest_centre, moved, next_ending, NextShorter, shorter_after, next_after, radius_at, visits, splits, bits, row_word, mask}
use Rattle.words.proofs.Splits.{given, lacking, split_law, joined_split, split_joined, cut, no_picks, splits_one, splits_zero, splits_small}
use Rattle.words.proofs.Bits.{bits_at, bits_past, bits_lt}

module _ {w : ℕ → ℕ} {n : ℕ} where
  -- every stretch that is not empty has a least period
  pub least_period_lem : (len : ℕ) → 0 < len → len ≤ n → LeastPeriod w n len (least_period w n len)
  unfolding least_period
  least_period_lem len h l = smallest_is (period? w n len) 1 len len (whole_period l h) (omega arith) (λ q b. omega (arith, b.pos))

module _ (w : ℕ → ℕ) (n : ℕ) where
  pub longest_is : LongestEnding w n (longest w n)
  unfolding longest
  longest_is = largest_is (ending? w n) (suc n) 0 (empty_ending w n) (omega arith)

  -- "The longest ending has centre 2n - L + 1, and centre 1 when n = 0"
  pub longest_centre_lem : longest_centre w n ≡ 2 * n - longest w n + 1
  unfolding longest_centre
  longest_centre_lem = omega (arith, longest_is.below)

  -- the longest ending's centre has moved 2n - L half picks
  pub moved_is : moved w n ≡ 2 * n - longest w n
  unfolding moved
  moved_is = omega (arith, longest_centre_lem)

  pub next_ending_lem : (len : ℕ) → 0 < len → NextEnding w n len (next_ending w n len)
  unfolding next_ending
  next_ending_lem len h = largest_is (ending? w n) len 0 (empty_ending w n) h

  -- what `next_after` gives: what is told of the ending that is not empty and has the centre c, or none where there is none
  pub data NextAfter (c : ℕ) (o : Option NextShorter) : Type 0 where
    there : (len : ℕ) → o ≡ some (shorter_after w n len) → 0 < len → Ending w n len → centre n len ≡ c → NextAfter c o
    nowhere : o ≡ none → ((len : ℕ) → 0 < len → Ending w n len → centre n len ≡ c → ⊥) → NextAfter c o

  pub next_law : (c : ℕ) → NextAfter c (next_after w n c)
  unfolding next_after
  next_law c = go (both? (dec_lt 0 (length_at n c)) (ending? w n (length_at n c))) refl
    where
      go : (d : Dec ((0 < length_at n c) × Ending w n (length_at n c))) → both? (dec_lt 0 (length_at n c)) (ending? w n (length_at n c)) ≡ d
          → NextAfter c (next_after w n c)
      go (yes a) q = there (length_at n c) (rw (q, next_after)) a.0 a.1 (omega (arith, a.0, a.1.fits))
      go (no f) q = nowhere (rw (q, next_after)) (λ len x y z. let e : length_at n c ≡ len = omega (arith, y.fits) in f (rw e (x, y)))

  -- after an ending that is not empty comes the next shorter one; "the one-pick ending leads to the empty one"
  pub next_after_lem : (c len : ℕ) → 0 < len → Ending w n len → centre n len ≡ c → next_after w n c ≡ some (shorter_after w n len)
  next_after_lem c len l h e = elim (next_law c) [
    | there k q x y z ↦ q ∙ ap (λ x. some (shorter_after w n x)) (omega (arith, y.fits, h.fits))
    | nowhere q f ↦ absurd (f len l h e)
  ]

  -- "a centre from 1 to 2n+1": there is a mirrored stretch, of one pick or of none
  at_centre : (c : ℕ) → 0 < c → c ≤ 2 * n + 1 → (len : ℕ) × (len ≤ n) × Mirrored w n c len
  at_centre c h l = elim (ℕ_discrete (c % 2) 0) [
    | yes e ↦ (1, omega arith, record { end = c / 2; within = omega arith; is = single_ending w (c / 2) (omega arith); at = omega arith })
    | no e ↦ (0, omega arith, record { end = c / 2; within = omega arith; is = empty_ending w (c / 2); at = omega arith })
  ]

  pub radius_at_lem : (c : ℕ) → 0 < c → c ≤ 2 * n + 1 → (len : ℕ) × LongestAt w n c len × (radius_at w n c ≡ radius len)
  unfolding radius_at
  radius_at_lem c h l =
      let m = at_centre c h l in
      (largest (mirrored? w n c) (suc n), largest_is (mirrored? w n c) (suc n) m.0 m.2 (omega (arith, m.1)), refl)

  -- "A stretch on an even centre has length 2 × radius + 1, on an odd centre 2 × radius"
  pub even_length : {c len : ℕ} → Mirrored w n c len → c % 2 ≡ 0 → len ≡ 2 * radius len + 1
  even_length m h = omega (arith, m.at, m.is.fits)

  pub odd_length : {c len : ℕ} → Mirrored w n c len → c % 2 ≡ 1 → len ≡ 2 * radius len
  odd_length m h = omega (arith, m.at, m.is.fits)

  pub visits_are : Visits w n (visits w n)
  unfolding visits
  visits_are = let h = passing_is (leading? w n) n in record {
    each = λ len. (λ x. let r = h.only len x in (r.0, r.2), λ x. h.all len x.0 x.1.is.fits x.1);
    falling = h.falling;
  }

-- The split named: Splits.split_law

-- Row words and masks

module _ (K : ℕ) (w : ℕ → ℕ) (n : ℕ) where
  pub row_lt : row_word K w n < 2 ^ suc K
  unfolding row_word
  row_lt = omega (arith, bits_lt (splits_small w n) (suc K))

  pub row_at : (k : ℕ) → k ≤ K → bit (row_word K w n) k ≡ splits w n k
  unfolding row_word
  row_at k h = bits_at (splits_small w n) (suc K) k (omega arith)

  -- bit k is set exactly when the prefix is k non-empty palindromes joined, k from 0 to K
  pub row_bit : (k : ℕ) → k ≤ K → (bit (row_word K w n) k ≡ 1) ↔ Joined k (prefix w n)
  row_bit k h = (
    λ e. elim (split_law w k n) [ given s q m ↦ split_joined k n m.is | lacking q f ↦ absurd (omega (arith, row_at k h, splits_zero w n k f)) ],
    λ j. row_at k h ∙ splits_one w n k (joined_split {w = w} j n refl).1,
  )

  -- no bit above K is set
  pub row_past : (k : ℕ) → K < k → bit (row_word K w n) k ≡ 0
  unfolding row_word
  row_past k h = bits_past (splits_small w n) (suc K) k h

  -- "Mask bit k-1 is row bit k"
  pub mask_bit : (k : ℕ) → bit (mask K w n) k ≡ bit (row_word K w n) (suc k)
  unfolding mask
  mask_bit k = ap (λ x. x % 2) (div-div-eq-div-mul (row_word K w n) 2 (2 ^ k) ∙ ap (λ x. row_word K w n / x) (sym (pow-succ' 2 k)))

-- "bit 0 is set for prefix 0 alone"
pub row_empty : (K : ℕ) (w : ℕ → ℕ) → row_word K w 0 ≡ 1
unfolding row_word bits
row_empty zero w = omega (arith, splits_one w 0 0 no_picks)
row_empty (suc K) w = omega (arith, row_empty K w, splits_zero w 0 (suc K) (λ ends h. omega (arith, (cut h).last.some)))

-- Gathered values: Proposition3.gathered_is; here the stretch by which a place gathers

-- the empty ending leads, so at its own end a place has a stretch that does
pub empty_leads : (w : ℕ → ℕ) (n : ℕ) → Leading w n 0
empty_leads w n = record { is = empty_ending w n; leads = λ k p e l q. omega (arith, q.pos) }

pub leads_own : (w : ℕ → ℕ) (i : ℕ) → LeadsFrom w i i
leads_own w i = let z : i - i ≡ 0 = omega arith in record { from = omega arith; is = rw z (empty_leads w i) }

pub last_lead : (w : ℕ → ℕ) (n i : ℕ) → i ≤ n → LastLead w n i (largest (leads_from? w i) (suc n))
last_lead w n i h = largest_is (leads_from? w i) (suc n) i (leads_own w i) (omega arith)
