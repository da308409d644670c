-- Two words with equal letters at the same places: what is said of palindromes in the one is said of them in the other.
use mathlib.Core.Path.{◌≡◌, sym, ap, ap₂, ◌∙◌}
use mathlib.Core.List.{List}
use mathlib.Core.Option.{some, none}
use Prim.Native.Nat.{ℕ, suc, ◌+◌, ◌-◌, ◌/◌, ◌≤◌, ◌<◌}
use native.Mathlib.Omega.{arith}
use Rattle.words.specs.Definitions.{centre, radius, Ending, Mirrored, Period, LeastPeriod, Leading, Sections, done, next, Split, Named}
use Rattle.words.specs.Search.{smallest_one, largest_as, passing_as}
use Rattle.words.specs.Mirror.{mirror, ending, ending?, mirrored?, section_ending, ending_section}
use Rattle.words.proofs.Bits.{bits_as}
use Rattle.words.specs.Computed.{leading?, least_period, longest, longest_centre, next_ending, shorter_after, next_after, radius_at, visits, split_of, splits, row_word}
use Rattle.words.specs.Computed.{mask as mask_of}
use Rattle.words.proofs.Laws.{least_period_lem, NextAfter, there, nowhere, next_law, next_after_lem}
use Rattle.words.proofs.Splits.{Splitting, given, lacking, split_law, named_one}

-- where two of the first n letters of w are equal, so are those of v
abbrev pub Like : (w v : ℕ → ℕ) (n : ℕ) → Type 0
Like w v n = (i j : ℕ) → i < n → j < n → w i ≡ w j → v i ≡ v j

module _ {w v : ℕ → ℕ} {n : ℕ} (f : Like w v n) where
  ending_like : {m len : ℕ} → m ≤ n → Ending w m len → Ending v m len
  ending_like l h = ending h.fits (λ i j c. f i j (omega arith) (omega arith) (mirror h i j c))

  mirrored_like : {m c len : ℕ} → m ≤ n → Mirrored w m c len → Mirrored v m c len
  mirrored_like l h = record { end = h.end; within = h.within; is = ending_like (omega (arith, h.within)) h.is; at = h.at }

  period_like : {m len p : ℕ} → m ≤ n → Period w m len p → Period v m len p
  period_like l h =
      record { fits = h.fits; pos = h.pos; same = λ i j c. f i j (omega (arith, h.pos)) (omega arith) (h.same i j c) }

  sections_like : {m a : ℕ} {ends : List ℕ} → m ≤ n → Sections w m a ends → (a ≤ m) × Sections v m a ends
  sections_like l done = (omega arith, done)
  sections_like l (next {a = a} {e = e} s t) =
      let r = sections_like l t in
      let x : a + (e - a) ≡ e = omega (arith, s.some) in
      (omega (arith, s.some, r.0), next (ending_section x (omega (arith, s.some)) (ending_like (omega (arith, r.0)) (section_ending x s))) r.1)

  split_like : {m k : ℕ} {ends : List ℕ} → m ≤ n → Split w m k ends → Split v m k ends
  split_like l h = record { is = (sections_like l h.is).1; count = h.count }

module _ {w v : ℕ → ℕ} {n : ℕ} (f : Like w v n) (g : Like v w n) where
  least_like : {m len p : ℕ} → m ≤ n → LeastPeriod w m len p → LeastPeriod v m len p
  least_like l h = record { is = period_like f l h.is; least = λ q b. h.least q (period_like g l b) }

  leading_like : {m len : ℕ} → m ≤ n → Leading w m len → Leading v m len
  leading_like l h = record {
    is = ending_like f l h.is;
    leads = λ k p e a b. h.leads k p (ending_like g l e) a (period_like g l b);
  }

  named_like : {m k : ℕ} {ends : List ℕ} → m ≤ n → Named w m k ends → Named v m k ends
  named_like l h = record { is = split_like f l h.is; first = λ t b e. h.first t (split_like g l b) e }

-- the executable forms are equal

module _ {w v : ℕ → ℕ} {n : ℕ} (f : Like w v n) (g : Like v w n) where
  pub visits_like : (m : ℕ) → m ≤ n → visits w m ≡ visits v m
  unfolding visits
  visits_like m l = passing_as (leading? w m) (leading? v m) m (λ x h. (leading_like f g l, leading_like g f l))

  pub longest_like : (m : ℕ) → m ≤ n → longest_centre w m ≡ longest_centre v m
  unfolding longest_centre longest
  longest_like m l = ap (centre m) (largest_as (ending? w m) (ending? v m) (suc m) (λ x h. (ending_like f l, ending_like g l)))

  pub radius_like : (m c : ℕ) → m ≤ n → radius_at w m c ≡ radius_at v m c
  unfolding radius_at
  radius_like m c l = ap radius (largest_as (mirrored? w m c) (mirrored? v m c) (suc m) (λ x h. (mirrored_like f l, mirrored_like g l)))

  shorter_like : (m len : ℕ) → m ≤ n → 0 < len → len ≤ m → shorter_after w m len ≡ shorter_after v m len
  unfolding shorter_after next_ending
  shorter_like m len l p h =
      let a : LeastPeriod v m len (least_period w m len) = least_like f g l (least_period_lem {w = w} {n = m} len p h) in
      ap₂ (λ c q. record { centre = c; length = len; period = q })
      (ap (centre m) (largest_as (ending? w m) (ending? v m) len (λ x b. (ending_like f l, ending_like g l))))
      (smallest_one a (least_period_lem {w = v} {n = m} len p h))

  pub next_like : (m c : ℕ) → m ≤ n → next_after w m c ≡ next_after v m c
  next_like m c l = go (next_law w m c) (next_law v m c)
    where
      go : NextAfter w m c (next_after w m c) → NextAfter v m c (next_after v m c) → next_after w m c ≡ next_after v m c
      go (there len q p e z) b = q ∙ ap some (shorter_like m len l p e.fits) ∙ sym (next_after_lem v m c len p (ending_like f l e) z)
      go (nowhere q h) (nowhere r k) = q ∙ sym r
      go (nowhere q h) (there len r p e z) = absurd (h len p (ending_like g l e) z)

  pub splits_like : (k m : ℕ) → m ≤ n → split_of w m k ≡ split_of v m k
  splits_like k m l = go (split_law w k m) (split_law v k m)
    where
      go : Splitting w m k (split_of w m k) → Splitting v m k (split_of v m k) → split_of w m k ≡ split_of v m k
      go (given s p a) (given t q b) = p ∙ ap some (named_one (named_like f g l a) b) ∙ sym q
      go (given s p a) (lacking q h) = absurd (h s (split_like f l a.is))
      go (lacking p h) (given t q b) = absurd (h t (split_like g l b.is))
      go (lacking p h) (lacking q k) = p ∙ sym q

  pub mask_like : (K m : ℕ) → m ≤ n → mask_of K w m ≡ mask_of K v m
  unfolding mask_of row_word splits
  mask_like K m l = ap (λ x. x / 2) (bits_as (suc K) (λ k h. ap (λ o. elim o [ some ends ↦ 1 | none ↦ 0 ]) (splits_like k m l)))
