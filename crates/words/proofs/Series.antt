-- Lemma 10: a leading ending, the endings of its series, and the next shorter leading ending (the paper, Section 4).
use Rattle.std.specs.Prelude.{◌≡◌, refl, ℕ, zero, suc, ◌+◌, ◌*◌, ◌-◌, ◌/◌, ◌%◌, ◌≤◌, ◌<◌}
use Rattle.std.proofs.Common.{arith, div-add-mod', mod-lt, mul-le-mul_right, lt_of_mul-lt-mul_right}
use Rattle.std.proofs.Math.Decide.{dec_le, dec_lt, ℕ_discrete}
use Rattle.words.specs.Definitions.{Ending, LongestEnding, Period, LeastPeriod, Leading, NextLeading, next_leading}
use Rattle.words.specs.Periods.{Into, ending_period, period_ending, shorter, whole_period, multiple, ending_into, window}
use Rattle.words.specs.Computed.{least_period, later_places}
use Rattle.words.proofs.Laws.{least_period_lem}
use Rattle.words.proofs.Lengths.{places_end}

module _ {w : ℕ → ℕ} {n : ℕ} where
  -- the longest ending leads
  pub longest_leads : {len : ℕ} → LongestEnding w n len → Leading w n len
  longest_leads h = record { is = h.is; leads = λ k p e l q. absurd (omega (arith, h.most k e (omega (arith, e.fits)))) }

-- Lemma 10
module _ {w : ℕ → ℕ} {n len p : ℕ} (L : Leading w n len) (a : LeastPeriod w n len p) (some : 0 < len) where
  pub period_fits : p ≤ len
  period_fits = a.least len (whole_period L.is.fits some)

  -- an ending between len and the next leading length is some periods shorter than len, and holds two periods
  skipped : {k q : ℕ} → Ending w n k → next_leading len p < k → k + q ≡ len → 0 < q → Into p q × (2 * p ≤ k)
  skipped {k} {q} f h s l =
      let m : p ≤ q = a.least q (ending_period L.is f s l) in
      let c : len / p * p + len % p ≡ len = div-add-mod' len p in
      let d : Into p q = ending_into L.is f s l a (omega arith) in
      let t : d.times + 1 < len / p = lt_of_mul-lt-mul_right p (omega (arith, d.even)) in
      (d, omega (arith, d.even, mul-le-mul_right p t))

  -- the endings from len to above the next leading length are len, len - p, len - 2p and so on, one for each place
  pub series_ending : (x k : ℕ) → x ≤ later_places len p → k + x * p ≡ len → Ending w n k × (next_leading len p < k)
  series_ending x k h e = (is x e, omega (arith, a.is.pos, mul-le-mul_right p h, places_end len p a.is.pos period_fits))
    where
      is : (x : ℕ) → k + x * p ≡ len → Ending w n k
      is zero e = let z : len ≡ k = omega arith in rw z at L.is
      is (suc x) e = period_ending L.is (multiple a.is (record { times = suc x; even = refl }) (omega (arith, a.is.pos))) e

  pub ending_series : (k : ℕ) → Ending w n k → next_leading len p < k → k ≤ len → (x : ℕ) × (x ≤ later_places len p) × (k + x * p ≡ len)
  ending_series k e h l = elim (ℕ_discrete k len) [
    | yes y ↦ (0, omega arith, omega arith)
    | no y ↦ let d = (skipped {q = len - k} e h (omega arith) (omega arith)).0 in go d.times d.even
  ]
    where
      go : (t : ℕ) → t * p ≡ len - k → (x : ℕ) × (x ≤ later_places len p) × (k + x * p ≡ len)
      go t s =
          let m : t < suc (later_places len p) = lt_of_mul-lt-mul_right p (omega (arith, places_end len p a.is.pos period_fits)) in
          (t, omega arith, omega arith)

  -- none of those between leads
  pub between_not_leading : {k : ℕ} → Ending w n k → next_leading len p < k → k < len → Leading w n k → ⊥
  between_not_leading {k} f h l b = omega (arith, b.leads len p L.is l a.is, (skipped {q = len - k} f h (omega arith) (omega arith)).1)

  next_ending_lem : Ending w n (next_leading len p)
  next_ending_lem =
      let e = places_end len p a.is.pos period_fits in
      let c : ℕ = suc (later_places len p) in
      period_ending {p = c * p} L.is (multiple a.is (record { times = c; even = refl }) (omega (arith, a.is.pos))) (omega arith)

  next_leads : Leading w n (next_leading len p)
  next_leads = record {
    is = next_ending_lem;
    leads = λ k q f h b. elim (dec_lt (next_leading len p) (2 * q)) [
      | yes y ↦ y
      | no y ↦ elim (dec_lt len k) [
        | yes x ↦ omega (arith, L.leads k q f x b, period_fits)
        | no x ↦ absurd (too_short k q (ℕ_discrete k len) f h b (omega arith) (omega arith))
      ]
    ];
  }
    where
      r : len % p < p
      r = mod-lt len a.is.pos

      -- a period of a longer ending of the series is no shorter than p
      too_short : (k q : ℕ) → Dec (k ≡ len) → Ending w n k → next_leading len p < k → Period w n k q → k ≤ len → 2 * q ≤ next_leading len p → ⊥
      too_short k q (yes z) f h b l y = omega (arith, r, period_fits, a.least q (shorter b (omega arith)))
      too_short k q (no z) f h b l y =
          let two : 2 * p ≤ k = (skipped {q = len - k} f h (omega arith) (omega arith)).1 in
          omega (arith, r, period_fits, a.least q (window a.is b (omega (arith, r, period_fits)) (omega arith) (omega arith)))

  -- LEMMA 10: the next shorter leading ending
  pub next_is : NextLeading w n len (next_leading len p)
  next_is = record {
    below = omega (arith, a.is.pos, some);
    is = next_leads;
    most = λ j b l. elim (dec_le j (next_leading len p)) [ yes y ↦ y | no y ↦ absurd (between_not_leading b.is (omega arith) l b) ];
  }

-- every non-empty ending is in the series of one leading ending
pub record Series (w : ℕ → ℕ) (n k : ℕ) : Type 0 where
  pub len : ℕ
  pub p : ℕ
  pub leading : Leading w n len
  pub least : LeastPeriod w n len p
  pub longer : k ≤ len
  pub past : next_leading len p < k

pub in_series : {w : ℕ → ℕ} {n len k : ℕ} → Leading w n len → Ending w n k → 0 < k → k ≤ len → Series w n k
in_series {w} {n} {len} L e h l = go len L e h l (omega arith)
  where
    go : (x : ℕ) {len k : ℕ} → Leading w n len → Ending w n k → 0 < k → k ≤ len → len ≤ x → Series w n k
    go zero L e h l b = absurd (omega arith)
    go (suc x) {len} {k} L e h l b =
        let a = least_period_lem {w = w} {n = n} len (omega arith) L.is.fits in
        let d = next_is L a (omega arith) in
        elim (dec_lt (next_leading len (least_period w n len)) k) [
          | yes y ↦ record { len = len; p = least_period w n len; leading = L; least = a; longer = l; past = y }
          | no y ↦ go x d.is e h (omega arith) (omega (arith, d.below))
        ]
