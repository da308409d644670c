-- Borders and periods (the paper, Section 2).
use Rattle.std.specs.Prelude.{◌≡◌, refl, ℕ, zero, suc, ◌+◌, ◌*◌, ◌-◌, ◌/◌, ◌%◌, ◌≤◌, ◌<◌, get_or}
use Rattle.std.proofs.Common.{sym, ap, ◌∙◌, arith, div-add-mod', mod-lt, ext_get_or}
use Rattle.std.proofs.Math.Decide.{dec_le, dec_lt, ℕ_discrete}
use Rattle.words.specs.Definitions.{stretch, Period, LeastPeriod, Ending, NextEnding}
use Rattle.words.specs.Search.{map?, both?, all?}
use Rattle.words.specs.Mirror.{stretch_length, stretch_at, mirror, ending}

-- Lemma 1: a stretch that begins and ends with the same k letters has the period len - k; and back

module _ {w : ℕ → ℕ} {n len p : ℕ} (k : ℕ) (sum : k + p ≡ len) where
  pub border_period : len ≤ n → 0 < p → stretch w (n - len) k ≡ stretch w (n - k) k → Period w n len p
  border_period fits pos e = record {
    fits = fits;
    pos = pos;
    same = λ i j c.
        sym (stretch_at w (n - len) k (i + len - n) i (omega arith) (omega arith))
        ∙ ap (λ s. get_or s (i + len - n) 0) e
        ∙ stretch_at w (n - k) k (i + len - n) j (omega arith) (omega arith);
  }

  pub period_border : Period w n len p → stretch w (n - len) k ≡ stretch w (n - k) k
  period_border h = ext_get_or 0 _ _ (stretch_length w (n - len) k ∙ sym (stretch_length w (n - k) k)) (λ i l.
      let b : i < k = omega (arith, stretch_length w (n - len) k) in
      let f : len ≤ n = h.fits in
      stretch_at w (n - len) k i (n - len + i) b refl
      ∙ h.same (n - len + i) (n - k + i) (omega arith)
      ∙ sym (stretch_at w (n - k) k i (n - k + i) b refl))

-- Lemma 3: an ending within an ending leaves a period; and back

module _ {w : ℕ → ℕ} {n : ℕ} where
  pub ending_period : {len k p : ℕ} → Ending w n len → Ending w n k → k + p ≡ len → 0 < p → Period w n len p
  ending_period {len} e f s h = record {
    fits = e.fits;
    pos = h;
    same = λ i j c. mirror e i (n + n - len - 1 - i) (omega (arith, e.fits)) ∙ mirror f (n + n - len - 1 - i) j (omega (arith, e.fits));
  }

  pub period_ending : {len k p : ℕ} → Ending w n len → Period w n len p → k + p ≡ len → Ending w n k
  period_ending {p = p} e f s = ending (omega (arith, e.fits)) (λ i j c. sym (f.same (i - p) i (omega arith)) ∙ mirror e (i - p) j (omega arith))

  -- so the least period is what the next shorter ending lacks
  pub next_period : {len k : ℕ} → Ending w n len → NextEnding w n len k → LeastPeriod w n len (len - k)
  next_period {len} e h = record {
    is = ending_period e h.is (omega (arith, h.below)) (omega (arith, h.below));
    least = λ q b. elim (dec_le len q) [
      | yes y ↦ omega arith
      | no y ↦ omega (arith, h.most (len - q) (period_ending e b (omega arith)) (omega (arith, b.pos)))
    ];
  }

  pub shorter : {len k p : ℕ} → Period w n len p → k ≤ len → Period w n k p
  shorter h l = record { fits = omega (arith, h.fits); pos = h.pos; same = λ i j c. h.same i j (omega arith) }

  -- the whole length is a period
  pub whole_period : {len : ℕ} → len ≤ n → 0 < len → Period w n len len
  whole_period l h = record { fits = l; pos = h; same = λ i j c. absurd (omega arith) }

  pub steps : {len p : ℕ} → Period w n len p → (m i j : ℕ) → (n ≤ i + len) × (j < n) × (i + m * p ≡ j) → w i ≡ w j
  steps h zero i j c = ap w (omega arith)
  steps {p = p} h (suc m) i j c = h.same i (i + p) (omega arith) ∙ steps h m (i + p) j (omega arith)

-- g goes into m
pub record Into (g m : ℕ) : Type 0 where
  pub times : ℕ
  pub even : times * g ≡ m

pub into_pos : {g m : ℕ} → Into g m → 0 < m → (t : ℕ) × (g + t * g ≡ m)
into_pos {g} {m} d l = go d.times d.even
  where
    go : (t : ℕ) → t * g ≡ m → (t : ℕ) × (g + t * g ≡ m)
    go zero e = absurd (omega arith)
    go (suc t) e = (t, omega arith)

-- Lemma 2: an ending with period p is uv repeated and then u, where |uv| = p, and u and v are palindromes
pub record Halves (w : ℕ → ℕ) (n len p : ℕ) : Type 0 where
  pub first : Ending w n (len % p)
  pub second : Ending w (n - len % p) (p - len % p)

module _ {w : ℕ → ℕ} {n : ℕ} where
  pub multiple : {len p q : ℕ} → Period w n len p → Into p q → 0 < q → Period w n len q
  multiple h d l = record { fits = h.fits; pos = l; same = λ i j c. steps h d.times i j (omega (arith, d.even)) }

  pub halves : {len p : ℕ} → Ending w n len → Period w n len p → p ≤ len → Halves w n len p
  halves {len} {p} e h l =
      let rest : len % p < p = mod-lt len h.pos in
      let whole : len / p * p + len % p ≡ len = div-add-mod' len p in
      let t = into_pos {g = p} {m = len / p * p} (record { times = len / p; even = refl }) (omega (arith, h.pos)) in
      let q : ℕ = t.0 in
      let s : p + q * p + len % p ≡ len = omega (arith, t.1) in
      record {
        first = period_ending {p = len / p * p} e (multiple h (record { times = len / p; even = refl }) (omega (arith, h.pos))) (omega arith);
        second = ending (omega (arith, e.fits))
            (λ i j c. mirror e i (j - q * p) (omega (arith, e.fits)) ∙ steps h q (j - q * p) j (omega (arith, e.fits)));
      }

  -- The weak form of Fine and Wilf's theorem: two periods that fit in together have a common divisor that is a period

  difference : {len p q : ℕ} → Period w n len p → Period w n len q → p < q → p + q ≤ len → Period w n len (q - p)
  difference {len} {p} {q} f h l s = record {
    fits = f.fits;
    pos = omega arith;
    same = λ i j c. elim (dec_lt (i + q) n) [
      | yes x ↦ h.same i (i + q) (omega arith) ∙ sym (f.same j (i + q) (omega arith))
      | no x ↦ sym (f.same (i - p) i (omega arith)) ∙ h.same (i - p) j (omega arith)
    ];
  }

  pub fine_wilf : {len p q : ℕ} → Period w n len p → Period w n len q → p + q ≤ len → (g : ℕ) × Period w n len g × Into g p × Into g q
  fine_wilf {len} {p} {q} f h s = go (p + q) f h s (omega arith)
    where
      go : (fuel : ℕ) {p q : ℕ} → Period w n len p → Period w n len q → p + q ≤ len → p + q ≤ fuel → (g : ℕ) × Period w n len g × Into g p × Into g q
      go zero f h s b = absurd (omega (arith, f.pos))
      go (suc k) {p} {q} f h s b = elim (dec_lt p q) [
        | yes x ↦ let r = go k f (difference f h x s) (omega arith) (omega (arith, f.pos)) in
            (r.0, r.1, r.2, record { times = r.2.times + r.3.times; even = omega (arith, r.2.even, r.3.even) })
        | no x ↦ elim (dec_lt q p) [
          | yes y ↦ let r = go k (difference h f y (omega arith)) h (omega arith) (omega (arith, h.pos)) in
              (r.0, r.1, record { times = r.2.times + r.3.times; even = omega (arith, r.2.even, r.3.even) }, r.3)
          | no y ↦ (p, f, record { times = 1; even = omega arith }, record { times = 1; even = omega arith })
        ]
      ]

  -- its use: the least period goes into every period that fits in beside it
  pub least_into : {len p q : ℕ} → LeastPeriod w n len p → Period w n len q → p + q ≤ len → Into p q
  least_into {p = p} a h s =
      let r = fine_wilf a.is h s in
      let e : r.0 ≡ p = omega (arith, a.least r.0 r.1, (into_pos r.2 a.is.pos).1) in
      rw e at r.3

  -- and an ending of at least p letters is a number of least periods shorter
  pub ending_into : {len k p q : ℕ} → Ending w n len → Ending w n k → k + q ≡ len → 0 < q → LeastPeriod w n len p → p ≤ k → Into p q
  ending_into e f s h a l = least_into a (ending_period e f s h) (omega arith)

  -- The window law: a period of the window (m, k) of a stretch is one of the whole stretch,
  -- where it and a period of the stretch fit into the window together
  pub window : {len m k p g : ℕ} → Period w n len p → Period w m k g → p + g ≤ k → m ≤ n → n + k ≤ m + len → Period w n len g
  window {len} {m} {k} {p} {g} a h l s t = record { fits = a.fits; pos = h.pos; same = λ i j c. go n i j (omega (arith, a.fits)) }
    where
      go : (x i j : ℕ) → (m ≤ i + k + x) × (j < m + x) × (n ≤ i + len) × (j < n) × (i + g ≡ j) → w i ≡ w j
      go zero i j c = h.same i j (omega arith)
      go (suc x) i j c = elim (dec_le m (i + k)) [
        | no y ↦
            a.same i (i + p) (omega (arith, h.fits))
            ∙ go x (i + p) (j + p) (omega (arith, a.pos, h.fits))
            ∙ sym (a.same j (j + p) (omega (arith, h.fits)))
        | yes y ↦ elim (dec_lt j m) [
          | yes z ↦ h.same i j (omega arith)
          | no z ↦
              sym (a.same (i - p) i (omega (arith, h.fits)))
              ∙ go x (i - p) (j - p) (omega (arith, a.pos, h.fits))
              ∙ a.same (j - p) j (omega (arith, h.fits))
        ]
      ]

  -- two stretches of period p that have p letters in common make one
  pub overlap : {m k len r p : ℕ} → Period w m k p → Period w n len p → m ≤ n → n + p ≤ m + len → n + k ≡ m + r → Period w n r p
  overlap {m} f h l s t = record {
    fits = omega (arith, f.fits);
    pos = f.pos;
    same = λ i j c. elim (dec_lt j m) [
      | yes y ↦ f.same i j (omega arith)
      | no y ↦ h.same i j (omega arith)
    ];
  }

  -- an ending moved on by a period, and moved back
  pub extend : {m k len p : ℕ} → Ending w m k → Period w n len p → m + p ≡ n → k + p ≡ len → p ≤ k → Ending w n len
  extend {m} {p = p} e h s t l = ending h.fits (λ i j c. elim (dec_lt i m) [
    | yes y ↦ mirror e i (j - p) (omega (arith, e.fits)) ∙ h.same (j - p) j (omega (arith, e.fits))
    | no y ↦ sym (h.same (i - p) i (omega (arith, e.fits))) ∙ mirror e (i - p) j (omega (arith, e.fits))
  ])

  pub retract : {m k len p : ℕ} → Ending w n len → Period w n len p → m + p ≡ n → k + p ≡ len → Ending w m k
  retract {p =
      p} e h s t = ending (omega (arith, e.fits)) (λ i j c. h.same i (i + p) (omega (arith, e.fits))
      ∙ mirror e (i + p) j (omega (arith, e.fits)))

-- decided by a look at each letter
unfoldable pub period? : (w : ℕ → ℕ) (n len p : ℕ) → Dec (Period w n len p)
unfolding map? both? all? dec_le dec_lt ℕ_discrete
period? w n len p = map?
    (λ h. record { fits = h.0; pos = h.1.0; same = λ i j c. ap w (omega arith) ∙ h.1.1 (i - (n - len)) (omega arith) ∙ ap w (omega arith) })
    (λ e. (e.fits, (e.pos, λ x l. e.same (n - len + x) (n - len + x + p) (omega (arith, e.fits)))))
    (both? (dec_le len n) (both? (dec_lt 0 p) (all? (λ x. ℕ_discrete (w (n - len + x)) (w (n - len + x + p))) (len - p))))
