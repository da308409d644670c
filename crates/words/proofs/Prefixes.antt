-- What is said of the first n letters of a word depends on these letters only.
use Rattle.std.specs.Prelude.{◌≡◌, List}
use Rattle.std.proofs.Math.Path.{refl, ap, ap₂}
use Rattle.std.proofs.Common.{sym, ◌∙◌, arith}
use Rattle.std.proofs.Math.Option.{Option, some, none}
use Prim.Native.Nat.{ℕ, zero, suc, ◌+◌, ◌-◌, ◌*◌, ◌≤◌, ◌<◌}
use Rattle.std.proofs.Math.Decide.{dec_lt}
use Rattle.std.specs.Int.Bits.{bit_or}
use Rattle.words.specs.Definitions.{Ending, Mirrored, radius, Period, LeastPeriod, Leading, LastLead}
use Rattle.words.specs.Prefixes.{Agree}
use Rattle.words.specs.Search.{largest, largest_eq, largest_as, passing_as}
use Rattle.words.specs.Mirror.{mirror, ending, ending?, mirrored?}
use Rattle.words.specs.Computed.{leading?, leads_from?, least_period, longest, next_ending, radius_at, visits, cut_last, split_of, splits, row_word, join_steps, later_places, gather_over, gathered, gathered_word}
use Rattle.words.proofs.Laws.{least_period_lem, last_lead}
use Rattle.words.proofs.Lengths.{places_end}
use Rattle.words.proofs.Bits.{bits_as}
use Rattle.words.proofs.Proposition3.{gather_over_is, gather_over_own}
use Rattle.words.specs.Periods.{whole_period}

pub agree_back : {w v : ℕ → ℕ} {n : ℕ} → Agree w v n → Agree v w n
agree_back f i h = sym (f i h)

module _ {w v : ℕ → ℕ} {n : ℕ} (f : Agree w v n) where
  pub ending_as : {m len : ℕ} → m ≤ n → Ending w m len → Ending v m len
  ending_as l h = ending h.fits (λ i j c. sym (f i (omega arith)) ∙ mirror h i j c ∙ f j (omega arith))

  pub mirrored_as : {m c len : ℕ} → m ≤ n → Mirrored w m c len → Mirrored v m c len
  mirrored_as l h = record { end = h.end; within = h.within; is = ending_as (omega (arith, h.within)) h.is; at = h.at }

  pub period_as : {m len p : ℕ} → m ≤ n → Period w m len p → Period v m len p
  period_as l h = record { fits = h.fits; pos = h.pos; same = λ i j c. sym (f i (omega (arith, h.pos))) ∙ h.same i j c ∙ f j (omega arith) }

module _ {w v : ℕ → ℕ} {n : ℕ} (f : Agree w v n) where
  pub least_as : {m len p : ℕ} → m ≤ n → LeastPeriod w m len p → LeastPeriod v m len p
  least_as l h = record { is = period_as f l h.is; least = λ q b. h.least q (period_as (agree_back f) l b) }

  pub leading_as : {m len : ℕ} → m ≤ n → Leading w m len → Leading v m len
  leading_as l h = record {
    is = ending_as f l h.is;
    leads = λ k p e a b. h.leads k p (ending_as (agree_back f) l e) a (period_as (agree_back f) l b);
  }

module _ {w v : ℕ → ℕ} {n : ℕ} (f : Agree w v n) where
  pub visits_as : (m : ℕ) → m ≤ n → visits w m ≡ visits v m
  unfolding visits
  visits_as m l = passing_as (leading? w m) (leading? v m) m (λ x h. (leading_as f l, leading_as (agree_back f) l))

  -- endings and radii

  pub longest_as : (m : ℕ) → m ≤ n → longest w m ≡ longest v m
  unfolding longest
  longest_as m l = largest_as (ending? w m) (ending? v m) (suc m) (λ x h. (ending_as f l, ending_as (agree_back f) l))

  pub next_as : (m len : ℕ) → m ≤ n → next_ending w m len ≡ next_ending v m len
  unfolding next_ending
  next_as m len l = largest_as (ending? w m) (ending? v m) len (λ x h. (ending_as f l, ending_as (agree_back f) l))

  pub radius_as : (m c : ℕ) → m ≤ n → radius_at w m c ≡ radius_at v m c
  unfolding radius_at
  radius_as m c l = ap radius (largest_as (mirrored? w m c) (mirrored? v m c) (suc m) (λ x h. (mirrored_as f l, mirrored_as (agree_back f) l)))

  -- splits and row words

  cut_as : (m : ℕ) (r s : ℕ → Option (List ℕ)) → m ≤ n → ((a : ℕ) → a ≤ m → r a ≡ s a) → (x : ℕ) → cut_last w m r x ≡ cut_last v m s x
  unfolding cut_last
  cut_as m r s l g zero = refl
  cut_as m r s l g (suc x) = go (ending? w m (suc x)) refl (ending? v m (suc x)) refl (s (m - suc x)) refl (cut_as m r s l g x)
    where
      go : (a : Dec (Ending w m (suc x))) → ending? w m (suc x) ≡ a → (b : Dec (Ending v m (suc x))) → ending? v m (suc x) ≡ b
          → (o : Option (List ℕ)) → s (m - suc x) ≡ o
          → cut_last w m r x ≡ cut_last v m s x → cut_last w m r (suc x) ≡ cut_last v m s (suc x)
      go (no a) p (no b) q o t e = rw (p, q, cut_last) e
      go (no a) p (yes b) q o t e = absurd (a (ending_as (agree_back f) l b))
      go (yes a) p (no b) q o t e = absurd (b (ending_as f l a))
      go (yes a) p (yes b) q none t e = rw (p, q, g (m - suc x) (omega arith), t, cut_last) e
      go (yes a) p (yes b) q (some y) t e = rw (p, q, g (m - suc x) (omega arith), t, cut_last)

  pub split_as : (k m : ℕ) → m ≤ n → split_of w m k ≡ split_of v m k
  unfolding split_of
  split_as zero m l = refl
  split_as (suc k) m l = cut_as m (λ a. split_of w a k) (λ a. split_of v a k) l (λ a h. split_as k a (omega arith)) m

  pub row_as : (K m : ℕ) → m ≤ n → row_word K w m ≡ row_word K v m
  unfolding row_word splits
  row_as K m l = bits_as (suc K) (λ k h. ap (λ o. elim o [ some ends ↦ 1 | none ↦ 0 ]) (split_as k m l))

  -- gathered values

  last_as : {m i j : ℕ} → m ≤ n → LastLead w m i j → LastLead v m i j
  last_as l h = record {
    below = h.below;
    is = record { from = h.is.from; is = leading_as f (omega (arith, h.below)) h.is.is };
    most = λ j g b. h.most j (record { from = g.from; is = leading_as (agree_back f) (omega arith) g.is }) b;
  }

  module _ (op : ℕ → ℕ → ℕ) (r s : ℕ → ℕ) (g : (i : ℕ) → i ≤ n → r i ≡ s i) where
    steps_as : (i p c : ℕ) → i + c * p ≤ n → join_steps op r i p c ≡ join_steps op s i p c
    unfolding join_steps
    steps_as i p zero h = g i (omega arith)
    steps_as i p (suc c) h = ap₂ op (steps_as i p c (omega arith)) (g (i + suc c * p) h)

    gather_over_as : (i j : ℕ) → i ≤ j → j ≤ n → gather_over op r w i j ≡ gather_over op s v i j
    gather_over_as i j h l = elim (dec_lt i j) [
      | yes y ↦
          let len : ℕ = j - i in
          let p : ℕ = least_period w j len in
          let a : LeastPeriod w j len p = least_period_lem {w = w} {n = j} len (omega arith) (omega arith) in
          let fits : p ≤ len = a.least len (whole_period (omega arith) (omega arith)) in
          gather_over_is op r w i j len p (omega arith) (omega arith) a
          ∙ steps_as i p (later_places len p) (omega (arith, places_end len p a.is.pos fits))
          ∙ sym (gather_over_is op s v i j len p (omega arith) (omega arith) (least_as f l a))
      | no y ↦ let z : j ≡ i = omega arith in rw z (gather_over_own op r w i ∙ g i (omega arith) ∙ sym (gather_over_own op s v i))
    ]

    pub gathered_as : (m i : ℕ) → i ≤ m → m ≤ n → gathered op r w m i ≡ gathered op s v m i
    unfolding gathered
    gathered_as m i h l =
        let a : LastLead w m i (largest (leads_from? w i) (suc m)) = last_lead w m i h in
        gather_over_as i (largest (leads_from? w i) (suc m)) a.is.from (omega (arith, a.below))
        ∙ ap (gather_over op s v i) (sym (largest_eq (leads_from? v i) (last_as l a)))

  pub gathered_word_as : (K m i : ℕ) → i ≤ m → m ≤ n → gathered_word K w m i ≡ gathered_word K v m i
  unfolding gathered_word
  gathered_word_as K m i h l = gathered_as bit_or (row_word K w) (row_word K v) (λ j b. row_as K j b) m i h l
