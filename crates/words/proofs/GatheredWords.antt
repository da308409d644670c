-- Row words and gathered words by document 01's sentences: what is computed is what `RowWord` and `GatheredWord` say, and they fix the word.
use Rattle.std.specs.Prelude.{◌≡◌, ◌↔◌}
use Rattle.std.proofs.Common.{sym, ◌∙◌, mul-le-mul_right, lt_of_mul-lt-mul_right}
use Rattle.std.proofs.Math.Path.{ap}
use Prim.Native.Nat.{ℕ, zero, suc, ◌+◌, ◌-◌, ◌*◌, ◌≤◌, ◌<◌}
use native.Mathlib.Omega.{arith}
use Rattle.std.proofs.Math.Decide.{dec_lt, ℕ_discrete}
use Rattle.std.specs.Int.Bits.{bit_or}
use Rattle.words.specs.Definitions.{LeastPeriod, LeadsFrom, LastLead, bit, RowWord, UnionTo, GatheredWord}
use Rattle.words.specs.Search.{largest, largest_one, smallest_one}
use Rattle.words.specs.Mirror.{single_ending}
use Rattle.words.proofs.Bits.{union_bit, same_bits}
use Rattle.words.specs.Computed.{leads_from?, least_period, row_word, join_steps, gathered_word}
use Rattle.words.proofs.Laws.{row_bit, row_past, least_period_lem, last_lead}
use Rattle.words.proofs.Series.{next_is}
use Rattle.words.proofs.Proposition3.{gathered_is, gathered_own}

-- Row words

pub row_is : (K : ℕ) (w : ℕ → ℕ) (i : ℕ) → RowWord K w i (row_word K w i)
row_is K w i = record { exactly = row_bit K w i; past = row_past K w i }

-- Values joined by union: bit k is set where it is in one of them

module _ (r : ℕ → ℕ) (i p k : ℕ) where
  -- one of the places to i + c * p
  abbrev Among : ℕ → Type 0
  Among c = (x : ℕ) × (x ≤ c) × (bit (r (i + x * p)) k ≡ 1)

  first : (x : ℕ) → x ≤ 0 → i + x * p ≡ i
  first zero h = omega arith
  first (suc x) h = absurd (omega arith)

  steps_bit : (c : ℕ) → (bit (join_steps bit_or r i p c) k ≡ 1) ↔ Among c
  unfolding join_steps
  steps_bit zero = (
    λ e. (0, omega arith, ap (λ z. bit (r z) k) (first 0 (omega arith)) ∙ e),
    λ q. ap (λ z. bit (r z) k) (sym (first q.0 q.1)) ∙ q.2,
  )
  steps_bit (suc c) = (there (steps_bit c).0, back (steps_bit c).1)
    where
      a : ℕ
      a = join_steps bit_or r i p c

      b : ℕ
      b = r (i + suc c * p)

      there : (bit a k ≡ 1 → Among c) → bit (bit_or a b) k ≡ 1 → Among (suc c)
      there f e = elim (ℕ_discrete (bit b k) 1) [
        | yes z ↦ (suc c, omega arith, z)
        | no z ↦ let q = f (omega (arith, union_bit k a b, e)) in (q.0, omega (arith, q.1), q.2)
      ]

      back : (Among c → bit a k ≡ 1) → Among (suc c) → bit (bit_or a b) k ≡ 1
      back f q = elim (ℕ_discrete q.0 (suc c)) [
        | yes z ↦ let one : bit b k ≡ 1 = rw z at q.2 in omega (arith, union_bit k a b, one)
        | no z ↦ let one : bit a k ≡ 1 = f (q.0, omega (arith, q.1), q.2) in omega (arith, union_bit k a b, one)
      ]

  steps_past : (c : ℕ) → ((x : ℕ) → bit (r x) k ≡ 0) → bit (join_steps bit_or r i p c) k ≡ 0
  unfolding join_steps
  steps_past zero f = f i
  steps_past (suc c) f = let z = steps_past c f in omega (arith, union_bit k (join_steps bit_or r i p c) (r (i + suc c * p)), z, f (i + suc c * p))

-- Gathered words

one_leads : (w : ℕ → ℕ) (i : ℕ) → LeadsFrom w i (suc i)
one_leads w i =
    let z : suc i - i ≡ 1 = omega arith in
    record { from = omega arith; is = rw z (record { is = single_ending w (suc i) (omega arith); leads = λ k p e l q. omega (arith, q.pos) }) }

module _ (K : ℕ) (w : ℕ → ℕ) where
  union_is : (i p c last : ℕ) → 0 < p → i + c * p ≡ last → UnionTo K w i p last (join_steps bit_or (row_word K w) i p c)
  union_is i p c last pos e = record {
    reached = (c, e);
    exactly = λ k h. (
      λ q.
          let x = (steps_bit (row_word K w) i p k c).0 q in
          (x.0, omega (arith, mul-le-mul_right p x.1), (row_bit K w (i + x.0 * p) k h).0 x.2),
      λ x. (steps_bit (row_word K w) i p k c).1 (x.0, omega (arith, within x.0 (omega (arith, x.1))), (row_bit K w (i + x.0 * p) k h).1 x.2),
    );
    past = λ k h. steps_past (row_word K w) i p k c (λ x. row_past K w x k h);
  }
    where
      within : (x : ℕ) → x * p ≤ c * p → x < suc c
      within x h = lt_of_mul-lt-mul_right p (omega arith)

  pub gathered_word_is : (n i : ℕ) → i ≤ n → GatheredWord K w n i (gathered_word K w n i)
  unfolding gathered_word
  gathered_word_is n i h = record {
    own = λ e. rw e (rw (gathered_own bit_or (row_word K w) w n) (row_is K w n));
    below = λ l.
        let j : ℕ = largest (leads_from? w i) (suc n) in
        let g : LastLead w n i j = last_lead w n i h in
        let more : suc i ≤ j = g.most (suc i) (one_leads w i) (omega arith) in
        let p : ℕ = least_period w j (j - i) in
        let a : LeastPeriod w j (j - i) p = least_period_lem {w = w} {n = j} (j - i) (omega arith) (omega arith) in
        let b = next_is g.is.is a (omega arith) in
        let r = gathered_is bit_or (row_word K w) w n i j p _ g more a b in
        (j, p, _, g, a, b, rw r.2 (union_is i p r.0 _ a.is.pos (omega (arith, r.1))));
  }

-- They fix the word

word_one : (K : ℕ) {P : ℕ → Type 0} {x y : ℕ}
    → ((k : ℕ) → k ≤ K → (bit x k ≡ 1) ↔ P k) → ((k : ℕ) → K < k → bit x k ≡ 0)
    → ((k : ℕ) → k ≤ K → (bit y k ≡ 1) ↔ P k) → ((k : ℕ) → K < k → bit y k ≡ 0) → x ≡ y
word_one K {P} {x} {y} f g h l = same_bits x y (λ k. elim (dec_lt K k) [
  | yes m ↦ g k m ∙ sym (l k m)
  | no m ↦ elim (ℕ_discrete (bit x k) 1) [
    | yes e ↦ e ∙ sym ((h k (omega arith)).1 ((f k (omega arith)).0 e))
    | no e ↦ elim (ℕ_discrete (bit y k) 1) [
      | yes q ↦ absurd (e ((f k (omega arith)).1 ((h k (omega arith)).0 q)))
      | no q ↦ omega arith
    ]
  ]
])

pub row_one : {K : ℕ} {w : ℕ → ℕ} {i x y : ℕ} → RowWord K w i x → RowWord K w i y → x ≡ y
row_one {K} a b = word_one K a.exactly a.past b.exactly b.past

union_one : {K : ℕ} {w : ℕ → ℕ} {i p q l m x y : ℕ} → p ≡ q → l ≡ m → UnionTo K w i p l x → UnionTo K w i q m y → x ≡ y
union_one {K} {w} {i} {p} {q} {l} {m} {x} {y} e f a b =
    let c : UnionTo K w i p l y = rw (e, f) b in
    word_one K a.exactly a.past c.exactly c.past

pub gathered_one : {K : ℕ} {w : ℕ → ℕ} {n i x y : ℕ} → i ≤ n → GatheredWord K w n i x → GatheredWord K w n i y → x ≡ y
gathered_one {K} {w} {n} {i} h a b = elim (ℕ_discrete i n) [
  | yes e ↦ row_one (a.own e) (b.own e)
  | no e ↦
      let s = a.below (omega arith) in
      let t = b.below (omega arith) in
      let j : s.0 ≡ t.0 = largest_one s.3 t.3 in
      let p : s.1 ≡ t.1 = smallest_one s.4 (rw j t.4) in
      let d : s.2 ≡ t.2 = largest_one s.5 (rw j t.5) in
      union_one p (omega arith) s.6 t.6
]
