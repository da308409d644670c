-- Decisions that compute, and the searches that the executable forms are made of, with their laws.
use Rattle.std.specs.Prelude.{◌≡◌, ◌↔◌}
use Rattle.std.proofs.Math.Path.{refl, subst}
use Rattle.std.proofs.Common.{sym, ap, ◌∙◌}
use mathlib.Core.List.{List, [], ◌∷◌, Memᴰ}
use Prim.Native.Nat.{ℕ, zero, suc, ◌+◌, ◌≤◌, ◌<◌}
use native.Mathlib.Omega.{arith}
use Rattle.std.proofs.Math.Decide.{dec_lt, dec_le, ℕ_discrete}
use Rattle.words.specs.Definitions.{Largest, Smallest, Falling, empty, above}

module _ {A B : Type 0} where
  -- a decision carried over to an equivalent statement
  unfoldable pub map? : (A → B) → (B → A) → Dec A → Dec B
  map? f g (yes a) = yes (f a)
  map? f g (no h) = no (λ b. h (g b))

  unfoldable pub both? : Dec A → Dec B → Dec (A × B)
  both? (no f) d = no (λ p. f p.0)
  both? (yes a) (yes b) = yes (a, b)
  both? (yes a) (no g) = no (λ p. g p.1)

  unfoldable pub implies? : Dec A → Dec B → Dec (A → B)
  implies? (no f) d = yes (λ a. absurd (f a))
  implies? (yes a) (yes b) = yes (λ _. b)
  implies? (yes a) (no g) = no (λ h. g (h a))

module _ {P : ℕ → Type 0} where
  pub largest_one : {b j k : ℕ} → Largest P b j → Largest P b k → j ≡ k
  largest_one {b} {j} {k} f g = omega (arith, f.most k g.is g.below, g.most j f.is f.below)

  pub smallest_one : {j k : ℕ} → Smallest P j → Smallest P k → j ≡ k
  smallest_one {j} {k} f g = omega (arith, f.least k g.is, g.least j f.is)

  -- the largest below a greater bound, where none of the numbers in between has P
  pub largest_on : {a b k : ℕ} → a ≤ b → ((j : ℕ) → a ≤ j → j < b → P j → ⊥) → Largest P a k → Largest P b k
  largest_on {a} l f h = record {
    below = omega (arith, h.below);
    is = h.is;
    most = λ j p m. elim (dec_lt j a) [ yes x ↦ h.most j p x | no x ↦ absurd (f j (omega arith) m p) ];
  }

module _ {P : ℕ → Type 0} (d : (i : ℕ) → Dec (P i)) where
  -- P for all numbers below n
  unfoldable pub all? : (n : ℕ) → Dec ((i : ℕ) → i < n → P i)
  all? zero = yes (λ i h. absurd (omega arith))
  all? (suc n) = elim (d n) [
    | no f ↦ no (λ h. f (h n (omega arith)))
    | yes p ↦ elim (all? n) [
      | no f ↦ no (λ h. f (λ i l. h i (omega arith)))
      | yes f ↦ yes (λ i h. elim (dec_lt i n) [ yes l ↦ f i l | no l ↦ subst P (omega arith) p ])
    ]
  ]

  -- the largest number below b that has P, 0 if none has
  unfoldable pub largest : ℕ → ℕ
  largest zero = 0
  largest (suc b) = elim (d b) [ yes p ↦ b | no f ↦ largest b ]

  pub largest_is : (b x : ℕ) → P x → x < b → Largest P b (largest b)
  unfolding largest
  largest_is zero x p l = absurd (omega arith)
  largest_is (suc b) x p l = go (d b) refl (λ h. largest_is b x p h)
    where
      go : (y : Dec (P b)) → d b ≡ y → (x < b → Largest P b (largest b)) → Largest P (suc b) (largest (suc b))
      go (yes q) e r = rw (e, largest) (record { below = omega arith; is = q; most = λ j h m. omega arith })
      go (no f) e r =
          let l : x < b = elim (dec_lt x b) [ yes y ↦ y | no y ↦ absurd (f (subst P (omega arith) p)) ] in
          rw (e, largest) (largest_on (omega arith) (λ j a c h. f (subst P (omega arith) h)) (r l))

  pub largest_eq : {b k : ℕ} → Largest P b k → largest b ≡ k
  largest_eq {b} {k} h = largest_one (largest_is b k h.is h.below) h

  -- the smallest number from k on that has P, after at most x tries
  unfoldable pub smallest : ℕ → ℕ → ℕ
  smallest k zero = k
  smallest k (suc x) = elim (d k) [ yes p ↦ k | no f ↦ smallest (suc k) x ]

  pub smallest_is : (k x m : ℕ) → P m → m ≤ k + x → ((j : ℕ) → P j → k ≤ j) → Smallest P (smallest k x)
  unfolding smallest
  smallest_is k zero m p l f = record { is = subst P (omega (arith, f m p)) p; least = f }
  smallest_is k (suc x) m p l f = go (d k) refl (smallest_is (suc k) x m p (omega arith))
    where
      go : (y : Dec (P k)) → d k ≡ y → (((j : ℕ) → P j → suc k ≤ j) → Smallest P (smallest (suc k) x)) → Smallest P (smallest k (suc x))
      go (yes q) e r = rw (e, smallest) (record { is = q; least = f })
      go (no g) e r = rw (e, smallest) (r (λ j h. elim (ℕ_discrete j k) [ yes y ↦ absurd (g (subst P y h)) | no y ↦ omega (arith, f j h) ]))

  -- the numbers from 1 to b that have P, largest first
  unfoldable pub passing : ℕ → List ℕ
  passing zero = []
  passing (suc b) = elim (d (suc b)) [ yes p ↦ suc b ∷ passing b | no f ↦ passing b ]

  pub passing_with : (b : ℕ) → P (suc b) → passing (suc b) ≡ suc b ∷ passing b
  unfolding passing
  passing_with b p = go (d (suc b)) refl
    where
      go : (y : Dec (P (suc b))) → d (suc b) ≡ y → passing (suc b) ≡ suc b ∷ passing b
      go (yes q) e = rw (e, passing)
      go (no f) e = absurd (f p)

  pub passing_without : (b : ℕ) → (P (suc b) → ⊥) → passing (suc b) ≡ passing b
  unfolding passing
  passing_without b f = go (d (suc b)) refl
    where
      go : (y : Dec (P (suc b))) → d (suc b) ≡ y → passing (suc b) ≡ passing b
      go (yes q) e = absurd (f q)
      go (no g) e = rw (e, passing)

  -- numbers in between that have not P change nothing
  pub passing_skip : (a b : ℕ) → a ≤ b → ((x : ℕ) → a < x → x ≤ b → P x → ⊥) → passing b ≡ passing a
  passing_skip a zero l f = ap passing (omega arith)
  passing_skip a (suc b) l f = elim (dec_le a b) [
    | yes y ↦ passing_without b (f (suc b) (omega arith) (omega arith)) ∙ passing_skip a b y (λ x h m. f x h (omega arith))
    | no y ↦ ap passing (omega arith)
  ]

  -- what is listed has P, all that has P is listed, and the list falls
  pub record Passing (b : ℕ) (s : List ℕ) : Type 0 where
    pub only : (x : ℕ) → Memᴰ x s → (0 < x) × (x ≤ b) × P x
    pub all : (x : ℕ) → 0 < x → x ≤ b → P x → Memᴰ x s
    pub falling : Falling s

  with_one : (b : ℕ) (s : List ℕ) → P (suc b) → Passing b s → Passing (suc b) (suc b ∷ s)
  with_one b s p h = record {
    only = own;
    all = λ x l m q. elim (dec_le x b) [ yes y ↦ Memᴰ.tail (h.all x l y q) | no y ↦ Memᴰ.head {x = suc b} (omega arith) ];
    falling = above {a = suc b} {s = s} (λ x m. omega (arith, (h.only x m).1)) h.falling;
  }
    where
      own : (x : ℕ) → Memᴰ x (suc b ∷ s) → (0 < x) × (x ≤ suc b) × P x
      own x (Memᴰ.head e) = (omega arith, omega arith, subst P (sym e) p)
      own x (Memᴰ.tail m) = let r = h.only x m in (r.0, omega (arith, r.1), r.2)

  without_one : (b : ℕ) (s : List ℕ) → (P (suc b) → ⊥) → Passing b s → Passing (suc b) s
  without_one b s f h = record {
    only = λ x m. let r = h.only x m in (r.0, omega (arith, r.1), r.2);
    all = λ x l m q. elim (dec_le x b) [ yes y ↦ h.all x l y q | no y ↦ absurd (f (subst P (omega arith) q)) ];
    falling = h.falling;
  }

  pub passing_is : (b : ℕ) → Passing b (passing b)
  unfolding passing
  passing_is zero = record { only = λ x m. elim m [ ]; all = λ x l m q. absurd (omega arith); falling = empty }
  passing_is (suc b) = go (d (suc b)) (passing_is b)
    where
      go : Dec (P (suc b)) → Passing b (passing b) → Passing (suc b) (passing (suc b))
      go (yes p) h = rw (passing_with b p) (with_one b _ p h)
      go (no f) h = rw (passing_without b f) (without_one b _ f h)

-- two properties that agree below b
pub largest_as : {P Q : ℕ → Type 0} (d : (i : ℕ) → Dec (P i)) (e : (i : ℕ) → Dec (Q i)) (b : ℕ) → ((x : ℕ) → x < b → P x ↔ Q x) → largest d b ≡ largest e b
unfolding largest
largest_as d e zero f = refl
largest_as {P} {Q} d e (suc b) f = go (d b) refl (e b) refl (f b (omega arith)) (largest_as d e b (λ x l. f x (omega arith)))
  where
    go : (x : Dec (P b)) → d b ≡ x → (y : Dec (Q b)) → e b ≡ y → P b ↔ Q b → largest d b ≡ largest e b → largest d (suc b) ≡ largest e (suc b)
    go (yes p) q (yes r) t g h = rw (q, t, largest)
    go (yes p) q (no k) t g h = absurd (k (g.0 p))
    go (no k) q (yes r) t g h = absurd (k (g.1 r))
    go (no k) q (no l) t g h = rw (q, t, largest) h

-- two properties that agree from 1 to b
pub passing_as : {P Q : ℕ → Type 0} (d : (i : ℕ) → Dec (P i)) (e : (i : ℕ) → Dec (Q i)) (b : ℕ)
    → ((x : ℕ) → x ≤ b → P x ↔ Q x) → passing d b ≡ passing e b
unfolding passing
passing_as d e zero f = refl
passing_as {P} {Q} d e (suc b) f = go (d (suc b)) (f (suc b) (omega arith)) (passing_as d e b (λ x l. f x (omega arith)))
  where
    go : Dec (P (suc b)) → P (suc b) ↔ Q (suc b) → passing d b ≡ passing e b → passing d (suc b) ≡ passing e (suc b)
    go (yes p) g h = passing_with d b p ∙ ap (λ s. suc b ∷ s) h ∙ sym (passing_with e b (g.0 p))
    go (no k) g h = passing_without d b k ∙ h ∙ sym (passing_without e b (λ q. k (g.1 q)))
