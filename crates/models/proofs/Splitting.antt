-- The split that is computed from the stored row words and radii is the split named.
use Rattle.std.specs.Prelude.{◌≡◌, true, false, List}
use Rattle.std.proofs.Math.Path.{refl}
use Rattle.std.proofs.Common.{ap, ◌∙◌, le-leb, eq-eqb, ne_eqb}
use Rattle.std.proofs.Math.Option.{Option, some, none}
use Prim.Native.Nat.{ℕ, zero, suc, ◌+◌, ◌-◌, ◌/◌, ◌≤◌, ◌<◌}
use native.Mathlib.Omega.{arith}
use Rattle.std.proofs.Math.Decide.{ℕ_discrete}
use Rattle.std.proofs.lemmas.Bool.{lt-leb}
use Rattle.std.proofs.Math.Nat.{lt_of_not-le}
use Rattle.words.specs.Definitions.{Ending, bit}
use Rattle.words.specs.Mirror.{ending?}
use Rattle.words.specs.Computed.{cut_last, split_of, splits, row_word}
use Rattle.words.proofs.Laws.{row_at}
use Rattle.models.proofs.Centres.{ending_at, at_ending}
use Rattle.models.proofs.Reflection.{narrower}
use Rattle.models.specs.Iterator.{radius_of}
use Rattle.models.specs.Stores.{at}
use Rattle.models.specs.Scanning.{Radii}
use Rattle.models.proofs.Iterating.{widest_right}
use Rattle.models.specs.Splitting.{join_last, join_rest, starts_at, first_start, split_by}

-- Where the rows and radii are right, it is the split named

module _ (K : ℕ) (w : ℕ → ℕ) (n s : ℕ) (rows R : List ℕ) (h : Radii w n s R) (g : (i : ℕ) → i ≤ n → at rows i ≡ row_word K w i) where
  -- picks j + 1 to i are mirrored exactly where the radius at their centre reaches
  reaches : (i j len : ℕ) → j + len ≡ i → 0 < len → i ≤ n → Ending w i len → (i - j) / 2 ≤ radius_of R n s (i + j + 1)
  reaches i j len a b c e =
      let r = widest_right h (i + j + 1) (omega arith) (omega arith) in
      omega (arith, r.most i c (ending_at (omega arith) e))

  reached : (i j len : ℕ) → j + len ≡ i → 0 < len → i ≤ n → (i - j) / 2 ≤ radius_of R n s (i + j + 1) → Ending w i len
  reached i j len a b c l =
      let r = widest_right h (i + j + 1) (omega arith) (omega arith) in
      at_ending (omega arith) (narrower r.is (omega arith) (omega arith))

  has_bit : (k j : ℕ) → k ≤ K → j ≤ n → bit (at rows j) k ≡ splits w j k
  has_bit k j a b = ap (λ x. bit x k) (g j b) ∙ row_at K w j k a

  short : (k i j : ℕ) → ((i - j) / 2 ≤ radius_of R n s (i + j + 1) → ⊥) → starts_at rows R n s k i j ≡ false
  short k i j f = elim (ℕ_discrete (bit (at rows j) k) 1) [
    | yes x ↦ simp (eq-eqb _ _ x, lt-leb _ _ (lt_of_not-le f))
    | no x ↦ simp (ne_eqb _ _ x)
  ]

  module _ (k i : ℕ) (inside : i ≤ n) (few : k ≤ K) (rest : ℕ → Option (List ℕ)) (law : (j : ℕ) → j ≤ n → rest j ≡ split_of w j k) where
    first_right : (m : ℕ) → m ≤ i → join_rest rest i (first_start rows R n s k i m (i - m)) ≡ cut_last w i (λ a. split_of w a k) m
    unfolding first_start join_rest join_last cut_last splits
    first_right zero l = refl
    first_right (suc m) l = go (ending? w i (suc m)) refl (split_of w (i - suc m) k) refl (first_right m (omega arith))
      where
        up : i - suc m + 1 ≡ i - m
        up = omega arith

        bit_is : bit (at rows (i - suc m)) k ≡ splits w (i - suc m) k
        bit_is = has_bit k (i - suc m) few (omega arith)

        go : (d : Dec (Ending w i (suc m))) → ending? w i (suc m) ≡ d → (o : Option (List ℕ)) → split_of w (i - suc m) k ≡ o
            → join_rest rest i (first_start rows R n s k i m (i - m)) ≡ cut_last w i (λ a. split_of w a k) m
            → join_rest rest i (first_start rows R n s k i (suc m) (i - suc m)) ≡ cut_last w i (λ a. split_of w a k) (suc m)
        go (no f) e o q on =
            let z : starts_at rows R n s k i (i - suc m) ≡ false =
            short k i (i - suc m) (λ x. f (reached i (i - suc m) (suc m) (omega arith) (omega arith) inside x)) in
            rw (e, cut_last, first_start, z, up) on
        go (yes f) e none q on =
            let t : splits w (i - suc m) k ≡ 0 = rw (q, splits) in
            let z : starts_at rows R n s k i (i - suc m) ≡ false = simp (ne_eqb (bit (at rows (i - suc m)) k) 1 (λ x. omega (arith, bit_is, t))) in
            rw (e, q, cut_last, first_start, z, up) on
        go (yes f) e (some ends) q on =
            let t : splits w (i - suc m) k ≡ 1 = rw (q, splits) in
            let z : starts_at rows R n s k i (i - suc m) ≡ true =
            simp (
              eq-eqb (bit (at rows (i - suc m)) k) 1 (omega (arith, bit_is, t)),
              le-leb _ _ (reaches i (i - suc m) (suc m) (omega arith) (omega arith) inside f),
            ) in
            rw (e, q, cut_last, first_start, z, join_rest, law (i - suc m) (omega arith), q, join_last)

  pub split_right : (k i : ℕ) → k ≤ K → i ≤ n → split_by rows R n s k i ≡ split_of w i k
  unfolding split_by split_of
  split_right zero i a b = go (ℕ_discrete i 0) refl
    where
      go : (d : Dec (i ≡ 0)) → ℕ_discrete i 0 ≡ d → split_by rows R n s 0 i ≡ split_of w i 0
      go (yes z) e = rw (e, split_of) (simp (eq-eqb i 0 z))
      go (no f) e = rw (e, split_of) (simp (ne_eqb i 0 f))
  split_right (suc k) i a b =
      let z : i - i ≡ 0 = omega arith in
      rw z at (first_right k i b (omega arith) (split_by rows R n s k) (λ j l. split_right k j (omega arith) l) i (omega arith))
