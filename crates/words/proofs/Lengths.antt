-- The arithmetic of a stretch's length and its least period: the next leading length, and the places of a series.
use Rattle.std.specs.Prelude.{◌≡◌, ℕ, suc, ◌+◌, ◌*◌, ◌-◌, ◌/◌, ◌%◌, ◌≤◌, ◌<◌}
use Rattle.std.proofs.Common.{sym, ap, ◌∙◌, arith, div-add-mod', mod-lt, mul-div_cancel, mul-le-mul_right, lt_of_mul-lt-mul_right}
use Rattle.std.proofs.Math.Nat.{add-mod_right, div-eq_of_eq-mul_left}
use Rattle.std.proofs.Math.Decide.{dec_lt}
use Rattle.words.specs.Definitions.{next_leading}
use Rattle.words.specs.Computed.{later_places}

module _ (len p : ℕ) (pos : 0 < p) (fits : p ≤ len) where
  whole : len / p * p + len % p ≡ len
  whole = div-add-mod' len p

  rest : len % p < p
  rest = mod-lt len pos

  -- with two periods or more, the next leading length is a period and the rest
  next_two : 2 * p ≤ len → next_leading len p ≡ p + len % p
  next_two l =
      let t : 1 < len / p = lt_of_mul-lt-mul_right p (omega (arith, whole, rest)) in
      omega (arith, whole, mul-le-mul_right p t)

  next_sum : (len / p - 2) * p + next_leading len p + p ≡ len
  next_sum = elim (dec_lt (len / p) 2) [
    | yes y ↦
        let t : 0 < len / p = lt_of_mul-lt-mul_right p (omega (arith, whole, rest)) in
        let z : len / p ≡ 1 = omega arith in
        rw z (omega (arith, rw z at whole))
    | no y ↦
        let e : len / p - 2 + 2 ≡ len / p = omega arith in
        omega (arith, whole, ap (λ x. x * p) e)
  ]

  places : later_places len p ≡ len / p - 2
  places = div-eq_of_eq-mul_left pos (omega (arith, next_sum))

  -- the last of the places is j - d - p
  pub places_end : later_places len p * p + next_leading len p + p ≡ len
  places_end = rw places next_sum

  -- with fewer than three periods the first place is the only one
  pub places_one : len < 3 * p → later_places len p ≡ 0
  places_one h = let q : len / p < 3 = lt_of_mul-lt-mul_right p (omega (arith, whole)) in omega (arith, places)

  -- Lemma 11, the step
  pub next_third : 3 * next_leading len p < 2 * len
  next_third = omega (arith, rest)

-- with three periods there is one place more than with two
pub places_more : (len p k : ℕ) → 0 < p → k + p ≡ len → 2 * p ≤ k → later_places len p ≡ suc (later_places k p)
places_more len p k pos sum two =
    let m : len % p ≡ k % p = rw (← sum) (add-mod_right k p) in
    let d : next_leading len p ≡ next_leading k p = omega (arith, next_two len p pos (omega arith) (omega arith), next_two k p pos (omega arith) two) in
    let e : later_places len p * p ≡ suc (later_places k p) * p = omega (arith, places_end len p pos (omega arith), places_end k p pos (omega arith)) in
    sym (mul-div_cancel (later_places len p) pos) ∙ ap (λ x. x / p) e ∙ mul-div_cancel (suc (later_places k p)) pos
