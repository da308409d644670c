-- The lifts, fixed and loaded: "Each letter lifts two of eight harnesses; harness h is bit h-1 of a lift byte."
use Rattle.std.specs.Prelude.{◌≡◌, refl, Bool, true, not, ◌&&◌, ◌≢◌, List, [], ◌∷◌, ℕ, zero, suc, ◌-◌, ◌≤◌, ◌<◌, ltb, eqb, length, get_or}
use Rattle.std.proofs.Common.{sym, arith, ltb-true, eqb-true}
use Rattle.std.proofs.lemmas.Bool.{not-true, eqb-false}
use Rattle.std.proofs.Math.Bool.{and-eq-true_iff}
use Rattle.std.proofs.Math.Decide.{dec_lt}
use Rattle.words.specs.Definitions.{first_letter, last_letter}
use Rattle.promises.specs.Lifts.{fixed_lifts, lift_in, Distinct, bits_set}

two_bits : ℕ → Bool
two_bits x = ltb x 256 && eqb (bits_set x) 2

differs : ℕ → ℕ → Bool
differs x y = not (eqb x y)

every : (ℕ → Bool) → List ℕ → Bool
every p [] = true
every p (x ∷ l) = p x && every p l

distinct : List ℕ → Bool
unfolding every differs
distinct [] = true
distinct (x ∷ l) = every (differs x) l && distinct l

tested : (every two_bits fixed_lifts && distinct fixed_lifts) ≡ true
unfolding every two_bits distinct differs
tested = refl

-- from the test to each entry

every_at : (p : ℕ → Bool) (l : List ℕ) → every p l ≡ true → (i : ℕ) → i < length l → p (get_or l i 0) ≡ true
unfolding every
every_at p [] e i h = absurd (omega arith)
every_at p (x ∷ l) e zero h = ((and-eq-true_iff (p x) (every p l)).0 e).0
every_at p (x ∷ l) e (suc i) h = every_at p l ((and-eq-true_iff (p x) (every p l)).0 e).1 i (omega arith)

differ : (x y : ℕ) → differs x y ≡ true → x ≢ y
unfolding differs
differ x y e = eqb-false x y (not-true (eqb x y) e)

distinct_at : (l : List ℕ) → distinct l ≡ true → (i j : ℕ) → i < j → j < length l → get_or l i 0 ≢ get_or l j 0
unfolding distinct
distinct_at [] e i j h m = absurd (omega arith)
distinct_at (x ∷ l) e i zero h m = absurd (omega arith)
distinct_at (x ∷ l) e zero (suc j) h m = differ x (get_or l j 0) (every_at (differs x) l ((and-eq-true_iff (every (differs x) l) (distinct l)).0 e).0 j (omega arith))
distinct_at (x ∷ l) e (suc i) (suc j) h m = distinct_at l ((and-eq-true_iff (every (differs x) l) (distinct l)).0 e).1 i j (omega arith) (omega arith)

-- "So A lifts 3 and Z lifts 96."
pub fixed_ends : (lift_in fixed_lifts first_letter ≡ 3) × (lift_in fixed_lifts last_letter ≡ 96)
fixed_ends = (refl, refl)

pub lift_two : (letter : ℕ) → first_letter ≤ letter → letter ≤ last_letter → (lift_in fixed_lifts letter < 256) × (bits_set (lift_in fixed_lifts letter) ≡ 2)
unfolding two_bits
lift_two letter a b =
    let x = lift_in fixed_lifts letter in
    let t = ((and-eq-true_iff (every two_bits fixed_lifts) (distinct fixed_lifts)).0 tested).0 in
    let r = (and-eq-true_iff (ltb x 256) (eqb (bits_set x) 2)).0 (every_at two_bits fixed_lifts t (letter - first_letter) (omega arith)) in
    (ltb-true _ _ r.0, eqb-true _ _ r.1)

lifts_differ : (x y : ℕ) → first_letter ≤ x → x < y → y ≤ last_letter → lift_in fixed_lifts x ≢ lift_in fixed_lifts y
lifts_differ x y a b c =
    distinct_at fixed_lifts ((and-eq-true_iff (every two_bits fixed_lifts) (distinct fixed_lifts)).0 tested).1 (x - first_letter) (y - first_letter) (omega arith) (omega arith)

pub fixed_distinct : Distinct fixed_lifts
fixed_distinct x y a b e = elim (dec_lt x y) [
  | yes l ↦ absurd (lifts_differ x y a.low l b.high e)
  | no l ↦ elim (dec_lt y x) [ yes m ↦ absurd (lifts_differ y x b.low m a.high (sym e)) | no m ↦ omega arith ]
]
