-- Lifts of rows, and the first lift of 0.
use Rattle.std.specs.Prelude.{◌≡◌, refl, Bool, true, false, List, [], ◌∷◌, ◌++◌, ℕ, zero, suc, ◌+◌, ◌≤◌, ◌<◌, Some, None, cond, ltb, nat_eq, unwrap_or, length, get_or}
use Rattle.std.proofs.Common.{sym, ap, ◌∙◌, true≢false, ltb-true, ltb-false, ne_eqb, arith}
use Rattle.std.proofs.lemmas.List.Recursion.{is_position_or_len}
use Rattle.std.specs.List.{position, position_or_len}
use Rattle.words.proofs.Cases.{clash}
use Rattle.std.proofs.lemmas.List.{map-append, length-map}
use Rattle.std.proofs.Math.Decide.{dec_lt}
use Rattle.promises.specs.Lifts.{lift_in, lifted_by, none_zero, first_zero, FirstZero}

-- Rows

pub lifted_length : (lifts row : List ℕ) → length (lifted_by lifts row) ≡ length row
lifted_length lifts row = length-map row (lift_in lifts)

pub lifted_more : (lifts row : List ℕ) (pick : ℕ) → lifted_by lifts (row ++ pick ∷ []) ≡ lifted_by lifts row ++ lift_in lifts pick ∷ []
lifted_more lifts row pick = map-append (lift_in lifts) row (pick ∷ [])

-- a row's lift is the lift of its letter
pub lifted_at : (lifts row : List ℕ) (i : ℕ) → i < length row → get_or (lifted_by lifts row) i 0 ≡ lift_in lifts (get_or row i 0)
lifted_at lifts [] i l = absurd (omega arith)
lifted_at lifts (x ∷ row) zero l = refl
lifted_at lifts (x ∷ row) (suc i) l = lifted_at lifts row i (omega arith)

-- The first lift of 0

pub zero_there : (lifts : List ℕ) → none_zero lifts ≡ false → FirstZero lifts (first_zero lifts)
zero_there [] e = absurd (true≢false e)
zero_there (zero ∷ l) e = record { within = omega arith; zero = refl; before = λ j h. absurd (omega arith) }
zero_there (suc x ∷ l) e =
    let r = zero_there l e in
    record { within = omega (arith, r.within); zero = r.zero; before = before r }
  where
    before : FirstZero l (first_zero l) → (j : ℕ) → j < suc (first_zero l) → get_or (suc x ∷ l) j 0 ≡ 0 → ⊥
    before r zero h z = omega arith
    before r (suc j) h z = r.before j (omega arith) z

pub zero_nowhere : (lifts : List ℕ) (place : ℕ) → none_zero lifts ≡ true → place < length lifts → get_or lifts place 0 ≡ 0 → ⊥
zero_nowhere [] place e l z = omega arith
zero_nowhere (zero ∷ lifts) place e l z = true≢false (sym e)
zero_nowhere (suc x ∷ lifts) zero e l z = omega arith
zero_nowhere (suc x ∷ lifts) (suc place) e l z = zero_nowhere lifts place e (omega arith) z

-- there is one
first_one : {lifts : List ℕ} {p q : ℕ} → FirstZero lifts p → FirstZero lifts q → p ≡ q
first_one {lifts} {p} {q} a b = elim (dec_lt p q) [
  | yes l ↦ absurd (b.before p l a.zero)
  | no l ↦ elim (dec_lt q p) [ yes m ↦ absurd (a.before q m b.zero) | no m ↦ omega arith ]
]

pub first_is : (lifts : List ℕ) (place : ℕ) → FirstZero lifts place → place ≡ first_zero lifts
first_is lifts place f = go (none_zero lifts) refl
  where
    go : (t : Bool) → none_zero lifts ≡ t → place ≡ first_zero lifts
    go true e = absurd (zero_nowhere lifts place e f.within f.zero)
    go false e = first_one f (zero_there lifts e)

-- by its place: within the table where there is one, behind it where there is none

pub zero_within : (lifts : List ℕ) → first_zero lifts < length lifts → none_zero lifts ≡ false
zero_within [] l = absurd (omega arith)
zero_within (zero ∷ lifts) l = refl
zero_within (suc x ∷ lifts) l = zero_within lifts (omega arith)

pub zero_behind : (lifts : List ℕ) → length lifts ≤ first_zero lifts → none_zero lifts ≡ true
zero_behind [] l = refl
zero_behind (zero ∷ lifts) l = absurd (omega arith)
zero_behind (suc x ∷ lifts) l = zero_behind lifts (omega arith)

-- as the library's search finds it

zero_step : (x : ℕ) (lifts : List ℕ) → first_zero (x ∷ lifts) ≡ cond (nat_eq x 0) 0 (1 + first_zero lifts)
zero_step zero lifts = refl
zero_step (suc x) lifts = rw (ne_eqb (suc x) 0 (λ z. omega (arith, z))) (omega arith)

zero_searched : (lifts : List ℕ) → first_zero lifts ≡ position_or_len (λ x. nat_eq x 0) lifts
zero_searched lifts = is_position_or_len first_zero (λ x. nat_eq x 0) refl zero_step lifts

found_at : (b : Bool) (x size place : ℕ) → ltb x size ≡ b → cond b (Some x) None ≡ Some place → (place ≡ x) × (place < size)
found_at true x size place e f = let g : place ≡ x = sym (ap (λ o. unwrap_or o 0) f) in (g, omega (arith, g, ltb-true x size e))
found_at false x size place e f = clash cc

missing_at : (b : Bool) (x size : ℕ) → ltb x size ≡ b → cond b (Some x) None ≡ None → size ≤ x
missing_at true x size e f = clash cc
missing_at false x size e f = ltb-false x size e

pub zero_found : (lifts : List ℕ) (place : ℕ) → position (λ x. nat_eq x 0) lifts ≡ Some place → (place ≡ first_zero lifts) × (place < length lifts)
zero_found lifts place e =
    let x : ℕ = position_or_len (λ x. nat_eq x 0) lifts in
    let r = found_at (ltb x (length lifts)) x (length lifts) place refl e in
    (r.0 ∙ sym (zero_searched lifts), r.1)

pub zero_missing : (lifts : List ℕ) → position (λ x. nat_eq x 0) lifts ≡ None → length lifts ≤ first_zero lifts
zero_missing lifts e =
    let x : ℕ = position_or_len (λ x. nat_eq x 0) lifts in
    omega (arith, zero_searched lifts, missing_at (ltb x (length lifts)) x (length lifts) refl e)
