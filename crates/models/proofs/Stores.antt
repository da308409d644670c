-- What is read after a store, and what the scan's test says.
use Rattle.std.specs.Prelude.{◌≡◌, true, false, List, [], ◌∷◌, ◌++◌, ℕ, suc, ◌+◌, ◌-◌, ◌/◌, ◌≤◌, length, drop, set}
use Rattle.std.proofs.Common.{sym, ap, ◌∙◌, arith, zero-add, add-zero, lt-ltb, le-ltb, eq-eqb, ne_eqb}
use Rattle.std.proofs.Math.Decide.{dec_lt, ℕ_discrete}
use Rattle.std.proofs.lemmas.List.Edits.{sets, sets-eq}
use Rattle.words.proofs.Cases.{clash}
use Rattle.models.specs.Iterator.{start, extends}
use Rattle.models.specs.Stores.{at, Extends}

-- two runs of stores, one behind the other
pub sets_append : (l : List ℕ) (a : ℕ) (xs ys : List ℕ) → sets l a (xs ++ ys) ≡ sets (sets l a xs) (a + length xs) ys
sets_append l a [] ys = ap (λ k. sets l k ys) (sym (add-zero a))
sets_append l a (x ∷ xs) ys = sets_append (set l a x) (suc a) xs ys ∙ ap (λ k. sets (sets (set l a x) (suc a) xs) k ys) (omega arith)

-- a run that fits, from the front
pub sets_front : (xs l : List ℕ) → length xs ≤ length l → sets l 0 xs ≡ xs ++ drop (length xs) l
sets_front xs l h = sets-eq xs l 0 (omega arith) ∙ ap (λ k. xs ++ drop k l) (zero-add (length xs))

-- the test of the scan
module _ (letters : List ℕ) (n c r pick : ℕ) where
  pub extends_true : extends letters n c r pick ≡ true → Extends letters n c r pick
  extends_true h = elim (ℕ_discrete (c / 2 + r) n) [
    | no x ↦ clash (cc (simp (ne_eqb _ _ x) at h))
    | yes x ↦ elim (dec_lt 0 (start c r)) [
      | no y ↦ clash (cc (simp (eq-eqb _ _ x, le-ltb 0 (start c r) (omega arith)) at h))
      | yes y ↦ elim (ℕ_discrete (at letters (start c r - 1)) pick) [
        | no z ↦ clash (cc (simp (eq-eqb _ _ x, lt-ltb _ _ y, ne_eqb _ _ z) at h))
        | yes z ↦ record { closes = x; inside = y; same = z }
      ]
    ]
  ]

  pub extends_false : extends letters n c r pick ≡ false → Extends letters n c r pick → ⊥
  extends_false h m = clash (cc (simp (eq-eqb _ _ m.closes, lt-ltb _ _ m.inside, eq-eqb _ _ m.same) at h))
