-- Every entry of a list, and one entry more.
use Rattle.std.specs.Prelude.{◌≡◌, ℕ, zero, suc, ◌<◌, length, get_or, take}
use Rattle.std.proofs.Common.{arith}
use mathlib.Core.List.{List, [], ◌∷◌, ◌++◌, reverse, reverse-cons}
use Rattle.words.proofs.Cases.{clash}
use Rattle.layout.specs.Layout.{Every, none, more}

module _ {A : Type 0} {P : A → Type 0} where
  pub every_append : {l m : List A} → Every P l → Every P m → Every P (l ++ m)
  every_append none q = q
  every_append (more p ps) q = more p (every_append ps q)

  pub every_snoc : {l : List A} {a : A} → Every P l → P a → Every P (l ++ a ∷ [])
  every_snoc h p = every_append h (more p none)

  pub every_take : {l : List A} (n : ℕ) → Every P l → Every P (take n l)
  every_take zero h = none
  every_take (suc n) none = none
  every_take (suc n) (more {a = a} {l = l} p ps) = more p (every_take {l = l} n ps)

  pub every_reverse : (l : List A) → Every P l → Every P (reverse l)
  every_reverse [] h = none
  every_reverse (a ∷ l) (more p ps) = rw (reverse-cons a l) (every_append (every_reverse l ps) (more p none))

  pub every_among : {l : List A} → Every P l → (front : List A) (a : A) (rest : List A) → l ≡ front ++ a ∷ rest → P a
  every_among none [] a rest e = clash cc
  every_among none (b ∷ front) a rest e = clash cc
  every_among (more {a = b} p ps) [] a rest e = let z : b ≡ a = cc in rw z at p
  every_among (more p ps) (b ∷ front) a rest e = every_among ps front a rest cc

-- by its index

pub every_at : {P : ℕ → Type 0} {l : List ℕ} → Every P l → (i : ℕ) → i < length l → P (get_or l i 0)
every_at none i h = absurd (omega arith)
every_at (more p ps) zero h = p
every_at (more p ps) (suc i) h = every_at ps i (omega arith)

pub every_of : {P : ℕ → Type 0} (l : List ℕ) → ((i : ℕ) → i < length l → P (get_or l i 0)) → Every P l
every_of [] f = none
every_of (a ∷ l) f = more (f 0 (omega arith)) (every_of l (λ i h. f (suc i) (omega arith)))
