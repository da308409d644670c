-- The split named, from the stored row words and radii: what is computed on any contents.
use Rattle.std.specs.Prelude.{Bool, false, List, [], ◌∷◌, ◌++◌, leb, eqb}
use Rattle.std.proofs.Math.Bool.{cond}
use Rattle.std.proofs.Math.Option.{Option, some, none}
use Prim.Native.Nat.{ℕ, zero, suc, ◌+◌, ◌-◌, ◌/◌}
use Rattle.words.specs.Definitions.{bit}
use Rattle.models.specs.Iterator.{radius_of}
use Rattle.models.specs.Stores.{at}

-- one section more, with the last pick i
unfoldable pub join_last : ℕ → Option (List ℕ) → Option (List ℕ)
join_last i none = none
join_last i (some ends) = some (ends ++ i ∷ [])

-- the last section of prefix i starts where one was found, and the rest is split before it
unfoldable pub join_rest : (rest : ℕ → Option (List ℕ)) (i : ℕ) → Option ℕ → Option (List ℕ)
unfolding join_last
join_rest rest i none = none
join_rest rest i (some j) = join_last i (rest j)

module _ (rows R : List ℕ) (n s : ℕ) where
  -- does the last of k + 1 sections of prefix i start at place j? Prefix j splits into k, by its row word, and picks j + 1 to i are
  -- mirrored, by the radius at their centre
  abbrev pub starts_at : (k i j : ℕ) → Bool
  starts_at k i j = cond (eqb (bit (at rows j) k) 1) (leb ((i - j) / 2) (radius_of R n s (i + j + 1))) false

  -- the first such place from j on, among m places
  unfoldable pub first_start : (k i m j : ℕ) → Option ℕ
  first_start k i zero j = none
  first_start k i (suc m) j = cond (starts_at k i j) (some j) (first_start k i m (j + 1))

  -- the ends of a split of prefix i into k sections, from the last section back; the start of each is tried from place 0 upward
  unfoldable pub split_by : (k i : ℕ) → Option (List ℕ)
  unfolding first_start join_rest
  split_by zero i = cond (eqb i 0) (some []) none
  split_by (suc k) i = join_rest (split_by k) i (first_start k i i 0)
