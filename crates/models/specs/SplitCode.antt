-- The ends of a split as they are stored.
use Rattle.std.specs.Prelude.{◌≡◌, Bool, List, length}
use Rattle.std.proofs.Math.Bool.{true, false}
use Rattle.std.proofs.Math.Option.{Option, some, none}
use Prim.Native.Nat.{ℕ}
use Rattle.std.proofs.lemmas.List.Edits.{sets}
use Rattle.words.specs.Definitions.{Rising}

-- The ends, whatever is stored: k of them, rising from above 0 to i

abbrev pub EndsOf : (i k : ℕ) → List ℕ → Type 0
EndsOf i k ends = (length ends ≡ k) × Rising i 0 ends

-- What is stored: the ends of a split at the front of a list

abbrev pub is_found : Option (List ℕ) → Bool
is_found none = false
is_found (some ends) = true

abbrev pub stored : List ℕ → Option (List ℕ) → List ℕ
stored list none = list
stored list (some ends) = sets list 0 ends

-- o is the split; b tells whether there is one, and after is the list as it is left
pub record Stores (o : Option (List ℕ)) (before : List ℕ) (b : Bool) (after : List ℕ) : Type 0 where
  pub tells : b ≡ is_found o
  pub list : after ≡ stored before o
