-- Parts of a list: what was passed, what is lent, and the rest.
use Rattle.std.specs.Prelude.{◌≡◌, List, ◌++◌, ℕ, ◌+◌, ◌≤◌, length, take, drop}

-- the first k of a list were lent, and now stand as they were left
pub record Lends (list : List ℕ) (k : ℕ) (left after : List ℕ) : Type 0 where
  pub fits : k ≤ length list
  pub size : length left ≡ k
  pub is : after ≡ left ++ drop k list

-- the same of the k after the first a
pub record LendsAt (list : List ℕ) (a k : ℕ) (left after : List ℕ) : Type 0 where
  pub fits : a + k ≤ length list
  pub size : length left ≡ k
  pub is : after ≡ take a list ++ left ++ drop (a + k) list
