-- What is read of an array, and what the scan's test says.
use Rattle.std.specs.Prelude.{◌≡◌, List, ℕ, ◌+◌, ◌-◌, ◌/◌, ◌<◌, get_or}
use Rattle.models.specs.Iterator.{start}

-- the numbers of the arrays
abbrev pub at : List ℕ → ℕ → ℕ
at l i = get_or l i 0

-- the test of the scan
module _ (letters : List ℕ) (n c r pick : ℕ) where
  pub record Extends : Type 0 where
    pub closes : c / 2 + r ≡ n
    pub inside : 0 < start c r
    pub same : at letters (start c r - 1) ≡ pick
