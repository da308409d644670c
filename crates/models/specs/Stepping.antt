-- The engine's invariant: the row word, the visits and their count are those of `words`.
use Rattle.std.specs.Prelude.{◌≡◌, List, ◌++◌}
use Prim.Native.Nat.{ℕ, ◌≤◌}
use Rattle.std.proofs.Math.ListN.{length, drop}
use Rattle.cells.specs.Lanes.{place_entries}
use Rattle.words.specs.Computed.{visits, row_word, gathered_word}
use Rattle.models.specs.Engine.{Stepped}
use Rattle.models.specs.Stores.{at}

-- the arrays hold the row word and the gathered word of every place up to n
pub record Gathers (K : ℕ) (w : ℕ → ℕ) (n : ℕ) (R G : List ℕ) : Type 0 where
  pub size_rows : length R ≡ place_entries
  pub size_gathered : length G ≡ place_entries
  pub rows : (i : ℕ) → i ≤ n → at R i ≡ row_word K w i
  pub all : (i : ℕ) → i ≤ n → at G i ≡ gathered_word K w n i

-- what a step leaves, for prefix n
pub record Steps (K : ℕ) (w : ℕ → ℕ) (n : ℕ) (before : List ℕ) (f : Stepped) : Type 0 where
  pub gathers : Gathers K w n f.placed.rows f.placed.gathered
  pub row : f.row ≡ row_word K w n
  pub count : f.count ≡ length (visits w n)
  pub list : f.count ≤ length before → f.visits ≡ visits w n ++ drop f.count before
