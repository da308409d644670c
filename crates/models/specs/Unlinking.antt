-- What the walk over a lend list has done and has to do (the paper, Section 3, lines 9 to 11).
use Rattle.std.specs.Prelude.{◌≡◌, length}
use Prim.Native.Nat.{ℕ, suc, ◌+◌, ◌*◌, ◌<◌}
use Rattle.cells.specs.Lanes.{centre_entries}
use Rattle.models.specs.Centres.{EndingAt}
use Rattle.models.specs.Linked.{Linked}
use Rattle.models.specs.Iterator.{Links}
use Rattle.models.specs.Stores.{at}

-- the two arrays link the centres that have Q, from lo to hi
pub record Chain (Q : ℕ → Type 0) (lo hi : ℕ) (l : Links) : Type 0 where
  pub next : length l.next ≡ centre_entries
  pub prev : length l.prev ≡ centre_entries
  pub list : Linked (at l.next) (at l.prev) Q lo hi

-- an ending of the first n letters, or one of the two short endings of the first n + 1
abbrev pub Old : (ℕ → ℕ) → ℕ → ℕ → Type 0
Old w n c = (c ≡ 2 * n + 3 → ⊥) → (c ≡ 2 * n + 2 → ⊥) → EndingAt w n c

-- what is left while the walk is at x: the centres before the image of x are endings of the longer text
abbrev pub Left : (ℕ → ℕ) → ℕ → ℕ → ℕ → ℕ → Type 0
Left w n s x c = Old w n c × (c + x < s + s → EndingAt w (suc n) c)
