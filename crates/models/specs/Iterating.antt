-- The iterator's invariant (the paper, Proposition 1).
use Rattle.std.specs.Prelude.{◌≡◌, length}
use Prim.Native.Nat.{ℕ, ◌+◌, ◌*◌, ◌<◌}
use Rattle.cells.specs.Lanes.{centre_entries, place_entries}
use Rattle.words.specs.Definitions.{most_picks}
use Rattle.models.specs.Centres.{EndingAt}
use Rattle.models.specs.Iterator.{Iterator, links}
use Rattle.models.specs.Stores.{at}
use Rattle.models.specs.Scanning.{Stretches}
use Rattle.models.specs.Unlinking.{Chain}

-- the arrays hold the first n letters of w
pub record Iterates (w : ℕ → ℕ) (n : ℕ) (t : Iterator) : Type 0 where
  pub size : length t.letters ≡ most_picks
  pub letters : (i : ℕ) → i < n → at t.letters i ≡ w i
  pub stretches : Stretches w n t.longest t.radius t.heads t.lends
  -- "nodes[c_j].next = c_{j+1} and nodes[c_{j+1}].prev = c_j", c_0 < .. < c_k the centres of all endings
  pub chain : Chain (EndingAt w n) t.longest (2 * n + 1) (links t.next t.prev)

-- No letter

-- arrays whose heads are all 0, whose first radius is 0 and whose centre is 1 hold no letter
pub record Cleared (t : Iterator) : Type 0 where
  pub size : length t.letters ≡ most_picks
  pub radius : length t.radius ≡ centre_entries
  pub heads : length t.heads ≡ place_entries
  pub lends : length t.lends ≡ centre_entries
  pub next : length t.next ≡ centre_entries
  pub prev : length t.prev ≡ centre_entries
  pub longest : t.longest ≡ 1
  pub none : at t.radius 1 ≡ 0
  pub clear : (i : ℕ) → i < place_entries → at t.heads i ≡ 0
