-- Mirrored stretches by their centre and their last pick: the form in which the iterator works, and its bridge to `words`.
-- Letters are counted from 0 and a centre is first and last pick number added, so letters i and j mirror each other at c where i + j + 2 ≡ c.
use Rattle.std.specs.Prelude.{◌≡◌, ℕ, ◌+◌, ◌*◌, ◌≤◌, ◌<◌}

-- c is the centre of an ending of the first e letters
pub record EndingAt (w : ℕ → ℕ) (e c : ℕ) : Type 0 where
  pub low : e < c
  pub high : c ≤ 2 * e + 1
  pub same : (i j : ℕ) → (i < e) × (j < e) × (i + j + 2 ≡ c) → w i ≡ w j

-- the longest mirrored stretch at c within the first n letters has e as its last pick
pub record Widest (w : ℕ → ℕ) (n c e : ℕ) : Type 0 where
  pub is : EndingAt w e c
  pub fits : e ≤ n
  pub most : (k : ℕ) → k ≤ n → EndingAt w k c → k ≤ e

-- s is the centre of the longest ending of the first n letters
pub record LongestEndingAt (w : ℕ → ℕ) (n s : ℕ) : Type 0 where
  pub is : EndingAt w n s
  pub first : (c : ℕ) → c < s → EndingAt w n c → ⊥

-- d is the centre of the next shorter ending after the one at c
pub record NextEndingAt (w : ℕ → ℕ) (n c d : ℕ) : Type 0 where
  pub more : c < d
  pub is : EndingAt w n d
  pub least : (e : ℕ) → EndingAt w n e → c < e → d ≤ e
