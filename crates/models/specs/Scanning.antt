-- What the scan finds and keeps: the longest ending, the radii and the lend lists (the paper, Section 3, lines 2 to 7).
use Rattle.std.specs.Prelude.{◌≡◌, List, length}
use Prim.Native.Nat.{ℕ, suc, ◌+◌, ◌*◌, ◌/◌, ◌≤◌, ◌<◌}
use Rattle.cells.specs.Lanes.{centre_entries, place_entries}
use Rattle.words.specs.Definitions.{Largest}
use Rattle.models.specs.Centres.{EndingAt, Widest, LongestEndingAt}
use Rattle.models.specs.Reflection.{StartsAt}
use Rattle.models.specs.Iterator.{Scanned}
use Rattle.models.specs.Stores.{at}

-- v is the largest number below s that has P, 0 where none has
abbrev pub LastWith : (ℕ → Type 0) → ℕ → ℕ → Type 0
LastWith P s v = Largest (λ x. 0 < x → P x) s v

-- the last pick of the stretch at c whose radius is stored
abbrev pub reach : List ℕ → ℕ → ℕ
reach R c = c / 2 + at R c

-- s is the longest ending's centre, and the radii are stored up to there
pub record Radii (w : ℕ → ℕ) (n s : ℕ) (R : List ℕ) : Type 0 where
  pub longest : LongestEndingAt w n s
  pub widest : (c : ℕ) → 0 < c → c ≤ s → Widest w n c (reach R c)

-- the lend lists of the centres below s: "lend[i] = {x : x < s and ⌈x⌉ - rad(x) = i + 1}"
pub record Lends (w : ℕ → ℕ) (n s : ℕ) (H L : List ℕ) : Type 0 where
  pub head : (i : ℕ) → i < place_entries → LastWith (StartsAt w n i) s (at H i)
  pub rest : (x i : ℕ) → x < s → StartsAt w n i x → LastWith (StartsAt w n i) x (at L x)

pub record Sizes (R H L : List ℕ) : Type 0 where
  pub radius : length R ≡ centre_entries
  pub heads : length H ≡ place_entries
  pub lends : length L ≡ centre_entries

-- the invariant but for the list of the ending centres
pub record Stretches (w : ℕ → ℕ) (n s : ℕ) (R H L : List ℕ) : Type 0 where
  pub sizes : Sizes R H L
  pub radii : Radii w n s R
  pub lends : Lends w n s H L

-- the same while the scan is at c: all below c is right for the longer text, and the radii up to from are still right for the shorter
pub record ScanAt (w : ℕ → ℕ) (n from c : ℕ) (R H L : List ℕ) : Type 0 where
  pub sizes : Sizes R H L
  pub old : (x : ℕ) → 0 < x → x ≤ from → Widest w n x (reach R x)
  pub over : (x : ℕ) → x < c → EndingAt w (suc n) x → ⊥
  pub widest : (x : ℕ) → 0 < x → x < c → Widest w (suc n) x (reach R x)
  pub lends : Lends w (suc n) c H L

-- what the scan finds, from c on
pub record Found (w : ℕ → ℕ) (n c : ℕ) (g : Scanned) : Type 0 where
  pub stretches : Stretches w (suc n) g.longest g.radius g.heads g.lends
  pub low : c ≤ g.longest
  pub high : g.longest ≤ 2 * n + 2
  -- it was an ending before, or it is the new pick alone
  pub was : g.longest < 2 * n + 2 → EndingAt w n g.longest
