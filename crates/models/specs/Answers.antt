-- The promises of the iterator's functions on lent arrays: each a meaning, for every word that the arrays hold, and what is computed on any contents.
use Rattle.std.specs.Prelude.{◌≡◌, cond, List, ℕ, suc, ◌+◌, ◌*◌, ◌≤◌, ◌<◌}
use Rattle.std.proofs.Math.Option.{Option, some, none}
use Rattle.words.specs.Definitions.{length_at}
use Rattle.words.specs.Computed.{longest_centre, NextShorter, next_shorter, next_after, radius_at}
use Rattle.words.specs.Prefixes.{Agree}
use Rattle.models.specs.Centres.{EndingAt, NextEndingAt}
use Rattle.models.specs.Iterator.{Iterator, radius_of, longest_of, is_ending, period_at, appended}
use Rattle.models.specs.Stores.{at}
use Rattle.models.specs.Scanning.{Radii}
use Rattle.models.specs.Iterating.{Iterates}

-- "Radius of the longest mirrored stretch at a centre from 1 to 2n+1": R the radii, s the stored centre of the longest ending
pub record RadiusIs (R : List ℕ) (n s c r : ℕ) : Type 0 where
  pub meaning : (w : ℕ → ℕ) → Radii w n s R → 0 < c → c ≤ 2 * n + 1 → r ≡ radius_at w n c
  pub computes : r ≡ radius_of R n (longest_of n s) c

-- "Centre of the longest ending"
pub record LongestIs (n s r : ℕ) : Type 0 where
  pub meaning : (w : ℕ → ℕ) (R : List ℕ) → Radii w n s R → r ≡ longest_centre w n
  pub computes : r ≡ longest_of n s

-- the radii and the next centres are right
pub record Endings (w : ℕ → ℕ) (n s : ℕ) (R N : List ℕ) : Type 0 where
  pub radii : Radii w n s R
  pub next : (c : ℕ) → EndingAt w n c → c ≤ 2 * n → NextEndingAt w n c (at N c)

-- after the ending with centre c, on any contents: its length, its period as it is told, and the centre that lies a period further
abbrev pub shorter_by : List ℕ → ℕ → ℕ → NextShorter
shorter_by N n c = let p : ℕ = period_at N c (length_at n c) in next_shorter (c + p) (length_at n c) p

abbrev pub next_of : List ℕ → List ℕ → ℕ → ℕ → ℕ → Option NextShorter
next_of R N n s c = cond (is_ending R n s c) (some (shorter_by N n c)) none

-- "Centre of the next shorter ending after one given by its centre (any ending, leading or not; the one-pick ending leads to the empty one)";
-- "besides the centre, the length and the least period of the ending it was given"
pub record NextIs (R N : List ℕ) (n s c : ℕ) (r : Option NextShorter) : Type 0 where
  pub meaning : (w : ℕ → ℕ) → Endings w n s R N → r ≡ next_after w n c
  pub computes : r ≡ next_of R N n (longest_of n s) c

-- one letter more
pub record AppendsLetter (n pick : ℕ) (t t' : Iterator) : Type 0 where
  pub meaning : (w v : ℕ → ℕ) → Iterates w n t → Agree w v n → v n ≡ pick → Iterates v (suc n) t'
  pub computes : t' ≡ appended t n pick
