-- Iterator and engine together: what the arrays hold, and what one pick more does to them.
use Rattle.std.specs.Prelude.{◌≡◌, List, [], ◌∷◌, ◌++◌, length, drop, set, replicate}
use Prim.Native.Nat.{ℕ, suc, ◌≤◌}
use Rattle.cells.specs.declared.Centres.{Centres}
use Rattle.cells.specs.declared.Places.{Places}
use Rattle.cells.specs.Lanes.{centre_entries, place_entries, with_heads}
use Rattle.words.specs.Definitions.{most_picks, most_visits, word}
use Rattle.words.specs.Computed.{longest_centre, visits, row_word}
use Rattle.models.specs.Iterator.{Iterator, iterator, appended}
use Rattle.models.specs.Engine.{Stepped, stepped}
use Rattle.models.specs.Lanes.{iterator_in}
use Rattle.models.specs.Iterating.{Iterates}
use Rattle.models.specs.Stepping.{Gathers}

-- all that is stored but the number of picks and K
pub record Arrays : Type 0 where
  pub iterator : Iterator
  -- by place
  pub rows : List ℕ
  pub gathered : List ℕ

-- from the arrays in which they are lent, and back
abbrev pub arrays_in : List ℕ → Centres → Places → ℕ → Arrays
arrays_in letters v w s = record { iterator = iterator_in letters v w s; rows = w.rows; gathered = w.gathered }

abbrev pub centres_in : Arrays → Centres
centres_in a = record { radius = a.iterator.radius; lends = a.iterator.lends; next = a.iterator.next; prev = a.iterator.prev }

abbrev pub places_in : Arrays → Places
places_in a = record { heads = a.iterator.heads; rows = a.rows; gathered = a.gathered }

-- the arrays hold the draft u under K
pub record Holds (K : ℕ) (u : List ℕ) (a : Arrays) : Type 0 where
  pub fits : length u ≤ most_picks
  pub iterates : Iterates (word u) (length u) a.iterator
  pub gathers : Gathers K (word u) (length u) a.rows a.gathered

-- What one pick more computes, on any contents

pub record After : Type 0 where
  pub arrays : Arrays
  -- the visit list
  pub visits : List ℕ
  pub row : ℕ
  pub count : ℕ

abbrev pub after : Arrays → List ℕ → ℕ → ℕ → After
after a vs row count = record { arrays = a; visits = vs; row = row; count = count }

abbrev pub joined : Iterator → Stepped → After
joined t f = after (record { iterator = t; rows = f.placed.rows; gathered = f.placed.gathered }) f.visits f.row f.count

-- n picks were there; vs is the visit list
unfoldable pub append : ℕ → ℕ → ℕ → Arrays → List ℕ → After
unfolding appended stepped
append K n pick a vs =
    let t : Iterator = appended a.iterator n pick in
    joined t (stepped K (suc n) t.longest (with_heads (places_in a) t.heads) t.next vs)

-- What it means: u is the draft with the pick

pub record Means (K : ℕ) (u : List ℕ) (before : Arrays) (vs : List ℕ) (z : After) : Type 0 where
  -- the arrays hold it, every row word and every gathered word among them
  pub holds : Holds K u z.arrays
  pub row : z.row ≡ row_word K (word u) (length u)
  -- the visit list begins with the visits, and keeps every later entry
  pub count : z.count ≡ length (visits (word u) (length u))
  pub list : z.count ≤ length vs → z.visits ≡ visits (word u) (length u) ++ drop z.count vs
  -- the longest ending's centre, which no append makes smaller
  pub longest : z.arrays.iterator.longest ≡ longest_centre (word u) (length u)
  pub rises : before.iterator.longest ≤ z.arrays.iterator.longest

-- Every draft of up to 2,048 picks is held by some arrays: those that its picks make of cleared ones

pub record Held (K : ℕ) (u : List ℕ) : Type 0 where
  pub stored : Arrays
  pub holds : Holds K u stored

-- no letter: all is 0 but the row word and the gathered word of place 0
abbrev pub cleared : Arrays
cleared = record {
  iterator =
      iterator (replicate most_picks 0) (replicate centre_entries 0) (replicate place_entries 0) (replicate centre_entries 0) (replicate centre_entries 0)
      (replicate centre_entries 0) 1;
  rows = set (replicate place_entries 0) 0 1;
  gathered = set (replicate place_entries 0) 0 1;
}

-- The promise of the core

pub record Appends (K n pick : ℕ) (a : Arrays) (vs : List ℕ) (z : After) : Type 0 where
  -- for every draft that the arrays hold
  pub meaning : (u : List ℕ) → length u ≡ n → Holds K u a → Means K (u ++ pick ∷ []) a vs z
  -- on any contents: what it computes, at most 19 visits, and no later entry of the list changed
  pub computes : z ≡ append K n pick a vs
  pub few : z.count ≤ most_visits
  pub size : length z.visits ≡ length vs
  pub later : drop z.count z.visits ≡ drop z.count vs
