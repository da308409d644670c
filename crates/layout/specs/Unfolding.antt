-- What a record unfolds to.
use Rattle.std.specs.Prelude.{◌≡◌, List, [], ◌∷◌, ◌++◌, reverse, ℕ, ◌+◌, ◌/◌, length, take}
use Rattle.words.specs.Definitions.{word, Split, Joined}
use Rattle.layout.specs.Record.{Folded, record_of}
use Rattle.layout.specs.Layout.{Every, Letter}

-- a section's picks: its first half, and behind it the half without the middle pick, backwards
unfoldable pub unfolded : Folded → List ℕ
unfolded f = f.half ++ reverse (take (f.len / 2) f.half)

-- a record's picks: those of its sections, one behind the other
unfoldable pub picks_of : List Folded → List ℕ
unfolding unfolded
picks_of [] = []
picks_of (f ∷ fs) = unfolded f ++ picks_of fs

-- the last pick of each section, after the first a picks
abbrev pub ends_of : (a : ℕ) → List Folded → List ℕ
ends_of a [] = []
ends_of a (f ∷ fs) = (a + f.len) ∷ ends_of (a + f.len) fs

-- What the picks are: as many letters A to Z as the record says, in as many sections joined as it says, of the lengths that it says; and
-- the record of that split is the record read.
pub record Unfolds (bytes : List ℕ) (picks : ℕ) (fs : List Folded) (draft : List ℕ) : Type 0 where
  pub many : length draft ≡ picks
  pub lettered : Every Letter draft
  pub split : Split (word draft) picks (length fs) (ends_of 0 fs)
  pub joined : Joined (length fs) draft
  pub refolds : record_of (word draft) picks (ends_of 0 fs) ≡ bytes
