-- The folded record: "fields in a fixed order parted by commas, no quoting, closed by byte 10. Picks, sections, then for each section its
-- length and its first half of letters, the middle pick included."
use Rattle.std.specs.Prelude.{List, [], ◌∷◌, ◌++◌, ℕ, ◌+◌, ◌-◌, ◌/◌, length}
use Rattle.words.specs.Definitions.{stretch}
use Rattle.text.specs.Definitions.{comma, line_end, decimal}

-- a section as a record has it: its length, and the letters of its first half
pub record Folded : Type 0 where
  pub len : ℕ
  pub half : List ℕ

-- "for each section its length and its first half of letters"
unfoldable pub fields_of : List Folded → List (List ℕ)
fields_of [] = []
fields_of (f ∷ fs) = decimal f.len ∷ f.half ∷ fields_of fs

-- each field behind a comma
unfoldable pub behind_commas : List (List ℕ) → List ℕ
behind_commas [] = []
behind_commas (f ∷ fields) = comma ∷ f ++ behind_commas fields

-- so many picks in these sections, as bytes
unfoldable pub laid_out : (picks : ℕ) → List Folded → List ℕ
unfolding fields_of behind_commas
laid_out picks fs = decimal picks ++ behind_commas (decimal (length fs) ∷ fields_of fs) ++ line_end ∷ []

-- the sections with these ends after the first a picks, folded: the first half is rounded up
abbrev pub folded_of : (ℕ → ℕ) → (a : ℕ) → (ends : List ℕ) → List Folded
folded_of w a [] = []
folded_of w a (e ∷ ends) = record { len = e - a; half = stretch w a ((e - a + 1) / 2) } ∷ folded_of w e ends

-- the record of prefix i in the sections with these ends
unfoldable pub record_of : (ℕ → ℕ) → (i : ℕ) → (ends : List ℕ) → List ℕ
unfolding laid_out
record_of w i ends = laid_out i (folded_of w 0 ends)
