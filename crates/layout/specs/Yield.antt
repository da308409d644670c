-- What a reader of a record yields, step by step.
use Rattle.std.specs.Prelude.{◌≡◌, cond, ◌≢◌, Option, Some, None, List, [], ◌∷◌, ◌++◌, ℕ, zero, suc, ◌+◌, ◌*◌, ◌/◌, ◌%◌, ◌<◌, eqb, length}
use Rattle.cells.specs.declared.Place.{Place}
use Rattle.words.specs.Definitions.{centre}
use Rattle.text.specs.Definitions.{comma, decimal}
use Rattle.layout.specs.declared.Turn.{Turn}
use Rattle.layout.specs.declared.Turn.TheVariants.{OnPick, Between}
use Rattle.layout.specs.declared.Section.{Section}
use Rattle.layout.specs.declared.Found.{Found}
use Rattle.layout.specs.Record.{Folded}
use Rattle.layout.specs.Layout.{total, opening}
use Rattle.layout.specs.Reading.{Reading, whole, breaks, reading}

-- "The turn's place is its pick's number in the draft, or that of the earlier of the two": of a section of len picks after the first a
unfoldable pub turn_of : (a len : ℕ) → Turn
turn_of a len = cond (eqb (len % 2) 1) (OnPick (record { 0 = a + (len + 1) / 2 })) (Between (record { 0 = a + len / 2 }))

unfoldable pub section_after : (a len : ℕ) → Section
unfolding turn_of
section_after a len = record { length = len; turn = turn_of a len }

abbrev pub nothing_at : (at : ℕ) → Found
nothing_at at = record { yielded = None; next = at }

abbrev pub found_at : Section → (next : ℕ) → Found
found_at s next = record { yielded = Some s; next = next }

-- the bytes from a section's first byte to that of the next: its length and its half, and behind each a comma or the end of the line
unfoldable pub bytes_in : Folded → ℕ
bytes_in f = length (decimal f.len) + length f.half + 2

-- the section that begins at the place sought, the first of these beginning at `first`, after the first a picks; where none does, nothing
-- at the place given
unfoldable pub among : (given first a : ℕ) → List Folded → (sought : ℕ) → Found
unfolding section_after bytes_in
among given first a [] sought = nothing_at given
among given first a (f ∷ fs) sought =
    cond (eqb sought first) (found_at (section_after a f.len) (first + bytes_in f)) (among given (first + bytes_in f) (a + f.len) fs sought)

-- the first byte of the first section, behind the picks and the count of sections
unfoldable pub behind_count : (picks count : ℕ) → ℕ
behind_count picks count = length (decimal picks) + length (decimal count) + 2

unfoldable pub yielded : Reading → (at : ℕ) → Found
unfolding among behind_count
yielded (breaks place) at = nothing_at at
yielded (whole picks fs) at = cond (eqb (total fs) picks)
    (among at (behind_count picks (length fs)) 0 fs (cond (eqb at 0) (behind_count picks (length fs)) at))
    (nothing_at at)

-- What a reader yields at a place of any bytes: "only from a record that 11 and 12 let pass. From any place but 0 or a section's first byte
-- it yields none."
unfoldable pub yield_at : (bytes : List ℕ) (at : ℕ) → Found
unfolding reading yielded
yield_at bytes at = yielded (reading bytes) at

-- Stepping: from a place on, at most so many steps

abbrev pub on_from : Option Section → List Section → List Section
on_from (Some s) rest = s ∷ rest
on_from None rest = []

unfoldable pub walk : (bytes : List ℕ) (steps at : ℕ) → List Section
unfolding yield_at
walk bytes zero at = []
walk bytes (suc steps) at = on_from (yield_at bytes at).yielded (walk bytes steps (yield_at bytes at).next)

-- What it is to yield a record's sections

-- these sections, after the first a picks
abbrev pub sections_in : (a : ℕ) → List Folded → List Section
sections_in a [] = []
sections_in a (f ∷ fs) = section_after a f.len ∷ sections_in (a + f.len) fs

-- a section's first byte, the sections `before'` standing before it: behind the picks, the count, their fields, and a comma
unfoldable pub place_after : (picks : ℕ) (fs before' : List Folded) → ℕ
unfolding opening
place_after picks fs before' = length (opening picks (length fs) before' ++ comma ∷ [])

-- the turn is the middle of the section of len picks after the first a: in half picks, document 01's centre
pub data Middle (a len : ℕ) : Turn → Type 0 where
  on : (p : Place) → centre (a + len) len ≡ 2 * p.0 → Middle a len (OnPick p)
  between : (p : Place) → centre (a + len) len ≡ 2 * p.0 + 1 → Middle a len (Between p)

pub record Yields (bytes : List ℕ) (picks : ℕ) (fs : List Folded) : Type 0 where
  -- from a section's first byte that section, and the place is then the next section's first byte, after the last the record's length
  pub each : (a : List Folded) (f : Folded) (rest : List Folded) → fs ≡ a ++ f ∷ rest
      → yield_at bytes (place_after picks fs a) ≡ found_at (section_after (total a) f.len) (place_after picks fs (a ++ f ∷ []))
  pub last : place_after picks fs fs ≡ length bytes
  -- each turn is in the middle of its section
  pub middle : (a : List Folded) (f : Folded) (rest : List Folded) → fs ≡ a ++ f ∷ rest
      → Middle (total a) f.len (turn_of (total a) f.len)
  -- from place 0 what it yields from the first section's first byte
  pub begin : yield_at bytes 0 ≡ yield_at bytes (place_after picks fs [])
  -- from any other place none
  pub others : (at : ℕ) → at ≢ 0 → ((a : List Folded) (f : Folded) (rest : List Folded) → fs ≡ a ++ f ∷ rest → at ≢ place_after picks fs a)
      → yield_at bytes at ≡ nothing_at at
  -- "Sections come in order, then none"
  pub order : (steps : ℕ) → length fs < steps → walk bytes steps 0 ≡ sections_in 0 fs
