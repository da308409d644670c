-- Which bytes are a record, whoever wrote them; and where bytes that are none break off.
use Rattle.std.specs.Prelude.{◌≡◌, ◌≢◌, List, [], ◌∷◌, ◌++◌, ℕ, suc, ◌+◌, ◌/◌, ◌≤◌, ◌<◌, length, get_or, take}
use Rattle.words.specs.Definitions.{From, most_picks, most_sections, first_letter, last_letter}
use Rattle.text.specs.Definitions.{comma, digit_zero, decimal}
use Rattle.layout.specs.Record.{Folded, fields_of, behind_commas, laid_out}

-- P of every entry
pub data Every {A : Type 0} (P : A → Type 0) : List A → Type 0 where
  none : Every P []
  more : {a : A} {l : List A} → P a → Every P l → Every P (a ∷ l)

-- "A pick is one byte, A to Z (65 to 90)"
abbrev pub Letter : (byte : ℕ) → Type 0
Letter byte = From first_letter last_letter byte

abbrev pub Digit : (byte : ℕ) → Type 0
Digit byte = From digit_zero (digit_zero + 9) byte

-- Records

-- a length of 1 to 2,048, and half as many letters, rounded up
pub record Fits (f : Folded) : Type 0 where
  pub ranged : From 1 most_picks f.len
  pub halved : length f.half ≡ (f.len + 1) / 2
  pub lettered : Every Letter f.half

-- these bytes are so many picks in these sections, laid out: 1 to 2,048 picks, 1 to 8 sections. That the lengths add up is no part of it.
pub record Laid (bytes : List ℕ) (picks : ℕ) (fs : List Folded) : Type 0 where
  pub ranged : From 1 most_picks picks
  pub counted : From 1 most_sections (length fs)
  pub fitting : Every Fits fs
  pub written : bytes ≡ laid_out picks fs

-- of the layout
pub record Layout (bytes : List ℕ) : Type 0 where
  pub picks : ℕ
  pub sections : List Folded
  pub laid : Laid bytes picks sections

-- the picks in these sections
abbrev pub total : List Folded → ℕ
total [] = 0
total (f ∷ fs) = f.len + total fs

-- a record of the layout whose lengths add up to the picks
pub record Passes (bytes : List ℕ) (picks : ℕ) (fs : List Folded) : Type 0 where
  pub laid : Laid bytes picks fs
  pub adds : total fs ≡ picks

-- Where bytes break off

-- some record of the layout begins with these bytes
pub record Begins (front : List ℕ) : Type 0 where
  pub rest : List ℕ
  pub layout : Layout (front ++ rest)

-- "the first byte that cannot continue the layout": the bytes before it begin a record, with it they begin none. Where they end too early,
-- the place is "at the record's length".
pub record Stops (bytes : List ℕ) (place : ℕ) : Type 0 where
  pub broken : Layout bytes → ⊥
  pub within : place ≤ length bytes
  pub front : Begins (take place bytes)
  pub stuck : place < length bytes → Begins (take (suc place) bytes) → ⊥

-- the picks, the count of sections, and some of them whole: what a record begins with
unfoldable pub opening : (picks count : ℕ) → List Folded → List ℕ
unfolding fields_of behind_commas
opening picks count fs = decimal picks ++ behind_commas (decimal count ∷ fields_of fs)

-- behind these bytes a number from 1 to most is due: the picks, the count of sections, or a section's length
pub data NumberDue : (front : List ℕ) → (most : ℕ) → Type 0 where
  of_picks : NumberDue [] most_picks
  of_sections : {p : ℕ} → From 1 most_picks p → NumberDue (decimal p ++ comma ∷ []) most_sections
  of_length : {p c : ℕ} {fs : List Folded} → From 1 most_picks p → From 1 most_sections c → Every Fits fs → length fs < c
      → NumberDue (opening p c fs ++ comma ∷ []) most_picks

-- a number stands at this place, by its whole run of digits, that is none from 1 to most in decimal: outside, or with a leading 0
pub record NumberOutside (bytes : List ℕ) (place : ℕ) : Type 0 where
  pub front : List ℕ
  pub digits : List ℕ
  pub rest : List ℕ
  pub is : bytes ≡ front ++ (digits ++ rest)
  pub at : place ≡ length front
  pub most : ℕ
  pub due : NumberDue front most
  pub some : 1 ≤ length digits
  pub all : Every Digit digits
  pub whole : Digit (get_or rest 0 0) → ⊥
  pub outside : (n : ℕ) → From 1 most n → digits ≢ decimal n

-- Number 11's place: "the first byte that cannot continue the layout, a number outside 1 to 2,048 (sections: 1 to 8) counting at its first
-- byte and an early end at the record's length"
pub data BreaksAt (bytes : List ℕ) (place : ℕ) : Type 0 where
  number : NumberOutside bytes place → BreaksAt bytes place
  byte : ((other : ℕ) → NumberOutside bytes other → ⊥) → Stops bytes place → BreaksAt bytes place
