-- Reading records back (document 02, 2.1 and 2.5), as statements. Their proofs are in proofs/.
use Rattle.std.specs.Prelude.{◌≡◌, ◌↔◌, Result, List, [], ◌∷◌, map, reverse, ℕ, ◌≤◌, ◌<◌, length, take}
use Rattle.words.specs.Definitions.{word, prefix, lengths_back, Named}
use Rattle.layout.specs.declared.Section.{Section}
use Rattle.layout.specs.declared.Found.{Found}
use Rattle.layout.specs.Record.{Folded}
use Rattle.layout.specs.Layout.{Every, Letter, Layout, BreaksAt, Passes}
use Rattle.layout.specs.Unfolding.{picks_of, Unfolds}
use Rattle.layout.specs.Yield.{nothing_at, yield_at, walk, Yields}
use Rattle.promises.specs.declared.Draft.{Draft}
use Rattle.promises.specs.declared.refusal.Refusal.{Refusal}
use Rattle.promises.specs.Answers.{Said, gave, refused_at, Under, Reply, filled, number_says}
use Rattle.promises.specs.Lifts.{lifted_by, Distinct}
use Rattle.promises.specs.Book.{fold, book_of}
use Rattle.promises.specs.Listed.{First, NoneMet, unfold_lines}
use Rattle.promises.specs.Promises.{Reads, UnfoldPromise, SectionPromise}
use Rattle.promises.specs.Runs.{Made, calls, last}
use Rattle.promises.specs.Demands.{Accepted, row_of, OfEveryRun}

-- Unfolding

-- "fills a lent list with the picks and answers how many": a draft of as many sections as the record says, with the lengths that it says
pub record UnfoldSays (bytes before : List ℕ) (said : Said) (after : List ℕ) : Type 0 where
  pub picks : ℕ
  pub sections : List Folded
  pub passes : Passes bytes picks sections
  pub unfolds : Unfolds bytes picks sections (picks_of sections)
  pub says : said ≡ gave (picks ∷ [])
  pub fills : after ≡ filled (picks_of sections) before

pub record UnfoldRight (bytes before : List ℕ) (said : Said) (after : List ℕ) : Type 0 where
  -- 11, then 12, then 5: the first line that is met
  pub refuses : (x : ℕ) → Under said x ↔ First (unfold_lines bytes before) x
  -- 11 names its place, and no other number does
  pub places : (x place : ℕ) → (said ≡ refused_at x place) ↔ ((x ≡ 11) × BreaksAt bytes place)
  pub keeps : (x : ℕ) → Under said x → after ≡ before
  pub accepts : Accepted said ↔ NoneMet (unfold_lines bytes before)
  pub gives : NoneMet (unfold_lines bytes before) → UnfoldSays bytes before said after

abbrev pub UnfoldHolds : Type 0
UnfoldHolds = (bytes before : List ℕ) (r : Result ℕ Refusal) (after : List ℕ) → UnfoldPromise bytes before r after
    → UnfoldRight bytes before (number_says r) after

-- a place is given exactly where the bytes are not of the layout, and then it is one
pub record PlaceRight (bytes : List ℕ) : Type 0 where
  pub none : Layout bytes ↔ ((place : ℕ) → BreaksAt bytes place → ⊥)
  pub one : (a b : ℕ) → BreaksAt bytes a → BreaksAt bytes b → a ≡ b

abbrev pub PlacesHold : Type 0
PlacesHold = (bytes : List ℕ) → PlaceRight bytes

-- Sections

-- "Sections come in order, then none, and only from a record that 11 and 12 let pass."
pub record SectionsRight (bytes : List ℕ) : Type 0 where
  pub passes : (picks : ℕ) (fs : List Folded) → Passes bytes picks fs → Yields bytes picks fs
  pub none : ((picks : ℕ) (fs : List Folded) → Passes bytes picks fs → ⊥) → (at : ℕ) → yield_at bytes at ≡ nothing_at at

-- the numbers of `Answers.antt` tell every case apart: what a step promises is what is yielded
abbrev pub SectionIs : Type 0
SectionIs = (bytes : List ℕ) (at : ℕ) (r : Found) → SectionPromise bytes at r → r ≡ yield_at bytes at

abbrev pub SectionsHold : Type 0
SectionsHold = (bytes : List ℕ) → SectionsRight bytes

-- Records that the board wrote

-- of prefix i of the row in k sections, under these lifts
pub record ReadsBack (lifts row : List ℕ) (i k : ℕ) (bytes : List ℕ) : Type 0 where
  pub ends : List ℕ
  pub named : Named (word (lifted_by lifts row)) i k ends
  -- what it unfolds to
  pub picks : List ℕ
  pub unfolds : (before : List ℕ) (r : Result ℕ Refusal) (after : List ℕ) → i ≤ length before → UnfoldPromise bytes before r after
      → (number_says r ≡ gave (i ∷ [])) × (after ≡ filled picks before)
  -- "A folded record unfolds to a draft with the same lifts, its letters possibly others."
  pub lettered : Every Letter picks
  pub alike : lifted_by lifts picks ≡ prefix (word (lifted_by lifts row)) i
  -- "A record written from a draft's prefix unfolds to that prefix", where no two letters lift alike
  pub same : Distinct lifts → picks ≡ prefix (word row) i
  -- and its reader yields sections with the split's lengths
  pub lengths : (steps : ℕ) → k < steps → map (λ (s : Section). s.length) (walk bytes steps 0) ≡ reverse (lengths_back 0 ends)

-- each fold that is accepted after a run, the row being the book's
pub record FoldsReadBack (d : Draft) (ms : List Made) : Type 0 where
  pub each : (i k : ℕ) (output : List ℕ) (r : Reply) (count : ℕ) → Reads (last d ms) (fold i k output) r → r.said ≡ gave (count ∷ [])
      → ReadsBack (book_of (calls ms)).lifts (row_of ms) i k (take count r.list)

abbrev pub ReadBackHolds : Type 0
ReadBackHolds = OfEveryRun FoldsReadBack
