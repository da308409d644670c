-- Picks fed one after another, and the masks that were answered.
use Rattle.std.specs.Prelude.{◌≡◌, List, [], ◌∷◌, ◌++◌, ℕ, length, take}
use Rattle.std.proofs.lemmas.List.Edits.{sets}
use Rattle.cells.specs.declared.Numbers.{Numbers}
use Rattle.promises.specs.declared.Draft.{Draft}
use Rattle.promises.specs.declared.FeedAnswer.{FeedAnswer}
use Rattle.promises.specs.declared.FeedAnswer.TheVariants.{Taken, Refused}
use Rattle.promises.specs.Promises.{FeedPromise}
use Rattle.promises.specs.Lent.{answered_as}

-- the mask of an answer; 0 of a refusal
abbrev pub mask_of : FeedAnswer → ℕ
mask_of (Taken mask count) = mask
mask_of (Refused number) = 0

-- d is the state before the first pick, the last one that after the last; list is the visit list before, and each feed is lent it as the one
-- before left it
pub data Feeds (d : Draft) (list : List ℕ) : (picks : List ℕ) → Draft → (masks list' : List ℕ) → Type 0 where
  none : Feeds d list [] d [] list
  more : {picks masks before after : List ℕ} {e f : Draft} {pick : ℕ} {answer : FeedAnswer} → Feeds d list picks e masks before
      → FeedPromise e pick before (answered_as answer f) after → Feeds d list (picks ++ pick ∷ []) f (masks ++ mask_of answer ∷ []) after

-- all picks were fed; state is what the arrays are afterwards, by its numbers, list' the visit list. The masks stand at the front of theirs
pub record FeedsAll (d : Draft) (picks list masks : List ℕ) (longest : ℕ) (state : Numbers → Draft) (list' masks' : List ℕ) : Type 0 where
  pub held : Numbers
  pub told : List ℕ
  pub feeds : Feeds d list picks (state held) told list'
  pub centre : longest ≡ held.longest.0
  pub stored : masks' ≡ sets masks 0 told

-- i picks were fed
pub record Reaches (d : Draft) (picks list masks : List ℕ) (i : ℕ) (e : Draft) (list' masks' : List ℕ) : Type 0 where
  pub told : List ℕ
  pub feeds : Feeds d list (take i picks) e told list'
  pub count : length told ≡ i
  pub stored : masks' ≡ sets masks 0 told
