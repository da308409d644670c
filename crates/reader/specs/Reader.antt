-- The reader of a record: what its `next` promises, and what its steps yield one after another.
use Rattle.std.specs.Prelude.{◌≡◌, Option, Some, None, List, [], ◌∷◌, ℕ, zero, suc, ◌-◌, length}
use Rattle.std.specs.Iterator.{Count, at_most}
use Rattle.layout.specs.declared.Section.{Section}
use Rattle.layout.specs.Record.{Folded}
use Rattle.layout.specs.Layout.{Passes}
use Rattle.layout.specs.Yield.{sections_in}
use Rattle.promises.specs.Promises.{SectionPromise}
use Rattle.reader.specs.declared.Reader.{Reader}

-- at another place of its record
abbrev pub moved_to : Reader → (at : ℕ) → Reader
moved_to r at = record { bytes = r.bytes; at = at }

-- a step from its place: what is yielded, and then it stands at the place after that
abbrev pub NextPromise : (before : Reader) (r : Option Section) (after : Reader) → Type 0
NextPromise before r after =
    SectionPromise before.bytes.now before.at (record { yielded = r; next = after.at }) × (after ≡ moved_to before after.at)

-- no more sections than bytes are left: each brings the reader nearer to their end
abbrev pub bytes_left : Reader → Count
bytes_left r = at_most (length r.bytes.now - r.at)

-- Steps of one reader, one after another: what each yields

pub data Steps : (before : Reader) → List (Option Section) → (after : Reader) → Type 0 where
  over : {r : Reader} → Steps r [] r
  again : {r s t : Reader} {x : Option Section} {xs : List (Option Section)} → NextPromise r x s → Steps s xs t → Steps r (x ∷ xs) t

-- so many steps: these sections in order, then none
abbrev pub in_order : (steps : ℕ) → List Section → List (Option Section)
in_order zero ss = []
in_order (suc steps) [] = None ∷ in_order steps []
in_order (suc steps) (s ∷ ss) = Some s ∷ in_order steps ss

-- "Sections come in order, then none, and only from a record that 11 and 12 let pass.": xs is what the steps yielded
pub record StepsRight (bytes : List ℕ) (xs : List (Option Section)) : Type 0 where
  pub passes : (picks : ℕ) (fs : List Folded) → Passes bytes picks fs → xs ≡ in_order (length xs) (sections_in 0 fs)
  pub none : ((picks : ℕ) (fs : List Folded) → Passes bytes picks fs → ⊥) → xs ≡ in_order (length xs) []

-- of a reader that begins at place 0, however many steps it makes
abbrev pub StepsHold : Type 0
StepsHold = (r t : Reader) (xs : List (Option Section)) → r.at ≡ 0 → Steps r xs t → StepsRight r.bytes.now xs
