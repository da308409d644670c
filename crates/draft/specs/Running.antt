-- The whole run: what is read, and what is written of it.
use Rattle.std.specs.Prelude.{◌≡◌, true, false, Option, Result, Ok, Err, List, [], ◌∷◌, ℕ, ◌-◌}
use Rattle.std.specs.Io.KnownBytes.{Consumes, Appends}
use Rattle.text.specs.Definitions.{line_end, digit_zero}
use Rattle.promises.specs.declared.Draft.{Draft}
use Rattle.promises.specs.declared.refusal.Refusal.{Refusal}
use Rattle.promises.specs.declared.refusal.Refusal.TheVariants.{Sections}
use Rattle.promises.specs.Book.{started_book}
use Rattle.promises.specs.Holds.{Holds}
use Rattle.draft.specs.Output.{good_first_line, output}

-- a first line was read, and e is the state after a start with its K; or it is no good one
pub data Begins (e : Draft) : Result Unit Refusal → (first : List ℕ) → Type 0 where
  started : {digit : ℕ} → good_first_line (digit ∷ line_end ∷ []) ≡ true → Holds e (started_book (digit - digit_zero))
      → Begins e (Ok tt) (digit ∷ line_end ∷ [])
  not_started : {first : List ℕ} → good_first_line first ≡ false → Begins e (Err Sections) first

-- what was read is answered by the program's output, and nothing else is written: left are the bytes to be read, where they are known,
-- written those that are written
pub record Printed (left left' written written' : Option (List ℕ)) : Type 0 where
  pub read : List ℕ
  pub consumed : Consumes left left' read
  pub appended : Appends written written' (output read)
