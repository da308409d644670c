-- What is read of the input, byte by byte.
use Rattle.std.specs.Prelude.{◌≡◌, true, false, ◌≢◌, Option, Some, None, List, [], ◌∷◌, ℕ, ◌+◌, ◌-◌}
use Rattle.std.specs.Io.KnownBytes.{Consumes}
use Rattle.words.specs.Definitions.{most_sections}
use Rattle.words.specs.Ranges.{between}
use Rattle.text.specs.Definitions.{line_end, digit_zero}
use Rattle.draft.specs.Output.{good_first_line}

-- a byte that may be there
abbrev pub bytes_of : Option ℕ → List ℕ
bytes_of (Some byte) = byte ∷ []
bytes_of None = []

-- the first line: K, or bytes that begin no good one
pub data FirstRead : Option ℕ → List ℕ → Type 0 where
  good : {digit : ℕ} → between (digit_zero + 1) (digit_zero + most_sections) digit ≡ true → FirstRead (Some (digit - digit_zero)) (digit ∷ line_end ∷ [])
  wrong : {bytes : List ℕ} → good_first_line bytes ≡ false → FirstRead None bytes

-- a pick; or the byte that ends the picks; or nothing, at the end
pub data PickRead : Option ℕ → List ℕ → Type 0 where
  a_pick : {byte : ℕ} → byte ≢ line_end → PickRead (Some byte) (byte ∷ [])
  end_byte : PickRead None (line_end ∷ [])
  no_byte : PickRead None []

-- what was read, where the bytes that are left before and after it are known
pub record Reads (Is : List ℕ → Type 0) (left left' : Option (List ℕ)) : Type 0 where
  pub bytes : List ℕ
  pub is : Is bytes
  pub consumed : Consumes left left' bytes
