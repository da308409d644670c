-- What is read byte by byte is the first line, or a pick.
use Rattle.std.specs.Prelude.{◌≡◌, Bool, true, false, not, cond, Option, Some, None, List, [], ◌∷◌, ℕ, ◌+◌, ◌-◌, eqb}
use Rattle.std.specs.Bool.{then_some}
use Rattle.std.specs.Io.KnownBytes.{Consumes}
use Rattle.std.proofs.Common.{refl, inl, inr}
use Rattle.std.proofs.KnownBytes.{Consumes-trans}
use Rattle.std.proofs.lemmas.Bool.Decides.{eqb_tells}
use Rattle.std.proofs.Math.Bool.{and-false}
use Rattle.words.specs.Definitions.{most_sections}
use Rattle.words.specs.Ranges.{between}
use Rattle.text.specs.Definitions.{line_end, digit_zero}
use Rattle.draft.specs.Output.{good_first_line}
use Rattle.draft.specs.Reading.{FirstRead, good, wrong, PickRead, a_pick, end_byte, no_byte, Reads}

abbrev is_digit : ℕ → Bool
is_digit byte = between (digit_zero + 1) (digit_zero + most_sections) byte

-- bytes that begin no good first line
pub no_line : {r : Option ℕ} {a b : Option (List ℕ)} (bytes : List ℕ) → good_first_line bytes ≡ false → Consumes a b bytes → r ≡ None
    → Reads (FirstRead r) a b
no_line bytes f h e = record { bytes = bytes; is = rw e (wrong f); consumed = h }

-- a byte alone
pub one_byte : {r : Option ℕ} {a b : Option (List ℕ)} (digit : ℕ) → Consumes a b (digit ∷ []) → r ≡ None → Reads (FirstRead r) a b
one_byte digit h e = no_line (digit ∷ []) (and-false (is_digit digit)) h e

digit_read : (t : Bool) (x k : ℕ) → cond t (Some x) None ≡ Some k → (t ≡ true) × (k ≡ x)
digit_read true x k e = (refl, cc)
digit_read false x k e = absurd cc

-- a digit's number, and the byte behind it
pub two_bytes : {r : Option ℕ} {a c : Option (List ℕ)} (b : Option (List ℕ)) (digit end k : ℕ) → Consumes a b (digit ∷ []) → Consumes b c (end ∷ [])
    → cond (is_digit digit) (Some (digit - digit_zero)) None ≡ Some k → r ≡ then_some (eqb end line_end) k → Reads (FirstRead r) a c
two_bytes {r} {a} {c} b digit end k h i d e =
    let all : Consumes a c (digit ∷ end ∷ []) = Consumes-trans a b c (digit ∷ []) (end ∷ []) h i in
    let is = digit_read (is_digit digit) (digit - digit_zero) k d in
    elim (eqb_tells end line_end) [
      | inl y ↦ record { bytes = digit ∷ end ∷ []; is = rw (e, y.0, y.1, is.1) (good is.0); consumed = all }
      | inr n ↦ no_line (digit ∷ end ∷ []) (rw n.0 (and-false (is_digit digit))) all (rw (e, n.0))
    ]

-- what is read as a pick
pub pick_byte : {r : Option ℕ} {a b : Option (List ℕ)} (byte : ℕ) → Consumes a b (byte ∷ []) → r ≡ then_some (not (eqb byte line_end)) byte
    → Reads (PickRead r) a b
pick_byte byte h e = elim (eqb_tells byte line_end) [
  | inl y ↦ record { bytes = byte ∷ []; is = rw (e, y.0, y.1) end_byte; consumed = h }
  | inr n ↦ record { bytes = byte ∷ []; is = rw (e, n.0) (a_pick n.1); consumed = h }
]

pub no_pick : {r : Option ℕ} {a b : Option (List ℕ)} → Consumes a b [] → r ≡ None → Reads (PickRead r) a b
no_pick h e = record { bytes = []; is = rw e no_byte; consumed = h }
