-- Where a record's sections begin, by the bytes in front of them; and the picks before them.
use Rattle.std.specs.Prelude.{◌≡◌, refl, ◌≢◌, List, [], ◌∷◌, ◌++◌, ℕ, ◌+◌, ◌≤◌, length}
use Rattle.std.proofs.Common.{◌∙◌, arith, length-append}
use Rattle.text.specs.Definitions.{comma, decimal}
use Rattle.layout.specs.Record.{Folded, fields_of, behind_commas}
use Rattle.layout.specs.Layout.{total, opening}
use Rattle.layout.specs.Yield.{bytes_in, behind_count, place_after}

-- the bytes of these sections
abbrev pub offset : List Folded → ℕ
offset [] = 0
offset (f ∷ fs) = bytes_in f + offset fs

pub offset_append : (a b : List Folded) → offset (a ++ b) ≡ offset a + offset b
offset_append [] b = omega arith
offset_append (f ∷ a) b = omega (arith, offset_append a b)

pub bytes_in_two : (f : Folded) → 2 ≤ bytes_in f
unfolding bytes_in
bytes_in_two f = omega arith

pub total_snoc : (a : List Folded) (f : Folded) → total (a ++ f ∷ []) ≡ total a + f.len
total_snoc [] f = omega arith
total_snoc (g ∷ a) f = omega (arith, total_snoc a f)

-- Places

fields_length : (fs : List Folded) → length (behind_commas (fields_of fs)) ≡ offset fs
unfolding fields_of behind_commas bytes_in
fields_length [] = refl
fields_length (f ∷ fs) =
    let rest = behind_commas (fields_of fs) in
    omega (arith, length-append (decimal f.len) (comma ∷ f.half ++ rest), length-append f.half rest, fields_length fs)

pub opening_length : (p c : ℕ) (fs : List Folded) → length (opening p c fs) ≡ length (decimal p) + length (decimal c) + 1 + offset fs
unfolding opening
opening_length p c fs =
    let rest = behind_commas (fields_of fs) in
    omega (arith, length-append (decimal p) (comma ∷ decimal c ++ rest), length-append (decimal c) rest, fields_length fs)

pub place_as : (picks : ℕ) (fs a : List Folded) → place_after picks fs a ≡ behind_count picks (length fs) + offset a
unfolding place_after behind_count
place_as picks fs a = length-append (opening picks (length fs) a) (comma ∷ []) ∙ omega (arith, opening_length picks (length fs) a)

pub place_some : (picks : ℕ) (fs a : List Folded) → place_after picks fs a ≢ 0
unfolding behind_count
place_some picks fs a e = omega (arith, place_as picks fs a)
