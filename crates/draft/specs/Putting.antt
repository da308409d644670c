-- The room of a line, and its front.
use Rattle.std.specs.Prelude.{◌≡◌, List, ℕ, ◌+◌, ◌*◌, ◌≤◌, length, take}
use Rattle.text.specs.Decimal.{most_digits}

-- a field is a number and a byte, and a line at most four of them
abbrev pub most_field : ℕ
most_field = most_digits + 1

abbrev pub room : ℕ
room = 4 * most_field

-- `&xs[..n]` is in bounds and has n bytes; the second part follows from the first
abbrev pub IsPrefixLen : ℕ → List ℕ → Type 0
IsPrefixLen n xs = (n ≤ length xs) × (n ≡ length (take n xs))
