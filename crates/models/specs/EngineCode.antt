-- What is left of a loop of the engine's code, in its model.
use Rattle.std.specs.Prelude.{List}
use Prim.Native.Nat.{ℕ}
use Rattle.std.specs.Int.Bits.{bit_or}
use Rattle.cells.specs.declared.Places.{Places}
use Rattle.models.specs.Engine.{walk, Seen, seen}

-- the walk on the arrays
abbrev pub seen_in : (N : List ℕ) (n k len a : ℕ) → Places → (vs : List ℕ) (count : ℕ) → Seen
seen_in N n k len a w vs count = seen w (walk bit_or w.rows N n k len w.gathered a) vs count
