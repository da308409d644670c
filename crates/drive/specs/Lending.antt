-- How much of the lent buffers was lent, and where what comes next ends.
use Rattle.std.specs.Prelude.{◌≡◌, Bool, cond, ◌&&◌, Option, Some, None, ℕ, ◌+◌, leb, length}
use Rattle.drive.specs.Script.{Buffers, buffers}
use Rattle.drive.specs.declared.lending.Buffers.{Buffers as Held}
use Rattle.drive.specs.declared.lending.Sizes.{Sizes}

-- what the buffers hold
abbrev pub held_by : Held → Buffers
held_by b = buffers b.lists.now b.bytes.now b.input.now

-- and how much
abbrev pub sizes_in : Buffers → Sizes
sizes_in s = record { entries = length s.lists; output = length s.bytes; input = length s.input }

-- they are those that were lent; what is only read keeps its contents
abbrev pub SameBuffers : Held → Held → Type 0
SameBuffers b c = (b.lists.ghost_name ≡ c.lists.ghost_name) × (b.bytes.ghost_name ≡ c.bytes.ghost_name) × (b.input.now ≡ c.input.now)

-- so much, and so much more
abbrev pub onward : Sizes → Sizes → Sizes
onward lent z = record { entries = lent.entries + z.entries; output = lent.output + z.output; input = lent.input + z.input }

-- there is so much
abbrev pub within : Sizes → (there : Sizes) → Bool
within z there = leb z.entries there.entries && (leb z.output there.output && leb z.input there.input)

-- the sum, if there is so much
abbrev pub reached : (lent more there : ℕ) → Option ℕ
reached lent more there = cond (leb (lent + more) there) (Some (lent + more)) None
