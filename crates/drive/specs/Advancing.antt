-- The loop of `drive`, one call at a time: the next call is made and its answer stored, or the script has ended.
use Rattle.std.specs.Prelude.{◌≡◌, List, ℕ, ◌+◌, ◌≤◌, length, drop, Option as Maybe, Some, None}
use Rattle.std.proofs.Math.Option.{Option, some, none}
use Rattle.promises.specs.declared.Draft.{Draft}
use Rattle.promises.specs.Book.{Call}
use Rattle.promises.specs.Runs.{Made, call_of, Meets, leaves}
use Rattle.drive.specs.Script.{Buffers, buffers, next_call, next_sizes}
use Rattle.drive.specs.Drives.{answers_of, entries_of, bytes_of}
use Rattle.drive.specs.Parts.{LendsAt}
use Rattle.drive.specs.Lending.{onward}
use Rattle.drive.specs.declared.lending.Sizes.{Sizes}

-- what is left to lend where so much was lent
abbrev pub left_at : Buffers → (lent : Sizes) → Buffers
left_at s lent = buffers (drop lent.entries s.lists) (drop lent.output s.bytes) (drop lent.input s.input)

-- no more was lent than there is
pub record Inside (s : Buffers) (lent : Sizes) : Type 0 where
  pub entries : lent.entries ≤ length s.lists
  pub output : lent.output ≤ length s.bytes
  pub input : lent.input ≤ length s.input

-- s is what was lent, as it stands; answer is the next answer's four numbers

-- c was made, and lent z
pub record Goes (d : Draft) (c : Call) (z : Sizes) (s : Buffers) (lent r : Sizes) (e : Draft) (lists' bytes' answer' : List ℕ) : Type 0 where
  pub made : Made
  pub meets : Meets d made
  pub call : call_of made ≡ c
  pub left : leaves d made ≡ e
  pub on : r ≡ onward lent z
  pub listed : LendsAt s.lists lent.entries z.entries (entries_of made) lists'
  pub written : LendsAt s.bytes lent.output z.output (bytes_of made) bytes'
  pub read : lent.input + z.input ≤ length s.input
  pub told : answer' ≡ answers_of made

-- no call was made
pub record Halts (d : Draft) (s : Buffers) (answer : List ℕ) (e : Draft) (lists' bytes' answer' : List ℕ) : Type 0 where
  pub state : e ≡ d
  pub entries : lists' ≡ s.lists
  pub output : bytes' ≡ s.bytes
  pub told : answer' ≡ answer

-- r is how much was lent with it
pub data Advances (d : Draft) (z : Sizes) (s : Buffers) (answer : List ℕ) (lent : Sizes) (e : Draft) (lists' bytes' answer' : List ℕ) : Maybe Sizes → Option Call → Type 0 where
  halts : Halts d s answer e lists' bytes' answer' → Advances d z s answer lent e lists' bytes' answer' None none
  goes : {c : Call} {r : Sizes} → Goes d c z s lent r e lists' bytes' answer' → Advances d z s answer lent e lists' bytes' answer' (Some r) (some c)

-- by the script's next call
abbrev pub AdvancesAt : (script : List ℕ) (s : Buffers) (answer : List ℕ) (lent : Sizes) (r : Maybe Sizes) (d e : Draft) (lists' bytes' answer' : List ℕ) → Type 0
AdvancesAt script s answer lent r d e lists' bytes' answer' =
    Advances d (next_sizes script) s answer lent e lists' bytes' answer' r (next_call script (left_at s lent))
