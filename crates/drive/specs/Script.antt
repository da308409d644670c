-- The script of `drive`: the calls that it asks for, six bytes each: the call's number, b, and x and m of two bytes, the low one first.
use Rattle.std.specs.Prelude.{◌≡◌, refl, Bool, cond, ◌&&◌, ◌||◌, List, [], ◌∷◌, ℕ, zero, suc, ◌+◌, ◌-◌, ◌*◌, eqb, leb, ltb, length, get_or, take, drop}
use Rattle.std.proofs.Math.Option.{Option, some, none}
use Rattle.drive.specs.declared.lending.Sizes.{Sizes}
use Rattle.promises.specs.Book.{Query, Call, start, feed, load, mark, back, ask, split, longest, mask, radius, next, fold, lift}

-- What is lent beside the state: entries of lists, bytes of outputs, and bytes that calls only read; what is left of each
pub record Buffers : Type 0 where
  pub lists : List ℕ
  pub bytes : List ℕ
  pub input : List ℕ

abbrev pub buffers : (lists bytes input : List ℕ) → Buffers
buffers lists bytes input = record { lists = lists; bytes = bytes; input = input }

-- The calls that write the state, by their numbers, each on what it is lent
unfoldable pub writing : (b : ℕ) → Buffers → List Call
writing b part = start b ∷ feed b part.lists ∷ load part.input ∷ mark b ∷ back b ∷ []

-- The queries, by their numbers from 16 on; m is a number to one that is lent nothing
unfoldable pub asking : (b x m : ℕ) → Buffers → List Query
asking b x m part =
    split x b part.lists
    ∷ longest
    ∷ mask x
    ∷ radius x
    ∷ next x
    ∷ fold x b part.bytes
    ∷ lift b
    ∷ []

abbrev pub first_query : ℕ
first_query = 16

-- how many they are
abbrev pub writing_count : ℕ
writing_count = 5

abbrev pub query_count : ℕ
query_count = 7

pub counted : (b x m : ℕ) (part : Buffers) → (length (writing b part) ≡ writing_count) × (length (asking b x m part) ≡ query_count)
unfolding writing asking
counted b x m part = (refl, refl)

-- whether a call has the number
abbrev pub is_call : (op : ℕ) → Bool
is_call op = cond (ltb op first_query) (ltb op writing_count) (ltb op (first_query + query_count))

-- the call that has it
unfoldable pub call_on : (op b x m : ℕ) → Buffers → Call
unfolding writing asking
call_on op b x m part =
    cond (ltb op first_query) (get_or (writing b part) op (ask longest)) (ask (get_or (asking b x m part) (op - first_query) longest))

-- What a call is lent: nothing; a list to fill, of m entries or of m bytes; m bytes to read; or a list of m entries and x bytes to read

abbrev pub nothing : ℕ
nothing = 0

abbrev pub of_lists : ℕ
of_lists = 1

abbrev pub of_bytes : ℕ
of_bytes = 2

abbrev pub of_input : ℕ
of_input = 3

abbrev pub of_lists_and_input : ℕ
of_lists_and_input = 4

unfoldable pub source_of : Call → ℕ
source_of (start K) = nothing
source_of (feed pick visits) = of_lists
source_of (load lifts) = of_input
source_of (mark name) = nothing
source_of (back name) = nothing
source_of (ask (split i k ends)) = of_lists
source_of (ask longest) = nothing
source_of (ask (mask i)) = nothing
source_of (ask (radius c)) = nothing
source_of (ask (next c)) = nothing
source_of (ask (fold i k output)) = of_bytes
source_of (ask (lift letter)) = nothing

-- whether the list to fill is entries, or bytes
abbrev pub fills_lists : (source : ℕ) → Bool
fills_lists source = eqb source of_lists || eqb source of_lists_and_input

abbrev pub fills_bytes : (source : ℕ) → Bool
fills_bytes source = eqb source of_bytes

-- the list of a call that fills such a one; [] of any other
abbrev pub list_from : (fills : ℕ → Bool) → Call → (list : List ℕ) → List ℕ
list_from fills c list = cond (fills (source_of c)) list []

-- The next call

-- the number of two bytes at place i
abbrev pub pair : (script : List ℕ) (i : ℕ) → ℕ
pair script i = get_or script i 0 + 256 * get_or script (i + 1) 0

-- what the call of this number is lent
unfoldable pub source_at : (op : ℕ) → ℕ
unfolding call_on source_of
source_at op = source_of (call_on op 0 0 0 (buffers [] [] []))

-- so much from each
abbrev pub sizes_of : (source x m : ℕ) → Sizes
sizes_of source x m = record {
  entries = cond (fills_lists source) m 0;
  output = cond (fills_bytes source) m 0;
  input = cond (eqb source of_input) m (cond (eqb source of_lists_and_input) x 0);
}

abbrev pub sizes_for : (op x m : ℕ) → Sizes
sizes_for op x m = sizes_of (source_at op) x m

-- a call has the number, and so much is left to lend
abbrev pub fits : (op : ℕ) → Sizes → (lists bytes input : ℕ) → Bool
fits op z lists bytes input = is_call op && (leb z.entries lists && (leb z.output bytes && leb z.input input))

abbrev pub fits_in : (op : ℕ) → Sizes → Buffers → Bool
fits_in op z left = fits op z (length left.lists) (length left.bytes) (length left.input)

-- the parts that are lent, and what is left behind them
abbrev pub parts : Sizes → Buffers → Buffers
parts z left = buffers (take z.entries left.lists) (take z.output left.bytes) (take z.input left.input)

abbrev pub past : Sizes → Buffers → Buffers
past z left = buffers (drop z.entries left.lists) (drop z.output left.bytes) (drop z.input left.input)

unfoldable pub call_for : (op b x m : ℕ) → Buffers → Option Call
unfolding call_on source_at
call_for op b x m left = cond (fits_in op (sizes_for op x m) left) (some (call_on op b x m (parts (sizes_for op x m) left))) none

abbrev pub call_size : ℕ
call_size = 6

-- none where fewer than six bytes are left, where no call has the number, and where too little is left to lend
unfoldable pub next_call : (script : List ℕ) → Buffers → Option Call
unfolding call_for
next_call script left =
    cond (leb call_size (length script)) (call_for (get_or script 0 0) (get_or script 1 0) (pair script 2) (pair script 4) left) none

-- how much it is lent
abbrev pub next_sizes : (script : List ℕ) → Sizes
next_sizes script = sizes_for (get_or script 0 0) (pair script 2) (pair script 4)

-- All calls, one after the other, where the answers have room for so many

unfoldable pub or_end : Option Call → (Call → List Call) → List Call
or_end none f = []
or_end (some c) f = f c

unfoldable pub asked : (room : ℕ) (script : List ℕ) → Buffers → List Call
unfolding next_call source_at or_end
asked zero script left = []
asked (suc room) script left =
    or_end (next_call script left) (λ c. c ∷ asked room (drop call_size script) (past (next_sizes script) left))
