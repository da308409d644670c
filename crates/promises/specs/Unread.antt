-- What each query may read of a state, and that all else counts for nothing in it (document 02, 2.6), as statements of any state whatever.
-- Their proofs are in proofs/.
use Rattle.std.specs.Prelude.{◌≡◌, List, [], ℕ, ◌+◌, ◌≤◌, take}
use Rattle.cells.specs.Lanes.{with_rows}
use Rattle.cells.specs.declared.Numbers.{Numbers}
use Rattle.models.specs.Stores.{at}
use Rattle.promises.specs.declared.Draft.{Draft}
use Rattle.promises.specs.Answers.{Reply}
use Rattle.promises.specs.Book.{Query, split, longest, mask, radius, next, fold, lift}
use Rattle.promises.specs.State.{draft_in}
use Rattle.promises.specs.Promises.{computed_to, Reads}

-- what a query may read beside n, K and the longest ending's centre: of each array that some query reads, as much as this one may
pub record Parts : Type 0 where
  pub letters : List ℕ
  pub lifts : List ℕ
  pub radius : List ℕ
  pub next : List ℕ
  pub rows : List ℕ

-- how many the prefixes 0 to i are
abbrev pub prefixes_to : (i : ℕ) → ℕ
prefixes_to i = i + 1

-- their row words: "Row words of prefixes above i count for nothing in it"
abbrev pub rows_to : (i : ℕ) → Draft → List ℕ
rows_to i d = take (prefixes_to i) d.places.rows

-- the arrays that the call is lent, row words of prefixes up to its own
abbrev pub parts_for : Draft → Query → Parts
parts_for d (split i k ends) = record { letters = []; lifts = []; radius = d.centres.radius; next = []; rows = rows_to i d }
parts_for d longest = record { letters = []; lifts = []; radius = []; next = []; rows = [] }
parts_for d (mask i) = record { letters = []; lifts = []; radius = []; next = []; rows = rows_to i d }
parts_for d (radius c) = record { letters = []; lifts = []; radius = d.centres.radius; next = []; rows = [] }
parts_for d (next c) = record { letters = []; lifts = []; radius = d.centres.radius; next = d.centres.next; rows = [] }
parts_for d (fold i k output) = record { letters = d.letters; lifts = []; radius = d.centres.radius; next = []; rows = rows_to i d }
parts_for d (lift letter) = record { letters = []; lifts = d.lifts; radius = []; next = []; rows = [] }

-- a state of these numbers and parts, all its other arrays empty
abbrev pub state_from : Numbers → Parts → Draft
state_from held p = draft_in held p.letters [] p.lifts [] (record { radius = p.radius; lends = []; next = p.next; prev = [] })
    (record { heads = []; rows = p.rows; gathered = [] })

-- the reply, from these numbers and parts alone
unfoldable pub reply_from : Numbers → Parts → Query → Reply
unfolding computed_to
reply_from held p q = computed_to (state_from held p) q

-- The reply to every query is that function of the parts that it may read
abbrev pub PartsHold : Type 0
PartsHold = (d : Draft) (q : Query) (r : Reply) → Reads d q r → r ≡ reply_from d.numbers (parts_for d q) q

-- a state with other row words, all else as it is
abbrev pub other_rows : Draft → (rows : List ℕ) → Draft
other_rows d rows = record d { places = with_rows d.places rows }

-- alike in all but row words above place i
pub record AlikeTo (i : ℕ) (d e : Draft) : Type 0 where
  pub rows : (j : ℕ) → j ≤ i → at d.places.rows j ≡ at e.places.rows j
  pub others : e ≡ other_rows d e.places.rows

-- "two states alike in all else, also states that no run made, give the same ends and refusals": the same reply, and the same list after it
abbrev pub SplitAlike : Type 0
SplitAlike = (d e : Draft) (i k : ℕ) (before : List ℕ) (r s : Reply) → AlikeTo i d e → Reads d (split i k before) r → Reads e (split i k before) s → r ≡ s
