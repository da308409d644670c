-- The search for the section at a place, as the code makes it while it reads a record.
use Rattle.std.specs.Prelude.{Bool, cond, ℕ, eqb, Option, Some, None}
use Rattle.layout.specs.declared.Found.{Found}
use Rattle.layout.specs.Yield.{section_after, nothing_at, found_at}
use Rattle.reader.specs.declared.step.Sections.{Sections}
use Rattle.reader.specs.declared.step.Totals.{Totals}
use Rattle.reader.specs.declared.step.State.{State}
use Rattle.reader.specs.declared.step.State.TheVariants.{InLength, InHalf, Closed}
use Rattle.reader.specs.declared.section.Search.{Search}
use Rattle.reader.specs.Numbers.{totals}

-- whether the section just read is the one sought: it begins at the place, or it is the first and the place is 0
abbrev pub sought : (at from whole : ℕ) → Bool
sought at from whole = cond (eqb at 0) (eqb whole 0) (eqb at from)

-- what is found after a step from s to t: the section of len picks that it reads whole, where that is sought
abbrev pub noted_section : Found → Sections → (len at from next : ℕ) → Found
noted_section found r len at from next = cond (sought at from r.whole) (found_at (section_after r.sum len) next) found

unfoldable pub noted : Found → (s t : State) → (at from next : ℕ) → Found
unfolding section_after
noted found (InHalf r len k) (InLength q v) at from next = noted_section found r len at from next
noted found (InHalf r len k) (Closed t) at from next = noted_section found r len at from next
noted found s t at from next = found

-- the first byte of the section being read, after a step from s to t
unfoldable pub begun : (from : ℕ) → (s t : State) → (next : ℕ) → ℕ
begun from (InLength q u) (InLength r v) next = from
begun from s (InLength r v) next = next
begun from s t next = from

-- the search after a step from s to t
abbrev pub searched : Search → (s t : State) → (next : ℕ) → Search
searched q s t next = record { at = q.at; found = noted q.found s t q.at q.from next; from = begun q.from s t next }

-- what was found counts only in a record that 11 and 12 let pass
abbrev pub settled_by : Option Totals → Found → (at : ℕ) → Found
settled_by None found at = nothing_at at
settled_by (Some t) found at = cond (eqb t.sum t.picks) found (nothing_at at)

unfoldable pub settled : State → Found → (at : ℕ) → Found
settled s found at = settled_by (totals s) found at
