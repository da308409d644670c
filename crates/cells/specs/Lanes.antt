-- The stored arrays with another list in place of one of them.
use Rattle.std.specs.Prelude.{List, ℕ}
use Rattle.cells.specs.declared.Centres.{Centres}
use Rattle.cells.specs.declared.Places.{Places}

-- the entries of an array by centre, and of one by place
abbrev pub centre_entries : ℕ
centre_entries = 4098

abbrev pub place_entries : ℕ
place_entries = 2049

abbrev pub with_radius : Centres → List ℕ → Centres
with_radius v l = record v { radius = l }

abbrev pub with_lends : Centres → List ℕ → Centres
with_lends v l = record v { lends = l }

abbrev pub with_next : Centres → List ℕ → Centres
with_next v l = record v { next = l }

abbrev pub with_prev : Centres → List ℕ → Centres
with_prev v l = record v { prev = l }

abbrev pub with_heads : Places → List ℕ → Places
with_heads w l = record w { heads = l }

abbrev pub with_rows : Places → List ℕ → Places
with_rows w l = record w { rows = l }

abbrev pub with_gathered : Places → List ℕ → Places
with_gathered w l = record w { gathered = l }
