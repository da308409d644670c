-- What is left of a loop of the iterator's code, in its model.
use Rattle.std.specs.Prelude.{List}
use Prim.Native.Nat.{ℕ}
use Rattle.cells.specs.declared.Centres.{Centres}
use Rattle.cells.specs.declared.Places.{Places}
use Rattle.models.specs.Iterator.{scan, link, unlink, unlinks}
use Rattle.models.specs.Lanes.{Moved, rescanned, links_in, relinked}

-- The scan on the arrays: it is at c, m centres are left, r is the radius by reflection

abbrev pub scan_in : (letters : List ℕ) (n pick from k c : ℕ) → Centres → Places → Moved
scan_in letters n pick from k c v w = rescanned v w (scan letters n pick from k c v.radius w.heads v.lends)

-- The list of the ending centres

abbrev pub link_in : Centres → (x y : ℕ) → Centres
link_in v x y = relinked v (link (links_in v) x y)

abbrev pub unlink_in : Centres → ℕ → Centres
unlink_in v c = relinked v (unlink (links_in v) c)

abbrev pub unlinks_in : (s k x : ℕ) → Centres → Centres
unlinks_in s k x v = relinked v (unlinks v.lends s k x (links_in v))
