-- The lists of the models in the lent arrays. A model computes the lists that change; put back into the arrays, the others stay.
use Rattle.std.specs.Prelude.{List, ℕ}
use Rattle.cells.specs.declared.Centres.{Centres}
use Rattle.cells.specs.declared.Places.{Places}
use Rattle.cells.specs.Lanes.{with_radius, with_lends, with_next, with_prev, with_heads}
use Rattle.models.specs.Iterator.{Iterator, iterator, Scanned, Links, links}

abbrev pub iterator_in : List ℕ → Centres → Places → ℕ → Iterator
iterator_in letters v w s = iterator letters v.radius w.heads v.lends v.next v.prev s

-- after a scan: the centre that it stopped at, and the arrays
pub record Moved : Type 0 where
  pub longest : ℕ
  pub centred : Centres
  pub placed : Places

abbrev pub moved : ℕ → Centres → Places → Moved
moved s v w = record { longest = s; centred = v; placed = w }

abbrev pub rescanned : Centres → Places → Scanned → Moved
rescanned v w g = moved g.longest (with_lends (with_radius v g.radius) g.lends) (with_heads w g.heads)

abbrev pub links_in : Centres → Links
links_in v = links v.next v.prev

abbrev pub relinked : Centres → Links → Centres
relinked v l = with_prev (with_next v l.next) l.prev
