-- When a state holds what stands in the book. It links one call's promise to the next; a reader need not believe it.
use Rattle.std.specs.Prelude.{◌≡◌, ◌≤◌, length}
use Rattle.words.specs.Definitions.{most_picks, most_sections, word}
use Rattle.words.specs.Prefixes.{Agree}
use Rattle.models.specs.Core.{Holds as ArraysHold}
use Rattle.promises.specs.declared.Draft.{Draft}
use Rattle.promises.specs.Marks.{entries}
use Rattle.promises.specs.Book.{Book, lifted}
use Rattle.promises.specs.State.{arrays_of}

pub record Holds (d : Draft) (b : Book) : Type 0 where
  pub least : 1 ≤ b.K
  pub most : b.K ≤ most_sections
  pub sections : d.numbers.k ≡ b.K
  pub picks : d.numbers.n ≡ length b.row
  pub lifts : d.lifts ≡ b.lifts
  pub marks : d.marks ≡ entries b.marks
  pub room : length d.letters ≡ most_picks
  pub letters : Agree (word d.letters) (word b.row) (length b.row)
  -- by the lifts: the codes, every row word and every gathered word by its definition, the longest ending's centre, the iterator's lists
  pub arrays : ArraysHold b.K (lifted b) (arrays_of d)
