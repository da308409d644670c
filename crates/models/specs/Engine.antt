-- What the engine computes: the paper's Section 4 on lists, total on any contents.
use mathlib.Core.List.{List, [], ◌∷◌}
use Prim.Native.Nat.{ℕ, zero, suc, ◌+◌, ◌-◌, min}
use Rattle.std.proofs.Math.ListN.{get_or}
use Rattle.std.specs.Prelude.{length, set}
use Rattle.std.proofs.lemmas.List.Edits.{sets}
use Rattle.std.specs.Int.Bits.{bit_or}
use Rattle.cells.specs.declared.Places.{Places}
use Rattle.cells.specs.Lanes.{with_rows, with_gathered}
use Rattle.words.specs.Definitions.{centre, length_at, next_leading}
use Rattle.words.specs.Computed.{mended, raised}
use Rattle.models.specs.Iterator.{period_at}

-- the least period of the ending of length len
unfoldable pub period_of : List ℕ → ℕ → ℕ → ℕ
period_of N n len = period_at N (centre n len) len

-- the length of the longest ending, whose centre is s; brought into 0 to n
abbrev pub longest_length : ℕ → ℕ → ℕ
longest_length n s = min (length_at n s) n

-- after a walk: the gathered values, all values of the visited places joined, and the visited lengths
pub record Walked : Type 0 where
  pub gathered : List ℕ
  pub union : ℕ
  pub lengths : List ℕ

abbrev pub walked : List ℕ → ℕ → List ℕ → Walked
walked G a vs = record { gathered = G; union = a; lengths = vs }

-- lines 3 to 9: the walk over the leading endings of prefix n, from length len on; R are the row values; k bounds the visits, and they fall
module _ (op : ℕ → ℕ → ℕ) (R N : List ℕ) (n : ℕ) where
  unfoldable pub walk : ℕ → ℕ → List ℕ → ℕ → Walked
  unfolding mended
  walk zero len G a = walked G a []
  walk (suc k) zero G a = walked G a []
  walk (suc k) (suc x) G a =
      let p : ℕ = period_of N n (suc x) in
      let v : ℕ = mended op (λ i. get_or R i 0) n (suc x) p (get_or G (n - suc x) 0) in
      let rest : Walked = walk k (next_leading (suc x) p) (set G (n - suc x) v) (op a v) in
      walked rest.gathered rest.union (suc x ∷ rest.lengths)

-- the same in the arrays, with the lengths stored into the visit list vs from entry c on, and their count
pub record Seen : Type 0 where
  pub placed : Places
  pub union : ℕ
  pub visits : List ℕ
  pub count : ℕ

abbrev pub seen_as : Places → ℕ → List ℕ → ℕ → Seen
seen_as w a vs c = record { placed = w; union = a; visits = vs; count = c }

abbrev pub seen : Places → Walked → List ℕ → ℕ → Seen
seen w z vs c =
    seen_as (with_gathered w z.gathered) z.union (sets vs c z.lengths) (c + length z.lengths)

-- after a pick
pub record Stepped : Type 0 where
  pub placed : Places
  pub visits : List ℕ
  pub row : ℕ
  pub count : ℕ

abbrev pub stepped_as : Places → List ℕ → ℕ → ℕ → Stepped
stepped_as w vs row c = record { placed = w; visits = vs; row = row; count = c }

-- x is the row word and the gathered word of place n
abbrev pub worded : Places → ℕ → ℕ → Places
worded w n x = with_gathered (with_rows w (set w.rows n x)) (set w.gathered n x)

-- the new place n gets its row word, which is its gathered word too
abbrev pub closed : ℕ → ℕ → Seen → Stepped
closed K n z = let x : ℕ = raised K z.union in stepped_as (worded z.placed n x) z.visits x z.count

-- prefix n, whose longest ending has the centre s
unfoldable pub walk_all : ℕ → ℕ → List ℕ → List ℕ → List ℕ → Walked
unfolding walk
walk_all n s R N G = walk bit_or R N n (longest_length n s) (longest_length n s) G 0

unfoldable pub stepped : ℕ → ℕ → ℕ → Places → List ℕ → List ℕ → Stepped
unfolding walk_all
stepped K n s w N vs = closed K n (seen w (walk_all n s w.rows N w.gathered) vs 0)
