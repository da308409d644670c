-- The executable forms: each computes on a word's letters. proofs/Laws.antt says of each that it means its definition.
-- A form whose name ends in ? decides the statement that stands in its type.
use Rattle.std.specs.Prelude.{◌≡◌, refl, List, [], ◌∷◌, ◌++◌, ℕ, zero, suc, ◌+◌, ◌-◌, ◌*◌, ◌/◌, ◌%◌, ◌^◌, ◌<◌}
use Rattle.std.proofs.Math.Option.{Option, some, none}
use Rattle.std.proofs.Common.{arith}
use Rattle.std.proofs.Math.Decide.{dec_le, dec_lt, ℕ_discrete}
use Rattle.std.specs.Int.Bits.{bit_or}
use Rattle.words.specs.Definitions.{Leading, LeadsFrom, Cubic, Rising, done, next, centre, length_at, radius, next_leading}
use Rattle.words.specs.Search.{map?, both?, implies?, all?, largest, smallest, passing}
use Rattle.words.specs.Mirror.{ending?, mirrored?}
use Rattle.words.specs.Periods.{period?}

-- only a period that goes twice into the ending can keep it from leading
unfoldable pub leading? : (w : ℕ → ℕ) (n len : ℕ) → Dec (Leading w n len)
unfolding map? both? implies? all? ending? period? dec_lt
leading? w n len = map?
    (λ h. record {
      is = h.0;
      leads = λ k p e l q. elim (dec_lt len (2 * p)) [
        | yes y ↦ y
        | no y ↦ h.1 k (omega (arith, e.fits)) p (omega arith) l e q
      ];
    })
    (λ L. (L.is, λ k a p b l e q. L.leads k p e l q))
    (both?
    (ending? w n len)
    (all? (λ k. all? (λ p. implies? (dec_lt len k) (implies? (ending? w n k) (implies? (period? w n k p) (dec_lt len (2 * p))))) (suc len)) (suc n)))

unfoldable pub cubic? : (len p : ℕ) → Dec (Cubic len p)
unfolding dec_le
cubic? len p = dec_le (3 * p) len

unfoldable pub leads_from? : (w : ℕ → ℕ) (i j : ℕ) → Dec (LeadsFrom w i j)
unfolding map? both? leading? dec_le
leads_from? w i j = map? (λ h. record { from = h.0; is = h.1 }) (λ h. (h.from, h.is)) (both? (dec_le i j) (leading? w j (j - i)))

-- Periods, centres and endings

unfoldable pub least_period : (ℕ → ℕ) → ℕ → ℕ → ℕ
unfolding smallest period?
least_period w n len = smallest (period? w n len) 1 len

-- the length of the longest ending
unfoldable pub longest : (ℕ → ℕ) → ℕ → ℕ
unfolding largest ending?
longest w n = largest (ending? w n) (suc n)

-- its centre
unfoldable pub longest_centre : (ℕ → ℕ) → ℕ → ℕ
unfolding longest
longest_centre w n = centre n (longest w n)

-- how far the longest ending's centre has moved, in half picks
unfoldable pub moved : (ℕ → ℕ) → ℕ → ℕ
unfolding longest_centre
moved w n = longest_centre w n - 1

-- the length of the next shorter ending after one of length len
unfoldable pub next_ending : (ℕ → ℕ) → ℕ → ℕ → ℕ
unfolding largest ending?
next_ending w n len = largest (ending? w n) len

-- the centre of the next shorter ending after one, and that one's own length and least period
pub record NextShorter : Type 0 where
  pub centre : ℕ
  pub length : ℕ
  pub period : ℕ

abbrev pub next_shorter : (centre length period : ℕ) → NextShorter
next_shorter c len p = record { centre = c; length = len; period = p }

-- after the one of length len
unfoldable pub shorter_after : (ℕ → ℕ) → ℕ → ℕ → NextShorter
unfolding next_ending least_period
shorter_after w n len = next_shorter (centre n (next_ending w n len)) len (least_period w n len)

-- the same, if an ending that is not empty has the centre c
unfoldable pub next_after : (ℕ → ℕ) → ℕ → ℕ → Option NextShorter
unfolding both? dec_lt ending? shorter_after
next_after w n c = elim (both? (dec_lt 0 (length_at n c)) (ending? w n (length_at n c))) [ yes h ↦ some (shorter_after w n (length_at n c)) | no f ↦ none ]

-- the radius of the longest mirrored stretch at centre c of the first n letters
unfoldable pub radius_at : (ℕ → ℕ) → ℕ → ℕ → ℕ
unfolding largest mirrored?
radius_at w n c = radius (largest (mirrored? w n c) (suc n))

-- the lengths of the non-empty leading endings, longest first
unfoldable pub visits : (ℕ → ℕ) → ℕ → List ℕ
unfolding passing leading?
visits w n = passing (leading? w n) n

-- Splits

pub risen_none : {n a : ℕ} → Rising n a [] → a ≡ n
risen_none done = refl

pub risen_next : {n a e : ℕ} {ends : List ℕ} → Rising n a (e ∷ ends) → (a < e) × Rising n e ends
risen_next (next l h) = (l, h)

-- the ends of the split whose last section is the longest of at most m picks before which the rest splits
unfoldable pub cut_last : (ℕ → ℕ) → ℕ → (ℕ → Option (List ℕ)) → ℕ → Option (List ℕ)
unfolding ending?
cut_last w n rest zero = none
cut_last w n rest (suc m) = elim (ending? w n (suc m)) [
  | no f ↦ cut_last w n rest m
  | yes e ↦ elim (rest (n - suc m)) [
    | some ends ↦ some (ends ++ n ∷ [])
    | none ↦ cut_last w n rest m
  ]
]

-- the ends of the split named of prefix n into k sections, if there is one
unfoldable pub split_of : (ℕ → ℕ) → ℕ → ℕ → Option (List ℕ)
unfolding cut_last ℕ_discrete
split_of w n zero = elim (ℕ_discrete n 0) [ yes e ↦ some [] | no f ↦ none ]
split_of w n (suc k) = cut_last w n (λ a. split_of w a k) n

-- whether ends rise strictly from above a to n
unfoldable pub rising? : (n a : ℕ) (ends : List ℕ) → Dec (Rising n a ends)
unfolding map? both? dec_lt ℕ_discrete
rising? n a [] = map? (λ e. rw e done) (λ h. risen_none h) (ℕ_discrete a n)
rising? n a (e ∷ ends) = map? (λ h. next h.0 h.1) (λ h. risen_next h) (both? (dec_lt a e) (rising? n e ends))

-- Row words and gathered words

-- 1 where prefix n splits into k sections
unfoldable pub splits : (ℕ → ℕ) → ℕ → ℕ → ℕ
unfolding split_of
splits w n k = elim (split_of w n k) [ some ends ↦ 1 | none ↦ 0 ]

-- the number with bits f 0 to f (k - 1)
unfoldable pub bits : (ℕ → ℕ) → ℕ → ℕ
bits f zero = 0
bits f (suc k) = bits f k + f k * 2 ^ k

-- "The row word of prefix i has bit k set when the prefix is k sections joined, k from 0 to K"
unfoldable pub row_word : ℕ → (ℕ → ℕ) → ℕ → ℕ
unfolding bits splits
row_word K w n = bits (splits w n) (suc K)

-- "Mask bit k-1 is row bit k"
unfoldable pub mask : ℕ → (ℕ → ℕ) → ℕ → ℕ
unfolding row_word
mask K w n = row_word K w n / 2

-- the values of the places i, i + p, .., i + c * p joined
unfoldable pub join_steps : (ℕ → ℕ → ℕ) → (ℕ → ℕ) → ℕ → ℕ → ℕ → ℕ
join_steps op r i p zero = r i
join_steps op r i p (suc c) = op (join_steps op r i p c) (r (i + suc c * p))

-- of the places i, i + p, i + 2p "and so on to j-d-p", how many come after the first: len is j - i, and d is its next shorter leading length
abbrev pub later_places : ℕ → ℕ → ℕ
later_places len p = (len - next_leading len p - p) / p

-- over picks i + 1 to j, with least period p and next shorter leading length d: the values at i, i+p, i+2p "and so on to j-d-p", joined
unfoldable pub gather_over : (ℕ → ℕ → ℕ) → (ℕ → ℕ) → (ℕ → ℕ) → ℕ → ℕ → ℕ
unfolding join_steps least_period
gather_over op r w i j = let p : ℕ = least_period w j (j - i) in join_steps op r i p (later_places (j - i) p)

-- the gathered value of place i among n picks: over "the largest j for which picks i+1 to j are a leading ending of prefix j"
unfoldable pub gathered : (ℕ → ℕ → ℕ) → (ℕ → ℕ) → (ℕ → ℕ) → ℕ → ℕ → ℕ
unfolding gather_over largest leads_from?
gathered op r w n i = gather_over op r w i (largest (leads_from? w i) (suc n))

-- "The gathered word at place i": the row words' union
unfoldable pub gathered_word : ℕ → (ℕ → ℕ) → ℕ → ℕ → ℕ
unfolding gathered row_word
gathered_word K w n i = gathered bit_or (row_word K w) w n i

-- the paper's append, lines 6 to 8: the value gathered at the start of a leading ending of prefix n, from the one before this pick
unfoldable pub mended : (ℕ → ℕ → ℕ) → (ℕ → ℕ) → ℕ → ℕ → ℕ → ℕ → ℕ
unfolding cubic?
mended op r n len p old = elim (cubic? len p) [
  | yes h ↦ op old (r (n - next_leading len p - p))
  | no h ↦ r (n - len)
]

-- the value gathered at place i of prefix n, from the one before this pick: mended where a leading ending starts there, else kept
unfoldable pub updated : (ℕ → ℕ → ℕ) → (ℕ → ℕ) → (ℕ → ℕ) → ℕ → ℕ → ℕ → ℕ
unfolding leading? least_period mended
updated op r w n i old = elim (leading? w n (n - i)) [
  | yes h ↦ mended op r n (n - i) (least_period w n (n - i)) old
  | no h ↦ old
]

-- all values g x of a list joined, from a on
unfoldable pub join_all : (ℕ → ℕ → ℕ) → (ℕ → ℕ) → ℕ → List ℕ → ℕ
join_all op g a [] = a
join_all op g a (x ∷ s) = join_all op g (op a (g x)) s

-- "each moved up one bit, bits above K dropped"
abbrev pub raised : ℕ → ℕ → ℕ
raised K x = (x * 2) % 2 ^ suc K
