-- The terms of documents 01 and 02 and of the paper (document 004), each once.
--
-- A word is a function from positions to letters; positions are counted from 0, picks from 1, so pick i is the letter at i - 1.
-- A stretch of a word is given by its last pick and its length.
use Rattle.std.specs.Prelude.{◌≡◌, ◌↔◌, ◌≢◌, cond, ℕ, zero, suc, ◌+◌, ◌-◌, ◌*◌, ◌/◌, ◌%◌, ◌^◌, min, ◌≤◌, ◌<◌, leb, length, get_or}
use mathlib.Core.List.{List, [], ◌∷◌, ◌++◌, reverse, Memᴰ}

-- The numbers of document 01.

-- "A draft has 0 to 2,048 picks"
abbrev pub most_picks : ℕ
most_picks = 2048

-- "K, chosen at the start, is 1 to 8"
abbrev pub most_sections : ℕ
most_sections = 8

-- "Visit list under 19 entries": as many as the visits of one pick can be
abbrev pub most_visits : ℕ
most_visits = 19

-- "A pick is one byte, A to Z (65 to 90)"
abbrev pub first_letter : ℕ
first_letter = 65

abbrev pub last_letter : ℕ
last_letter = 90

-- x is from a to b
pub record From (a b x : ℕ) : Type 0 where
  pub low : a ≤ x
  pub high : x ≤ b

-- Largest and smallest, for any property of numbers.

-- k is the largest number below b that has P
pub record Largest (P : ℕ → Type 0) (b k : ℕ) : Type 0 where
  pub below : k < b
  pub is : P k
  pub most : (j : ℕ) → P j → j < b → j ≤ k

-- k is the smallest number that has P
pub record Smallest (P : ℕ → Type 0) (k : ℕ) : Type 0 where
  pub is : P k
  pub least : (j : ℕ) → P j → k ≤ j

-- Words, stretches, palindromes (document 01, "Palindromes, centres and leading endings"; the paper, Section 2).

-- a list as a word
abbrev pub word : List ℕ → ℕ → ℕ
word u i = get_or u i 0

-- the len letters after the first a
abbrev pub stretch : (ℕ → ℕ) → ℕ → ℕ → List ℕ
stretch w a zero = []
stretch w a (suc len) = w a ∷ stretch w (suc a) len

-- "Prefix i is the first i picks"
abbrev pub prefix : (ℕ → ℕ) → ℕ → List ℕ
prefix w n = stretch w 0 n

-- "A stretch is mirrored when it equals its reverse"; the paper's palindrome
abbrev pub Palindrome : List ℕ → Type 0
Palindrome u = u ≡ reverse u

-- "A section is a non-empty mirrored stretch": picks a + 1 to e
pub record Section (w : ℕ → ℕ) (a e : ℕ) : Type 0 where
  pub some : a < e
  pub mirrored : Palindrome (stretch w a (e - a))

-- u is k non-empty palindromes joined; the paper's Pal^k
pub data Joined : ℕ → List ℕ → Type 0 where
  nothing : Joined 0 []
  another : {k : ℕ} {u v : List ℕ} → Joined k u → 0 < length v → Palindrome v → Joined (suc k) (u ++ v)

-- "A period of a stretch is a positive p with equal picks wherever both stand p apart inside it": the last len of the first n letters
pub record Period (w : ℕ → ℕ) (n len p : ℕ) : Type 0 where
  pub fits : len ≤ n
  pub pos : 0 < p
  pub same : (i j : ℕ) → (n ≤ i + len) × (j < n) × (i + p ≡ j) → w i ≡ w j

-- "its least period"; the paper's minimal period
abbrev pub LeastPeriod : (ℕ → ℕ) → ℕ → ℕ → ℕ → Type 0
LeastPeriod w n len p = Smallest (Period w n len) p

-- Centres and endings.

-- "A centre is half the sum of the first and last pick number", so that sum in half picks.
-- The stretch of len picks that ends with pick e begins with pick e + 1 - len.
abbrev pub centre : ℕ → ℕ → ℕ
centre e len = (e + 1 - len) + e

-- the length of the ending of n picks with the centre c: "The longest ending has centre 2n - L + 1"
abbrev pub length_at : ℕ → ℕ → ℕ
length_at n c = 2 * n + 1 - c

-- "Radius is half the length, rounded down"
abbrev pub radius : ℕ → ℕ
radius len = len / 2

-- "An ending is a mirrored stretch that closes the prefix": the last len of the first n letters, also none of them.
-- It is the paper's suffix-palindrome.
pub record Ending (w : ℕ → ℕ) (n len : ℕ) : Type 0 where
  pub fits : len ≤ n
  pub mirrored : Palindrome (stretch w (n - len) len)

-- "the longest ending"; the paper's maxPal is its centre
abbrev pub LongestEnding : (ℕ → ℕ) → ℕ → ℕ → Type 0
LongestEnding w n len = Largest (Ending w n) (suc n) len

-- "the next shorter ending" after one of length len; the paper's nextPal is its centre
abbrev pub NextEnding : (ℕ → ℕ) → ℕ → ℕ → ℕ → Type 0
NextEnding w n len k = Largest (Ending w n) len k

-- a mirrored stretch of length len with centre c within the first n letters
pub record Mirrored (w : ℕ → ℕ) (n c len : ℕ) : Type 0 where
  pub end : ℕ
  pub within : end ≤ n
  pub is : Ending w end len
  pub at : centre end len ≡ c

-- "the longest mirrored stretch at a centre"; the paper's rad is its radius
abbrev pub LongestAt : (ℕ → ℕ) → ℕ → ℕ → ℕ → Type 0
LongestAt w n c len = Largest (Mirrored w n c) (suc n) len

-- Leading endings (the paper, Section 4).

-- "An ending is leading when every period p of every longer ending of that prefix has 2p greater than the ending's length"
pub record Leading (w : ℕ → ℕ) (n len : ℕ) : Type 0 where
  pub is : Ending w n len
  pub leads : (k p : ℕ) → Ending w n k → len < k → Period w n k p → len < 2 * p

-- "the next shorter leading ending" after one of length len
abbrev pub NextLeading : (ℕ → ℕ) → ℕ → ℕ → ℕ → Type 0
NextLeading w n len d = Largest (Leading w n) len d

-- its length, "min(p + (len mod p), len - p)" where len leads and has the least period p
abbrev pub next_leading : ℕ → ℕ → ℕ
next_leading len p = min (p + len % p) (len - p)

-- cubic, in the paper's words: the minimal period is at most a third of the length
abbrev pub Cubic : ℕ → ℕ → Type 0
Cubic len p = 3 * p ≤ len

-- each entry is below those before it
pub data Falling : List ℕ → Type 0 where
  empty : Falling []
  above : {a : ℕ} {s : List ℕ} → ((b : ℕ) → Memᴰ b s → b < a) → Falling s → Falling (a ∷ s)

-- b comes right after a in the list
pub data Follows : (a b : ℕ) → List ℕ → Type 0 where
  first : {a b : ℕ} {s : List ℕ} → Follows a b (a ∷ b ∷ s)
  later : {a b x : ℕ} {s : List ℕ} → Follows a b s → Follows a b (x ∷ s)

-- "the pick's visits": exactly the non-empty leading endings of the prefix, longest first
pub record Visits (w : ℕ → ℕ) (n : ℕ) (vs : List ℕ) : Type 0 where
  pub each : (len : ℕ) → Memᴰ len vs ↔ ((0 < len) × Leading w n len)
  pub falling : Falling vs

-- picks i + 1 to j are a leading ending of prefix j
pub record LeadsFrom (w : ℕ → ℕ) (i j : ℕ) : Type 0 where
  pub from : i ≤ j
  pub is : Leading w j (j - i)

-- the stretch by which place i gathers: "the largest j for which picks i+1 to j are a leading ending of prefix j", among n picks
abbrev pub LastLead : (ℕ → ℕ) → ℕ → ℕ → ℕ → Type 0
LastLead w n i j = Largest (LeadsFrom w i) (suc n) j

-- Splits ("The calls", the line of split).

-- picks a + 1 to n are sections with these last picks: they rise strictly from above a, and the last is n
pub data Sections (w : ℕ → ℕ) (n : ℕ) : ℕ → List ℕ → Type 0 where
  done : Sections w n n []
  next : {a e : ℕ} {ends : List ℕ} → Section w a e → Sections w n e ends → Sections w n a (e ∷ ends)

-- a split of prefix n into k sections, by its ends
pub record Split (w : ℕ → ℕ) (n k : ℕ) (ends : List ℕ) : Type 0 where
  pub is : Sections w n 0 ends
  pub count : length ends ≡ k

-- the lengths of the sections with these ends after the first a picks, read from the last section back
abbrev pub lengths_back : ℕ → List ℕ → List ℕ
lengths_back a [] = []
lengths_back a (e ∷ ends) = lengths_back e ends ++ (e - a) ∷ []

-- s first differs from t by a smaller entry
pub data Smaller : List ℕ → List ℕ → Type 0 where
  here : {a b : ℕ} {s t : List ℕ} → a < b → Smaller (a ∷ s) (b ∷ t)
  further : {a : ℕ} {s t : List ℕ} → Smaller s t → Smaller (a ∷ s) (a ∷ t)

-- the split with ends s is before the one with ends t: read from the last section back, t first differs by a shorter section
abbrev pub Before : List ℕ → List ℕ → Type 0
Before s t = Smaller (lengths_back 0 t) (lengths_back 0 s)

-- "Of all splits it is the one whose last section is longest, then the one before that": it is before every other
pub record Named (w : ℕ → ℕ) (n k : ℕ) (ends : List ℕ) : Type 0 where
  pub is : Split w n k ends
  pub first : (t : List ℕ) → Split w n k t → t ≢ ends → Before ends t

-- "the number of its sections with two or more picks" (document 02, 2.4): by their lengths
abbrev pub turns_of : (lengths : List ℕ) → ℕ
turns_of [] = 0
turns_of (len ∷ lengths) = cond (leb 2 len) 1 0 + turns_of lengths

-- "The turn count of a split", by its ends
abbrev pub turn_count : (ends : List ℕ) → ℕ
turn_count ends = turns_of (lengths_back 0 ends)

-- ends "rising strictly from above 0 to exactly the number of lent letters": here from above a to n
pub data Rising (n : ℕ) : ℕ → List ℕ → Type 0 where
  done : Rising n n []
  next : {a e : ℕ} {ends : List ℕ} → a < e → Rising n e ends → Rising n a (e ∷ ends)

-- Row words and gathered words.

-- bit k of a word of bits
abbrev pub bit : ℕ → ℕ → ℕ
bit x k = x / 2 ^ k % 2

-- "The row word of prefix i has bit k set when the prefix is k sections joined, k from 0 to K": x is that word, and has no other bit
pub record RowWord (K : ℕ) (w : ℕ → ℕ) (i x : ℕ) : Type 0 where
  pub exactly : (k : ℕ) → k ≤ K → (bit x k ≡ 1) ↔ Joined k (prefix w i)
  pub past : (k : ℕ) → K < k → bit x k ≡ 0

-- x is "the union of the row words at i, i+p, i+2p and so on to" the last of them: bit k is set when the prefix of one of these places is k
-- sections joined
pub record UnionTo (K : ℕ) (w : ℕ → ℕ) (i p last x : ℕ) : Type 0 where
  pub reached : (c : ℕ) × (i + c * p ≡ last)
  pub exactly : (k : ℕ) → k ≤ K → (bit x k ≡ 1) ↔ ((c : ℕ) × (i + c * p ≤ last) × Joined k (prefix w (i + c * p)))
  pub past : (k : ℕ) → K < k → bit x k ≡ 0

-- x is "the gathered word at place i" of n picks: "take the largest j for which picks i+1 to j are a leading ending of prefix j, its least
-- period p and the length d of the next shorter leading one. The word is the union of the row words at i, i+p, i+2p and so on to j-d-p. At
-- i = n it is that place's own row word."
pub record GatheredWord (K : ℕ) (w : ℕ → ℕ) (n i x : ℕ) : Type 0 where
  pub own : i ≡ n → RowWord K w i x
  pub below : i < n → (j p d : ℕ) × LastLead w n i j × LeastPeriod w j (j - i) p × NextLeading w j (j - i) d × UnionTo K w i p (j - d - p) x
