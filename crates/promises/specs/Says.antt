-- What document 01 says of the answer to each call that is accepted, in propositions of `words`. u is what is read of the picks: their lifts.
use Rattle.std.specs.Prelude.{◌≡◌, ◌↔◌, List, [], ◌∷◌, ◌++◌, ℕ, ◌+◌, ◌-◌, ◌≤◌, ◌<◌, length, get_or}
use Rattle.words.specs.Definitions.{word, prefix, centre, Joined, LeastPeriod, Ending, LongestEnding, NextEnding, LongestAt, Visits, Named, turn_count, bit}
use Rattle.words.specs.Definitions.{radius as radius_of}
use Rattle.promises.specs.Answers.{gave, Reply, reply, filled}
use Rattle.layout.specs.Record.{record_of}
use Rattle.promises.specs.Lifts.{lift_in}
use Rattle.promises.specs.Book.{Book, Call, start, feed, load, mark, back, ask, split, longest, mask, radius, next, fold, lift, lifted, fed_lifted}

-- "the answer is yes exactly when the prefix is k non-empty palindromes joined": i is the prefix; bit k - 1 is for k
pub record Yes (K : ℕ) (u : List ℕ) (i m : ℕ) : Type 0 where
  pub exactly : (k : ℕ) → 1 ≤ k → k ≤ K → (bit m (k - 1) ≡ 1) ↔ Joined k (prefix (word u) i)
  pub past : (k : ℕ) → K < k → bit m (k - 1) ≡ 0

-- "The answer is either the mask, with the count of visits": u has the pick
pub record FeedSays (K : ℕ) (u list : List ℕ) (r : Reply) : Type 0 where
  pub m : ℕ
  pub lengths : List ℕ
  pub mask : Yes K u (length u) m
  pub visited : Visits (word u) (length u) lengths
  pub is : r ≡ reply (gave (m ∷ length lengths ∷ [])) (filled lengths list)

-- "Of all splits it is the one whose last section is longest .. It also gives the turn count": "the number of its sections with two or
-- more picks"
pub record SplitSays (u : List ℕ) (i k : ℕ) (list : List ℕ) (r : Reply) : Type 0 where
  pub ends : List ℕ
  pub named : Named (word u) i k ends
  pub is : r ≡ reply (gave (turn_count ends ∷ [])) (filled ends list)

-- "Centre of the longest ending."
pub record LongestSays (u : List ℕ) (r : Reply) : Type 0 where
  pub L : ℕ
  pub longest : LongestEnding (word u) (length u) L
  pub is : r ≡ reply (gave (centre (length u) L ∷ [])) []

-- "Mask of prefix i."
pub record MaskSays (K : ℕ) (u : List ℕ) (i : ℕ) (r : Reply) : Type 0 where
  pub m : ℕ
  pub mask : Yes K u i m
  pub is : r ≡ reply (gave (m ∷ [])) []

-- "Radius of the longest mirrored stretch at a centre"
pub record RadiusSays (u : List ℕ) (c : ℕ) (r : Reply) : Type 0 where
  pub len : ℕ
  pub longest : LongestAt (word u) (length u) c len
  pub is : r ≡ reply (gave (radius_of len ∷ [])) []

-- "Centre of the next shorter ending after one given by its centre (any ending, leading or not; the one-pick ending leads to the empty one)"
-- "besides the centre, the length and the least period of the ending it was given. Length less period is always the length at the centre it
-- gives."
pub record NextSays (u : List ℕ) (c : ℕ) (r : Reply) : Type 0 where
  pub len : ℕ
  pub some : 0 < len
  pub ending : Ending (word u) (length u) len
  pub at : centre (length u) len ≡ c
  pub shorter : ℕ
  pub next : NextEnding (word u) (length u) len shorter
  pub p : ℕ
  pub period : LeastPeriod (word u) (length u) len p
  pub less : len - p ≡ shorter
  pub is : r ≡ reply (gave (centre (length u) shorter ∷ len ∷ p ∷ [])) []

-- "Folded record of prefix i in k sections, by the split just named .. The answer is the record's count of bytes.": it has the row's letters
pub record RecordSays (row u : List ℕ) (i k : ℕ) (output : List ℕ) (r : Reply) : Type 0 where
  pub ends : List ℕ
  pub named : Named (word u) i k ends
  pub is : r ≡ reply (gave (length (record_of (word row) i ends) ∷ [])) (filled (record_of (word row) i ends) output)

unfoldable pub Says : Book → Call → Reply → Type 0
Says b (start k) r = r ≡ reply (gave []) []
Says b (feed pick visits) r = FeedSays b.K (fed_lifted b pick) visits r
Says b (load lifts) r = r ≡ reply (gave []) []
Says b (mark name) r = r ≡ reply (gave []) []
Says b (back name) r = r ≡ reply (gave []) []
Says b (ask (split i k ends)) r = SplitSays (lifted b) i k ends r
Says b (ask longest) r = LongestSays (lifted b) r
Says b (ask (mask i)) r = MaskSays b.K (lifted b) i r
Says b (ask (radius c)) r = RadiusSays (lifted b) c r
Says b (ask (next c)) r = NextSays (lifted b) c r
Says b (ask (fold i k output)) r = RecordSays b.row (lifted b) i k output r
-- the lift in force
Says b (ask (lift letter)) r = r ≡ reply (gave (lift_in b.lifts letter ∷ [])) []

-- "The section is handed back as that part of the lent letters itself": section s begins where the one before it ends, section 1 at 0
pub record PartOf (letters ends : List ℕ) (s : ℕ) (part : List ℕ) : Type 0 where
  pub front : List ℕ
  pub back : List ℕ
  pub is : letters ≡ front ++ part ++ back
  pub from : length front ≡ get_or (0 ∷ ends) (s - 1) 0
  pub to : length front + length part ≡ get_or (0 ∷ ends) s 0
