-- Document 01's two lists of refusals, with document 02's numbers, and for each call the order in which it tests them: 7 first, then
-- the input numbers in rising order but for 5, with 13 in the place of 3, then 8, 9 or 10, then 5; a load's are 7, 14, 15, 16; 17 and 18
-- stand where 8 does. A call's number is that of the first test that fails, 0 where none does. Numbers 9, 10, a record's 5, 11 with its
-- place, 17 and 18 hang on what is found: they are in Replies.antt, and so is the place of 15.
use Rattle.std.specs.Prelude.{Bool, true, false, ◌&&◌, List, ℕ, zero, suc, ◌+◌, ◌*◌, leb, ltb, eqb, length}
use Rattle.std.proofs.Math.Bool.{decide}
use Rattle.words.specs.Definitions.{most_picks, most_sections, most_visits, first_letter, last_letter}
use Rattle.words.specs.Computed.{rising?}
use Rattle.words.specs.Ranges.{between}
use Rattle.promises.specs.Lifts.{table_size, none_zero}

-- the number where the test fails, else what comes after it
abbrev pub test : Bool → ℕ → ℕ → ℕ
test true number after = after
test false number after = number

-- The lines

-- 1. "K outside 1 to 8, or k outside 1 to K": most is 8 or K
abbrev pub line1 : (most k after : ℕ) → ℕ
line1 most k after = test (between 1 most k) 1 after

-- 2. "Pick not A to Z"
abbrev pub line2 : (pick after : ℕ) → ℕ
line2 pick after = test (between first_letter last_letter pick) 2 after

-- 3. "Visit list under 19 entries"
abbrev pub line3 : (entries after : ℕ) → ℕ
line3 entries after = test (leb most_visits entries) 3 after

-- 4. "Prefix above n, centre outside 1 to 2n+1, or s outside 1 to the number of ends"
abbrev pub line4 : (low high x after : ℕ) → ℕ
line4 low high x after = test (between low high x) 4 after

-- 5. document 02: "fills a lent list with the picks ..; a list too short is 5, tested last"
abbrev pub line5 : (picks entries after : ℕ) → ℕ
line5 picks entries after = test (leb picks entries) 5 after

-- 6. "Ends not rising strictly from above 0 to exactly the number of lent letters"
abbrev pub line6 : (letters ends : List ℕ) (after : ℕ) → ℕ
line6 letters ends after = test (decide (rising? (length letters) 0 ends)) 6 after

-- 7. "Stored n above 2,048 or stored K outside 1 to 8"
abbrev pub line7 : (n K after : ℕ) → ℕ
line7 n K after = test (leb n most_picks && between 1 most_sections K) 7 after

-- 8. "Feeding with n = 2,048"
abbrev pub line8 : (n after : ℕ) → ℕ
line8 n after = test (ltb n most_picks) 8 after

-- 12. document 02: "after 11, lengths not adding up to the picks"
abbrev pub line12 : (total picks after : ℕ) → ℕ
line12 total picks after = test (eqb total picks) 12 after

-- 13. document 02: "ends list under k entries"
abbrev pub line13 : (k entries after : ℕ) → ℕ
line13 k entries after = test (leb k entries) 13 after

-- 14. document 02: "not 26 bytes"
abbrev pub line14 : (bytes after : ℕ) → ℕ
line14 bytes after = test (eqb bytes table_size) 14 after

-- 15. document 02: "a lift of 0"
abbrev pub line15 : (lifts : List ℕ) (after : ℕ) → ℕ
line15 lifts after = test (none_zero lifts) 15 after

-- 16. document 02: "the draft is not empty"
abbrev pub line16 : (n after : ℕ) → ℕ
line16 n after = test (eqb n 0) 16 after

-- The order of each call: n and K are those stored

-- "Start doesn't look at it": at 7
unfoldable pub start_refusal : (K : ℕ) → ℕ
start_refusal K = line1 most_sections K 0

-- 7, 2, 3, 8
unfoldable pub feed_refusal : (n K pick entries : ℕ) → ℕ
feed_refusal n K pick entries = line7 n K (line2 pick (line3 entries (line8 n 0)))

-- 7, 14, 15, 16
unfoldable pub load_refusal : (n K : ℕ) (lifts : List ℕ) → ℕ
load_refusal n K lifts = line7 n K (line14 (length lifts) (line15 lifts (line16 n 0)))

-- 7, 14: of a load before its bytes are looked at
unfoldable pub table_refusal : (n K bytes : ℕ) → ℕ
table_refusal n K bytes = line7 n K (line14 bytes 0)

-- 7, 4
unfoldable pub mask_refusal : (n K i : ℕ) → ℕ
mask_refusal n K i = line7 n K (line4 0 n i 0)

-- 7, 4; the next shorter ending's goes on to 10
unfoldable pub centre_refusal : (n K c : ℕ) → ℕ
centre_refusal n K c = line7 n K (line4 1 (2 * n + 1) c 0)

-- 7
unfoldable pub longest_refusal : (n K : ℕ) → ℕ
longest_refusal n K = line7 n K 0

-- 7, 1, 13, 4, and on to 9
unfoldable pub split_refusal : (n K i k entries : ℕ) → ℕ
split_refusal n K i k entries = line7 n K (line1 K k (line13 k entries (line4 0 n i 0)))

-- 7, 1, 4, and on to 9 and 5
unfoldable pub record_refusal : (n K i k : ℕ) → ℕ
record_refusal n K i k = line7 n K (line1 K k (line4 0 n i 0))

-- 7, 2; a mark's goes on to 18, a going back's to 17
unfoldable pub letter_refusal : (n K letter : ℕ) → ℕ
letter_refusal n K letter = line7 n K (line2 letter 0)

-- 4, 6
unfoldable pub show_refusal : (letters ends : List ℕ) (s : ℕ) → ℕ
unfolding rising? decide
show_refusal letters ends s = line4 1 (length ends) s (line6 letters ends 0)

-- 12, 5, after 11: of a record, the picks that its lengths add up to and the picks that it says
unfoldable pub unfold_refusal : (total picks entries : ℕ) → ℕ
unfold_refusal total picks entries = line12 total picks (line5 picks entries 0)

-- Two tests, one after the other: the first number that is not 0

abbrev pub or_else : ℕ → ℕ → ℕ
or_else zero b = b
or_else (suc a) b = suc a
