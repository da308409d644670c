-- What the program prints, as a function of what it reads: "The draft program reads standard input: one digit K, byte 10, the picks, byte
-- 10 or the end."
use Rattle.std.specs.Prelude.{Bool, cond, ◌&&◌, List, [], ◌∷◌, ◌++◌, ℕ, ◌+◌, ◌-◌, eqb, length, get_or, drop, replicate}
use Rattle.words.specs.Definitions.{most_sections, most_visits, word}
use Rattle.words.specs.Computed.{longest}
use Rattle.words.specs.Ranges.{between}
use Rattle.text.specs.Definitions.{line_end, digit_zero}
use Rattle.promises.specs.Answers.{Said, gave, refused, refused_at}
use Rattle.promises.specs.Book.{Book, started_book, feed, feed_taken, write, fed_row, fed_lifted}
use Rattle.promises.specs.Replies.{reply_to}
use Rattle.draft.specs.Lines.{header_line, pick_line, refusal_line}

-- the bytes of the first line
abbrev pub first_line : ℕ
first_line = 2

-- the line of what feed says of the byte after n picks; picks and longest are those of the draft afterwards
unfoldable pub line_of : (n picks longest : ℕ) → Said → List ℕ
unfolding pick_line refusal_line
line_of n picks longest (gave values) = pick_line picks (get_or values 0 0) (get_or values 1 0) longest
line_of n picks longest (refused number) = refusal_line number (first_line + n)
line_of n picks longest (refused_at number place) = refusal_line number (first_line + n)

-- the program lends a visit list of 19 zeros
abbrev pub visit_list : List ℕ
visit_list = replicate most_visits 0

-- "for each pick the count of picks, the mask, the number of visits and the length of the longest ending", or the refusal
unfoldable pub line_for : Book → (pick : ℕ) → List ℕ
unfolding line_of reply_to longest
line_for b pick =
    line_of (length b.row) (length (fed_row b pick)) (longest (word (fed_lifted b pick)) (length (fed_lifted b pick)))
    (reply_to b (feed pick visit_list)).said

-- "A refusal .. ends the run": the book takes the pick, or that line is the last
abbrev pub goes_on : Book → (pick : ℕ) → Bool
goes_on b pick = feed_taken b pick most_visits

-- the lines of the picks, from the input behind the first line
unfoldable pub picks_output : Book → (input : List ℕ) → List ℕ
unfolding line_for write
picks_output b [] = []
picks_output b (byte ∷ input) =
    cond (eqb byte line_end) [] (line_for b byte ++ cond (goes_on b byte) (picks_output (write b (feed byte visit_list)) input) [])

-- "one digit 1 to 8 followed by byte 10"
abbrev pub good_first_line : (input : List ℕ) → Bool
good_first_line input = between (digit_zero + 1) (digit_zero + most_sections) (get_or input 0 0) && eqb (get_or input 1 0) line_end

-- "It always prints the header first"; "a first line that is not one digit 1 to 8 followed by byte 10 is number 1 at place 0"
unfoldable pub output : (input : List ℕ) → List ℕ
unfolding header_line picks_output refusal_line
output input =
    header_line ++ cond (good_first_line input) (picks_output (started_book (get_or input 0 0 - digit_zero)) (drop first_line input)) (refusal_line 1 0)
