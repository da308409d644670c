-- The lines that the program prints, as bytes: "for each pick the count of picks, the mask, the number of visits and the length of
-- the longest ending. Every line ends with byte 10. A refusal prints `refused,`, the number, a comma and the input byte's place".
use Rattle.std.specs.Prelude.{List, [], ◌∷◌, ◌++◌, ℕ}
use Rattle.text.specs.Definitions.{comma, line_end, decimal}

-- `picks,mask,visits,longest`
unfoldable pub header_line : List ℕ
header_line =
    112 ∷ 105 ∷ 99 ∷ 107 ∷ 115 ∷ comma ∷ 109 ∷ 97 ∷ 115 ∷ 107 ∷ comma ∷ 118 ∷ 105 ∷ 115 ∷ 105 ∷ 116 ∷ 115 ∷ comma ∷ 108 ∷ 111 ∷ 110 ∷ 103 ∷ 101 ∷ 115 ∷ 116
    ∷ line_end ∷ []

-- a number, and the byte that closes its field
unfoldable pub field : ℕ → ℕ → List ℕ
field n close = decimal n ++ close ∷ []

-- the line of a pick
unfoldable pub pick_line : (picks mask visits longest : ℕ) → List ℕ
unfolding field
pick_line picks mask visits longest = field picks comma ++ field mask comma ++ field visits comma ++ field longest line_end

-- `refused,`
abbrev pub refused_text : List ℕ
refused_text = 114 ∷ 101 ∷ 102 ∷ 117 ∷ 115 ∷ 101 ∷ 100 ∷ comma ∷ []

-- the line of a refusal
unfoldable pub refusal_line : (number place : ℕ) → List ℕ
unfolding field
refusal_line number place = refused_text ++ field number comma ++ field place line_end
