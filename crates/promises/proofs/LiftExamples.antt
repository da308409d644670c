-- Worked examples of loaded lifts: B lifts as A does, every other letter as in the fixed table.
use mathlib.Core.Path.{◌≡◌, refl}
use mathlib.Core.List.{List, [], ◌∷◌}
use Prim.Native.Nat.{ℕ}
use Prim.Native.String.{String}
use lib.ListN.{take, drop, set}
use Rattle.words.specs.Definitions.{most_sections}
use Rattle.words.specs.Computed.{split_of}
use Rattle.words.specs.Computed.{mask as mask_of}
use Rattle.text.specs.Definitions.{decimal, bytes}
use Rattle.layout.specs.Record.{record_of}
use Rattle.promises.specs.Answers.{gave, refused, refused_at, reply}
use Rattle.promises.specs.Lifts.{fixed_lifts}
use Rattle.promises.specs.Marks.{no_marks}
use Rattle.promises.specs.Book.{Book, book, load, ask, mask, fold, lift}
use Rattle.promises.specs.Replies.{reply_to, unfold_reply}

abbrev pub table : List ℕ
table = 3 ∷ 3 ∷ drop 2 fixed_lifts

-- K = 8, these letters under these lifts
abbrev pub with : (lifts : List ℕ) → String → Book
with lifts t = book most_sections lifts (bytes t) no_marks

-- ACB is one section or three by these lifts; by the fixed ones, which are distinct, it is three alone
pub mirrored_by_lifts : reply_to (with table "ACB") (ask (mask 3)) ≡ reply (gave (5 ∷ [])) []
unfolding reply_to bytes mask_of
mirrored_by_lifts = refl

pub not_by_letters : reply_to (with fixed_lifts "ACB") (ask (mask 3)) ≡ reply (gave (4 ∷ [])) []
unfolding reply_to bytes mask_of
not_by_letters = refl

pub lift_in_force : reply_to (with table "ACB") (ask (lift 66)) ≡ reply (gave (3 ∷ [])) []
unfolding reply_to bytes
lift_in_force = refl

-- its record has its letters A and C, and unfolds to ACA
pub letters_recorded : reply_to (with table "ACB") (ask (fold 3 1 (bytes "........."))) ≡ reply (gave (9 ∷ [])) (bytes "3,1,3,AC\n")
unfolding reply_to bytes split_of record_of decimal
letters_recorded = refl

pub other_letters : unfold_reply (bytes "3,1,3,AC\n") (1 ∷ 2 ∷ 3 ∷ []) ≡ reply (gave (3 ∷ [])) (bytes "ACA")
unfolding unfold_reply bytes
other_letters = refl

-- of 25 bytes with a 0 on a draft of one pick: 14; of 26: 15 with the first one's place; with no 0: 16; on no pick: taken

abbrev pub zeros : List ℕ
zeros = set (set table 3 0) 25 0

pub size_first : reply_to (with table "A") (load (take 25 zeros)) ≡ reply (refused 14) []
unfolding reply_to bytes
size_first = refl

pub zero_next : reply_to (with table "A") (load zeros) ≡ reply (refused_at 15 3) []
unfolding reply_to bytes
zero_next = refl

pub picks_last : reply_to (with table "A") (load table) ≡ reply (refused 16) []
unfolding reply_to bytes
picks_last = refl

pub loaded : reply_to (with fixed_lifts "") (load table) ≡ reply (gave []) []
unfolding reply_to bytes
loaded = refl
