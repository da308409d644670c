-- The record in the order in which it is written: the head, section by section, the end of the line; and how long each is.
use Rattle.std.specs.Prelude.{◌≡◌, refl, List, [], ◌∷◌, ◌++◌, ℕ, suc, ◌+◌, ◌-◌, ◌/◌, ◌<◌, length, get_or, drop}
use Rattle.std.proofs.Common.{sym, ap, ◌∙◌, append_assoc, arith, length-append, drop-cons}
use Rattle.words.specs.Definitions.{stretch}
use Rattle.words.specs.Mirror.{stretch_length}
use Rattle.text.specs.Definitions.{comma, line_end, decimal}
use Rattle.text.specs.Decimal.{most_digits}
use Rattle.layout.specs.Record.{fields_of, behind_commas, folded_of, record_of}
use Rattle.layout.proofs.WrittenLaws.{folded_count}

-- One section, between the ends a and e: a comma, its length, a comma, its first half
unfoldable pub section_bytes : (ℕ → ℕ) → ℕ → ℕ → List ℕ
section_bytes w a e = comma ∷ [] ++ decimal (e - a) ++ comma ∷ [] ++ stretch w a ((e - a + 1) / 2)

-- The sections with these ends
unfoldable pub sections_bytes : (ℕ → ℕ) → ℕ → List ℕ → List ℕ
unfolding fields_of behind_commas
sections_bytes w a ends = behind_commas (fields_of (folded_of w a ends))

-- Prefix i in so many sections
unfoldable pub head_bytes : ℕ → ℕ → List ℕ
head_bytes i count = decimal i ++ comma ∷ [] ++ decimal count

pub sections_done : (w : ℕ → ℕ) (a : ℕ) → sections_bytes w a [] ≡ []
unfolding sections_bytes
sections_done w a = refl

sections_next : (w : ℕ → ℕ) (a e : ℕ) (ends : List ℕ) → sections_bytes w a (e ∷ ends) ≡ section_bytes w a e ++ sections_bytes w e ends
unfolding sections_bytes section_bytes
sections_next w a e ends =
    let n = decimal (e - a) in
    let half = stretch w a ((e - a + 1) / 2) in
    let rest = behind_commas (fields_of (folded_of w e ends)) in
    ap (λ bytes. comma ∷ bytes) (sym (append_assoc n (comma ∷ half) rest) ∙ ap (λ bytes. bytes ++ rest) (sym (append_assoc n (comma ∷ []) half)))

-- The sections from number j on begin with the one that ends at e
pub sections_on : (w : ℕ → ℕ) (a e j : ℕ) (ends : List ℕ) → j < length ends → e ≡ get_or ends j 0
    → sections_bytes w a (drop j ends) ≡ section_bytes w a e ++ sections_bytes w e (drop (suc j) ends)
sections_on w a e j ends h q = rw (q, drop-cons ends j 0 h) (sections_next w a (get_or ends j 0) (drop (suc j) ends))

pub record_as : (w : ℕ → ℕ) (i : ℕ) (ends : List ℕ) → record_of w i ends ≡ head_bytes i (length ends) ++ sections_bytes w 0 ends ++ line_end ∷ []
unfolding record_of head_bytes sections_bytes
record_as w i ends =
    let count = decimal (length ends) in
    let rest = behind_commas (fields_of (folded_of w 0 ends)) in
    ap (λ k. decimal i ++ (comma ∷ decimal k ++ rest) ++ line_end ∷ []) (folded_count w 0 ends)
    ∙ ap (λ bytes. bytes ++ line_end ∷ [])
    (sym (append_assoc (decimal i) (comma ∷ count) rest) ∙ ap (λ bytes. bytes ++ rest) (sym (append_assoc (decimal i) (comma ∷ []) count)))

-- Lengths, which no letter changes

unfoldable pub section_size : ℕ → ℕ → ℕ
section_size a e = length (decimal (e - a)) + (e - a + 1) / 2 + 2

-- ends are 16 bits wide: two commas, the digits, half of 65,535 letters
abbrev pub most_section_size : ℕ
most_section_size = 2 + most_digits + 32768

unfoldable pub sections_size : ℕ → List ℕ → ℕ
unfolding section_size
sections_size a [] = 0
sections_size a (e ∷ ends) = section_size a e + sections_size e ends

unfoldable pub head_size : ℕ → ℕ → ℕ
head_size i count = length (decimal i) + length (decimal count) + 1

length_section : (w : ℕ → ℕ) (a e : ℕ) → length (section_bytes w a e) ≡ section_size a e
unfolding section_bytes section_size
length_section w a e =
    let n = decimal (e - a) in
    let half = stretch w a ((e - a + 1) / 2) in
    omega (arith, length-append (n ++ comma ∷ []) half, length-append n (comma ∷ []), stretch_length w a ((e - a + 1) / 2))

length_sections : (w : ℕ → ℕ) (a : ℕ) (ends : List ℕ) → length (sections_bytes w a ends) ≡ sections_size a ends
unfolding sections_size
length_sections w a [] = ap length (sections_done w a)
length_sections w a (e ∷ ends) =
    ap length (sections_next w a e ends)
    ∙ length-append (section_bytes w a e) (sections_bytes w e ends)
    ∙ rw (length_section w a e, length_sections w e ends)

length_head : (i count : ℕ) → length (head_bytes i count) ≡ head_size i count
unfolding head_bytes head_size
length_head i count = omega (arith, length-append (decimal i ++ comma ∷ []) (decimal count), length-append (decimal i) (comma ∷ []))

pub length_record : (w : ℕ → ℕ) (i : ℕ) (ends : List ℕ)
    → length (record_of w i ends) ≡ head_size i (length ends) + sections_size 0 ends + 1
length_record w i ends =
    let head = head_bytes i (length ends) in
    let sections = sections_bytes w 0 ends in
    ap length (record_as w i ends)
    ∙ omega (arith, length-append (head ++ sections) (line_end ∷ []), length-append head sections, length_head i (length ends), length_sections w 0 ends)

-- the size of the sections from number j on
pub size_on : (a e j : ℕ) (ends : List ℕ) → j < length ends → e ≡ get_or ends j 0
    → sections_size a (drop j ends) ≡ section_size a e + sections_size e (drop (suc j) ends)
unfolding sections_size
size_on a e j ends h q = rw (q, drop-cons ends j 0 h)
