-- How the code goes its way: one step of each loop and its end, and the writers of a part one after another.
-- What the code computed are variables here, each tied by an equation.
use Rattle.std.specs.Prelude.{◌≡◌, refl, ℕ, suc, ◌+◌, ◌-◌, ◌/◌, ◌≤◌, ◌<◌, length, get_or, drop}
use mathlib.Core.List.{List, [], ◌∷◌, ◌++◌}
use Rattle.std.proofs.Common.{arith, add-one, drop_of_length-le, le-leb}
use Rattle.std.proofs.lemmas.List.Edits.{sets}
use Rattle.std.proofs.lemmas.Bool.{lt-leb}
use Rattle.words.specs.Definitions.{stretch}
use Rattle.models.proofs.Stores.{sets_front}
use Rattle.text.specs.Definitions.{comma, line_end, decimal}
use Rattle.text.specs.Writes.{Writes, both}
use Rattle.promises.specs.Answers.{gave, refused, reply}
use Rattle.layout.specs.Record.{record_of}
use Rattle.promises.specs.Replies.{or_too_long}
use Rattle.record.specs.Fields.{head_bytes, section_bytes, sections_bytes, sections_on, sections_done, record_as}
use Rattle.record.specs.Fields.{head_size, section_size, sections_size, size_on, length_record}

-- The head

pub head_as : (i count : ℕ) {l m o p : List ℕ} {a b c d : ℕ} → Writes l a (decimal i) m b → Writes m b (comma ∷ []) o c
    → Writes o c (decimal count) p d
    → Writes l a (head_bytes i count) p d
unfolding head_bytes
head_as i count f g h = both (decimal i ++ comma ∷ []) (decimal count) (both (decimal i) (comma ∷ []) f g) h

-- One section, of len picks, half of which are written

module _ (a e len half : ℕ) (is : len ≡ e - a) (first : half ≡ (len + 1) / 2) where
  pub section_as : (w : ℕ → ℕ) {l m o p q : List ℕ} {b c d f g : ℕ} → Writes l b (comma ∷ []) m c → Writes m c (decimal len) o d
      → Writes o d (comma ∷ []) p f → Writes p f (stretch w a half) q g
      → Writes l b (section_bytes w a e) q g
  unfolding section_bytes
  section_as w h₁ h₂ h₃ h₄ =
      rw (← is, ← first) (both (comma ∷ [] ++ decimal len ++ comma ∷ []) (stretch w a half)
      (both (comma ∷ [] ++ decimal len) (comma ∷ []) (both (comma ∷ []) (decimal len) h₁ h₂) h₃) h₄)

  pub section_size_as : (count : ℕ) → count ≡ length (decimal len) → count + half + 2 ≡ section_size a e
  unfolding section_size
  section_size_as count q = rw (q, first, is)

-- The sections: those from number j on are left, and whoever writes them here has written all

pub sections_more : (w : ℕ → ℕ) (a e j : ℕ) (ends : List ℕ) {l m o : List ℕ} {b c d : ℕ} → j < length ends → e ≡ get_or ends j 0
    → Writes l b (section_bytes w a e) m c → Writes m c (sections_bytes w e (drop (j + 1) ends)) o d
    → Writes l b (sections_bytes w a (drop j ends)) o d
sections_more w a e j ends h q f g =
    rw (sections_on w a e j ends h q) (both (section_bytes w a e) (sections_bytes w e (drop (suc j) ends)) f (rw add-one at g))

pub sections_end : (w : ℕ → ℕ) (a j b : ℕ) (ends l : List ℕ) → length ends ≤ j → Writes l b (sections_bytes w a (drop j ends)) l b
sections_end w a j b ends l h = rw (drop_of_length-le ends h, sections_done w a) (record { stored = refl; reached = omega arith })

-- their count of bytes
pub sizes_more : (a e j size more : ℕ) (ends : List ℕ) → j < length ends → e ≡ get_or ends j 0 → more ≡ section_size a e
    → size + more + sections_size e (drop (j + 1) ends) ≡ size + sections_size a (drop j ends)
sizes_more a e j size more ends h q f = rw (add-one j) (omega (arith, f, size_on a e j ends h q))

pub sizes_end : (a j : ℕ) (ends : List ℕ) → length ends ≤ j → sections_size a (drop j ends) ≡ 0
unfolding sections_size
sizes_end a j ends h = rw (drop_of_length-le ends h)

-- The whole record: its count of bytes, its bytes, and the two answers

pub size_as : (w : ℕ → ℕ) (i : ℕ) (ends : List ℕ) (x y s : ℕ) → x ≡ length (decimal i) → y ≡ length (decimal (length ends))
    → s ≡ sections_size 0 ends
    → x + y + s + 2 ≡ length (record_of w i ends)
unfolding head_size
size_as w i ends x y s e f g = omega (arith, e, f, g, length_record w i ends)

pub record_stored : (w : ℕ → ℕ) (i : ℕ) (ends : List ℕ) {l m o p : List ℕ} {b c d : ℕ} → Writes l 0 (head_bytes i (length ends)) m b
    → Writes m b (sections_bytes w 0 ends) o c → Writes o c (line_end ∷ []) p d
    → p ≡ sets l 0 (record_of w i ends)
record_stored w i ends f g h =
    let head = head_bytes i (length ends) in
    let sections = sections_bytes w 0 ends in
    rw (record_as w i ends) (both (head ++ sections) (line_end ∷ []) (both head sections f g) h).stored

pub refused_as : (bytes output : List ℕ) (size : ℕ) → size ≡ length bytes → length output < size
    → reply (refused 5) output ≡ or_too_long bytes output
unfolding or_too_long
refused_as bytes output size e h = simp (lt-leb (length bytes) (length output) (omega arith))

pub written_as : (bytes output after : List ℕ) (size : ℕ) → size ≡ length bytes → size ≤ length output → after ≡ sets output 0 bytes
    → reply (gave (size ∷ [])) after ≡ or_too_long bytes output
unfolding or_too_long
written_as bytes output after size e h f =
    rw (f, e, sets_front bytes output (omega arith)) (simp (le-leb (length bytes) (length output) (omega arith)))
