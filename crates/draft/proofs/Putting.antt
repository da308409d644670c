-- How a line is built, field by field, from the front of its room.
use Rattle.std.specs.Prelude.{◌≡◌, List, [], ◌∷◌, ◌++◌, ℕ, ◌≤◌, length, take, drop}
use Rattle.std.proofs.Common.{ap, zero-add, arith}
use Rattle.std.proofs.Math.Seq.{take-append_seam}
use Rattle.models.proofs.Stores.{sets_front}
use Rattle.text.specs.Definitions.{comma, line_end, decimal}
use Rattle.text.specs.Writes.{Writes, both, writes_length}
use Rattle.draft.specs.Lines.{field, pick_line, refused_text, refusal_line}
use Rattle.draft.specs.Putting.{IsPrefixLen}

pub field_as : (n close : ℕ) {l m o : List ℕ} {a b c : ℕ} → Writes l a (decimal n) m b → Writes m b (close ∷ []) o c → Writes l a (field n close) o c
unfolding field
field_as n close f g = both (decimal n) (close ∷ []) f g

-- The lines, from the front of the room

pub pick_as : (picks mask visits longest : ℕ) {l m o p q : List ℕ} {b c d e : ℕ} → Writes l 0 (field picks comma) m b
    → Writes m b (field mask comma) o c → Writes o c (field visits comma) p d → Writes p d (field longest line_end) q e
    → Writes l 0 (pick_line picks mask visits longest) q e
unfolding pick_line
pick_as picks mask visits longest f g h i =
    both (field picks comma ++ field mask comma ++ field visits comma) (field longest line_end)
    (both (field picks comma ++ field mask comma) (field visits comma) (both (field picks comma) (field mask comma) f g) h) i

pub refusal_as : (number place : ℕ) {l m o p : List ℕ} {b c d : ℕ} → Writes l 0 refused_text m b → Writes m b (field number comma) o c
    → Writes o c (field place line_end) p d
    → Writes l 0 (refusal_line number place) p d
unfolding refusal_line
refusal_as number place f g h =
    both (refused_text ++ field number comma) (field place line_end) (both refused_text (field number comma) f g) h

-- what a writer stored from the front of a room that it fits into stands there
pub front : {l m : List ℕ} {r : ℕ} (bytes : List ℕ) → Writes l 0 bytes m r → r ≤ length l
    → IsPrefixLen r m × (take r m ≡ bytes)
front {l} {m} {r} bytes f h =
    let is : take r m ≡ bytes =
    rw (f.stored, f.reached, zero-add (length bytes), sets_front bytes l (omega (arith, f.reached))) (take-append_seam bytes (drop (length bytes) l)) in
    ((omega (arith, writes_length bytes f), omega (arith, f.reached, ap length is)), is)
