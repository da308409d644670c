-- Tests one after another as numbers: the first that is not 0, and the order of each call's.
use Rattle.std.specs.Prelude.{◌≡◌, refl, Bool, true, false, ◌&&◌, List, ℕ, zero, suc, ◌+◌, ◌*◌, ◌≤◌, eqb, leb, length}
use Rattle.std.proofs.Common.{ap, ◌∙◌, arith}
use Rattle.std.proofs.Math.Decide.{dec_le}
use Rattle.std.proofs.lemmas.Bool.{lt-leb}
use Rattle.words.specs.Definitions.{most_picks, most_sections, most_visits, first_letter, last_letter}
use Rattle.words.specs.Ranges.{between}
use Rattle.promises.specs.Lifts.{table_size, none_zero}
use Rattle.promises.specs.Refusals.{test, line1, line2, line3, line4, line6, line7, line8, line13, line14, line15, line16, feed_refusal, load_refusal, mask_refusal, centre_refusal, split_refusal, record_refusal, letter_refusal, show_refusal, or_else}

or_else_lem : (t : Bool) (number after : ℕ) → or_else (test t (suc number) 0) after ≡ test t (suc number) after
or_else_lem true number after = refl
or_else_lem false number after = refl

two_tests : (s t : Bool) (x y after : ℕ) → or_else (test s (suc x) (test t (suc y) 0)) after ≡ test s (suc x) (test t (suc y) after)
two_tests true t x y after = or_else_lem t y after
two_tests false t x y after = refl

pub feed_order : (n K pick entries : ℕ)
    → or_else (line7 n K 0) (or_else (line2 pick 0) (or_else (line3 entries 0) (line8 n 0))) ≡ feed_refusal n K pick entries
unfolding feed_refusal
feed_order n K pick entries =
    or_else_lem (leb n most_picks && between 1 most_sections K) 6 _
    ∙ ap (line7 n K) (or_else_lem (between first_letter last_letter pick) 1 _ ∙ ap (line2 pick) (or_else_lem (leb most_visits entries) 2 _))

pub mask_order : (n K i : ℕ) → or_else (line7 n K 0) (line4 0 n i 0) ≡ mask_refusal n K i
unfolding mask_refusal
mask_order n K i = or_else_lem (leb n most_picks && between 1 most_sections K) 6 _

-- last is the last centre where n passes
pub centre_order : (n K last c : ℕ) → (n ≤ most_picks → last ≡ 2 * n + 1) → or_else (line7 n K 0) (line4 1 last c 0) ≡ centre_refusal n K c
unfolding centre_refusal
centre_order n K last c f = or_else_lem (leb n most_picks && between 1 most_sections K) 6 _ ∙ elim (dec_le n most_picks) [
  | yes l ↦ rw (f l)
  | no l ↦ simp (lt-leb n most_picks (omega arith))
]

pub split_order : (n K i k entries : ℕ)
    → or_else (line7 n K 0) (or_else (line1 K k 0) (or_else (line13 k entries 0) (line4 0 n i 0))) ≡ split_refusal n K i k entries
unfolding split_refusal
split_order n K i k entries =
    or_else_lem (leb n most_picks && between 1 most_sections K) 6 _
    ∙ ap (line7 n K) (or_else_lem (between 1 K k) 0 _ ∙ ap (line1 K k) (or_else_lem (leb k entries) 12 _))

pub record_order : (n K i k : ℕ) → or_else (line7 n K 0) (or_else (line1 K k 0) (line4 0 n i 0)) ≡ record_refusal n K i k
unfolding record_refusal
record_order n K i k = or_else_lem (leb n most_picks && between 1 most_sections K) 6 _ ∙ ap (line7 n K) (or_else_lem (between 1 K k) 0 _)

pub letter_order : (n K letter : ℕ) → or_else (line7 n K 0) (line2 letter 0) ≡ letter_refusal n K letter
unfolding letter_refusal
letter_order n K letter = or_else_lem (leb n most_picks && between 1 most_sections K) 6 _

-- 7 and 14; then 15, which has a place, and 16
pub load_order : (n K number : ℕ) (lifts : List ℕ) → number ≡ or_else (line7 n K 0) (line14 (length lifts) 0)
    → or_else number (or_else (line15 lifts 0) (line16 n 0)) ≡ load_refusal n K lifts
unfolding load_refusal
load_order n K number lifts e =
    ap (λ x. or_else x (or_else (line15 lifts 0) (line16 n 0))) (e ∙ or_else_lem (leb n most_picks && between 1 most_sections K) 6 _)
    ∙ two_tests (leb n most_picks && between 1 most_sections K) (eqb (length lifts) table_size) 6 13 _
    ∙ ap (λ x. line7 n K (line14 (length lifts) x)) (or_else_lem (none_zero lifts) 14 _)

pub show_order : (letters ends : List ℕ) (s : ℕ) → or_else (line4 1 (length ends) s 0) (line6 letters ends 0) ≡ show_refusal letters ends s
unfolding show_refusal
show_order letters ends s = or_else_lem (between 1 (length ends) s) 3 _

pub or_first : (a b : ℕ) → (a ≡ 0 → ⊥) → a ≡ or_else a b
or_first zero b f = absurd (f refl)
or_first (suc a) b f = refl
