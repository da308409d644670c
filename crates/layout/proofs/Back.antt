-- A state that was reached says which bytes led to it, and a closed one that they are a record.
use Rattle.std.specs.Prelude.{◌≡◌, refl, List, [], ◌∷◌, ◌++◌, ℕ, zero, suc, ◌+◌, ◌/◌, ◌%◌, ◌≤◌, ◌<◌, length}
use Rattle.std.proofs.Common.{sym, ap, ◌∙◌, append_assoc, append-nil, length-append, add-one}
use Rattle.std.proofs.Math.Option.{Option, some, none}
use native.Mathlib.Omega.{arith}
use Rattle.std.proofs.Math.Decide.{dec_lt}
use Rattle.words.specs.Definitions.{From, most_picks, most_sections}
use Rattle.words.proofs.Cases.{clash}
use Rattle.text.specs.Definitions.{comma, line_end, digit_zero, decimal}
use Rattle.text.specs.Decimal.{decimal_digit, decimal_more}
use Rattle.layout.specs.Record.{Folded, fields_of, behind_commas, laid_out}
use Rattle.layout.specs.Layout.{Every, none as every-none, Letter, Digit, Fits, Laid, opening}
use Rattle.layout.specs.Reading.{State, in_picks, in_count, in_length, in_half, closed, start, onward, step, run}
use Rattle.layout.proofs.Entries.{every_snoc}
use Rattle.layout.proofs.Steps.{Steps, picks_digit, picks_end, count_digit, count_end, length_digit, length_end, letter, another, last}
use Rattle.layout.proofs.Steps.{steps}

-- The digits that lead to a number: none to 0

unfoldable pub digits_to : ℕ → List ℕ
digits_to zero = []
digits_to (suc n) = decimal (suc n)

pub digits_some : (n : ℕ) → 1 ≤ n → digits_to n ≡ decimal n
unfolding digits_to
digits_some zero h = absurd (omega arith)
digits_some (suc n) h = refl

pub digits_on : (v b : ℕ) → Digit b → 1 ≤ onward v b → digits_to (onward v b) ≡ digits_to v ++ b ∷ []
digits_on v b d h = digits_some (onward v b) h ∙ elim (dec_lt v 1) [
  | yes x ↦
      let z : v ≡ 0 = omega arith in
      let y : digit_zero + onward v b ≡ b = omega arith in
      decimal_digit (onward v b) (omega arith) ∙ rw (y, z) (unfold digits_to in refl)
  | no x ↦
      let y : onward v b / 10 ≡ v = omega arith in
      let z : digit_zero + onward v b % 10 ≡ b = omega arith in
      decimal_more (onward v b) (omega arith) ∙ rw (y, z, digits_some v (omega arith))
]

-- One section more behind an opening

unfoldable pub folded_bytes : Folded → List ℕ
folded_bytes f = comma ∷ decimal f.len ++ comma ∷ f.half

fields_snoc : (fs : List Folded) (f : Folded) → behind_commas (fields_of (fs ++ f ∷ [])) ≡ behind_commas (fields_of fs) ++ folded_bytes f
unfolding fields_of behind_commas folded_bytes
fields_snoc [] f = ap (λ l. comma ∷ decimal f.len ++ comma ∷ l) (append-nil f.half)
fields_snoc (g ∷ fs) f = rw (fields_snoc fs f) (simp append_assoc)

opening_snoc : (p c : ℕ) (fs : List Folded) (f : Folded) → opening p c (fs ++ f ∷ []) ≡ opening p c fs ++ folded_bytes f
unfolding opening
opening_snoc p c fs f = rw (fields_snoc fs f) (simp append_assoc)

record_snoc : (p c : ℕ) (fs : List Folded) (f : Folded) → suc (length fs) ≡ c
    → laid_out p (fs ++ f ∷ []) ≡ (opening p c fs ++ folded_bytes f) ++ line_end ∷ []
unfolding laid_out opening
record_snoc p c fs f e =
    ap (λ k. opening p k (fs ++ f ∷ []) ++ line_end ∷ []) (length-append fs (f ∷ []) ∙ add-one (length fs) ∙ e)
    ∙ ap (λ l. l ++ line_end ∷ []) (opening_snoc p c fs f)

-- The bytes that lead to a state, and what is known of its numbers and sections

unfoldable pub bytes_to : State → List ℕ
unfolding digits_to opening folded_bytes laid_out
bytes_to (in_picks v) = digits_to v
bytes_to (in_count p v) = decimal p ++ comma ∷ digits_to v
bytes_to (in_length p c fs v) = opening p c fs ++ comma ∷ digits_to v
bytes_to (in_half p c fs len half) = opening p c fs ++ folded_bytes (record { len = len; half = half })
bytes_to (closed p fs) = laid_out p fs

abbrev pub Valid : State → Type 0
Valid (in_picks v) = v ≤ most_picks
Valid (in_count p v) = From 1 most_picks p × (v ≤ most_sections)
Valid (in_length p c fs v) = From 1 most_picks p × From 1 most_sections c × Every Fits fs × (length fs < c) × (v ≤ most_picks)
Valid (in_half p c fs len half) =
    From 1 most_picks p × From 1 most_sections c × Every Fits fs × (length fs < c)
    × From 1 most_picks len × Every Letter half × (length half ≤ (len + 1) / 2)
Valid (closed p fs) = From 1 most_picks p × From 1 most_sections (length fs) × Every Fits fs

-- these bytes led to the state
abbrev pub Led : State → List ℕ → Type 0
Led s bytes = Valid s × (bytes_to s ≡ bytes)

-- One byte read, and then any number of them

-- a section whose half is complete
pub fits : {p c len : ℕ} {fs : List Folded} {half : List ℕ} → Valid (in_half p c fs len half) → (len + 1) / 2 ≤ length half
    → Fits (record { len = len; half = half })
fits h l = record { ranged = h.4; halved = omega (arith, h.6); lettered = h.5 }

pub step_back : {s : State} {b : ℕ} {t : State} → Steps s b t → Valid s → Led t (bytes_to s ++ b ∷ [])
unfolding bytes_to
step_back (picks_digit {v = v} {b = b} d w) h = (w.high, digits_on v b d w.low)
step_back (picks_end {v = v} l) h = ((record { low = l; high = h }, omega arith), rw (digits_some v l))
step_back (count_digit {v = v} {b = b} d w) h = ((h.0, w.high), rw (digits_on v b d w.low) (simp append_assoc))
step_back (count_end {v = v} l) h =
    ((h.0, record { low = l; high = h.1 }, every-none, omega arith, omega arith), rw (digits_some v l) (simp (append_assoc, append-nil)))
step_back (length_digit {v = v} {b = b} d w) h =
    ((h.0, h.1, h.2, h.3, w.high), rw (digits_on v b d w.low) (simp append_assoc))
step_back (length_end {v = v} l) h =
    ((h.0, h.1, h.2, h.3, record { low = l; high = h.4 }, every-none, omega arith), rw (digits_some v l) (simp append_assoc))
step_back (letter {b = b} {half = half} l k) h =
    ((h.0, h.1, h.2, h.3, h.4, every_snoc h.5 k, omega (arith, length-append half (b ∷ []))), simp append_assoc)
step_back (another {p = p} {c = c} {len = len} {fs = fs} {half = half} l k) h =
    let f : Folded = record { len = len; half = half } in (
      (h.0, h.1, every_snoc h.2 (fits h l), omega (arith, length-append fs (f ∷ [])), omega arith),
      ap (λ l. l ++ comma ∷ []) (opening_snoc p c fs f),
    )
step_back (last {p = p} {c = c} {len = len} {fs = fs} {half = half} l k) h =
    let f : Folded = record { len = len; half = half } in
    let n : length (fs ++ f ∷ []) ≡ c = length-append fs (f ∷ []) ∙ omega (arith, h.3) in
    ((h.0, rw n h.1, every_snoc h.2 (fits h l)), record_snoc p c fs f (omega (arith, h.3)))

run_back : (s t : State) (bytes : List ℕ) → Valid s → run s bytes ≡ some t → Led t (bytes_to s ++ bytes)
unfolding run
run_back s t [] h e = let z : t ≡ s = cc in rw z (h, sym (append-nil (bytes_to s)))
run_back s t (b ∷ bytes) h e = go (step s b) refl (λ u. run_back u t bytes)
  where
    go : (o : Option State) → step s b ≡ o → ((u : State) → Valid u → run u bytes ≡ some t → Led t (bytes_to u ++ bytes))
        → Led t (bytes_to s ++ b ∷ bytes)
    go none f on = clash cc
    go (some u) f on =
        let q = step_back (steps s u b f) h in
        let r = on u q.0 (rw f at e) in
        (r.0, r.1 ∙ ap (λ l. l ++ bytes) q.1 ∙ append_assoc (bytes_to s) (b ∷ []) bytes)

-- from the beginning
pub back : (t : State) (bytes : List ℕ) → run start bytes ≡ some t → Led t bytes
unfolding bytes_to
back t bytes e = run_back start t bytes (omega arith) e

-- a record read to its end
pub back_closed : (p : ℕ) (fs : List Folded) (bytes : List ℕ) → run start bytes ≡ some (closed p fs) → Laid bytes p fs
unfolding bytes_to
back_closed p fs bytes e =
    let q = back (closed p fs) bytes e in
    record { ranged = q.0.0; counted = q.0.1; fitting = q.0.2; written = sym q.1 }
