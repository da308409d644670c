-- The reading in numbers, as the code has it: a step on numbers is the step on what was read, and whatever the bytes they stay small.
use Rattle.std.specs.Prelude.{◌≡◌, refl, Bool, true, false, cond, ◌&&◌, List, [], ◌∷◌, ℕ, ◌+◌, ◌*◌, ◌/◌, ◌≤◌, leb, ltb, eqb, length}
use Rattle.std.specs.Prelude.{Option as Optional, Some, None}
use Rattle.std.proofs.Math.Option.{Option, some, none}
use Rattle.std.proofs.Common.{arith, add-one, length-append}
use Rattle.words.specs.Definitions.{most_picks, most_sections}
use Rattle.words.specs.Ranges.{between}
use Rattle.text.specs.Definitions.{comma, line_end}
use Rattle.layout.specs.Record.{Folded}
use Rattle.layout.specs.Layout.{Every, more as every_more, Fits, total}
use Rattle.layout.specs.Reading.{State, in_picks as at_picks, in_count as at_count, in_length as at_length, in_half as at_half, closed, start}
use Rattle.layout.specs.Reading.{is_digit, is_letter, onward, in_number, in_letters, and_then, step, run}
use Rattle.layout.proofs.Back.{Valid, back}
use Rattle.layout.proofs.Places.{total_snoc}
use Rattle.reader.specs.declared.step.Sections.{Sections}
use Rattle.reader.specs.declared.step.Totals.{Totals}
use Rattle.reader.specs.declared.step.State.{State as Scan}
use Rattle.reader.specs.declared.step.State.TheVariants.{InPicks, InCount, InLength, InHalf, Closed}
use Rattle.reader.specs.declared.number.Number.{Number}
use Rattle.reader.specs.declared.number.Number.TheVariants.{More, Ended}

-- What was read, in numbers

abbrev pub sections : (p c : ℕ) → List Folded → Sections
sections p c fs = record { picks = p; count = c; whole = length fs; sum = total fs }

abbrev pub numbers : State → Scan
numbers (at_picks v) = InPicks v
numbers (at_count p v) = InCount p v
numbers (at_length p c fs v) = InLength (sections p c fs) v
numbers (at_half p c fs len half) = InHalf (sections p c fs) len (length half)
numbers (closed p fs) = Closed (record { picks = p; sum = total fs })

abbrev pub numbers_of : Option State → Optional Scan
numbers_of none = None
numbers_of (some s) = Some (numbers s)

-- of a record read whole
abbrev pub totals : Scan → Optional Totals
totals (InPicks v) = None
totals (InCount p v) = None
totals (InLength r v) = None
totals (InHalf r len k) = None
totals (Closed t) = Some t

-- One byte

-- what it makes of the number v
unfoldable pub read_number : (most v byte : ℕ) → Optional Number
unfolding is_digit
read_number most v b = cond (is_digit b)
    (cond (between 1 most (onward v b)) (Some (More (onward v b))) None)
    (cond (eqb b comma && leb 1 v) (Some Ended) None)

-- on with the number, or behind it
abbrev pub going : (more : ℕ → Scan) (next : Scan) → Optional Number → Optional Scan
going more next None = None
going more next (Some (More n)) = Some (more n)
going more next (Some Ended) = Some next

abbrev pub in_picks : (v byte : ℕ) → Optional Scan
in_picks v b = going InPicks (InCount v 0) (read_number most_picks v b)

abbrev pub in_count : (p v byte : ℕ) → Optional Scan
in_count p v b = going (InCount p) (InLength (sections p v []) 0) (read_number most_sections v b)

abbrev pub in_length : Sections → (v byte : ℕ) → Optional Scan
in_length r v b = going (InLength r) (InHalf r v 0) (read_number most_picks v b)

-- a section of len picks read whole
abbrev pub one_section : Sections → (len : ℕ) → Sections
one_section r len = record { picks = r.picks; count = r.count; whole = r.whole + 1; sum = r.sum + len }

unfoldable pub next_section : Sections → (len byte : ℕ) → Optional Scan
next_section r len b = cond (ltb (r.whole + 1) r.count)
    (cond (eqb b comma) (Some (InLength (one_section r len) 0)) None)
    (cond (eqb b line_end) (Some (Closed (record { picks = r.picks; sum = r.sum + len }))) None)

unfoldable pub in_half : Sections → (len letters byte : ℕ) → Optional Scan
unfolding is_letter next_section
in_half r len k b = cond (ltb k ((len + 1) / 2)) (cond (is_letter b) (Some (InHalf r len (k + 1))) None) (next_section r len b)

unfoldable pub stepped : Scan → (byte : ℕ) → Optional Scan
unfolding read_number in_half
stepped (InPicks v) b = in_picks v b
stepped (InCount p v) b = in_count p v b
stepped (InLength r v) b = in_length r v b
stepped (InHalf r len k) b = in_half r len k b
stepped (Closed t) b = None

abbrev pub stepped_on : Optional Scan → (byte : ℕ) → Optional Scan
stepped_on None b = None
stepped_on (Some s) b = stepped s b

-- The law

push : {A B : Type 0} (f : A → B) (c : Bool) (x y : A) → f (cond c x y) ≡ cond c (f x) (f y)
push f true x y = refl
push f false x y = refl

number_law : (most : ℕ) (more : ℕ → State) (next : State) (v b : ℕ) → numbers_of (in_number most more next v b)
    ≡ going (λ n. numbers (more n)) (numbers next) (read_number most v b)
unfolding in_number read_number
number_law most more next v b =
    let on : Optional Number → Optional Scan = going (λ n. numbers (more n)) (numbers next) in
    simp (push numbers_of, push on)

letters_law : (p c : ℕ) (fs : List Folded) (len : ℕ) (half : List ℕ) (b : ℕ)
    → numbers_of (in_letters p c fs len half b) ≡ in_half (sections p c fs) len (length half) b
unfolding in_letters in_half
letters_law p c fs len half b =
    let f : Folded = record { len = len; half = half } in
    simp (push numbers_of, length-append half (b ∷ []), length-append fs (f ∷ []), total_snoc fs f, add-one)

pub stepped_law : (o : Option State) (b : ℕ) → numbers_of (and_then o (λ s. step s b)) ≡ stepped_on (numbers_of o) b
unfolding step stepped
stepped_law none b = refl
stepped_law (some (at_picks v)) b = number_law most_picks at_picks (at_count v 0) v b
stepped_law (some (at_count p v)) b = number_law most_sections (at_count p) (at_length p v [] 0) v b
stepped_law (some (at_length p c fs v)) b = number_law most_picks (at_length p c fs) (at_half p c fs v []) v b
stepped_law (some (at_half p c fs len half)) b = letters_law p c fs len half b
stepped_law (some (closed p fs)) b = refl

-- Bounds, asked for and no field of the code's types: `numbers` has a state for any reading, also for one that no bytes lead to

pub record Bounded (r : Sections) : Type 0 where
  pub picks : r.picks ≤ most_picks
  pub count : r.count ≤ most_sections
  pub whole : r.whole ≤ most_sections
  pub sum : r.sum ≤ most_sections * most_picks

abbrev pub Small : Scan → Type 0
Small (InPicks v) = v ≤ most_picks
Small (InCount p v) = (p ≤ most_picks) × (v ≤ most_picks)
Small (InLength r v) = Bounded r × (v ≤ most_picks)
Small (InHalf r len k) = Bounded r × (len ≤ most_picks) × (k ≤ most_picks)
Small (Closed t) = (t.picks ≤ most_picks) × (t.sum ≤ most_sections * most_picks)

total_small : (fs : List Folded) → Every Fits fs → total fs ≤ length fs * most_picks
total_small [] h = omega arith
total_small (f ∷ fs) (every_more k ks) = omega (arith, k.ranged.high, total_small fs ks)

valid_small : (s : State) → Valid s → Small (numbers s)
valid_small (at_picks v) h = h
valid_small (at_count p v) h = (h.0.high, omega (arith, h.1))
valid_small (at_length p c fs v) h = (
  record { picks = h.0.high; count = h.1.high; whole = omega (arith, h.1.high, h.3); sum = omega (arith, h.1.high, h.3, total_small fs h.2) },
  h.4,
)
valid_small (at_half p c fs len half) h = (
  record { picks = h.0.high; count = h.1.high; whole = omega (arith, h.1.high, h.3); sum = omega (arith, h.1.high, h.3, total_small fs h.2) },
  h.4.high,
  omega (arith, h.4.high, h.6),
)
valid_small (closed p fs) h = (h.0.high, omega (arith, h.1.high, total_small fs h.2))

pub small : (bytes : List ℕ) (s : State) → run start bytes ≡ some s → Small (numbers s)
small bytes s e = valid_small s (back s bytes e).0
