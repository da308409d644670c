-- The ways of a step. What the code computed are variables here, each tied by an equation.
use Rattle.std.specs.Prelude.{◌≡◌, Bool, true, false, ◌&&◌, ℕ, ◌+◌, ◌/◌, ◌≤◌, ◌<◌, leb, eqb}
use Rattle.std.specs.Prelude.{Option as Optional, Some, None}
use Rattle.std.proofs.Math.Path.{sym}
use Rattle.std.proofs.Common.{◌∙◌, lt-ltb, le-ltb}
use Rattle.words.specs.Ranges.{between}
use Rattle.text.specs.Definitions.{comma}
use Rattle.layout.specs.Reading.{is_digit, is_letter, onward}
use Rattle.reader.specs.declared.step.Sections.{Sections}
use Rattle.reader.specs.declared.step.Totals.{Totals}
use Rattle.reader.specs.declared.step.State.{State}
use Rattle.reader.specs.declared.step.State.TheVariants.{InPicks, InCount, InLength, InHalf, Closed}
use Rattle.reader.specs.declared.number.Number.{Number}
use Rattle.reader.specs.declared.number.Number.TheVariants.{More, Ended}
use Rattle.reader.specs.Numbers.{read_number, in_picks, in_count, in_length, in_half, next_section, stepped}

-- In a number: d tells a digit, w what is tested next

module _ (v b most : ℕ) {d : Bool} (digit : d ≡ is_digit b) where
  module _ (n : ℕ) {w : Bool} (e : n ≡ onward v b) (inside : w ≡ between 1 most n) where
    pub number_digit : d ≡ true → w ≡ true → Some (More n) ≡ read_number most v b
    unfolding read_number
    number_digit x y = rw e (simp (sym digit ∙ x, rw e at (sym inside ∙ y)))

    pub number_outside : {r : Optional Number} → d ≡ true → w ≡ false → r ≡ None → r ≡ read_number most v b
    unfolding read_number
    number_outside x y q = simp (sym digit ∙ x, rw e at (sym inside ∙ y)) q

  module _ {w : Bool} (ends : w ≡ eqb b comma && leb 1 v) where
    pub number_ends : {r : Optional Number} → d ≡ false → w ≡ true → r ≡ Some Ended → r ≡ read_number most v b
    unfolding read_number
    number_ends x y q = simp (sym digit ∙ x, sym ends ∙ y) q

    pub number_stuck : {r : Optional Number} → d ≡ false → w ≡ false → r ≡ None → r ≡ read_number most v b
    unfolding read_number
    number_stuck x y q = simp (sym digit ∙ x, sym ends ∙ y) q

-- In a half

module _ (r : Sections) (len k b : ℕ) where
  module _ {d : Bool} (e : d ≡ is_letter b) (l : k < (len + 1) / 2) where
    pub letter_read : d ≡ true → Some (InHalf r len (k + 1)) ≡ in_half r len k b
    unfolding in_half
    letter_read x = simp (lt-ltb _ _ l, sym e ∙ x)

    pub letter_stuck : {x : Optional State} → d ≡ false → x ≡ None → x ≡ in_half r len k b
    unfolding in_half
    letter_stuck x q = simp (lt-ltb _ _ l, sym e ∙ x) q

  pub letter_section : {x : Optional State} → (len + 1) / 2 ≤ k → x ≡ next_section r len b → x ≡ in_half r len k b
  unfolding in_half
  letter_section l q = simp (le-ltb _ _ l) q

-- In any state

module _ (b : ℕ) {x : Optional State} where
  pub step_in_number : (r : Sections) (p v : ℕ)
      → (x ≡ in_picks v b → x ≡ stepped (InPicks v) b)
      × ((x ≡ in_count p v b → x ≡ stepped (InCount p v) b) × (x ≡ in_length r v b → x ≡ stepped (InLength r v) b))
  unfolding stepped
  step_in_number r p v = (λ q. q, (λ q. q, λ q. q))

  pub step_in_half : (r : Sections) (len k : ℕ) → x ≡ in_half r len k b → x ≡ stepped (InHalf r len k) b
  unfolding stepped
  step_in_half r len k q = q

  pub step_stuck : (t : Totals) → x ≡ None → x ≡ stepped (Closed t) b
  unfolding stepped
  step_stuck t q = q
