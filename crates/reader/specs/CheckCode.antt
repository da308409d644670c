-- The check for numbers 11 and 12, as the code makes it: the place of a number's first digit, and the three ways of the check.
use Rattle.std.specs.Prelude.{◌≡◌, refl, Bool, true, false, ◌&&◌, cond, List, ℕ, zero, suc, ◌-◌, ◌≤◌, ◌<◌, eqb, length, take, get_or, Result, Ok, Err}
use Rattle.std.proofs.Common.{◌∙◌, arith, eq-eqb, ne_eqb, length-take-le, get_or-take}
use Rattle.std.proofs.Math.Decide.{dec_lt, ℕ_discrete}
use Rattle.std.proofs.Math.ListN.{get_or-eq_default}
use Rattle.std.proofs.Math.Option.{Option, some, none}
use Rattle.words.proofs.Cases.{clash}
use Rattle.layout.specs.Layout.{total}
use Rattle.layout.specs.Reading.{State, in_picks, in_count, in_length, in_half, closed, start, run, reach}
use Rattle.layout.specs.Reading.{is_digit, number_at, Reading, whole, breaks, reading_of, reading}
use Rattle.reader.specs.declared.step.Totals.{Totals}
use Rattle.promises.specs.declared.refusal.Refusal.{Refusal}
use Rattle.promises.specs.declared.refusal.Refusal.TheVariants.{NoRecord, Unequal}
use Rattle.reader.specs.ScanCode.{scanned}

-- A digit behind a digit

unfoldable pub follows : (bytes : List ℕ) (i : ℕ) → Bool
unfolding is_digit
follows bytes i = is_digit (get_or bytes (i - 1) 0) && is_digit (get_or bytes i 0)

module _ (bytes : List ℕ) (i x : ℕ) (d : Bool) (e : x ≡ get_or bytes (i - 1) 0) (f : d ≡ is_digit x) where
  pub follows_second : (y : ℕ) (g : Bool) → d ≡ true → y ≡ get_or bytes i 0 → g ≡ is_digit y → g ≡ follows bytes i
  unfolding follows
  follows_second y g t h k = k ∙ rw (h, ← e, ← f, t)

  pub follows_first : d ≡ false → false ≡ follows bytes i
  unfolding follows
  follows_first t = rw (← e, ← f, t)

-- A number's first digit, from a place back

pub number_follows : (bytes : List ℕ) (i : ℕ) → 0 < i → follows bytes i ≡ true → number_at bytes (i - 1) ≡ number_at bytes i
unfolding number_at follows
number_follows bytes zero l e = absurd (omega arith)
number_follows bytes (suc i) l e = let z : suc i - 1 ≡ i = omega arith in rw z (simp (rw z at e))

pub number_begins : (bytes : List ℕ) (i : ℕ) → 0 < i → follows bytes i ≡ false → i ≡ number_at bytes i
unfolding number_at follows
number_begins bytes zero l e = absurd (omega arith)
number_begins bytes (suc i) l e = let z : suc i - 1 ≡ i = omega arith in simp (rw z at e)

pub number_zero : (bytes : List ℕ) (i : ℕ) → i ≤ 0 → i ≡ number_at bytes i
unfolding number_at
number_zero bytes zero l = refl
number_zero bytes (suc i) l = absurd (omega arith)

-- The place of a number's first digit

number_itself : (bytes : List ℕ) (place : ℕ) → is_digit (get_or bytes place 0) ≡ false → place ≡ number_at bytes place
unfolding number_at
number_itself bytes zero e = refl
number_itself bytes (suc i) e = simp e (go (is_digit (get_or bytes i 0)))
  where
    go : (d : Bool) → suc i ≡ cond (d && false) (number_at bytes i) (suc i)
    go true = refl
    go false = refl

-- before i no digit, from there on nothing but digits up to the place
number_from : (bytes : List ℕ) (place i : ℕ) → is_digit (get_or bytes place 0) ≡ true → i ≤ place
    → ((k : ℕ) → i ≤ k → k < place → is_digit (get_or bytes k 0) ≡ true) → (0 < i → is_digit (get_or bytes (i - 1) 0) ≡ false)
    → i ≡ number_at bytes place
unfolding number_at
number_from bytes zero i e h on start' = omega arith
number_from bytes (suc j) i e h on start' = elim (ℕ_discrete i (suc j)) [
  | yes x ↦
      let z : i - 1 ≡ j = omega arith in
      let f : is_digit (get_or bytes j 0) ≡ false = rw z at (start' (omega arith)) in
      x ∙ simp (f, e)
  | no x ↦
      let d : is_digit (get_or bytes j 0) ≡ true = on j (omega arith) (omega arith) in
      simp (d, e) (number_from bytes j i d (omega arith) (λ k a b. on k a (omega arith)) start')
]

-- there is no digit outside
digit_within : (bytes : List ℕ) (place b : ℕ) → b ≡ get_or bytes place 0 → is_digit b ≡ true → place < length bytes
unfolding is_digit
digit_within bytes place b e f = elim (dec_lt place (length bytes)) [
  | yes x ↦ x
  | no x ↦ let z : b ≡ 0 = e ∙ get_or-eq_default bytes 0 (omega arith) in clash (cc (rw z at f))
]

-- i is the first of the digits at the end of what stands before the place, b the byte there
module _ (bytes : List ℕ) (place b : ℕ) (e : b ≡ get_or bytes place 0) where
  pub number_back : (i : ℕ) → is_digit b ≡ true → i ≤ length (take place bytes)
      → ((k : ℕ) → i ≤ k → k < length (take place bytes) → is_digit (get_or (take place bytes) k 0) ≡ true)
      → (0 < i → is_digit (get_or (take place bytes) (i - 1) 0) ≡ false)
      → i ≡ number_at bytes place
  number_back i f h on start' =
      let l : place < length bytes = digit_within bytes place b e f in
      let n : length (take place bytes) ≡ place = length-take-le place bytes (omega arith) in
      number_from bytes place i (rw e at f) (omega arith)
      (λ k x y. rw (get_or-take place bytes k 0 y) at (on k x (omega arith)))
      (λ x. rw (get_or-take place bytes (i - 1) 0 (omega arith)) at (start' x))

  pub number_own : is_digit b ≡ false → place ≡ number_at bytes place
  number_own f = number_itself bytes place (rw e at f)

-- The check

-- "11, with the place ..; 12, after 11, lengths not adding up to the picks"
unfoldable pub checked_of : Reading → Result ℕ Refusal
checked_of (breaks place) = Err (NoRecord place)
checked_of (whole picks fs) = cond (eqb (total fs) picks) (Ok picks) (Err Unequal)

-- its ways, by how the reading ended: t are a whole record's totals
module _ (place k : ℕ) where
  check_passes : (o : Option State) (t : Totals) → Ok t ≡ scanned o k → t.sum ≡ t.picks → Ok t.picks ≡ checked_of (reading_of place o)
  unfolding reading_of checked_of
  check_passes none t e f = clash cc
  check_passes (some (in_picks v)) t e f = clash cc
  check_passes (some (in_count p v)) t e f = clash cc
  check_passes (some (in_length p c fs v)) t e f = clash cc
  check_passes (some (in_half p c fs len half)) t e f = clash cc
  check_passes (some (closed p fs)) t e f =
      let z : t ≡ record { picks = p; sum = total fs } = cc in rw z (simp (eq-eqb (total fs) p (rw z at f)))

  check_unequal : (o : Option State) (t : Totals) → Ok t ≡ scanned o k → (t.sum ≡ t.picks → ⊥) → Err Unequal ≡ checked_of (reading_of place o)
  unfolding reading_of checked_of
  check_unequal none t e f = clash cc
  check_unequal (some (in_picks v)) t e f = clash cc
  check_unequal (some (in_count p v)) t e f = clash cc
  check_unequal (some (in_length p c fs v)) t e f = clash cc
  check_unequal (some (in_half p c fs len half)) t e f = clash cc
  check_unequal (some (closed p fs)) t e f =
      let z : t ≡ record { picks = p; sum = total fs } = cc in simp (ne_eqb (total fs) p (rw z at f))

  check_broken : (o : Option State) (stop : ℕ) → Err stop ≡ scanned o k → Err (NoRecord place) ≡ checked_of (reading_of place o)
  unfolding reading_of checked_of
  check_broken none stop e = refl
  check_broken (some (in_picks v)) stop e = refl
  check_broken (some (in_count p v)) stop e = refl
  check_broken (some (in_length p c fs v)) stop e = refl
  check_broken (some (in_half p c fs len half)) stop e = refl
  check_broken (some (closed p fs)) stop e = clash cc

-- it broke off after as many bytes as can be read
stops : (o : Option State) (k stop : ℕ) → Err stop ≡ scanned o k → stop ≡ k
stops none k stop e = cc
stops (some (in_picks v)) k stop e = cc
stops (some (in_count p v)) k stop e = cc
stops (some (in_length p c fs v)) k stop e = cc
stops (some (in_half p c fs len half)) k stop e = cc
stops (some (closed p fs)) k stop e = clash cc

module _ (bytes : List ℕ) where
  pub passes_as : (t : Totals) → Ok t ≡ scanned (run start bytes) (reach start bytes) → t.sum ≡ t.picks → Ok t.picks ≡ checked_of (reading bytes)
  unfolding reading
  passes_as t e f = check_passes (number_at bytes (reach start bytes)) (reach start bytes) (run start bytes) t e f

  pub unequal_as : (t : Totals) → Ok t ≡ scanned (run start bytes) (reach start bytes) → (t.sum ≡ t.picks → ⊥)
      → Err Unequal ≡ checked_of (reading bytes)
  unfolding reading
  unequal_as t e f = check_unequal (number_at bytes (reach start bytes)) (reach start bytes) (run start bytes) t e f

  pub broken_as : (stop place : ℕ) → Err stop ≡ scanned (run start bytes) (reach start bytes) → place ≡ number_at bytes stop
      → Err (NoRecord place) ≡ checked_of (reading bytes)
  unfolding reading
  broken_as stop place e f =
      let k = stops (run start bytes) (reach start bytes) stop e in
      rw (f, k) (check_broken (number_at bytes (reach start bytes)) (reach start bytes) (run start bytes) stop e)
