-- The law of number 11: `reading` breaks off exactly where `BreaksAt` says.
use Rattle.std.specs.Prelude.{◌≡◌, refl, Bool, true, false, ◌↔◌, List, [], ◌∷◌, ◌++◌, ℕ, zero, suc, ◌<◌, length, get_or, take, drop}
use Rattle.std.proofs.Common.{sym, ap, ◌∙◌, append_assoc, arith, length-append, take-append-drop, length-take-le, get_or-take, take-suc}
use Rattle.std.proofs.Math.Option.{some, none}
use Rattle.words.proofs.Cases.{clash, true_false}
use Rattle.text.specs.Definitions.{decimal}
use Rattle.text.specs.Decimal.{decimal_digits}
use Rattle.layout.specs.Layout.{Every, none as every-none, Digit, NumberOutside, BreaksAt, number, byte}
use Rattle.layout.specs.Reading.{State, start, is_digit, run, reach, number_at, breaks, reading}
use Rattle.layout.proofs.Entries.{every_append, every_snoc, every_of}
use Rattle.layout.proofs.Forward.{run_append, run_digits}
use Rattle.layout.proofs.Back.{digits_to, bytes_to, Led, back}
use Rattle.layout.proofs.ReadingLaws.{Read, breaks_at, reach_front, reach_stuck, reach_within, run_front, stops_law}
use Rattle.layout.proofs.Digits.{true_digit, digit_inside, DigitRun, digit_run, number_apart}
use Rattle.layout.proofs.Due.{in_digits, due, Numbering, numbering, other_end}
use Rattle.layout.proofs.NumberLaws.{among_digits}

-- A digit at r that cannot be read in a state that reads a number: that number is outside its range

digits_to_lem : (v : ℕ) → Every Digit (digits_to v)
unfolding digits_to
digits_to_lem zero = every-none
digits_to_lem (suc v) = every_of (decimal (suc v)) (λ i l. let h = decimal_digits (suc v) i l in record { low = h.0; high = h.1 })

module _ (bytes : List ℕ) (r : ℕ) (inside : r < length bytes) (stuck : run start (take (suc r) bytes) ≡ none)
    (digit : is_digit (get_or bytes r 0) ≡ true) (s : State) (goes : run start (take r bytes) ≡ some s) (reads : in_digits s ≡ true) where
  abbrev b : ℕ
  b = get_or bytes r 0

  led : Led s (take r bytes)
  led = back s (take r bytes) goes

  n : Numbering s
  n = numbering s led.0 reads

  after : DigitRun (drop (suc r) bytes)
  after = digit_run (drop (suc r) bytes)

  -- the number's digits up to this one, behind the bytes before them, are the bytes up to this one
  up_to : (l : List ℕ) → n.front ++ ((digits_to n.v ++ b ∷ []) ++ l) ≡ take (suc r) bytes ++ l
  up_to l =
      sym (append_assoc n.front (digits_to n.v ++ b ∷ []) l)
      ∙ ap (λ k. k ++ l)
      (sym (append_assoc n.front (digits_to n.v) (b ∷ []))
      ∙ ap (λ k. k ++ b ∷ []) (sym n.is ∙ led.1)
      ∙ sym (take-suc bytes r 0 inside))

  outside_here : NumberOutside bytes (length n.front)
  outside_here =
      let ds = digits_to n.v ++ b ∷ [] in
      let d = due n.at in
      record {
        front = n.front;
        digits = ds ++ after.digits;
        rest = after.rest;
        is =
            sym (take-append-drop (suc r) bytes)
            ∙ ap (λ l. take (suc r) bytes ++ l) after.is
            ∙ sym (up_to (after.digits ++ after.rest))
            ∙ ap (λ l. n.front ++ l) (sym (append_assoc ds after.digits after.rest));
        at = refl;
        most = n.most;
        due = n.at;
        some = omega (arith, length-append ds after.digits, length-append (digits_to n.v) (b ∷ []));
        all = every_append (every_snoc (digits_to_lem n.v) (true_digit b digit)) after.all;
        whole = after.whole;
        outside = λ k w e.
            let is : take (suc r) bytes ++ after.digits ≡ n.front ++ decimal k =
            sym (up_to after.digits) ∙ ap (λ l. n.front ++ l) e in
            let all : run start (n.front ++ decimal k) ≡ some (d.more k) =
            run_append start (d.more 0) n.front (decimal k) d.goes ∙ run_digits n.most d.more d.next d.is k w in
            let q = run_front start (d.more k) (take (suc r) bytes) after.digits (ap (run start) is ∙ all) in
            clash (cc (sym q.goes ∙ stuck));
      }

-- A byte that cannot be read in any other state: there is no such number, and it counts at its own place

module _ (bytes : List ℕ) (s : State) (goes : run start (take (reach start bytes) bytes) ≡ some s) (other : in_digits s ≡ false) where
  no_number : (place : ℕ) → NumberOutside bytes place → ⊥
  no_number place o =
      let a = among_digits bytes place o in
      let z : some a.state ≡ some s = sym a.goes ∙ goes in
      let y : a.state ≡ s = cc in
      true_false a.reads (ap in_digits y ∙ other)

  own_place : number_at bytes (reach start bytes) ≡ reach start bytes
  own_place = number_apart bytes (reach start bytes) (λ j z p q.
      let k = back s (take (reach start bytes) bytes) goes in
      let n : length (bytes_to s) ≡ reach start bytes =
      ap length k.1 ∙ length-take-le (reach start bytes) bytes (reach_within start bytes) in
      let at : get_or (bytes_to s) j 0 ≡ get_or bytes j 0 = rw k.1 (get_or-take (reach start bytes) bytes j 0 (omega arith)) in
      other_end s j k.0 other (z ∙ sym n) (rw at (true_digit (get_or bytes j 0) p)))

-- So bytes break off among the digits of a number outside its range; or there is none, and the place is how far they can be read

data Where (bytes : List ℕ) : Type 0 where
  among : (place : ℕ) → NumberOutside bytes place → Where bytes
  apart : number_at bytes (reach start bytes) ≡ reach start bytes → ((other : ℕ) → NumberOutside bytes other → ⊥) → Where bytes

breaking : (bytes : List ℕ) → Where bytes
breaking bytes = go (is_digit (get_or bytes r 0)) refl (reach_front start bytes)
  where
    r : ℕ
    r = reach start bytes

    by : (s : State) → run start (take r bytes) ≡ some s → is_digit (get_or bytes r 0) ≡ true → (t : Bool) → in_digits s ≡ t → Where bytes
    by s f d true e = let l = digit_inside bytes r d in among _ (outside_here bytes r l (reach_stuck start bytes l) d s f e)
    by s f d false e = apart (own_place bytes s f e) (no_number bytes s f e)

    go : (d : Bool) → is_digit (get_or bytes r 0) ≡ d → Read start (take r bytes) → Where bytes
    go true d f = by f.to f.goes d (in_digits f.to) refl
    go false d f = apart (number_apart bytes r (λ j z p q. true_false q d)) (λ other o. true_false (among_digits bytes other o).digit d)

-- The law

pub break_law : (bytes : List ℕ) (place : ℕ) → BreaksAt bytes place ↔ (reading bytes ≡ breaks place)
break_law bytes place = (λ h. to h (breaking bytes), λ e. from e (breaking bytes))
  where
    to : BreaksAt bytes place → Where bytes → reading bytes ≡ breaks place
    to (number o) w = (among_digits bytes place o).read
    to (byte f h) (among q o) = absurd (f q o)
    to (byte f h) (apart z g) =
        let k = (stops_law bytes place).0 h in
        k.0 ∙ ap breaks (ap (number_at bytes) k.1 ∙ z ∙ sym k.1)

    from : reading bytes ≡ breaks place → Where bytes → BreaksAt bytes place
    from e (among q o) =
        let z : breaks q ≡ breaks place = sym (among_digits bytes q o).read ∙ e in
        let y : q ≡ place = cc in
        number (rw y at o)
    from e (apart z g) =
        let y : place ≡ reach start bytes = breaks_at bytes place e ∙ z in
        byte g ((stops_law bytes place).1 (e ∙ ap breaks (y ∙ sym z ∙ ap (number_at bytes) (sym y)), y))
