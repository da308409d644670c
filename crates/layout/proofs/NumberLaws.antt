-- A number outside its range: the reading breaks off among its digits, and counts at the first of them.
use Rattle.std.specs.Prelude.{◌≡◌, true, get_or, take}
use Rattle.std.proofs.Math.Path.{refl, ap}
use Rattle.std.proofs.Common.{sym, ◌∙◌, length-append, get_or-append-add}
use Rattle.std.proofs.Math.Bool.{cond, and-eq-true_iff}
use mathlib.Core.List.{List, [], ◌∷◌, ◌++◌, append_assoc, append-nil}
use Rattle.std.proofs.Math.Option.{Option, some, none}
use Prim.Native.Nat.{ℕ, zero, suc, ◌+◌, ◌≤◌, ◌<◌}
use native.Mathlib.Omega.{arith}
use Rattle.std.proofs.Math.ListN.{length, get_or-append}
use Rattle.std.proofs.Math.Seq.{take-append-add}
use Rattle.std.proofs.lemmas.List.{take-append-le, get_or_at}
use Rattle.words.specs.Definitions.{From}
use Rattle.words.proofs.Cases.{clash}
use Rattle.text.specs.Definitions.{comma, decimal}
use Rattle.layout.specs.Layout.{Every, more as every_more, Digit, opening, NumberDue, of_picks, of_sections, of_length, NumberOutside}
use Rattle.layout.specs.Reading.{State, start, onward, in_number, step, run, one_past, reach}
use Rattle.layout.specs.Reading.{is_digit, number_at, breaks, reading_of, reading}
use Rattle.layout.proofs.Entries.{every_at}
use Rattle.layout.proofs.Steps.{Numbered, digit, ended, numbered}
use Rattle.layout.proofs.Forward.{run_append}
use Rattle.layout.proofs.Back.{digits_to, digits_some, digits_on}
use Rattle.layout.proofs.ReadingLaws.{reach_read}
use Rattle.layout.proofs.Digits.{digit_true, true_digit, number_apart}
use Rattle.layout.proofs.Due.{in_digits, due}

-- Digits that say no number of the range are not all read: k of them are, and lead to the number `read`

record StopsIn (more : ℕ → State) (v : ℕ) (ds rest : List ℕ) : Type 0 where
  k : ℕ
  below : k < length ds
  is : reach (more v) (ds ++ rest) ≡ k
  read : ℕ
  goes : run (more v) (take k ds) ≡ some (more read)

module _ (most : ℕ) (more next : ℕ → State) (is : (v b : ℕ) → step (more v) b ≡ in_number most more (next v) v b) where
  digits_stop : (v : ℕ) (ds rest : List ℕ) → Every Digit ds → 1 ≤ v + length ds → v ≤ most
      → ((n : ℕ) → From 1 most n → digits_to v ++ ds ≡ decimal n → ⊥) → StopsIn more v ds rest
  unfolding reach run
  digits_stop v [] rest h l m f =
      absurd (f v (record { low = omega arith; high = m }) (append-nil (digits_to v) ∙ digits_some v (omega arith)))
  digits_stop v (d ∷ ds) rest (every_more k ks) l m f = go (step (more v) d) refl (digits_stop (onward v d) ds rest ks)
    where
      go : (o : Option State) → step (more v) d ≡ o
          → (1 ≤ onward v d + length ds → onward v d ≤ most → ((n : ℕ) → From 1 most n → digits_to (onward v d) ++ ds ≡ decimal n → ⊥)
          → StopsIn more (onward v d) ds rest)
          → StopsIn more v (d ∷ ds) rest
      go none e on = record { k = 0; below = omega arith; is = rw e; read = v; goes = refl }
      go (some t) e on = by (numbered most more (next v) v d t (sym (is v d) ∙ e))
        where
          by : Numbered most more (next v) v d t → StopsIn more v (d ∷ ds) rest
          by (digit x w z) =
              let same : digits_to (onward v d) ++ ds ≡ digits_to v ++ d ∷ ds =
              rw (digits_on v d x w.low) (append_assoc (digits_to v) (d ∷ []) ds) in
              let r = on (omega (arith, w.low)) w.high (λ n y q. f n y (sym same ∙ q)) in
              record {
                k = suc r.k;
                below = omega (arith, r.below);
                is = rw (e, z) (ap suc r.is);
                read = r.read;
                goes = rw (e, z) r.goes;
              }
          by (ended x y z) = absurd (omega (arith, k.low))

-- The first digit of a number that is due

behind_comma : (x rest : List ℕ) → number_at ((x ++ comma ∷ []) ++ rest) (length (x ++ comma ∷ [])) ≡ length (x ++ comma ∷ [])
behind_comma x rest = number_apart ((x ++ comma ∷ []) ++ rest) (length (x ++ comma ∷ [])) (λ j e p q.
    let z : length x ≡ j = omega (arith, length-append x (comma ∷ [])) in
    let is : get_or ((x ++ comma ∷ []) ++ rest) j 0 ≡ comma = rw (append_assoc x (comma ∷ []) rest) (get_or_at x comma rest 0 j z) in
    omega (arith, (true_digit comma (ap is_digit (sym is) ∙ p)).low))

first_digit : {front : List ℕ} {most : ℕ} → NumberDue front most → (rest : List ℕ) → number_at (front ++ rest) (length front) ≡ length front
unfolding number_at
first_digit of_picks rest = refl
first_digit (of_sections {p = p} w) rest = behind_comma (decimal p) rest
first_digit (of_length {p = p} {c = c} {fs = fs} w v h l) rest = behind_comma (opening p c fs) rest

module _ {front : List ℕ} {most : ℕ} (at : NumberDue front most) (ds rest : List ℕ) (digits : Every Digit ds) where
  digit_at : (k : ℕ) → k < length ds → is_digit (get_or (front ++ (ds ++ rest)) (length front + k) 0) ≡ true
  digit_at k l =
      ap is_digit (get_or-append-add front (ds ++ rest) k 0 ∙ get_or-append ds rest 0 k l) ∙ digit_true (get_or ds k 0) (every_at digits k l)

  -- from any of its digits
  number_first : (k : ℕ) → k < length ds → number_at (front ++ (ds ++ rest)) (length front + k) ≡ length front
  unfolding number_at
  number_first zero l = let z : length front + 0 ≡ length front = omega arith in rw z (first_digit at (ds ++ rest))
  number_first (suc k) l =
      let bytes = front ++ (ds ++ rest) in
      let i = length front + k in
      let z : length front + suc k ≡ suc i = omega arith in
      let both = (and-eq-true_iff (is_digit (get_or bytes i 0)) (is_digit (get_or bytes (suc i) 0))).1
      (digit_at k (omega arith), rw z at (digit_at (suc k) l)) in
      ap (number_at bytes) z ∙ ap (λ t. cond t (number_at bytes i) (suc i)) both ∙ number_first k (omega arith)

-- What is known of bytes with such a number

pub record AmongDigits (bytes : List ℕ) (place : ℕ) : Type 0 where
  pub read : reading bytes ≡ breaks place
  pub inside : reach start bytes < length bytes
  pub digit : is_digit (get_or bytes (reach start bytes) 0) ≡ true
  pub state : State
  pub goes : run start (take (reach start bytes) bytes) ≡ some state
  pub reads : in_digits state ≡ true

reach_append : (s t : State) (front rest : List ℕ) → run s front ≡ some t → reach s (front ++ rest) ≡ length front + reach t rest
unfolding run reach
reach_append s t [] rest e = let z : s ≡ t = cc in rw z (omega arith)
reach_append s t (b ∷ front) rest e = go (step s b) refl (λ u. reach_append u t front rest)
  where
    go : (o : Option State) → step s b ≡ o → ((u : State) → run u front ≡ some t → reach u (front ++ rest) ≡ length front + reach t rest)
        → one_past (step s b) (λ u. reach u (front ++ rest)) ≡ suc (length front) + reach t rest
    go none f on = clash cc
    go (some u) f on = let r = on u (rw f at e) in rw f (omega arith)

broken_off : (bytes : List ℕ) (place : ℕ) → reach start bytes < length bytes → number_at bytes (reach start bytes) ≡ place
    → reading bytes ≡ breaks place
unfolding reading reading_of
broken_off bytes place l e = go (run start bytes) refl
  where
    go : (o : Option State) → run start bytes ≡ o → reading bytes ≡ breaks place
    go none f = ap (reading_of (number_at bytes (reach start bytes))) f ∙ ap breaks e
    go (some t) f = absurd (omega (arith, reach_read start t bytes f))

pub among_digits : (bytes : List ℕ) (place : ℕ) → NumberOutside bytes place → AmongDigits bytes place
unfolding digits_to
among_digits bytes place o =
    let d = due o.due in
    let front = o.front in
    let ds = o.digits in
    let tail = ds ++ o.rest in
    let s = digits_stop o.most d.more d.next d.is 0 ds o.rest o.all (omega (arith, o.some)) (omega arith) o.outside in
    let r : reach start (front ++ tail) ≡ length front + s.k =
    reach_append start (d.more 0) front tail d.goes ∙ ap (λ k. length front + k) s.is in
    let l : reach start (front ++ tail) < length (front ++ tail) =
    omega (arith, r, length-append front tail, length-append ds o.rest, s.below) in
    let t : take (length front + s.k) (front ++ tail) ≡ front ++ take s.k ds =
    take-append-add front tail s.k ∙ ap (λ x. front ++ x) (take-append-le s.k ds o.rest (omega (arith, s.below))) in
    rw (o.is, o.at) (record {
      read = broken_off (front ++ tail) (length front) l (rw r (number_first o.due ds o.rest o.all s.k s.below));
      inside = l;
      digit = rw r (digit_at o.due ds o.rest o.all s.k s.below);
      state = d.more s.read;
      goes = rw (r, t) (run_append start (d.more 0) front (take s.k ds) d.goes ∙ s.goes);
      reads = d.reads s.read;
    })
