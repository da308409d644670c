-- A record of the layout is read to its end, and what was read is what was written.
use Rattle.std.specs.Prelude.{◌≡◌, refl, ℕ, suc, ◌+◌, ◌*◌, ◌/◌, ◌%◌, ◌≤◌, ◌<◌, length}
use Rattle.std.proofs.Common.{sym, ◌∙◌, length-append}
use Rattle.std.proofs.Math.Path.{ap}
use mathlib.Core.List.{List, [], ◌∷◌, ◌++◌, append_assoc, append-nil}
use Rattle.std.proofs.Math.Option.{Option, some, none}
use native.Mathlib.Omega.{arith}
use Rattle.words.specs.Definitions.{From, most_picks, most_sections}
use Rattle.words.proofs.Cases.{clash}
use Rattle.text.specs.Definitions.{comma, line_end, digit_zero, decimal}
use Rattle.text.specs.Decimal.{by_digits}
use Rattle.layout.specs.Record.{Folded, fields_of, behind_commas, laid_out}
use Rattle.layout.specs.Layout.{Every, none as every-none, more as every_more, Letter, Fits, Laid, opening}
use Rattle.layout.specs.Reading.{State, in_picks, in_count, in_length, in_half, closed, start, onward, in_number, and_then, step, run}
use Rattle.layout.proofs.Steps.{by_digit, by_comma, by_letter, by_section, by_end}

-- Bytes one behind another

pub run_one : (s t : State) (b : ℕ) (bytes : List ℕ) → step s b ≡ some t → run s (b ∷ bytes) ≡ run t bytes
unfolding run
run_one s t b bytes e = rw e

pub run_append : (s t : State) (front rest : List ℕ) → run s front ≡ some t → run s (front ++ rest) ≡ run t rest
unfolding run
run_append s t [] rest e = let z : s ≡ t = cc in rw z
run_append s t (b ∷ front) rest e = go (step s b) refl (λ u. run_append u t front rest)
  where
    go : (o : Option State) → step s b ≡ o → ((u : State) → run u front ≡ some t → run u (front ++ rest) ≡ run t rest)
        → and_then (step s b) (λ u. run u (front ++ rest)) ≡ run t rest
    go none f on = clash cc
    go (some u) f on = rw f (on u (rw f at e))

-- A number from 1 to most, read in the states `more`; behind its comma comes the state `next`

module _ (most : ℕ) (more next : ℕ → State) (is : (v b : ℕ) → step (more v) b ≡ in_number most more (next v) v b) where
  one_digit : (v d n : ℕ) → d < 10 → 10 * v + d ≡ n → From 1 most n → run (more v) ((digit_zero + d) ∷ []) ≡ some (more n)
  unfolding run
  one_digit v d n l e w =
      let z : onward v (digit_zero + d) ≡ n = omega arith in
      run_one (more v) (more n) (digit_zero + d) []
      (is v (digit_zero + d)
      ∙ by_digit most more (next v) v (digit_zero + d) (record { low = omega arith; high = omega arith }) (rw z w)
      ∙ ap (λ k. some (more k)) z)

  pub run_digits : (n : ℕ) → From 1 most n → run (more 0) (decimal n) ≡ some (more n)
  run_digits n w = by_digits (λ n ds. From 1 most n → run (more 0) ds ≡ some (more n))
      (λ n h w. one_digit 0 n n h (omega arith) w)
      (λ n ds h f w.
      run_append (more 0) (more (n / 10)) ds ((digit_zero + n % 10) ∷ []) (f (record { low = omega arith; high = omega (arith, w.high) }))
      ∙ one_digit (n / 10) (n % 10) n (omega arith) (omega arith) w)
      n w

  run_number : (n : ℕ) (rest : List ℕ) → From 1 most n → run (more 0) (decimal n ++ comma ∷ rest) ≡ run (next n) rest
  run_number n rest w =
      run_append (more 0) (more n) (decimal n) (comma ∷ rest) (run_digits n w)
      ∙ run_one (more n) (next n) comma rest (is n comma ∙ by_comma most more (next n) n comma refl w.low)

-- The picks, the count of sections, and a section: its length, and the letters of its half

pub run_picks : (p : ℕ) (rest : List ℕ) → From 1 most_picks p → run start (decimal p ++ comma ∷ rest) ≡ run (in_count p 0) rest
unfolding step
run_picks = run_number most_picks in_picks (λ v. in_count v 0) (λ v b. refl)

pub run_count : (p c : ℕ) (rest : List ℕ) → From 1 most_sections c
    → run (in_count p 0) (decimal c ++ comma ∷ rest) ≡ run (in_length p c [] 0) rest
unfolding step
run_count p = run_number most_sections (in_count p) (λ v. in_length p v [] 0) (λ v b. refl)

run_letters : (p c : ℕ) (fs : List Folded) (len : ℕ) (half rest : List ℕ) → length half + length rest ≡ (len + 1) / 2 → Every Letter rest
    → run (in_half p c fs len half) rest ≡ some (in_half p c fs len (half ++ rest))
unfolding run
run_letters p c fs len half [] e every-none = ap (λ l. some (in_half p c fs len l)) (sym (append-nil half))
run_letters p c fs len half (b ∷ rest) e (every_more l ls) =
    run_one (in_half p c fs len half) (in_half p c fs len (half ++ b ∷ [])) b rest
    (by_letter p c fs (record { len = len; half = half }) b (omega arith) l)
    ∙ run_letters p c fs len (half ++ b ∷ []) rest (omega (arith, length-append half (b ∷ []))) ls
    ∙ ap (λ l. some (in_half p c fs len l)) (append_assoc half (b ∷ []) rest)

run_section : (p c : ℕ) (fs : List Folded) (f : Folded) (rest : List ℕ) → Fits f
    → run (in_length p c fs 0) (decimal f.len ++ comma ∷ (f.half ++ rest)) ≡ run (in_half p c fs f.len f.half) rest
unfolding step
run_section p c fs f rest h =
    run_number most_picks (in_length p c fs) (λ v. in_half p c fs v []) (λ v b. refl) f.len (f.half ++ rest) h.ranged
    ∙ run_append (in_half p c fs f.len []) (in_half p c fs f.len f.half) f.half rest
    (run_letters p c fs f.len [] f.half (omega (arith, h.halved)) h.lettered)

-- All of them up to the byte b behind the last of n sections, which leads to the state `to`

module _ (p c n b : ℕ) (to : List Folded → State) (within : n ≤ c)
    (ends : (fs : List Folded) (f : Folded) → Fits f → suc (length fs) ≡ n
    → step (in_half p c fs f.len f.half) b ≡ some (to (fs ++ f ∷ []))) where
  run_sections : (fs : List Folded) (f : Folded) (rest : List Folded) → Fits f → Every Fits rest → length fs + suc (length rest) ≡ n
      → run (in_half p c fs f.len f.half) (behind_commas (fields_of rest) ++ b ∷ []) ≡ some (to (fs ++ f ∷ rest))
  unfolding run fields_of behind_commas
  run_sections fs f [] h every-none e = run_one (in_half p c fs f.len f.half) (to (fs ++ f ∷ [])) b [] (ends fs f h (omega arith))
  run_sections fs f (g ∷ rest) h (every_more k ks) e =
      let tail = behind_commas (fields_of rest) ++ b ∷ [] in
      let after = decimal g.len ++ comma ∷ (g.half ++ tail) in
      let is : behind_commas (fields_of (g ∷ rest)) ++ b ∷ [] ≡ comma ∷ after = simp append_assoc in
      ap (run (in_half p c fs f.len f.half)) is
      ∙ run_one (in_half p c fs f.len f.half) (in_length p c (fs ++ f ∷ []) 0) comma after
      (by_section p c fs f h.halved (omega arith))
      ∙ run_section p c (fs ++ f ∷ []) g tail k
      ∙ run_sections (fs ++ f ∷ []) g rest k ks (omega (arith, length-append fs (f ∷ [])))
      ∙ ap (λ l. some (to l)) (append_assoc fs (f ∷ []) (g ∷ rest))

  pub run_opening : (f : Folded) (fs : List Folded) → From 1 most_picks p → From 1 most_sections c → Fits f → Every Fits fs
      → suc (length fs) ≡ n → run start (opening p c (f ∷ fs) ++ b ∷ []) ≡ some (to (f ∷ fs))
  unfolding opening
  run_opening f fs w x k ks e =
      let tail = behind_commas (fields_of fs) ++ b ∷ [] in
      let after = decimal f.len ++ comma ∷ (f.half ++ tail) in
      let is : opening p c (f ∷ fs) ++ b ∷ [] ≡ decimal p ++ comma ∷ (decimal c ++ comma ∷ after) = simp append_assoc in
      ap (run start) is
      ∙ run_picks p (decimal c ++ comma ∷ after) w
      ∙ run_count p c after x
      ∙ run_section p c [] f tail k
      ∙ run_sections [] f fs k ks (omega arith)

-- The whole record

pub forward : {bytes : List ℕ} {p : ℕ} {fs : List Folded} → Laid bytes p fs → run start bytes ≡ some (closed p fs)
unfolding laid_out opening
forward {bytes} {p} {fs} h = go fs h.counted h.fitting h.written
  where
    go : (fs : List Folded) → From 1 most_sections (length fs) → Every Fits fs → bytes ≡ laid_out p fs → run start bytes ≡ some (closed p fs)
    go [] c fits e = absurd (omega (arith, c.low))
    go (f ∷ fs) c (every_more k ks) e =
        let n = suc (length fs) in
        ap (run start) e
        ∙ run_opening p n n line_end (closed p) (omega arith) (λ gs g l q. by_end p n gs g l.halved q) f fs h.ranged c k ks refl
