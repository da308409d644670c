-- One byte read: the bytes that each state takes, and what is known where one was taken.
use Rattle.std.specs.Prelude.{◌≡◌, refl, Bool, true, false, cond, ◌&&◌, List, [], ◌∷◌, ◌++◌, ℕ, suc, ◌+◌, ◌/◌, ◌≤◌, ◌<◌, leb, ltb, eqb, length}
use Rattle.std.proofs.Math.Bool.{and-eq-true_iff}
use Rattle.std.proofs.Math.Option.{some, none}
use Rattle.std.proofs.Common.{arith}
use borrow.Author.Tests.{lt-leb, le-leb, lt-ltb, le-ltb, eq-eqb, leb-true, ltb-true, ltb-false, eqb-true}
use Rattle.words.specs.Definitions.{From, most_picks, most_sections, first_letter, last_letter}
use Rattle.words.specs.Ranges.{between, between_true, true_between}
use Rattle.words.proofs.Cases.{clash}
use Rattle.text.specs.Definitions.{comma, line_end, digit_zero}
use Rattle.layout.specs.Record.{Folded}
use Rattle.layout.specs.Layout.{Letter, Digit}
use Rattle.layout.specs.Reading.{State, in_picks, in_count, in_length, in_half, closed, is_digit, is_letter, onward, in_number, step}

-- Bytes that can be read

module _ (most : ℕ) (more : ℕ → State) (next : State) (v b : ℕ) where
  pub by_digit : Digit b → From 1 most (onward v b) → in_number most more next v b ≡ some (more (onward v b))
  unfolding in_number
  by_digit d w = simp (true_between d, true_between w)

  pub by_comma : b ≡ comma → 1 ≤ v → in_number most more next v b ≡ some next
  unfolding in_number
  by_comma e h = simp (lt-leb digit_zero b (omega arith), eq-eqb b comma e, le-leb 1 v h)

module _ (p c : ℕ) (fs : List Folded) (f : Folded) where
  pub by_letter : (b : ℕ) → length f.half < (f.len + 1) / 2 → Letter b
      → step (in_half p c fs f.len f.half) b ≡ some (in_half p c fs f.len (f.half ++ b ∷ []))
  unfolding step
  by_letter b h l = simp (lt-ltb (length f.half) ((f.len + 1) / 2) h, true_between l)

  pub by_section : length f.half ≡ (f.len + 1) / 2 → suc (length fs) < c
      → step (in_half p c fs f.len f.half) comma ≡ some (in_length p c (fs ++ f ∷ []) 0)
  unfolding step
  by_section e h = simp (le-ltb (length f.half) ((f.len + 1) / 2) (omega arith), lt-ltb (suc (length fs)) c h)

  pub by_end : length f.half ≡ (f.len + 1) / 2 → suc (length fs) ≡ c
      → step (in_half p c fs f.len f.half) line_end ≡ some (closed p (fs ++ f ∷ []))
  unfolding step
  by_end e h = simp (le-ltb (length f.half) ((f.len + 1) / 2) (omega arith), le-ltb (suc (length fs)) c (omega arith))

-- A byte read in a number: a digit, or the comma behind it

pub data Numbered (most : ℕ) (more : ℕ → State) (next : State) (v b : ℕ) (t : State) : Type 0 where
  digit : Digit b → From 1 most (onward v b) → t ≡ more (onward v b) → Numbered most more next v b t
  ended : b ≡ comma → 1 ≤ v → t ≡ next → Numbered most more next v b t

chosen : (c : Bool) (s t : State) → cond c (some s) none ≡ some t → (c ≡ true) × (t ≡ s)
chosen true s t e = (refl, cc)
chosen false s t e = clash cc

pub numbered : (most : ℕ) (more : ℕ → State) (next : State) (v b : ℕ) (t : State) → in_number most more next v b ≡ some t
    → Numbered most more next v b t
unfolding in_number
numbered most more next v b t e = go (is_digit b) refl
  where
    go : (d : Bool) → is_digit b ≡ d → Numbered most more next v b t
    go true d =
        let q = chosen (between 1 most (onward v b)) (more (onward v b)) t (rw d at e) in
        digit (between_true digit_zero (digit_zero + 9) b d) (between_true 1 most (onward v b) q.0) q.1
    go false d =
        let q = chosen (eqb b comma && leb 1 v) next t (rw d at e) in
        let r = (and-eq-true_iff (eqb b comma) (leb 1 v)).0 q.0 in
        ended (eqb-true b comma r.0) (leb-true 1 v r.1) q.1

-- A byte read in any state, and the state that it leads to

pub data Steps : State → (byte : ℕ) → State → Type 0 where
  picks_digit : {v b : ℕ} → Digit b → From 1 most_picks (onward v b) → Steps (in_picks v) b (in_picks (onward v b))
  picks_end : {v : ℕ} → 1 ≤ v → Steps (in_picks v) comma (in_count v 0)
  count_digit : {p v b : ℕ} → Digit b → From 1 most_sections (onward v b) → Steps (in_count p v) b (in_count p (onward v b))
  count_end : {p v : ℕ} → 1 ≤ v → Steps (in_count p v) comma (in_length p v [] 0)
  length_digit : {p c v b : ℕ} {fs : List Folded} → Digit b → From 1 most_picks (onward v b)
      → Steps (in_length p c fs v) b (in_length p c fs (onward v b))
  length_end : {p c v : ℕ} {fs : List Folded} → 1 ≤ v → Steps (in_length p c fs v) comma (in_half p c fs v [])
  letter : {p c len b : ℕ} {fs : List Folded} {half : List ℕ} → length half < (len + 1) / 2 → Letter b
      → Steps (in_half p c fs len half) b (in_half p c fs len (half ++ b ∷ []))
  another : {p c len : ℕ} {fs : List Folded} {half : List ℕ} → (len + 1) / 2 ≤ length half → suc (length fs) < c
      → Steps (in_half p c fs len half) comma (in_length p c (fs ++ record { len = len; half = half } ∷ []) 0)
  last : {p c len : ℕ} {fs : List Folded} {half : List ℕ} → (len + 1) / 2 ≤ length half → c ≤ suc (length fs)
      → Steps (in_half p c fs len half) line_end (closed p (fs ++ record { len = len; half = half } ∷ []))

pub steps : (s t : State) (b : ℕ) → step s b ≡ some t → Steps s b t
unfolding step
steps (in_picks v) t b e = go (numbered most_picks in_picks (in_count v 0) v b t e)
  where
    go : Numbered most_picks in_picks (in_count v 0) v b t → Steps (in_picks v) b t
    go (digit d w z) = rw z (picks_digit d w)
    go (ended q l z) = rw (z, q) (picks_end l)
steps (in_count p v) t b e = go (numbered most_sections (in_count p) (in_length p v [] 0) v b t e)
  where
    go : Numbered most_sections (in_count p) (in_length p v [] 0) v b t → Steps (in_count p v) b t
    go (digit d w z) = rw z (count_digit d w)
    go (ended q l z) = rw (z, q) (count_end l)
steps (in_length p c fs v) t b e = go (numbered most_picks (in_length p c fs) (in_half p c fs v []) v b t e)
  where
    go : Numbered most_picks (in_length p c fs) (in_half p c fs v []) v b t → Steps (in_length p c fs v) b t
    go (digit d w z) = rw z (length_digit d w)
    go (ended q l z) = rw (z, q) (length_end l)
steps (in_half p c fs len half) t b e = go (ltb (length half) ((len + 1) / 2)) refl (ltb (suc (length fs)) c) refl
  where
    f : Folded
    f = record { len = len; half = half }

    go : (d : Bool) → ltb (length half) ((len + 1) / 2) ≡ d → (g : Bool) → ltb (suc (length fs)) c ≡ g → Steps (in_half p c fs len half) b t
    go true d g k =
        let q = chosen (is_letter b) (in_half p c fs len (half ++ b ∷ [])) t (rw d at e) in
        rw q.1 (letter (ltb-true (length half) ((len + 1) / 2) d) (between_true first_letter last_letter b q.0))
    go false d true k =
        let q = chosen (eqb b comma) (in_length p c (fs ++ f ∷ []) 0) t (rw (d, k) at e) in
        rw (q.1, eqb-true b comma q.0) (another (ltb-false (length half) ((len + 1) / 2) d) (ltb-true (suc (length fs)) c k))
    go false d false k =
        let q = chosen (eqb b line_end) (closed p (fs ++ f ∷ [])) t (rw (d, k) at e) in
        rw (q.1, eqb-true b line_end q.0) (last (ltb-false (length half) ((len + 1) / 2) d) (ltb-false (suc (length fs)) c k))
steps (closed p fs) t b e = clash cc
