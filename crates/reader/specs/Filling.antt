-- What a lent list holds while a record's picks are stored in it: each letter of a half goes to its pick and to the mirrored one.
use Rattle.std.specs.Prelude.{◌≡◌, refl, List, [], ◌∷◌, ◌++◌, ℕ, ◌+◌, ◌-◌, ◌/◌, ◌≤◌, ◌<◌, length, drop, get_or, set}
use Rattle.std.proofs.Common.{sym, ap, ◌∙◌, arith, length-append, length-drop, length-set, ext_get_or, get_or-set_same, get_or-set_other, get_or-drop}
use Rattle.std.proofs.Math.Option.{Option, some, none}
use Rattle.std.proofs.Math.Decide.{dec_lt, ℕ_discrete}
use Rattle.std.proofs.Math.ListN.{get_or-append}
use Rattle.std.proofs.lemmas.List.{get_or_at, get_or-append_right}
use Rattle.layout.specs.Record.{Folded}
use Rattle.layout.specs.Layout.{Every, Fits, total}
use Rattle.layout.specs.Unfolding.{unfolded, picks_of}
use Rattle.layout.specs.Reading.{State, in_picks, in_count, in_length, in_half, closed}
use Rattle.layout.proofs.UnfoldLaws.{unfolded_low, unfolded_high, picks_length, picks_snoc}
use Rattle.layout.proofs.Places.{total_snoc}
use Rattle.promises.specs.Answers.{filled}
use Rattle.reader.specs.declared.step.State.{State as Scan}
use Rattle.reader.specs.declared.step.State.TheVariants.{InHalf}

-- the stores of a step from s to t by the byte b: those of a letter, where the step stays in the half
unfoldable pub put : List ℕ → (s t : Scan) → (b : ℕ) → List ℕ
put l (InHalf r len k) (InHalf q m j) b = set (set l (r.sum + k) b) (r.sum + len - 1 - k) b
put l s t b = l

-- l is l₀ with picks stored: the first `base` are those of `done`; of the next `len`, a section's, those that the letters of its half so
-- far say; nothing behind them is changed
pub record Filled (l₀ l : List ℕ) (base len : ℕ) (done half : List ℕ) : Type 0 where
  pub same : length l ≡ length l₀
  pub front : (j : ℕ) → j < length l₀ → j < base → get_or l j 0 ≡ get_or done j 0
  pub low : (j k : ℕ) → j < length l₀ → k < length half → j ≡ base + k → get_or l j 0 ≡ get_or half k 0
  pub high : (j k : ℕ) → j < length l₀ → k < length half → j + k + 1 ≡ base + len → get_or l j 0 ≡ get_or half k 0
  pub rest : (j : ℕ) → base + len ≤ j → get_or l j 0 ≡ get_or l₀ j 0

pub filled_none : (l : List ℕ) → Filled l l 0 0 [] []
filled_none l = record {
  same = refl;
  front = λ j a b. absurd (omega arith);
  low = λ j k a b e. absurd (omega arith);
  high = λ j k a b e. absurd (omega arith);
  rest = λ j a. refl;
}

-- the length of the next section is known
pub filled_len : {l₀ l : List ℕ} {base : ℕ} {done : List ℕ} (len : ℕ) → Filled l₀ l base 0 done [] → Filled l₀ l base len done []
filled_len len h = record {
  same = h.same;
  front = h.front;
  low = λ j k a b e. absurd (omega arith);
  high = λ j k a b e. absurd (omega arith);
  rest = λ j a. h.rest j (omega arith);
}

-- One letter more

-- one value stored at two places
module _ (l : List ℕ) (i j v : ℕ) where
  two_other : (k : ℕ) → (k ≡ i → ⊥) → (k ≡ j → ⊥) → get_or (set (set l i v) j v) k 0 ≡ get_or l k 0
  two_other k x y = get_or-set_other (set l i v) j k v 0 y ∙ get_or-set_other l i k v 0 x

  two_second : (k : ℕ) → k < length l → k ≡ j → get_or (set (set l i v) j v) k 0 ≡ v
  two_second k a e = rw (sym e) (get_or-set_same (set l i v) k v 0 (rw (length-set l i v) a))

  two_first : (k : ℕ) → k < length l → k ≡ i → get_or (set (set l i v) j v) k 0 ≡ v
  two_first k a e = elim (ℕ_discrete k j) [
    | yes x ↦ two_second k a x
    | no x ↦ get_or-set_other (set l i v) j k v 0 x ∙ rw (sym e) (get_or-set_same l k v 0 a)
  ]

pub filled_letter : {l₀ l : List ℕ} {base len : ℕ} {done half : List ℕ} (b : ℕ) → Filled l₀ l base len done half
    → length half < (len + 1) / 2
    → Filled l₀ (set (set l (base + length half) b) (base + len - 1 - length half) b) base len done (half ++ b ∷ [])
filled_letter {l₀} {l} {base} {len} {done} {half} b h room = record {
  same = length-set (set l x b) y b ∙ length-set l x b ∙ h.same;
  front = λ j a c. two_other l x y b j (λ e. omega arith) (λ e. omega arith) ∙ h.front j a c;
  low = λ j k a c e. elim (dec_lt k (length half)) [
    | yes m ↦ two_other l x y b j (λ q. omega arith) (λ q. omega arith) ∙ h.low j k a m e ∙ sym (old k m)
    | no m ↦
        let z : k ≡ length half = omega (arith, length-append half (b ∷ [])) in
        two_first l x y b j (omega (arith, h.same)) (omega arith) ∙ sym (new k z)
  ];
  high = λ j k a c e. elim (dec_lt k (length half)) [
    | yes m ↦ two_other l x y b j (λ q. omega arith) (λ q. omega arith) ∙ h.high j k a m e ∙ sym (old k m)
    | no m ↦
        let z : k ≡ length half = omega (arith, length-append half (b ∷ [])) in
        two_second l x y b j (omega (arith, h.same)) (omega arith) ∙ sym (new k z)
  ];
  rest = λ j a. two_other l x y b j (λ q. omega arith) (λ q. omega arith) ∙ h.rest j a;
}
  where
    x : ℕ
    x = base + length half

    y : ℕ
    y = base + len - 1 - length half

    old : (k : ℕ) → k < length half → get_or (half ++ b ∷ []) k 0 ≡ get_or half k 0
    old k m = get_or-append half (b ∷ []) 0 k m

    new : (k : ℕ) → k ≡ length half → get_or (half ++ b ∷ []) k 0 ≡ b
    new k e = get_or_at half b [] 0 k (sym e)

-- A section read whole

filled_section : {l₀ l : List ℕ} {base : ℕ} {done : List ℕ} (f : Folded) → Fits f → length done ≡ base
    → Filled l₀ l base f.len done f.half → Filled l₀ l (base + f.len) 0 (done ++ unfolded f) []
filled_section {l₀} {l} {base} {done} f k e h = record {
  same = h.same;
  front = λ j a b. elim (dec_lt j base) [
    | yes x ↦ h.front j a x ∙ sym (get_or-append done (unfolded f) 0 j (omega arith))
    | no x ↦
        let i = j - base in
        within j i a (omega arith) (omega arith) ∙ sym (get_or-append_right done (unfolded f) base j 0 e (omega arith))
  ];
  low = λ j k a b e. absurd (omega arith);
  high = λ j k a b e. absurd (omega arith);
  rest = λ j a. h.rest j (omega arith);
}
  where
    within : (j i : ℕ) → j < length l₀ → j ≡ base + i → i < f.len → get_or l j 0 ≡ get_or (unfolded f) i 0
    within j i a b c = elim (dec_lt i (length f.half)) [
      | yes x ↦ h.low j i a x b ∙ sym (unfolded_low f k i x)
      | no x ↦
          let o = f.len - 1 - i in
          let m : o < length f.half = omega (arith, k.halved) in
          h.high j o a m (omega arith) ∙ sym (unfolded_high f k i o m (omega arith))
    ]

pub filled_more : {l₀ l : List ℕ} (fs : List Folded) (f : Folded) → Every Fits fs → Fits f
    → Filled l₀ l (total fs) f.len (picks_of fs) f.half → Filled l₀ l (total (fs ++ f ∷ [])) 0 (picks_of (fs ++ f ∷ [])) []
filled_more fs f ks k h = rw (total_snoc fs f, picks_snoc fs f) (filled_section f k (picks_length fs ks) h)

-- The whole list

pub filled_all : {l₀ l : List ℕ} {base : ℕ} (u : List ℕ) → length u ≡ base → base ≤ length l₀ → Filled l₀ l base 0 u [] → l ≡ filled u l₀
filled_all {l₀} {l} {base} u e f h = ext_get_or 0 l (filled u l₀) n (λ j a. each j (omega (arith, h.same)))
  where
    n : length l ≡ length (filled u l₀)
    n = omega (arith, h.same, length-append u (drop (length u) l₀), length-drop (length u) l₀)

    each : (j : ℕ) → j < length l₀ → get_or l j 0 ≡ get_or (filled u l₀) j 0
    each j a = elim (dec_lt j base) [
      | yes x ↦ h.front j a x ∙ sym (get_or-append u (drop (length u) l₀) 0 j (omega arith))
      | no x ↦
          let i = j - length u in
          let z : j ≡ length u + i = omega arith in
          h.rest j (omega arith)
          ∙ sym (get_or-append_right u (drop (length u) l₀) (length u) j 0 refl (omega arith) ∙ get_or-drop (length u) l₀ i 0 ∙ ap (λ k. get_or l₀ k 0) (sym z))
    ]

-- In each state of the reading

abbrev pub Fills : (l₀ : List ℕ) → Option State → (l : List ℕ) → Type 0
Fills l₀ none l = length l ≡ length l₀
Fills l₀ (some (in_picks v)) l = Filled l₀ l 0 0 [] []
Fills l₀ (some (in_count p v)) l = Filled l₀ l 0 0 [] []
Fills l₀ (some (in_length p c fs v)) l = Filled l₀ l (total fs) 0 (picks_of fs) []
Fills l₀ (some (in_half p c fs len half)) l = Filled l₀ l (total fs) len (picks_of fs) half
Fills l₀ (some (closed p fs)) l = Filled l₀ l (total fs) 0 (picks_of fs) []

pub fills_length : (l₀ l : List ℕ) (o : Option State) → Fills l₀ o l → length l ≡ length l₀
fills_length l₀ l none h = h
fills_length l₀ l (some (in_picks v)) h = h.same
fills_length l₀ l (some (in_count p v)) h = h.same
fills_length l₀ l (some (in_length p c fs v)) h = h.same
fills_length l₀ l (some (in_half p c fs len half)) h = h.same
fills_length l₀ l (some (closed p fs)) h = h.same
