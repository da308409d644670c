-- How show meets its promise: the steps of the test for rising ends, and the part that is handed back.
use Rattle.std.specs.Prelude.{◌≡◌, refl, false, ℕ, zero, suc, ◌+◌, ◌-◌, ◌≤◌, ◌<◌, length, take, drop, get_or}
use Rattle.std.proofs.Math.Path.{sym}
use Rattle.std.proofs.Common.{ap, ◌∙◌, arith, length-drop, drop-cons, eq-eqb, ne_eqb}
use Rattle.std.proofs.Math.Bool.{decide}
use mathlib.Core.List.{List, [], ◌∷◌}
use Rattle.std.proofs.Math.Decide.{ℕ_discrete}
use Rattle.std.proofs.Math.Dec.{eqb}
use Rattle.words.specs.Definitions.{Rising, done, next}
use Rattle.words.specs.Computed.{rising?, risen_none, risen_next}
use Rattle.promises.specs.declared.refusal.Refusal.{Refusal}
use Rattle.promises.specs.Answers.{gave, reply, refusal_says, outcome}
use Rattle.promises.specs.Refusals.{show_refusal}
use Rattle.promises.specs.Replies.{section_of, shown, shown_behind}
use Rattle.promises.specs.Promises.{ShowPromise}
use Rattle.promises.proofs.RefusalLaws.{show_fits}
use Rattle.promises.proofs.BookLaws.{unless_zero, unless_not}
use Rattle.promises.proofs.Outcomes.{outcome_zero, outcome_some}

-- decisions

decide_as : {A B : Type 0} (x : Dec A) (y : Dec B) → (A → B) → (B → A) → decide x ≡ decide y
unfolding decide
decide_as (yes a) (yes b) f g = refl
decide_as (no a) (no b) f g = refl
decide_as (yes a) (no b) f g = absurd (b (f a))
decide_as (no a) (yes b) f g = absurd (a (g b))

decide_no : {A : Type 0} (x : Dec A) → (A → ⊥) → decide x ≡ false
unfolding decide
decide_no (yes a) f = absurd (f a)
decide_no (no g) f = refl

-- The test for rising ends, from entry j on: last is the end before it

module _ (letters last j : ℕ) (ends : List ℕ) where
  entry : j < length ends → drop j ends ≡ get_or ends j 0 ∷ drop (j + 1) ends
  entry l = let z : j + 1 ≡ suc j = omega arith in rw z (drop-cons ends j 0 l)

  pub rising_on : (e : ℕ) → e ≡ get_or ends j 0 → j < length ends → last < e
      → decide (rising? letters e (drop (j + 1) ends)) ≡ decide (rising? letters last (drop j ends))
  rising_on e q l m = rw (entry l, q)
      (decide_as (rising? letters (get_or ends j 0) (drop (j + 1) ends)) (rising? letters last (get_or ends j 0 ∷ drop (j + 1) ends))
      (λ h. next (omega arith) h) (λ h. (risen_next h).1))

  pub rising_stops : (e : ℕ) → e ≡ get_or ends j 0 → j < length ends → e ≤ last → false ≡ decide (rising? letters last (drop j ends))
  rising_stops e q l m = rw (entry l)
      (sym (decide_no (rising? letters last (get_or ends j 0 ∷ drop (j + 1) ends)) (λ h. omega (arith, (risen_next h).0))))

  pub rising_ends : length ends ≤ j → eqb last letters ≡ decide (rising? letters last (drop j ends))
  unfolding decide
  rising_ends l = go (drop j ends) (length-drop j ends ∙ omega arith)
    where
      none_left : decide (rising? letters last []) ≡ eqb last letters
      none_left = elim (ℕ_discrete last letters) [
        | yes z ↦ simp (eq-eqb last letters z) (decide_as (rising? letters last []) (yes z) risen_none (λ _. rw z done))
        | no f ↦ simp (ne_eqb last letters f) (decide_no (rising? letters last []) (λ h. f (risen_none h)))
      ]

      go : (l : List ℕ) → length l ≡ 0 → eqb last letters ≡ decide (rising? letters last l)
      go [] z = sym none_left
      go (x ∷ l) z = absurd (omega arith)

-- The part

-- section s begins no later than it ends, and ends within the letters
risen_at : (n a : ℕ) (ends : List ℕ) → Rising n a ends → (s : ℕ) → s < length ends
    → (get_or (a ∷ ends) s 0 ≤ get_or ends s 0) × (get_or ends s 0 ≤ n)
risen_at n a ends done s l = absurd (omega arith)
risen_at n a ends (next m done) zero l = (omega arith, omega arith)
risen_at n a ends (next {e = e} {ends = es} m (next k h)) zero l =
    let r = risen_at n e es (next k h) zero (omega arith) in (omega arith, omega (arith, r.0, r.1))
risen_at n a ends (next {e = e} {ends = es} m h) (suc s) l = risen_at n e es h s (omega arith)

module _ (letters ends : List ℕ) (s : ℕ) where
  pub record ShowFits : Type 0 where
    pub one : 1 ≤ s
    pub order : get_or (0 ∷ ends) (s - 1) 0 ≤ get_or (0 ∷ ends) s 0
    pub inside : get_or (0 ∷ ends) s 0 ≤ length letters

  pub part_fits : show_refusal letters ends s ≡ 0 → ShowFits
  part_fits e =
      let f = show_fits letters ends s e in
      let z : suc (s - 1) ≡ s = omega (arith, f.0) in
      let q : get_or (0 ∷ ends) s 0 ≡ get_or ends (s - 1) 0 = ap (λ x. get_or (0 ∷ ends) x 0) (sym z) in
      let r = risen_at (length letters) 0 ends f.2 (s - 1) (omega (arith, f.0, f.1)) in
      record { one = f.0; order = omega (arith, q, r.0); inside = omega (arith, q, r.1) }

  module _ (r : Refusal) (e : refusal_says r ≡ outcome (show_refusal letters ends s)) where
    pub show_refused : ShowPromise letters ends s []
    unfolding shown
    show_refused =
        sym (ap (λ r. r.list) (unless_not (show_refusal letters ends s) [] (reply (gave []) (section_of letters ends s)) (outcome_some r _ e)))

    pub behind_refused : shown_behind letters ends s ≡ 0
    unfolding shown_behind
    behind_refused = simp (ne_eqb (show_refusal letters ends s) 0 (outcome_some r _ e))

  module _ (e : gave [] ≡ outcome (show_refusal letters ends s)) where
    clear : show_refusal letters ends s ≡ 0
    clear = outcome_zero (show_refusal letters ends s) e

    pub behind_given : shown_behind letters ends s ≡ get_or (0 ∷ ends) (s - 1) 0
    unfolding shown_behind
    behind_given = simp (eq-eqb (show_refusal letters ends s) 0 clear)

    pub show_given : (a b : ℕ) → a ≡ get_or (0 ∷ ends) (s - 1) 0 → b ≡ get_or (0 ∷ ends) s 0
        → ShowPromise letters ends s (take (b - a) (drop a letters))
    unfolding shown section_of
    show_given a b p q =
        rw (p, q) (sym (ap (λ r. r.list) (unless_zero (show_refusal letters ends s) [] (reply (gave []) (section_of letters ends s)) clear)))
