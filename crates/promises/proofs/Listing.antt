-- The order of tests and the lines as propositions: a call's number is that of the first line that it meets, 0 where it meets none.
use mathlib.Core.Path.{◌≡◌, refl, sym, ◌∙◌}
use mathlib.Core.Bool.{Bool, true, false, ◌&&◌, decide, decide_iff, and-eq-true_iff}
use mathlib.Core.Logic.{◌≢◌, inl, inr}
use mathlib.Core.List.{List, [], ◌∷◌, ◌++◌}
use Prim.Native.Nat.{ℕ, ◌≤◌, ◌<◌}
use native.Mathlib.Omega.{arith}
use native.Mathlib.Decide.{dec_lt}
use lib.Dec.{eqb, leb, ltb}
use lib.ListN.{length}
use borrow.Author.Tests.{leb-true, ltb-true, eqb-true, le-leb, lt-ltb, eq-eqb}
use Rattle.words.specs.Definitions.{most_picks, most_sections}
use Rattle.words.specs.Computed.{rising?}
use Rattle.promises.specs.Lifts.{none_zero, first_zero}
use Rattle.promises.proofs.LiftLaws.{zero_there, zero_nowhere}
use Rattle.promises.specs.Refusals.{test, line4, line6, line7, line8, line15, show_refusal}
use Rattle.words.proofs.Cases.{true_false}
use Rattle.words.specs.Ranges.{between, between_true}
use Rattle.promises.specs.Listed.{Line, line, First, NoneMet, Outside, prefix_above, ends_not_rising, zero_lift, no_draft, full, show_lines}

-- The first line that is met is one, and there is none where none is met

pub first_one : (ls : List Line) {x y : ℕ} → First ls x → First ls y → x ≡ y
unfolding First
first_one [] p q = absurd p
first_one (l ∷ ls) (inl p) (inl q) = p.1 ∙ sym q.1
first_one (l ∷ ls) (inl p) (inr q) = absurd (q.0 p.0)
first_one (l ∷ ls) (inr p) (inl q) = absurd (p.0 q.0)
first_one (l ∷ ls) (inr p) (inr q) = first_one ls p.1 q.1

pub first_none : (ls : List Line) (x : ℕ) → First ls x → NoneMet ls → ⊥
unfolding First NoneMet
first_none [] x p q = p
first_none (l ∷ ls) x (inl p) q = q.0 p.0
first_none (l ∷ ls) x (inr p) q = first_none ls x p.1 q.1

-- in a list of lines behind another

pub first_front : (ls ms : List Line) (x : ℕ) → First ls x → First (ls ++ ms) x
unfolding First
first_front [] ms x p = absurd p
first_front (l ∷ ls) ms x (inl p) = inl p
first_front (l ∷ ls) ms x (inr p) = inr (p.0, first_front ls ms x p.1)

pub first_behind : (ls ms : List Line) (x : ℕ) → NoneMet ls → First ms x → First (ls ++ ms) x
unfolding First NoneMet
first_behind [] ms x p q = q
first_behind (l ∷ ls) ms x p q = inr (p.0, first_behind ls ms x p.1 q)

pub none_both : (ls ms : List Line) → NoneMet ls → NoneMet ms → NoneMet (ls ++ ms)
unfolding NoneMet
none_both [] ms p q = q
none_both (l ∷ ls) ms p q = (p.0, none_both ls ms p.1 q)

-- where no line of the first list has the number
unfoldable pub Others : List Line → (x : ℕ) → Type 0
Others [] x = Unit
Others (l ∷ ls) x = (x ≢ l.number) × Others ls x

pub first_past : (ls ms : List Line) (x : ℕ) → Others ls x → First (ls ++ ms) x → NoneMet ls × First ms x
unfolding First NoneMet Others
first_past [] ms x o p = (tt, p)
first_past (l ∷ ls) ms x o (inl p) = absurd (o.0 p.1)
first_past (l ∷ ls) ms x o (inr p) = let r = first_past ls ms x o.1 p.1 in ((p.0, r.0), r.1)

-- Tests, one after the other

-- the number of the tests for these lines
pub data Tested (ls : List Line) (number : ℕ) : Type 0 where
  hit : First ls number → number ≢ 0 → Tested ls number
  clear : NoneMet ls → number ≡ 0 → Tested ls number

pub over : Tested [] 0
unfolding NoneMet
over = clear tt refl

-- a test that fails exactly where its line is met, and those after it
pub check : (l : Line) (ls : List Line) (t : Bool) (after : ℕ) → l.number ≢ 0 → (t ≡ false → l.Met) → (t ≡ true → l.Met → ⊥)
    → ((l.Met → ⊥) → Tested ls after) → Tested (l ∷ ls) (test t l.number after)
unfolding First NoneMet
check l ls false after z f g k = hit (inl (f refl, refl)) z
check l ls true after z f g k = go (k (g refl))
  where
    go : Tested ls after → Tested (l ∷ ls) after
    go (hit p q) = hit (inr (g refl, p)) q
    go (clear p q) = clear (g refl, p) q

-- The tests of each line

inside_not : (low high x : ℕ) → between low high x ≡ true → Outside low high x → ⊥
inside_not low high x e (inl l) = omega (arith, (between_true low high x e).low)
inside_not low high x e (inr l) = omega (arith, (between_true low high x e).high)

outside_met : (low high x : ℕ) → between low high x ≡ false → Outside low high x
outside_met low high x e = elim (dec_lt x low) [
  | yes l ↦ inl l
  | no l ↦ elim (dec_lt high x) [
    | yes m ↦ inr m
    | no m ↦ absurd (true_false (simp (le-leb low x (omega arith), le-leb x high (omega arith))) e)
  ]
]

pub check_outside : (number low high x : ℕ) (ls : List Line) (after : ℕ) → number ≢ 0 → Tested ls after
    → Tested (line number (Outside low high x) ∷ ls) (test (between low high x) number after)
check_outside number low high x ls after z k =
    check (line number (Outside low high x)) ls (between low high x) after z (outside_met low high x) (inside_not low high x) (λ _. k)

pub check_list : (number least entries : ℕ) (ls : List Line) (after : ℕ) → number ≢ 0 → Tested ls after
    → Tested (line number (entries < least) ∷ ls) (test (leb least entries) number after)
check_list number least entries ls after z k = check (line number (entries < least)) ls (leb least entries) after z
    (λ e. elim (dec_lt entries least) [ yes l ↦ l | no l ↦ absurd (true_false (le-leb least entries (omega arith)) e) ])
    (λ e l. omega (arith, leb-true least entries e)) (λ _. k)

pub check_prefix : (n i : ℕ) (ls : List Line) (after : ℕ) → Tested ls after → Tested (prefix_above n i ∷ ls) (line4 0 n i after)
check_prefix n i ls after k = check (prefix_above n i) ls (between 0 n i) after (λ e. omega arith)
    (λ e. elim (dec_lt n i) [ yes l ↦ l | no l ↦ absurd (true_false (simp (le-leb 0 i (omega arith), le-leb i n (omega arith))) e) ])
    (λ e l. omega (arith, (between_true 0 n i e).high)) (λ _. k)

-- those after 7 may take it that n is at most 2,048
pub check_draft : (n K : ℕ) (ls : List Line) (after : ℕ) → (n ≤ most_picks → Tested ls after) → Tested (no_draft n K ∷ ls) (line7 n K after)
check_draft n K ls after k = check (no_draft n K) ls (leb n most_picks && between 1 most_sections K) after (λ e. omega arith)
    (λ e. elim (dec_lt most_picks n) [
      | yes l ↦ inl l
      | no l ↦ inr (outside_met 1 most_sections K (simp (le-leb n most_picks (omega arith)) at e))
    ])
    (λ e. not_met ((and-eq-true_iff (leb n most_picks) (between 1 most_sections K)).0 e))
    (λ f. elim (dec_lt most_picks n) [ yes l ↦ absurd (f (inl l)) | no l ↦ k (omega arith) ])
  where
    not_met : (leb n most_picks ≡ true) × (between 1 most_sections K ≡ true) → (no_draft n K).Met → ⊥
    not_met p (inl l) = omega (arith, leb-true n most_picks p.0)
    not_met p (inr o) = inside_not 1 most_sections K p.1 o

pub check_full : (n : ℕ) (ls : List Line) (after : ℕ) → n ≤ most_picks → Tested ls after → Tested (full n ∷ ls) (line8 n after)
check_full n ls after h k = check (full n) ls (ltb n most_picks) after (λ e. omega arith)
    (λ e. elim (dec_lt n most_picks) [ yes l ↦ absurd (true_false (lt-ltb n most_picks l) e) | no l ↦ omega arith ])
    (λ e l. omega (arith, ltb-true n most_picks e)) (λ _. k)

check_rising : (letters ends : List ℕ) (ls : List Line) (after : ℕ) → Tested ls after
    → Tested (ends_not_rising letters ends ∷ ls) (line6 letters ends after)
check_rising letters ends ls after k =
    check (ends_not_rising letters ends) ls (decide (rising? (length letters) 0 ends)) after (λ e. omega arith)
    (λ e h. true_false ((decide_iff (rising? (length letters) 0 ends)).1 h) e)
    (λ e f. f ((decide_iff (rising? (length letters) 0 ends)).0 e)) (λ _. k)

-- not so many
pub check_equal : (number size x : ℕ) (ls : List Line) (after : ℕ) → number ≢ 0 → Tested ls after
    → Tested (line number (x ≢ size) ∷ ls) (test (eqb x size) number after)
check_equal number size x ls after z k = check (line number (x ≢ size)) ls (eqb x size) after z
    (λ e q. true_false (eq-eqb x size q) e) (λ e f. f (eqb-true x size e)) (λ _. k)

pub check_zero : (lifts : List ℕ) (ls : List Line) (after : ℕ) → Tested ls after → Tested (zero_lift lifts ∷ ls) (line15 lifts after)
check_zero lifts ls after k = check (zero_lift lifts) ls (none_zero lifts) after (λ e. omega arith)
    (λ e. (first_zero lifts, zero_there lifts e)) (λ e f. zero_nowhere lifts f.0 e f.1.within f.1.zero) (λ _. k)

-- Show

pub show_tested : (letters ends : List ℕ) (s : ℕ) → Tested (show_lines letters ends s) (show_refusal letters ends s)
unfolding show_refusal
show_tested letters ends s = check_outside 4 1 (length ends) s _ _ (λ e. omega arith) (check_rising letters ends [] 0 over)
