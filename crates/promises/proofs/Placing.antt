-- The place beside a number: a load's refusal under 15 has one, and no other refusal of a call on a state.
use mathlib.Core.Path.{◌≡◌, refl, sym, ap₂, subst, ◌∙◌}
use mathlib.Core.Bool.{Bool, true, false, cond}
use mathlib.Core.Logic.{◌↔◌, inl, inr}
use mathlib.Core.List.{List}
use Prim.Native.Nat.{ℕ}
use native.Mathlib.Omega.{arith}
use lib.Dec.{eqb}
use borrow.Author.Tests.{eqb-true, eq-eqb}
use Rattle.words.proofs.Cases.{clash, true_false}
use Rattle.promises.specs.Answers.{Said, refused, refused_at, Under}
use Rattle.promises.specs.Lifts.{first_zero, FirstZero}
use Rattle.promises.proofs.LiftLaws.{first_is}
use Rattle.promises.specs.Book.{Call, start, feed, load, mark, back, ask}
use Rattle.promises.specs.Replies.{refusal_to}
use Rattle.promises.specs.Listed.{First, listed}
use Rattle.promises.specs.Demands.{PlaceOf, of_zero}

-- refused under one number

at_number : {x y p q : ℕ} → refused_at x p ≡ refused_at y q → (x ≡ y) × (p ≡ q)
at_number e = (cc, cc)

pub under_one : {said : Said} {x y : ℕ} → Under said x → Under said y → x ≡ y
under_one (inl p) (inl q) = cc
under_one {x = x} {y = y} (inl p) (inr q) = let z : refused x ≡ refused_at y q.0 = sym p ∙ q.1 in clash cc
under_one {x = x} {y = y} (inr p) (inl q) = let z : refused y ≡ refused_at x p.0 = sym q ∙ p.1 in clash cc
under_one (inr p) (inr q) = (at_number (sym p.1 ∙ q.1)).0

-- where a load meets 15, there is a first lift of 0
pub zero_met : (n K : ℕ) (lifts : List ℕ) → First (listed n K (load lifts)) 15 → (place : ℕ) × FirstZero lifts place
unfolding First listed
zero_met n K lifts f = elim f [
  | inl a ↦ absurd (omega (arith, a.1))
  | inr a ↦ elim a.1 [
    | inl b ↦ absurd (omega (arith, b.1))
    | inr b ↦ elim b.1 [
      | inl c ↦ c.0
      | inr c ↦ elim c.1 [ inl e ↦ absurd (omega (arith, e.1)) | inr e ↦ absurd e.1 ]
    ]
  ]
]

pub no_place : {x y p : ℕ} → refused y ≡ refused_at x p → ⊥
no_place {x} {y} {p} e = clash cc

-- a place belongs to 15 of a load, and it is that of the first lift of 0
pub place_is : {call : Call} {x place : ℕ} → PlaceOf call x place → (lifts : List ℕ) × (call ≡ load lifts) × (x ≡ 15) × FirstZero lifts place
place_is (of_zero {lifts = lifts} f) = (lifts, refl, refl, f)

-- what is said of the number is its place, and there is none where none belongs to it
pub refusal_at : (call : Call) (y : ℕ) → ((lifts : List ℕ) → call ≡ load lifts → y ≡ 15 → (place : ℕ) × FirstZero lifts place)
    → (x place : ℕ) → (refusal_to call y ≡ refused_at x place) ↔ ((x ≡ y) × PlaceOf call x place)
refusal_at (start K) y f x place = (λ e. absurd (no_place e), λ p. clash (cc (place_is p.1).1))
refusal_at (feed pick visits) y f x place = (λ e. absurd (no_place e), λ p. clash (cc (place_is p.1).1))
refusal_at (mark name) y f x place = (λ e. absurd (no_place e), λ p. clash (cc (place_is p.1).1))
refusal_at (back name) y f x place = (λ e. absurd (no_place e), λ p. clash (cc (place_is p.1).1))
refusal_at (ask q) y f x place = (λ e. absurd (no_place e), λ p. clash (cc (place_is p.1).1))
refusal_at (load lifts) y f x place = go (eqb y 15) refl
  where
    go : (b : Bool) → eqb y 15 ≡ b
        → (cond b (refused_at y (first_zero lifts)) (refused y) ≡ refused_at x place) ↔ ((x ≡ y) × PlaceOf (load lifts) x place)
    go true t =
        let z : y ≡ 15 = eqb-true y 15 t in
        let m = f lifts refl z in (
          λ e.
              let q = at_number e in
              let w : 15 ≡ x = sym z ∙ q.0 in
              (sym q.0, rw (← w) (of_zero (subst (FirstZero lifts) (first_is lifts m.0 m.1 ∙ q.1) m.1))),
          λ p.
              let w = place_is p.1 in
              let same : w.0 ≡ lifts = cc w.1 in
              ap₂ refused_at (sym p.0) (sym (first_is lifts place (rw same at w.3))),
        )
    go false t = (λ e. absurd (no_place e), λ p. absurd (true_false (eq-eqb y 15 (sym p.0 ∙ (place_is p.1).2)) t))
