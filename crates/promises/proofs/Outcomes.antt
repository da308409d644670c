-- What a refusal says, and what tests say whose number is 0 or is not.
use Rattle.std.specs.Prelude.{◌≡◌, ◌≢◌, refl, Bool, true, false, Option, Some, None, Result, Ok, Err, IsErrAnd, List, [], ℕ, zero, suc}
use Rattle.std.proofs.Common.{sym, ap, ◌∙◌, inl, inr}
use Rattle.words.proofs.Cases.{clash}
use Rattle.promises.specs.declared.refusal.Refusal.{Refusal}
use Rattle.promises.specs.Answers.{gave, refused, Under, Reply, reply, number_of, place_of, refused_with, refusal_says, outcome}
use Rattle.promises.specs.Refusals.{test}
use Rattle.promises.specs.Replies.{unless}
use Rattle.promises.proofs.BookLaws.{unless_zero, unless_not}

-- A refusal gives nothing, and is under its number

with_some : (number : ℕ) (place : Option ℕ) {values : List ℕ} → refused_with number place ≡ gave values → ⊥
with_some number None e = clash cc
with_some number (Some place) e = clash cc

pub refusal_some : (r : Refusal) {values : List ℕ} → refusal_says r ≡ gave values → ⊥
refusal_some r e = with_some (number_of r) (place_of r) e

with_number : (number : ℕ) (place : Option ℕ) → Under (refused_with number place) number
with_number number None = inl refl
with_number number (Some place) = inr (place, refl)

pub refusal_number : (r : Refusal) → Under (refusal_says r) (number_of r)
refusal_number r = with_number (number_of r) (place_of r)

-- refused under this number alone, it is its own
with_own : (number : ℕ) (place : Option ℕ) {x : ℕ} → refused_with number place ≡ refused x → number ≡ x
with_own number None e = cc
with_own number (Some place) e = clash cc

-- an answer by ? that hands on a refusal is that refusal
pub handed_on : {A : Type 0} (answer : Result A Refusal) (r : Refusal) → IsErrAnd answer (λ x. x ≡ r) → answer ≡ Err r
handed_on (Ok x) r h = absurd h
handed_on (Err x) r h = ap Err h

-- Tests

pub outcome_zero : (number : ℕ) → gave [] ≡ outcome number → number ≡ 0
outcome_zero zero e = refl
outcome_zero (suc number) e = clash cc

outcome_refused : (number : ℕ) → number ≢ 0 → outcome number ≡ refused number
outcome_refused zero f = absurd (f refl)
outcome_refused (suc number) f = refl

-- a refusal by the tests
module _ (r : Refusal) (number : ℕ) (e : refusal_says r ≡ outcome number) where
  pub outcome_some : number ≢ 0
  outcome_some z = refusal_some r (e ∙ ap outcome z)

  pub outcome_said : refusal_says r ≡ refused number
  outcome_said = e ∙ outcome_refused number outcome_some

  pub outcome_number : number_of r ≡ number
  outcome_number = with_own (number_of r) (place_of r) outcome_said

  pub refused_by : (list : List ℕ) (accepted : Reply) → reply (refusal_says r) list ≡ unless number list accepted
  refused_by list accepted = ap (λ s. reply s list) outcome_said ∙ sym (unless_not number list accepted outcome_some)

pub accepted_by : (number : ℕ) → gave [] ≡ outcome number → (list : List ℕ) (accepted : Reply) → accepted ≡ unless number list accepted
accepted_by number e list accepted = sym (unless_zero number list accepted (outcome_zero number e))

-- Tests one after another: the first that fails says the number of them all, one that is passed leaves the others

pub first_said : (r : Refusal) (t : Bool) (number after : ℕ) → refusal_says r ≡ outcome (test t number 0) → refusal_says r ≡ outcome (test t number after)
first_said r true number after e = absurd (refusal_some r e)
first_said r false number after e = e

pub others_said : (t : Bool) (number after : ℕ) → gave [] ≡ outcome (test t (suc number) 0) → outcome after ≡ outcome (test t (suc number) after)
others_said true number after e = refl
others_said false number after e = clash cc

pub ruleset in_order = (first_said, others_said)
