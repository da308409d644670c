-- The ways of unfold, by what the check has found: 11, 12, 5, or the list filled.
use Rattle.std.specs.Prelude.{◌≡◌, refl, ℕ, ◌≤◌, ◌<◌, Result, Ok, Err}
use Rattle.std.proofs.Common.{◌∙◌, arith}
use mathlib.Core.List.{List}
use Rattle.std.proofs.Math.Option.{some}
use Rattle.std.proofs.Math.Decide.{ℕ_discrete}
use Rattle.std.proofs.Math.ListN.{length}
use borrow.Author.Tests.{eq-eqb, ne_eqb, le-leb, lt-leb}
use Rattle.words.proofs.Cases.{clash}
use Rattle.layout.specs.Record.{Folded}
use Rattle.layout.specs.Layout.{total}
use Rattle.layout.specs.Unfolding.{picks_of}
use Rattle.layout.specs.Reading.{closed, start, run, Reading, whole, breaks, reading}
use Rattle.layout.proofs.Forward.{forward}
use Rattle.layout.proofs.ReadingLaws.{laid_law}
use Rattle.layout.proofs.UnfoldLaws.{picks_length}
use Rattle.promises.specs.declared.refusal.Refusal.{Refusal}
use Rattle.promises.specs.declared.refusal.Refusal.TheVariants.{NoRecord, Unequal, TooLong}
use Rattle.promises.specs.Answers.{filled}
use Rattle.promises.specs.Replies.{unfold_reply}
use Rattle.promises.specs.Promises.{UnfoldPromise}
use Rattle.reader.specs.CheckCode.{checked_of}
use Rattle.reader.specs.Filling.{Fills, filled_all}

-- which of the three a check has found
data Checks (r : Reading) (c : Result ℕ Refusal) : Type 0 where
  broken : (place : ℕ) → r ≡ breaks place → c ≡ Err (NoRecord place) → Checks r c
  unequal : (p : ℕ) (fs : List Folded) → r ≡ whole p fs → (total fs ≡ p → ⊥) → c ≡ Err Unequal → Checks r c
  passed : (p : ℕ) (fs : List Folded) → r ≡ whole p fs → total fs ≡ p → c ≡ Ok p → Checks r c

checks : (r : Reading) (c : Result ℕ Refusal) → c ≡ checked_of r → Checks r c
unfolding checked_of
checks (breaks place) c e = broken place refl e
checks (whole p fs) c e = elim (ℕ_discrete (total fs) p) [
  | yes x ↦ passed p fs refl x (e ∙ simp (eq-eqb (total fs) p x))
  | no x ↦ unequal p fs refl x (e ∙ simp (ne_eqb (total fs) p x))
]

module _ (bytes l : List ℕ) where
  pub unfold_refused : (refusal : Refusal) → Err refusal ≡ checked_of (reading bytes) → UnfoldPromise bytes l (Err refusal) l
  unfolding unfold_reply
  unfold_refused refusal e = go (checks (reading bytes) (Err refusal) e)
    where
      go : Checks (reading bytes) (Err refusal) → UnfoldPromise bytes l (Err refusal) l
      go (broken place f g) = let z : refusal ≡ NoRecord place = cc in rw (z, f)
      go (unequal p fs f x g) = let z : refusal ≡ Unequal = cc in rw (z, f) (simp (ne_eqb (total fs) p x))
      go (passed p fs f x g) = clash cc

  pub unfold_broken : (place : ℕ) → Err (NoRecord place) ≡ checked_of (reading bytes) → UnfoldPromise bytes l (Err (NoRecord place)) l
  unfold_broken place e = unfold_refused (NoRecord place) e

  pub unfold_unequal : Err Unequal ≡ checked_of (reading bytes) → UnfoldPromise bytes l (Err Unequal) l
  unfold_unequal e = unfold_refused Unequal e

  module _ (count : ℕ) (e : Ok count ≡ checked_of (reading bytes)) where
    pub unfold_short : length l < count → UnfoldPromise bytes l (Err TooLong) l
    unfolding unfold_reply
    unfold_short m = go (checks (reading bytes) (Ok count) e)
      where
        go : Checks (reading bytes) (Ok count) → UnfoldPromise bytes l (Err TooLong) l
        go (broken place f g) = clash cc
        go (unequal p fs f x g) = clash cc
        go (passed p fs f x g) =
            let z : count ≡ p = cc in
            rw f (simp (eq-eqb (total fs) p x, lt-leb p (length l) (rw z at m)))

    pub unfold_filled : (l' : List ℕ) → count ≤ length l → Fills l (run start bytes) l' → UnfoldPromise bytes l (Ok count) l'
    unfolding unfold_reply
    unfold_filled l' m h = go (checks (reading bytes) (Ok count) e)
      where
        go : Checks (reading bytes) (Ok count) → UnfoldPromise bytes l (Ok count) l'
        go (broken place f g) = clash cc
        go (unequal p fs f x g) = clash cc
        go (passed p fs f x g) =
            let laid = (laid_law bytes p fs).1 f in
            let q : count ≡ p = cc in
            let b : p ≤ length l = rw q at m in
            let k : Fills l (some (closed p fs)) l' = rw (forward laid) at h in
            let n : length (picks_of fs) ≡ total fs = picks_length fs laid.fitting in
            let z : l' ≡ filled (picks_of fs) l = filled_all (picks_of fs) n (omega arith) k in
            rw (f, q, z) (simp (eq-eqb (total fs) p x, le-leb p (length l) b))
