-- A reader yields a section and moves on to a place of the record behind, or none and stays.
use Rattle.std.specs.Prelude.{◌≡◌, refl, cond, Option, List, [], ◌∷◌, ℕ, ◌+◌, ◌<◌, ◌≤◌, eqb, length, ⊤}
use Rattle.std.specs.Iterator.{MakesProgress}
use Rattle.std.proofs.Common.{arith, eq-eqb, ne_eqb}
use Rattle.std.proofs.Math.Decide.{ℕ_discrete}
use Rattle.layout.specs.declared.Section.{Section}
use Rattle.layout.specs.declared.Found.{Found}
use Rattle.layout.specs.Record.{Folded}
use Rattle.layout.specs.Layout.{total, Passes}
use Rattle.layout.specs.Reading.{Reading, whole, breaks, reading}
use Rattle.layout.specs.Yield.{nothing_at, found_at, section_after, bytes_in, among, behind_count, yielded, yield_at}
use Rattle.layout.proofs.Places.{offset, bytes_in_two, place_as}
use Rattle.layout.proofs.ReadingLaws.{laid_law}
use Rattle.layout.proofs.YieldLaws.{yields_law}
use Rattle.promises.specs.Promises.{SectionPromise}
use Rattle.promises.proofs.ReadBack.{section_is}
use Rattle.reader.specs.declared.Reader.{Reader}
use Rattle.reader.specs.Reader.{moved_to, bytes_left}

-- in a record of so many bytes
pub data YieldsAt (at bytes : ℕ) : Found → Type 0 where
  none : YieldsAt at bytes (nothing_at at)
  one : (s : Section) (next : ℕ) → at < next → next ≤ bytes → YieldsAt at bytes (found_at s next)

among_yields : (given first a bytes : ℕ) (fs : List Folded) (sought : ℕ) → given ≤ sought → first + offset fs ≤ bytes
    → YieldsAt given bytes (among given first a fs sought)
unfolding among
among_yields given first a bytes [] sought l m = none
among_yields given first a bytes (f ∷ fs) sought l m = elim (ℕ_discrete sought first) [
  | yes e ↦ simp (eq-eqb sought first e) (one (section_after a f.len) (first + bytes_in f) (omega (arith, bytes_in_two f)) (omega arith))
  | no n ↦ simp (ne_eqb sought first n) (among_yields given (first + bytes_in f) (a + f.len) bytes fs sought l (omega arith))
]

pub yields : (bytes : List ℕ) (at : ℕ) → YieldsAt at (length bytes) (yield_at bytes at)
unfolding yield_at yielded
yields bytes at = go (reading bytes) refl
  where
    go : (r : Reading) → reading bytes ≡ r → YieldsAt at (length bytes) (yielded r at)
    go (breaks place) e = none
    go (whole picks fs) e = elim (ℕ_discrete (total fs) picks) [
      | no n ↦ simp (ne_eqb (total fs) picks n) none
      | yes s ↦
          let h : Passes bytes picks fs = record { laid = (laid_law bytes picks fs).1 e; adds = s } in
          let l : behind_count picks (length fs) + offset fs ≤ length bytes = omega (arith, place_as picks fs fs, (yields_law h).last) in
          simp (eq-eqb (total fs) picks s) (among_yields at (behind_count picks (length fs)) 0 (length bytes) fs _ (sought picks fs) l)
    ]
      where
        sought : (picks : ℕ) (fs : List Folded) → at ≤ cond (eqb at 0) (behind_count picks (length fs)) at
        sought picks fs = elim (ℕ_discrete at 0) [
          | yes z ↦ omega arith
          | no n ↦ simp (ne_eqb at 0 n) (omega arith)
        ]

-- a step as an iterator's
abbrev pub Progress : (before : Reader) → Option Section → (after : Reader) → Type 0
Progress before r after = MakesProgress (λ (_ : Reader). ⊤) bytes_left before r after

pub next_goes : (before : Reader) (f : Found) → SectionPromise before.bytes.now before.at f
    → Progress before f.yielded (moved_to before f.next)
next_goes before f h =
    rw (section_is before.bytes.now before.at f h) (go (yield_at before.bytes.now before.at) (yields before.bytes.now before.at))
  where
    go : (y : Found) → YieldsAt before.at (length before.bytes.now) y → Progress before y.yielded (moved_to before y.next)
    go y none = record { on = λ _. tt; keeps = tt; rests = λ h. h }
    go y (one s next l m) = record { on = λ h. (tt, h, omega arith); keeps = tt; rests = λ _. tt }
