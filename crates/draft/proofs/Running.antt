-- The whole run, from its first line.
use Rattle.std.specs.Prelude.{◌≡◌, Option, Some, Result, Ok, Err, List, [], ◌∷◌, ◌++◌, ℕ, ◌-◌}
use Rattle.std.specs.Option.{ok_or}
use Rattle.std.specs.Io.KnownBytes.{Appends}
use Rattle.std.proofs.Common.{◌∙◌, subst}
use Rattle.std.proofs.KnownBytes.{Consumes-trans, Appends-trans}
use Rattle.text.specs.Definitions.{line_end, digit_zero}
use Rattle.promises.specs.declared.Draft.{Draft}
use Rattle.promises.specs.declared.refusal.Refusal.{Refusal}
use Rattle.promises.specs.declared.refusal.Refusal.TheVariants.{Sections}
use Rattle.promises.specs.Answers.{number_of}
use Rattle.promises.specs.Refusals.{start_refusal}
use Rattle.promises.specs.Book.{blank, lent, started_book}
use Rattle.promises.specs.Holds.{Holds}
use Rattle.promises.specs.Promises.{StartPromise}
use Rattle.promises.specs.Lent.{answered_as}
use Rattle.promises.specs.Replies.{refusal_of, found_for, reply_to}
use Rattle.promises.proofs.BookLaws.{unless_zero}
use Rattle.promises.proofs.Keeping.{said_is}
use Rattle.promises.proofs.Outcomes.{refusal_some}
use Rattle.promises.proofs.WritingLaws.{start_holds}
use Rattle.draft.specs.Reading.{FirstRead, good, wrong, Reads}
use Rattle.draft.specs.Output.{output}
use Rattle.draft.specs.Lines.{header_line, refusal_line}
use Rattle.draft.specs.Filling.{Takes, TakenOn}
use Rattle.draft.specs.Running.{Begins, started, not_started, Printed}
use Rattle.draft.proofs.Filling.{between_digits, output_held, output_refused}

-- The start: o is K, if it was read

without : {e : Draft} {o : Option ℕ} {first : List ℕ} (refusal : Refusal) → FirstRead o first → ok_or o Sections ≡ Err refusal
    → Begins e (Err refusal) first
without refusal (good d) q = absurd cc
without {e} refusal (wrong {bytes = bytes} f) q =
    let s : Sections ≡ refusal = cc in subst (λ (x : Refusal). Begins e (Err x) bytes) s (not_started f)

passes : {o : Option ℕ} {first : List ℕ} (K : ℕ) → FirstRead o first → o ≡ Some K → start_refusal K ≡ 0
passes K (good {digit = digit} t) q = let k : digit - digit_zero ≡ K = cc in subst (λ (x : ℕ). start_refusal x ≡ 0) k (between_digits digit t)
passes K (wrong f) q = absurd cc

begins : {e : Draft} {o : Option ℕ} {first : List ℕ} (K : ℕ) → FirstRead o first → o ≡ Some K → Holds e (started_book K)
    → Begins e (Ok tt) first
begins {e} K (good {digit = digit} t) q h =
    let k : K ≡ digit - digit_zero = cc in started (rw t) (subst (λ (x : ℕ). Holds e (started_book x)) k h)
begins K (wrong f) q h = absurd cc

module _ {o : Option ℕ} {a b : Option (List ℕ)} (r : Reads (FirstRead o) a b) where
  -- without a good first line there is none
  pub not_begun : {e : Draft} (refusal : Refusal) → ok_or o Sections ≡ Err refusal → Reads (Begins e (Err refusal)) a b
  not_begun refusal q = record { bytes = r.bytes; is = without refusal r.is q; consumed = r.consumed }

  module _ {d : Draft} (K : ℕ) (q : o ≡ Some K) where
    -- a digit's K is not refused
    pub not_refused : {refusal : Refusal} {s : Draft} → StartPromise d K (answered_as (Err refusal) s) → ⊥
    unfolding reply_to refusal_of lent found_for
    not_refused {refusal} p = refusal_some refusal (said_is (p.says blank ∙ unless_zero (start_refusal K) [] _ (passes K r.is q)))

    pub begun : {e : Draft} → StartPromise d K (answered_as (Ok tt) e) → Reads (Begins e (Ok tt)) a b
    begun p = record { bytes = r.bytes; is = begins K r.is q (start_holds p (passes K r.is q)); consumed = r.consumed }

-- What is printed

right : {e : Draft} {q : Result Unit Refusal} {first : List ℕ} → Begins e q first → q ≡ Ok tt → (read lines : List ℕ)
    → Takes e read lines → output (first ++ read) ≡ header_line ++ lines
right (started {digit = digit} t h) q read lines k = output_held (digit ∷ line_end ∷ read) lines t h k
right (not_started f) q read lines k = absurd cc

refused : {e : Draft} {q : Result Unit Refusal} {first : List ℕ} (refusal : Refusal) → Begins e q first → q ≡ Err refusal
    → output first ≡ header_line ++ refusal_line (number_of refusal) 0
refused refusal (started t h) q = absurd cc
refused refusal (not_started {first = first} f) q = let s : refusal ≡ Sections = cc in rw s (output_refused first f)

module _ {e : Draft} {q : Result Unit Refusal} {a b w y : Option (List ℕ)} (x : Option (List ℕ)) (r : Reads (Begins e q) a b) (h : Appends w x header_line) where
  -- the picks behind the first line
  pub picks_printed : {c : Option (List ℕ)} → q ≡ Ok tt → TakenOn e b c x y → Printed a c w y
  picks_printed {c} s t =
      let k = t e.marks in
      record {
        read = r.bytes ++ k.read;
        consumed = Consumes-trans a b c r.bytes k.read r.consumed k.consumed;
        appended = rw (right r.is s k.read k.lines k.takes) (Appends-trans w x y header_line k.lines h k.appended);
      }

  -- any other first line
  pub refusal_printed : (refusal : Refusal) → q ≡ Err refusal → Appends x y (refusal_line (number_of refusal) 0) → Printed a b w y
  refusal_printed refusal s k = record {
    read = r.bytes;
    consumed = r.consumed;
    appended = rw (refused refusal r.is s) (Appends-trans w x y header_line (refusal_line (number_of refusal) 0) h k);
  }
