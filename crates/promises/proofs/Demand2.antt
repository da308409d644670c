-- Demand 2: a yes exactly when the prefix is k non-empty palindromes joined.
use mathlib.Core.Path.{◌≡◌, subst, ◌∙◌}
use mathlib.Core.List.{[], ◌∷◌}
use Prim.Native.Nat.{ℕ, ◌+◌, ◌≤◌}
use native.Mathlib.Omega.{arith}
use lib.ListN.{length, length-append}
use borrow.Author.Tests.{le-leb}
use Rattle.words.specs.Definitions.{most_picks, most_sections, word}
use Rattle.words.specs.Computed.{mask as mask_of}
use Rattle.promises.specs.declared.Draft.{Draft}
use Rattle.promises.specs.Answers.{gave, Reply}
use Rattle.promises.specs.Refusals.{mask_refusal}
use Rattle.promises.specs.Book.{Book, mask, lent, lifted, fed_row, fed_lifted, book_of}
use Rattle.promises.specs.Replies.{refusal_of, fed_mask, found_for, reply_to}
use Rattle.promises.proofs.LiftLaws.{lifted_length}
use Rattle.promises.proofs.BookLaws.{passes7, unless_zero}
use Rattle.promises.specs.Holds.{Holds}
use Rattle.promises.specs.Promises.{Reads}
use Rattle.promises.proofs.WritingLaws.{held_fits}
use Rattle.promises.specs.Runs.{started, calls}
use Rattle.promises.specs.Demands.{lifted_of, Demand2Holds}
use Rattle.promises.specs.Says.{Yes}
use Rattle.promises.proofs.Keeping.{said_is, whole, holds_at_feed, feed_met}
use Rattle.promises.proofs.Finding.{mask_yes}
use Rattle.promises.proofs.Feeding.{fed_said}

-- with the pick
more_yes : (b : Book) (pick : ℕ) → Yes b.K (fed_lifted b pick) (length b.row + 1) (fed_mask b pick)
more_yes b pick =
    subst (λ i. Yes b.K (fed_lifted b pick) i (fed_mask b pick)) (lifted_length b.lifts (fed_row b pick) ∙ length-append b.row (pick ∷ []))
    (mask_yes b.K (fed_lifted b pick) (length (fed_lifted b pick)))

mask_passes : (n K i : ℕ) → n ≤ most_picks → 1 ≤ K → K ≤ most_sections → i ≤ n → mask_refusal n K i ≡ 0
unfolding mask_refusal
mask_passes n K i a b c l = passes7 n K _ a b c ∙ simp (le-leb 0 i (omega arith), le-leb i n l)

prefix_mask : {d : Draft} {b : Book} {i : ℕ} {r : Reply} → Holds d b → i ≤ length b.row → Reads d (mask i) r
    → r.said ≡ gave (mask_of b.K (word (lifted b)) i ∷ [])
unfolding reply_to refusal_of lent found_for
prefix_mask {d} {b} {i} h l p =
    said_is (p.meaning b h ∙ unless_zero _ [] _ (mask_passes (length b.row) b.K i (held_fits h) h.least h.most l))

pub demand2 : Demand2Holds
demand2 d K r ms o = record {
  prefixes = λ i a l p. (_, prefix_mask (whole o) l p, mask_yes _ (lifted_of (started K r ∷ ms)) i);
  feeds = λ xs pick before x after f ok.
      (_, _, fed_said (holds_at_feed o xs f) (feed_met o xs f) ok, more_yes (book_of (calls xs)) pick);
}
