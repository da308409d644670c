-- The calls, one by one: their tests are those of the lines, and what each finds.
use mathlib.Core.Path.{refl}
use mathlib.Core.List.{[], ◌∷◌}
use Prim.Native.Nat.{ℕ, ◌+◌, ◌*◌}
use native.Mathlib.Omega.{arith}
use lib.ListN.{length}
use Rattle.words.specs.Definitions.{most_sections, most_visits, first_letter, last_letter, word}
use Rattle.promises.specs.Lifts.{table_size}
use Rattle.words.specs.Computed.{longest_centre}
use Rattle.words.proofs.Laws.{longest_is, visits_are}
use Rattle.promises.specs.declared.Draft.{Draft}
use Rattle.promises.specs.Answers.{filled}
use Rattle.layout.specs.Record.{record_of}
use Rattle.promises.specs.Refusals.{start_refusal, feed_refusal, load_refusal, mask_refusal, centre_refusal, longest_refusal, split_refusal, record_refusal, letter_refusal}
use Rattle.promises.specs.Book.{Book, Query, Call, start, feed, load, mark, back, ask, split, longest, mask, radius, next, fold, lift, lent, lifted, fed_lifted}
use Rattle.promises.specs.Replies.{refusal_of, found_for}
use Rattle.promises.specs.Listed.{First, NoneMet, listed, sought}
use Rattle.promises.specs.Says.{Says}
use Rattle.promises.specs.Promises.{next_held, split_held, found_in}
use Rattle.promises.specs.Demands.{sought_numbers}
use Rattle.promises.proofs.Keeping.{gave_accepted}
use Rattle.promises.proofs.Listing.{Tested, over, check_outside, check_list, check_prefix, check_draft, check_full, check_equal, check_zero}
use Rattle.promises.proofs.Finding.{Outcome, fine, mask_yes, splits_found, radius_found, next_found, record_found, mark_found, back_found, OnlyUnder, gave_only, no_split_only, no_ending_only, too_long_only}

-- the number of a call is that of the first of its lines that is met
pub listed_tested : (n K : ℕ) (call : Call) → Tested (listed n K call) (refusal_of n K call)
unfolding listed refusal_of start_refusal feed_refusal load_refusal split_refusal longest_refusal mask_refusal centre_refusal record_refusal letter_refusal
listed_tested n K (start k) = check_outside 1 1 most_sections k [] 0 (λ e. omega arith) over
listed_tested n K (feed pick visits) = check_draft n K _ _ (λ h.
    check_outside 2 first_letter last_letter pick _ _ (λ e. omega arith)
    (check_list 3 most_visits (length visits) _ _ (λ e. omega arith) (check_full n [] 0 h over)))
listed_tested n K (load lifts) = check_draft n K _ _ (λ _.
    check_equal 14 table_size (length lifts) _ _ (λ e. omega arith)
    (check_zero lifts _ _ (check_equal 16 0 n [] 0 (λ e. omega arith) over)))
listed_tested n K (mark name) = check_draft n K _ _ (λ _. check_outside 2 first_letter last_letter name [] 0 (λ e. omega arith) over)
listed_tested n K (back name) = check_draft n K _ _ (λ _. check_outside 2 first_letter last_letter name [] 0 (λ e. omega arith) over)
listed_tested n K (ask (split i k ends)) = check_draft n K _ _ (λ _.
    check_outside 1 1 K k _ _ (λ e. omega arith) (check_list 13 k (length ends) _ _ (λ e. omega arith) (check_prefix n i [] 0 over)))
listed_tested n K (ask longest) = check_draft n K [] 0 (λ _. over)
listed_tested n K (ask (mask i)) = check_draft n K _ _ (λ _. check_prefix n i [] 0 over)
listed_tested n K (ask (radius c)) = check_draft n K _ _ (λ _. check_outside 4 1 (2 * n + 1) c [] 0 (λ e. omega arith) over)
listed_tested n K (ask (next c)) = check_draft n K _ _ (λ _. check_outside 4 1 (2 * n + 1) c [] 0 (λ e. omega arith) over)
listed_tested n K (ask (fold i k output)) = check_draft n K _ _ (λ _. check_outside 1 1 K k _ _ (λ e. omega arith) (check_prefix n i [] 0 over))
listed_tested n K (ask (lift letter)) = check_draft n K _ _ (λ _. check_outside 2 first_letter last_letter letter [] 0 (λ e. omega arith) over)

-- whatever stands in the book, what it has in reply is refused by a line that hangs on the picks or the marks, or says what document 01 says
pub found_outcome : (b : Book) (call : Call) → NoneMet (listed (length b.row) b.K call)
    → Outcome b call (sought b call) (found_for b call)
unfolding found_for listed sought First NoneMet Says longest_centre
found_outcome b (start k) p = fine tt (gave_accepted refl) refl
found_outcome b (feed pick list) p = fine tt (gave_accepted refl) (record {
  m = _;
  lengths = _;
  mask = mask_yes b.K (fed_lifted b pick) (length (fed_lifted b pick));
  visited = visits_are (word (fed_lifted b pick)) (length (fed_lifted b pick));
  is = refl;
})
found_outcome b (load lifts) p = fine tt (gave_accepted refl) refl
found_outcome b (mark name) p = mark_found b name
found_outcome b (back name) p = back_found b name
found_outcome b (ask (split i k list)) p = splits_found b i k list
found_outcome b (ask longest) p =
    fine tt (gave_accepted refl) (record { L = _; longest = longest_is (word (lifted b)) (length (lifted b)); is = refl })
found_outcome b (ask (mask i)) p = fine tt (gave_accepted refl) (record { m = _; mask = mask_yes b.K (lifted b) i; is = refl })
found_outcome b (ask (radius c)) p = fine tt (gave_accepted refl) (radius_found b c p.1.0)
found_outcome b (ask (next c)) p = next_found b c
found_outcome b (ask (fold i k output)) p = record_found b i k output
found_outcome b (ask (lift letter)) p = fine tt (gave_accepted refl) refl

-- whatever is stored, what is found in it is refused under these numbers only
pub found_only : (d : Draft) (q : Query) → OnlyUnder (lent (ask q)) (sought_numbers (ask q)) (found_in d q)
unfolding found_in lent sought
found_only d (split i k list) =
    no_split_only (split_held d k i) list [] _ (λ ends. gave_only _ list (filled ends list) (9 ∷ []))
found_only d longest = gave_only _ [] [] []
found_only d (mask i) = gave_only _ [] [] []
found_only d (radius c) = gave_only _ [] [] []
found_only d (next c) = no_ending_only (next_held d c)
found_only d (fold i k output) =
    no_split_only (split_held d k i) output (5 ∷ []) _ (λ ends. too_long_only (record_of (word d.letters) i ends) output)
found_only d (lift letter) = gave_only _ [] [] []
