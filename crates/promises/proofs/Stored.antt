-- The state after a run: every row word and every gathered word by its definition, and the whole of it a function of the book.
use Rattle.std.proofs.Common.{inl}
use mathlib.Core.Path.{◌≡◌, refl, sym, ap, ◌∙◌}
use mathlib.Core.Bool.{Bool, true, false, cond}
use mathlib.Core.List.{List, [], ◌∷◌, ◌++◌}
use Prim.Native.Nat.{ℕ}
use native.Mathlib.Decide.{ℕ_discrete}
use lib.ListN.{length}
use Rattle.words.specs.Definitions.{word}
use Rattle.words.proofs.GatheredWords.{row_is, gathered_word_is}
use Rattle.promises.specs.declared.Draft.{Draft}
use Rattle.promises.specs.Answers.{Changed, Fed}
use Rattle.promises.specs.Refusals.{start_refusal, feed_refusal, load_refusal}
use Rattle.promises.proofs.LiftLaws.{lifted_length}
use Rattle.promises.specs.Marks.{mark_at, mark_length, set_mark, entries}
use Rattle.promises.specs.Book.{Book, Call, lifted, blank, started_book, fed_book, loaded_book, marked_book, back_book, start_taken, feed_taken, load_taken, write, write_all, book_of}
use Rattle.promises.specs.Replies.{or_refused, refusal_of}
use Rattle.promises.proofs.BookLaws.{Case, taken, left, start_cases, empty_taken, unless_zero, unless_not}
use Rattle.promises.specs.State.{empty_under, with_lifts, with_marks, with_pick, with_picks, state_of_book, marks_of, with_mark, cut_to}
use Rattle.promises.specs.Holds.{Holds}
use Rattle.promises.proofs.WritingLaws.{feed_number, feed_case, load_number, load_case}
use Rattle.promises.proofs.BackLaws.{held_marks, cut_state}
use Rattle.promises.proofs.MarkingLaws.{Goes, mark_goes, back_goes}
use Rattle.promises.specs.Promises.{StartPromise, FeedPromise, LoadPromise, Marking}
use Rattle.promises.specs.Runs.{Made, started, fed, loaded, marked, returned, asked, call_of, calls, Meets, leaves, Run, last}
use Rattle.promises.specs.Demands.{WordsHold, StateOfBook}
use Rattle.promises.proofs.Keeping.{said_is, keep, promise, opened, opens, whole}

pub words_hold : WordsHold
words_hold d K r ms o =
    let b = book_of (calls (started K r ∷ ms)) in
    let g = rw (lifted_length b.lifts b.row) at (whole o).arrays.gathers in
    record {
      rows = λ i l. rw (g.rows i l) (row_is b.K (word (lifted b)) i);
      gathered = λ i l. rw (g.all i l) (gathered_word_is b.K (word (lifted b)) (length b.row) i l);
    }

-- one pick more at the end
picks_more : (d : Draft) (picks : List ℕ) (pick : ℕ) → with_picks d (picks ++ pick ∷ []) ≡ with_pick (with_picks d picks) pick
unfolding with_picks
picks_more d [] pick = refl
picks_more d (x ∷ picks) pick = picks_more (with_pick d x) picks pick

-- marks are aside of the picks
marks_aside : (d : Draft) (picks marks : List ℕ) → with_marks (with_picks d picks) marks ≡ with_picks (with_marks d marks) picks
unfolding with_picks
marks_aside d [] marks = refl
marks_aside d (x ∷ picks) marks = marks_aside (with_pick d x) picks marks

-- One call: d is the state of b

module _ {d : Draft} {b : Book} (h : Holds d b) (e : d ≡ state_of_book b) where
  start_state : {K : ℕ} {r : Changed} → StartPromise d K r → r.state ≡ state_of_book (cond (start_taken K) (started_book K) b)
  unfolding with_picks
  start_state {K} {r} p = go (start_cases K)
    where
      go : Case (start_taken K) (start_refusal K) → r.state ≡ state_of_book (cond (start_taken K) (started_book K) b)
      go (taken t z) = rw t (p.begins z)
      go (left t z) = rw t (p.refuses z ∙ e)

  feed_state : {pick : ℕ} {before : List ℕ} {r : Fed} {after : List ℕ} → FeedPromise d pick before r after
      → r.state ≡ state_of_book (cond (feed_taken b pick (length before)) (fed_book b pick) b)
  feed_state {pick} {before} {r} p = go (feed_case h pick (length before))
    where
      go : Case (feed_taken b pick (length before)) (feed_refusal (length b.row) b.K pick (length before))
          → r.state ≡ state_of_book (cond (feed_taken b pick (length before)) (fed_book b pick) b)
      go (taken t z) =
          rw t ((p.computes (feed_number h pick (length before) ∙ z)).stores ∙ ap (λ s. with_pick s pick) e ∙ sym (picks_more (empty_under b.K b.lifts b.marks) b.row pick))
      go (left t z) = rw t ((p.refuses (λ q. z (sym (feed_number h pick (length before)) ∙ q))).1 ∙ e)

  -- a load is taken on an empty row
  load_state : {lifts : List ℕ} {r : Changed} → LoadPromise d lifts r → r.state ≡ state_of_book (cond (load_taken b lifts) (loaded_book b lifts) b)
  unfolding with_picks
  load_state {lifts} {r} p = go (load_case h lifts)
    where
      go : Case (load_taken b lifts) (load_refusal (length b.row) b.K lifts)
          → r.state ≡ state_of_book (cond (load_taken b lifts) (loaded_book b lifts) b)
      go (taken t z) =
          let none = empty_taken b lifts t in
          rw (t, none) ((p.computes (load_number h lifts ∙ z)).1 ∙ ap (λ s. with_lifts s lifts) (rw none at e))
      go (left t z) = rw t ((p.refuses (λ q. z (sym (load_number h lifts) ∙ q))).1 ∙ e)

  -- mark and back: next and after are state and book where the call is accepted
  marking_state : {call : Call} {t : Bool} {x : ℕ} {next : Draft} {after : Book} {r : Changed} → Goes d b call t x next after
      → Marking d call (or_refused t x) next r → next ≡ state_of_book after → r.state ≡ state_of_book (write b call)
  marking_state {call} {t} {x} {next} {after} {r} g p n = elim (ℕ_discrete (refusal_of d.numbers.n d.numbers.k call) 0) [
    | yes z ↦ go t refl z
    | no f ↦ p.refuses _ (inl (said_is (p.computes ∙ unless_not _ [] _ f))) ∙ e ∙ ap state_of_book (sym (g.left f))
  ]
    where
      go : (s : Bool) → t ≡ s → refusal_of d.numbers.n d.numbers.k call ≡ 0 → r.state ≡ state_of_book (write b call)
      go true q z = p.stores (said_is (p.computes ∙ unless_zero _ [] _ z) ∙ ap (λ y. or_refused y x) q) ∙ n ∙ ap state_of_book (sym (g.takes z q))
      go false q z = p.refuses x (inl (said_is (p.computes ∙ unless_zero _ [] _ z) ∙ ap (λ y. or_refused y x) q)) ∙ e ∙ ap state_of_book (sym (g.lacks q))

  mark_state : (name : ℕ) → with_mark d name ≡ state_of_book (marked_book b name)
  mark_state name =
      ap (λ m. with_marks d (entries (set_mark m name d.numbers.n))) (held_marks h)
      ∙ ap (λ n. with_marks d (entries (set_mark b.marks name n))) h.picks
      ∙ ap (λ s. with_marks s (entries (set_mark b.marks name (length b.row)))) e
      ∙ marks_aside (empty_under b.K b.lifts b.marks) b.row _

  back_state : (name : ℕ) → cut_to d (mark_length (mark_at (marks_of d) name)) ≡ state_of_book (back_book b name)
  back_state name = ap (λ m. cut_to d (mark_length (mark_at m name))) (held_marks h) ∙ cut_state h (mark_length (mark_at b.marks name))

  call_state : (m : Made) → Meets d m → leaves d m ≡ state_of_book (write b (call_of m))
  unfolding Meets leaves call_of write
  call_state (started K r) p = start_state p
  call_state (fed pick before r after) p = feed_state p
  call_state (loaded lifts r) p = load_state p
  call_state (marked name r) p = marking_state (mark_goes h name) p (mark_state name)
  call_state (returned name r) p = marking_state (back_goes h name) p (back_state name)
  call_state (asked q r) p = e

-- The calls, one after the other

run_state : {d : Draft} {b : Book} (ms : List Made) → Run d ms → Holds d b → d ≡ state_of_book b → last d ms ≡ state_of_book (write_all b (calls ms))
unfolding Run last write_all
run_state [] t h e = e
run_state {d = d} (m ∷ ms) t h e = run_state {d = leaves d m} ms t.1 (keep h m t.0) (call_state h e m t.0)

pub state_of_book_lem : StateOfBook
unfolding Run last leaves write_all call_of write with_picks
state_of_book_lem d K r ms o = run_state ms o.run.1 (opened o blank) (rw (opens o).0 ((promise o).begins (opens o).1))
