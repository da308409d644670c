-- The function that feeds a pick fills its line; and the law that such lines, one after another, are the program's output.
use Rattle.std.specs.Prelude.{◌≡◌, Bool, true, false, not, cond, ◌≢◌, List, [], ◌++◌, ℕ, ◌+◌, ◌-◌, ◌≤◌, eqb, length, take, drop, get_or}
use Rattle.std.proofs.Math.Path.{refl, ap}
use Rattle.std.proofs.Common.{sym, ap₂, subst, ◌∙◌, append-nil, arith, ne_eqb, le-leb}
use Rattle.std.proofs.lemmas.Bool.{not-true, not-false}
use Rattle.std.proofs.Math.Bool.{and-eq-true_iff}
use Rattle.std.proofs.Math.Decide.{ℕ_discrete}
use Rattle.words.proofs.Cases.{true_false}
use Rattle.words.specs.Definitions.{most_sections, most_visits, word}
use Rattle.words.specs.Computed.{longest}
use Rattle.words.proofs.Laws.{longest_centre_lem, longest_is}
use Rattle.models.proofs.Centres.{longest_centre_at}
use Rattle.text.specs.Definitions.{line_end, digit_zero}
use Rattle.promises.specs.declared.Draft.{Draft}
use Rattle.promises.specs.declared.FeedAnswer.{FeedAnswer}
use Rattle.promises.specs.Answers.{Changed, refused, feed_says}
use Rattle.promises.specs.Refusals.{start_refusal, feed_refusal}
use Rattle.promises.specs.Book.{Book, started_book, fed_book, feed, lent, write, fed_lifted}
use Rattle.promises.specs.Replies.{refusal_of, found_for, reply_to}
use Rattle.promises.proofs.BookLaws.{Case, taken, left, unless_zero, unless_not}
use Rattle.words.specs.Ranges.{between, between_true}
use Rattle.promises.specs.State.{with_pick}
use Rattle.promises.specs.Holds.{Holds}
use Rattle.promises.proofs.WritingLaws.{held_picks, feed_case, start_holds}
use Rattle.promises.specs.Promises.{StartPromise, FeedPromise}
use Rattle.promises.specs.Lent.{answered_as}
use Rattle.calls.specs.declared.feed.Step.{Step}
use Rattle.draft.specs.Output.{line_of, line_for, visit_list, goes_on, picks_output, good_first_line, first_line, output}
use Rattle.draft.specs.Lines.{header_line, refusal_line}
use Rattle.std.specs.declared.ops.ControlFlow.{ControlFlow}
use Rattle.draft.specs.Filling.{ending_length, is_refused, byte_count, is_last, Tells, Fills, Takes, nothing, closed, last, then}

-- How an answer to feed meets it

module _ {d e : Draft} {pick : ℕ} {before after : List ℕ} {answer : FeedAnswer} (p : FeedPromise d pick before (answered_as answer e) after) where
  fed_refused : feed_refusal d.numbers.n d.numbers.k pick (length before) ≢ 0 → is_refused (feed_says answer) ≡ true
  fed_refused f = ap is_refused (p.refuses f).0

  fed_more : is_refused (feed_says answer) ≡ false → e.numbers.n ≡ d.numbers.n + 1
  unfolding with_pick
  fed_more q = elim (ℕ_discrete (feed_refusal d.numbers.n d.numbers.k pick (length before)) 0) [
    | yes z ↦ ap (λ s. s.numbers.n) (p.computes z).stores
    | no f ↦ absurd (true_false (fed_refused f) q)
  ]

  pub fed_bound : e.numbers.n ≤ d.numbers.n + 1
  unfolding with_pick
  fed_bound = elim (ℕ_discrete (feed_refusal d.numbers.n d.numbers.k pick (length before)) 0) [
    | yes z ↦ omega (arith, ap (λ s. s.numbers.n) (p.computes z).stores)
    | no f ↦ omega (arith, ap (λ s. s.numbers.n) (p.refuses f).1)
  ]

  module _ {b : Book} (h : Holds d b) (l : before ≡ visit_list) where
    said : feed_says answer ≡ (reply_to b (feed pick visit_list)).said
    said = ap (λ r. r.said) (p.meaning b h).replies ∙ ap (λ v. (reply_to b (feed pick v)).said) l

    held : Holds e (write b (feed pick visit_list))
    held = subst (λ v. Holds e (write b (feed pick v))) l (p.meaning b h).holds

    cases : Case (goes_on b pick) (feed_refusal (length b.row) b.K pick (length visit_list))
    cases = feed_case h pick most_visits

    -- what the book replies to a pick that it does not take
    refuses : (number : ℕ) → feed_refusal (length b.row) b.K pick (length visit_list) ≡ number → number ≢ 0
        → (reply_to b (feed pick visit_list)).said ≡ refused number
    unfolding reply_to refusal_of lent found_for
    refuses number z f = rw z (ap (λ r. r.said) (unless_not number visit_list _ f))

    gives : feed_refusal (length b.row) b.K pick (length visit_list) ≡ 0 → is_refused (reply_to b (feed pick visit_list)).said ≡ false
    unfolding reply_to refusal_of lent found_for
    gives z = ap (λ r. is_refused r.said) (unless_zero _ visit_list _ z)

    -- the length of the longest ending from its centre
    longest_length_lem : Holds e (fed_book b pick)
        → ending_length e.numbers.n e.numbers.longest.0 ≡ longest (word (fed_lifted b pick)) (length (fed_lifted b pick))
    longest_length_lem g =
        let w : ℕ → ℕ = word (fed_lifted b pick) in
        let n : ℕ = length (fed_lifted b pick) in
        omega (arith, held_picks g, longest_centre_lem w n, (longest_is w n).below, longest_centre_at g.arrays.iterates.stretches.radii.longest)

    line_right : line_of d.numbers.n e.numbers.n (ending_length e.numbers.n e.numbers.longest.0) (feed_says answer) ≡ line_for b pick
    unfolding line_for line_of write
    line_right = go cases
      where
        go : Case (goes_on b pick) (feed_refusal (length b.row) b.K pick (length visit_list))
            → line_of d.numbers.n e.numbers.n (ending_length e.numbers.n e.numbers.longest.0) (feed_says answer) ≡ line_for b pick
        go (taken t z) =
            let g : Holds e (fed_book b pick) = rw t at held in
            rw (said, h.picks, longest_length_lem g, g.picks)
        go (left t z) = rw (said, refuses _ refl z, h.picks)

    goes_right : is_refused (feed_says answer) ≡ not (goes_on b pick)
    goes_right = go cases
      where
        go : Case (goes_on b pick) (feed_refusal (length b.row) b.K pick (length visit_list)) → is_refused (feed_says answer) ≡ not (goes_on b pick)
        go (taken t z) = rw t (ap is_refused said ∙ gives z)
        go (left t z) = rw t (ap is_refused (said ∙ refuses _ refl z))

  -- s is the step, t what is told of it, line its room
  pub fills : (n : ℕ) (s : Step) (t : ControlFlow ℕ ℕ) (line : List ℕ) → before ≡ visit_list → d.numbers.n ≡ n → s.answer ≡ answer
      → s.numbers ≡ e.numbers → Tells n s t line → Fills d pick (is_last t) e (take (byte_count t) line)
  fills n s t line l q a m h = record {
    meaning = λ b g. record {
      is = h.bytes ∙ rw (← q, a, m) (line_right g l);
      goes = h.over ∙ ap (λ x. is_refused (feed_says x)) a ∙ goes_right g l;
      holds = held g l;
    };
    more = λ z. fed_more (sym (ap (λ x. is_refused (feed_says x)) a) ∙ sym h.over ∙ z);
  }

lines_on : (x y : Bool) (line lines : List ℕ) → x ≡ false → y ≡ true → line ++ lines ≡ cond x [] (line ++ cond y lines [])
lines_on x y line lines e f = rw (e, f)

lines_end : (x y : Bool) (line lines : List ℕ) → x ≡ false → y ≡ false → line ≡ cond x [] (line ++ cond y lines [])
lines_end x y line lines e f = rw (e, f) (sym (append-nil line))

-- THE STEP LAW: they are the lines of the output
pub takes_output : {d : Draft} {b : Book} {input lines : List ℕ} → Takes d input lines → Holds d b → lines ≡ picks_output b input
unfolding picks_output
takes_output nothing h = refl
takes_output closed h = refl
takes_output {b = b} (last {pick = pick} f a) h =
    let m = a.meaning b h in
    m.is ∙ lines_end (eqb pick line_end) (goes_on b pick) (line_for b pick) _ (ne_eqb pick line_end f) (not-true _ (sym m.goes))
takes_output {b = b} (then {pick = pick} f a t) h =
    let m = a.meaning b h in
    ap₂ (λ x y. x ++ y) m.is (takes_output t m.holds)
    ∙ lines_on (eqb pick line_end) (goes_on b pick) (line_for b pick) _ (ne_eqb pick line_end f) (not-false _ (sym m.goes))

-- The whole run

pub between_digits : (x : ℕ) → between (digit_zero + 1) (digit_zero + most_sections) x ≡ true → start_refusal (x - digit_zero) ≡ 0
unfolding start_refusal
between_digits x e =
    let l = between_true (digit_zero + 1) (digit_zero + most_sections) x e in
    simp (le-leb 1 (x - digit_zero) (omega (arith, l.low)), le-leb (x - digit_zero) most_sections (omega (arith, l.high)))

-- picks behind the first line, on a state that holds what a start with the digit's K brings
pub output_held : {d : Draft} (input lines : List ℕ) → good_first_line input ≡ true → Holds d (started_book (get_or input 0 0 - digit_zero))
    → Takes d (drop first_line input) lines → output input ≡ header_line ++ lines
unfolding output
output_held input lines g h t = rw (g, takes_output t h)

-- a start under the digit's K, on whatever was stored, and then the picks behind the first line
pub output_right : {d : Draft} {r : Changed} (input lines : List ℕ) → good_first_line input ≡ true → StartPromise d (get_or input 0 0 - digit_zero) r
    → Takes r.state (drop first_line input) lines → output input ≡ header_line ++ lines
output_right input lines g p t =
    let k = (and-eq-true_iff (between (digit_zero + 1) (digit_zero + most_sections) (get_or input 0 0)) (eqb (get_or input 1 0) line_end)).0 g in
    output_held input lines g (start_holds p (between_digits (get_or input 0 0) k.0)) t

-- any other first line
pub output_refused : (input : List ℕ) → good_first_line input ≡ false → output input ≡ header_line ++ refusal_line 1 0
unfolding output
output_refused input g = rw g
