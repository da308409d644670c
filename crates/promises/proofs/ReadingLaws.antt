-- What is found in a state that holds what stands in the book is what the book has: so the calls that only read meet their promise.
use Rattle.std.specs.Prelude.{◌≡◌, refl, List, [], ◌∷◌, ℕ, zero, suc, ◌+◌, ◌-◌, ◌*◌, ◌/◌, ◌≤◌}
use Rattle.std.proofs.Math.Path.{ap, ap₂}
use Rattle.std.proofs.Common.{◌∙◌, arith}
use Rattle.std.proofs.Math.Option.{Option}
use Rattle.std.proofs.Math.ListN.{length}
use Rattle.words.specs.Definitions.{word, stretch, Sections, done, next}
use Rattle.words.specs.Computed.{row_word, longest_centre, split_of}
use Rattle.words.specs.Computed.{mask as mask_of}
use Rattle.words.proofs.Laws.{row_lt}
use Rattle.words.proofs.Splits.{Splitting, given, lacking, split_law}
use Rattle.words.specs.Prefixes.{Agree}
use Rattle.models.specs.Stores.{at}
use Rattle.models.specs.Scanning.{Radii}
use Rattle.models.specs.Iterator.{longest_of}
use Rattle.models.proofs.Iterating.{in_range, longest_right, radius_right}
use Rattle.models.proofs.Answers.{endings, next_right}
use Rattle.models.proofs.Splitting.{split_right as split-by-right}
use Rattle.promises.specs.declared.Draft.{Draft}
use Rattle.promises.specs.Answers.{Reply, reply}
use Rattle.layout.specs.Record.{laid_out, folded_of, record_of}
use Rattle.promises.specs.Lifts.{lift_in}
use Rattle.promises.specs.Book.{Book, Query, ask, split, longest, mask, radius, fold, lift, lent, lifted}
use Rattle.promises.specs.Book.{next as nextAsked}
use Rattle.promises.specs.Replies.{unless, or_no_split, or_no_ending, or_too_long, gives, split_reply, record_reply, refusal_of, found_for, reply_to}
use Rattle.promises.proofs.RefusalLaws.{mask_fits, centre_fits, record_fits, split_fits}
use Rattle.promises.proofs.BookLaws.{unless_as}
use Rattle.promises.specs.Holds.{Holds}
use Rattle.promises.specs.Promises.{mask_byte, split_held, found_in, computed_to, Reads}
use Rattle.promises.proofs.LiftLaws.{lifted_length}
use Rattle.promises.proofs.WritingLaws.{byte_mask, held_picks}

-- what is stored, where the state holds what stands in the book
module _ {d : Draft} {b : Book} (h : Holds d b) where
  radii : Radii (word (lifted b)) (length (lifted b)) d.numbers.longest.0 d.centres.radius
  radii = h.arrays.iterates.stretches.radii

  row_held : (i : ℕ) → i ≤ length (lifted b) → at d.places.rows i ≡ row_word b.K (word (lifted b)) i
  row_held i l = h.arrays.gathers.rows i l

  longest_held : longest_of d.numbers.n d.numbers.longest.0 ≡ longest_centre (word (lifted b)) (length (lifted b))
  longest_held = rw (held_picks h) (longest_right radii)

  stored_centre : longest_of (length (lifted b)) d.numbers.longest.0 ≡ d.numbers.longest.0
  stored_centre = in_range radii

  -- a place within the row is within what is read of it
  within_lifted : (i : ℕ) → i ≤ length b.row → i ≤ length (lifted b)
  within_lifted i l = omega (arith, lifted_length b.lifts b.row)

-- Split

split_held_lem : {d : Draft} {b : Book} (h : Holds d b) (k i : ℕ) → k ≤ b.K → i ≤ length b.row → split_held d k i ≡ split_of (word (lifted b)) i k
split_held_lem {d} {b} h k i l m =
    rw (held_picks h, stored_centre h)
    (split-by-right b.K (word (lifted b)) (length (lifted b)) d.numbers.longest.0 d.places.rows d.centres.radius (radii h) (row_held h) k i l
    (within_lifted h i m))

-- Record: w and v are letters, x what is read of them

stretch_as : {w v : ℕ → ℕ} (a len : ℕ) → Agree w v (a + len) → stretch w a len ≡ stretch v a len
stretch_as a zero f = refl
stretch_as {w} {v} a (suc len) f =
    ap₂ (λ x l. x ∷ l) (f a (omega arith)) (stretch_as {w = w} {v = v} (suc a) len (λ i l. f i (omega arith)))

sections_to : {w : ℕ → ℕ} {n a : ℕ} {ends : List ℕ} → Sections w n a ends → a ≤ n
sections_to done = omega arith
sections_to (next f s) = omega (arith, f.some, sections_to s)

folded_as : {w v x : ℕ → ℕ} {n a : ℕ} {ends : List ℕ} → Agree w v n → Sections x n a ends → folded_of w a ends ≡ folded_of v a ends
folded_as f done = refl
folded_as {w} {v} {x} {n} f (next {a = a} {e = e} s t) =
    let half = stretch_as {w = w} {v = v} a ((e - a + 1) / 2) (λ i l. f i (omega (arith, s.some, sections_to t))) in
    ap₂ (λ x l. record { len = e - a; half = x } ∷ l) half (folded_as f t)

record_as : {w v x : ℕ → ℕ} {n : ℕ} {ends : List ℕ} → Agree w v n → Sections x n 0 ends → record_of w n ends ≡ record_of v n ends
unfolding record_of
record_as {n = n} f s = ap (laid_out n) (folded_as f s)

-- the letters stored are those of the book
record_found : {w v : ℕ → ℕ} (x : ℕ → ℕ) (k i : ℕ) (output : List ℕ) → Agree w v i
    → record_reply w i (split_of x i k) output ≡ record_reply v i (split_of x i k) output
unfolding or_no_split
record_found {w} {v} x k i output f = go (split_of x i k) (split_law x k i)
  where
    go : (o : Option (List ℕ)) → Splitting x i k o → record_reply w i o output ≡ record_reply v i o output
    go o (lacking e g) = rw e
    go o (given ends e m) = rw e (ap (λ l. or_too_long l output) (record_as {w = w} {v = v} f m.is.is))

-- Each query, where the tests that do not hang on the draft pass

module _ {d : Draft} {b : Book} (h : Holds d b) where
  abbrev Passes : Query → Type 0
  Passes q = refusal_of (length b.row) b.K (ask q) ≡ 0

  found_same : (q : Query) → Passes q → found_in d q ≡ found_for b (ask q)
  unfolding refusal_of found_in found_for mask_of
  found_same (split i k list) z =
      let l = (split_fits (length b.row) b.K i k (length list) z).0 in
      ap (λ o. split_reply o list) (split_held_lem h k i l.most l.prefix)
  found_same longest z = ap (λ c. gives (c ∷ [])) (longest_held h)
  found_same (mask i) z =
      let l = mask_fits (length b.row) b.K i z in
      ap (λ x. gives (x ∷ [])) (ap mask_byte (row_held h i (within_lifted h i l)) ∙ byte_mask b.K _ h.most (row_lt b.K (word (lifted b)) i))
  found_same (radius c) z =
      let l = centre_fits (length b.row) b.K c z in
      let high : c ≤ 2 * length (lifted b) + 1 = omega (arith, l.1, lifted_length b.lifts b.row) in
      rw (held_picks h, stored_centre h) (ap (λ x. gives (x ∷ [])) (radius_right (radii h) c l.0 high))
  found_same (nextAsked c) z = rw (held_picks h) (ap (λ o. reply (or_no_ending o) []) (next_right (endings h.arrays.iterates) c))
  found_same (fold i k output) z =
      let l = record_fits (length b.row) b.K i k z in
      ap (λ o. record_reply (word d.letters) i o output) (split_held_lem h k i l.most l.prefix)
      ∙ record_found (word (lifted b)) k i output (λ j m. h.letters j (omega (arith, l.prefix)))
  found_same (lift letter) z = ap (λ t. gives (lift_in t letter ∷ [])) h.lifts

  computed_same : (q : Query) → computed_to d q ≡ reply_to b (ask q)
  unfolding computed_to reply_to
  computed_same q =
      ap₂ (λ n K. unless (refusal_of n K (ask q)) (lent (ask q)) (found_in d q)) h.picks h.sections
      ∙ unless_as (refusal_of (length b.row) b.K (ask q)) (lent (ask q)) _ _ (found_same q)

pub reads : (d : Draft) (q : Query) (r : Reply) → r ≡ computed_to d q → Reads d q r
reads d q r e = record { meaning = λ b h. e ∙ computed_same h q; computes = e }
