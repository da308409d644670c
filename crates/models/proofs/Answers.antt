-- That the iterator's functions keep their promises, for every word that the arrays hold.
use Rattle.std.specs.Prelude.{◌≡◌, List, ℕ, ◌+◌, ◌*◌, ◌≤◌, ◌<◌}
use Rattle.std.proofs.Common.{ap, ap₂, ◌∙◌, arith}
use Rattle.std.proofs.Math.Option.{Option, some}
use Rattle.words.specs.Definitions.{most_picks, centre, length_at}
use Rattle.words.specs.Search.{largest_one, smallest_one}
use Rattle.words.specs.Computed.{least_period, next_ending, NextShorter, next_shorter, shorter_after, next_after}
use Rattle.words.proofs.Laws.{least_period_lem, next_ending_lem, NextAfter, there, nowhere, next_law}
use Rattle.models.specs.Centres.{EndingAt, NextEndingAt}
use Rattle.models.proofs.Centres.{fore_next, ending_at, at_ending, next_ending_at}
use Rattle.models.specs.Iterator.{Iterator, radius_of, longest_of, period_at, appended}
use Rattle.models.specs.Stores.{at}
use Rattle.models.specs.Iterating.{Iterates}
use Rattle.models.proofs.Iterating.{in_range, keeps, first, longest_right, radius_right, ending_true, ending_false, period_right}
use Rattle.models.specs.Answers.{RadiusIs, LongestIs, Endings, shorter_by, next_of, NextIs, AppendsLetter}

pub endings : {w : ℕ → ℕ} {n : ℕ} {t : Iterator} → Iterates w n t → Endings w n t.longest t.radius t.next
endings h = record {
  radii = h.stretches.radii;
  next = λ c e l. fore_next (h.chain.list.fore c e (first h.stretches.radii c e) (omega arith));
}

-- Each follows from what is computed

pub radius_promised : (R : List ℕ) (n s c r : ℕ) → r ≡ radius_of R n (longest_of n s) c → RadiusIs R n s c r
radius_promised R n s c r e = record { meaning = λ w h a b. e ∙ (let z : longest_of n s ≡ s = in_range h in rw z (radius_right h c a b)); computes = e }

pub longest_promised : (n s r : ℕ) → r ≡ longest_of n s → LongestIs n s r
longest_promised n s r e = record { meaning = λ w R h. e ∙ longest_right h; computes = e }

shorter_right : {w : ℕ → ℕ} {n c : ℕ} (N : List ℕ) → EndingAt w n c → c ≤ 2 * n → NextEndingAt w n c (at N c)
    → shorter_by N n c ≡ shorter_after w n (length_at n c)
unfolding shorter_after
shorter_right {w} {n} {c} N e l h =
    let len : ℕ = length_at n c in
    let a = period_right N e l h in
    let p : period_at N c len ≡ least_period w n len = smallest_one a (least_period_lem len (omega arith) a.is.fits) in
    let d : c + period_at N c len ≡ centre n (next_ending w n len) =
    omega (arith, h.more, h.is.high, largest_one (next_ending_lem w n len (omega arith)) (next_ending_at e h)) in
    ap₂ (λ x y. next_shorter x len y) d p

-- whatever the centre
pub next_right : {w : ℕ → ℕ} {n s : ℕ} {R N : List ℕ} → Endings w n s R N → (c : ℕ) → next_of R N n (longest_of n s) c ≡ next_after w n c
next_right {w} {n} {s} {R} {N} h c = rw (in_range h.radii) (go (next_after w n c) (next_law w n c))
  where
    go : (o : Option NextShorter) → NextAfter w n c o → next_of R N n s c ≡ o
    go o (there len q p f z) =
        let a : EndingAt w n c = ending_at (omega (arith, f.fits)) f in
        let b : c ≤ 2 * n = omega (arith, f.fits) in
        let x : length_at n c ≡ len = omega (arith, f.fits) in
        rw (q, ending_true h.radii c a b) (ap some (shorter_right N a b (h.next c a b) ∙ ap (shorter_after w n) x))
    go o (nowhere q f) = rw (
      q,
      ending_false h.radii c
          (λ a b. f (length_at n c) (omega (arith, a.low)) (at_ending (omega (arith, a.low)) a) (omega (arith, a.low))),
    )

pub next_promised : (R N : List ℕ) (n s c : ℕ) (r : Option NextShorter) → r ≡ next_of R N n (longest_of n s) c → NextIs R N n s c r
next_promised R N n s c r e = record { meaning = λ w h. e ∙ next_right h c; computes = e }

pub letter_promised : (n pick : ℕ) (t t' : Iterator) → n < most_picks → t' ≡ appended t n pick → AppendsLetter n pick t t'
letter_promised n pick t t' l e = record { meaning = λ w v h f g. rw e (keeps v n pick t h l f g); computes = e }
