-- The iterator's invariant: one letter more keeps it, and what it answers (the paper, Proposition 1).
use Rattle.std.specs.Prelude.{◌≡◌, true, false, List}
use Rattle.std.proofs.Common.{◌∙◌, le-leb, eq-eqb, ne_eqb, get_or-set_same, get_or-set_other}
use Prim.Native.Nat.{ℕ, suc, ◌+◌, ◌*◌, ◌-◌, ◌/◌, ◌≤◌, ◌<◌}
use native.Mathlib.Omega.{arith}
use Rattle.std.proofs.Math.Decide.{dec_le, dec_lt, ℕ_discrete}
use Rattle.std.proofs.Math.ListN.{length-set}
use Rattle.std.proofs.lemmas.Bool.{lt-leb}
use Rattle.words.proofs.Cases.{true_false}
use Rattle.words.specs.Definitions.{most_picks, length_at, LeastPeriod}
use Rattle.words.specs.Periods.{whole_period}
use Rattle.words.specs.Prefixes.{Agree}
use Rattle.words.proofs.Prefixes.{agree_back}
use Rattle.words.specs.Computed.{longest_centre, radius_at}
use Rattle.models.specs.Centres.{EndingAt, Widest, NextEndingAt}
use Rattle.models.proofs.Centres.{at_as, longest_centre_at, next_least, radius_widest}
use Rattle.models.specs.Reflection.{StartsAt}
use Rattle.models.proofs.Reflection.{empty_at}
use Rattle.models.proofs.Linked.{linked_as, linked_from}
use Rattle.models.specs.Iterator.{Iterator, radius_of, longest_of, last_centre, is_ending, period_at, Scanned, links, unlinks, scan_of, lengthened, lost_place, lost_head, appended}
use Rattle.models.specs.Stores.{at}
use Rattle.models.specs.Scanning.{LastWith, Radii, Stretches, Found}
use Rattle.models.proofs.Scanning.{stretches_as, scan_begin, scan_right, reflected_widest}
use Rattle.models.specs.Unlinking.{Chain, Old}
use Rattle.models.proofs.Unlinking.{lengthens, left_begin, unlinks_right}
use Rattle.models.specs.Iterating.{Iterates, Cleared}

-- a centre that is the longest ending's is in range
pub in_range : {w : ℕ → ℕ} {n s : ℕ} {R : List ℕ} → Radii w n s R → longest_of n s ≡ s
in_range h = omega (arith, h.longest.is.low, h.longest.is.high)

-- One letter more

module _ {w : ℕ → ℕ} (v : ℕ → ℕ) (n pick : ℕ) (t : Iterator) (h : Iterates w n t) (small : n < most_picks) (f : Agree w v n) (e : v n ≡ pick) where
  before : Stretches v n t.longest t.radius t.heads t.lends
  before = stretches_as f h.stretches

  found : Found v n t.longest (scan_of t n pick)
  found = rw (in_range before.radii)
      (scan_right v t.letters n pick t.longest small (λ i x. h.letters i x ∙ f i x) e before.radii.longest.is
      (2 * n + 2 - t.longest) (scan_begin before) (omega arith) (omega (arith, before.radii.longest.is.high)))

  -- the list of the endings, with the two short ones of the longer text
  longer : Chain (Old v n) t.longest (2 * n + 3) (lengthened (links t.next t.prev) n)
  longer = lengthens {l = links t.next t.prev} small (record {
    next = h.chain.next;
    prev = h.chain.prev;
    list = linked_as (λ c _. at_as f (omega arith)) (λ c _. at_as (agree_back f) (omega arith)) h.chain.list;
  })

  chained : Chain (EndingAt v (suc n)) (scan_of t n pick).longest (2 * n + 3)
      (unlinks (scan_of t n pick).lends (scan_of t n pick).longest (lost_head (scan_of t n pick).heads n (scan_of t n pick).longest)
      (lost_head (scan_of t n pick).heads n (scan_of t n pick).longest)
      (lengthened (links t.next t.prev) n))
  chained = go (scan_of t n pick) found
    where
      go : (g : Scanned) → Found v n t.longest g
          → Chain (EndingAt v (suc n)) g.longest (2 * n + 3)
          (unlinks g.lends g.longest (lost_head g.heads n g.longest) (lost_head g.heads n g.longest)
          (lengthened (links t.next t.prev) n))
      go g q =
          let s : ℕ = g.longest in
          let t₁ : ℕ = lost_place n s in
          let p : t₁ + suc n ≡ s = omega (arith, q.stretches.radii.longest.is.low) in
          let old : Old v n s = λ x y. q.was (elim (dec_lt s (2 * n + 2)) [ yes z ↦ z | no z ↦ absurd (y (omega (arith, q.high))) ]) in
          let d : LastWith (StartsAt v (suc n) t₁) s (lost_head g.heads n s) = q.stretches.lends.head t₁ (omega (arith, q.high)) in
          unlinks_right q.stretches small q.high t₁ p (lost_head g.heads n s) (lost_head g.heads n s) (lengthened (links t.next t.prev) n)
          (omega arith) d.below d.is
          (record {
            next = longer.next;
            prev = longer.prev;
            list = left_begin q.stretches small q.high t₁ p d (linked_from s old q.low (omega (arith, q.high)) longer.list);
          })

  -- PROPOSITION 1: append keeps the invariant, for the word with one more letter
  pub keeps : Iterates v (suc n) (appended t n pick)
  unfolding appended
  keeps =
      let z : 2 * suc n + 1 ≡ 2 * n + 3 = omega arith in
      record {
        size = omega (arith, length-set t.letters n pick, h.size);
        letters = λ i x. elim (ℕ_discrete i n) [
          | yes y ↦ rw y (omega (arith, get_or-set_same t.letters n pick 0 (omega (arith, h.size)), e))
          | no y ↦ get_or-set_other t.letters n i pick 0 y ∙ h.letters i (omega arith) ∙ f i (omega arith)
        ];
        stretches = found.stretches;
        chain = rw z chained;
      }

  -- no append makes the longest ending's centre smaller
  pub rises : t.longest ≤ (appended t n pick).longest
  unfolding appended
  rises = found.low

pub iterates_none : (w : ℕ → ℕ) {t : Iterator} → Cleared t → Iterates w 0 t
iterates_none w {t} h =
    let one : EndingAt w 0 1 = empty_at 0 in
    record {
      size = h.size;
      letters = λ i l. absurd (omega arith);
      stretches = rw h.longest (record {
        sizes = record { radius = h.radius; heads = h.heads; lends = h.lends };
        radii = record {
          longest = record { is = one; first = λ c l e. omega (arith, e.low) };
          widest = λ c l m. let e : c ≡ 1 = omega arith in rw (e, h.none) (record { is = one; fits = omega arith; most = λ k x y. omega arith });
        };
        lends = record {
          head = λ i l. rw (h.clear i l) (record { below = omega arith; is = λ x. absurd (omega arith); most = λ x y z. omega arith });
          rest = λ x i l f. absurd (omega (arith, f.sum));
        };
      });
      chain = rw h.longest (record {
        next = h.next;
        prev = h.prev;
        list = record { first = one; last = one; order = omega arith; fore = λ c q l m. absurd (omega arith); aft = λ c q l m. absurd (omega arith) };
      });
    }

-- The answers

module _ {w : ℕ → ℕ} {n s : ℕ} {R : List ℕ} (h : Radii w n s R) where
  -- maxPal
  pub longest_right : longest_of n s ≡ longest_centre w n
  longest_right = omega (arith, in_range h, longest_centre_at h.longest)

  pub widest_right : (c : ℕ) → 0 < c → c ≤ 2 * n + 1 → Widest w n c (c / 2 + radius_of R n s c)
  widest_right c a b = elim (dec_le c s) [
    | yes x ↦ simp (le-leb _ _ x) (h.widest c a x)
    | no x ↦ simp (lt-leb c s (omega arith)) (reflected_widest R c h.longest.is h.widest (omega arith) b)
  ]

  -- rad, at every centre
  pub radius_right : (c : ℕ) → 0 < c → c ≤ 2 * n + 1 → radius_of R n s c ≡ radius_at w n c
  radius_right c a b = omega (arith, radius_widest (widest_right c a b))

  pub first : (c : ℕ) → EndingAt w n c → s ≤ c
  first c e = elim (dec_le s c) [ yes x ↦ x | no x ↦ absurd (h.longest.first c (omega arith) e) ]

  pub ending_true : (c : ℕ) → EndingAt w n c → c ≤ 2 * n → is_ending R n s c ≡ true
  ending_true c e l =
      let r = widest_right c (omega (arith, e.low)) e.high in
      simp (
        le-leb _ _ (first c e),
        le-leb c (last_centre n) (omega arith),
        eq-eqb (radius_of R n s c) (n - c / 2) (omega (arith, r.most n (omega arith) e, r.fits)),
      )

  pub ending_false : (c : ℕ) → (EndingAt w n c → c ≤ 2 * n → ⊥) → is_ending R n s c ≡ false
  ending_false c f = elim (dec_le s c) [
    | no x ↦ simp (lt-leb s c (omega arith))
    | yes x ↦ elim (dec_le c (last_centre n)) [
      | no y ↦ simp (le-leb _ _ x, lt-leb c (last_centre n) (omega arith))
      | yes y ↦
          let low = h.longest.is.low in
          let r = widest_right c (omega arith) (omega arith) in
          simp (le-leb _ _ x, le-leb _ _ y)
          (ne_eqb (radius_of R n s c) (n - c / 2) (λ z. f (let q : c / 2 + radius_of R n s c ≡ n = omega arith in rw q at r.is) (omega arith)))
    ]
  ]

-- on any contents: what passes for an ending that is not empty has a centre of at most 2n
pub ending_high : (R : List ℕ) (n s c : ℕ) → is_ending R n s c ≡ true → c ≤ 2 * n
ending_high R n s c e = elim (dec_le c (last_centre n)) [
  | yes l ↦ omega arith
  | no l ↦ elim (dec_le s c) [
    | yes x ↦ absurd (true_false e (simp (le-leb _ _ x, lt-leb c (last_centre n) (omega arith))))
    | no x ↦ absurd (true_false e (simp (lt-leb s c (omega arith))))
  ]
]

-- the least period of an ending that is not empty
pub period_right : {w : ℕ → ℕ} {n c : ℕ} (N : List ℕ) → EndingAt w n c → c ≤ 2 * n → NextEndingAt w n c (at N c)
    → LeastPeriod w n (length_at n c) (period_at N c (length_at n c))
period_right {w} {n} {c} N e l h =
    let a : LeastPeriod w n (length_at n c) (at N c - c) = next_least e h in
    let z : period_at N c (length_at n c) ≡ at N c - c =
    omega (arith, a.is.pos, a.least (length_at n c) (whole_period (omega (arith, e.low)) (omega arith))) in
    rw z a
