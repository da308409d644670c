-- Proposition 3: the gathered value of each place after one more pick, whichever way values are joined (the paper, Section 4).
use Rattle.std.specs.Prelude.{◌≡◌}
use Rattle.std.proofs.Math.Path.{refl, sym, ap}
use Rattle.std.proofs.Common.{◌∙◌}
use Prim.Native.Nat.{ℕ, suc, ◌+◌, ◌-◌, ◌*◌, ◌≤◌, ◌<◌}
use native.Mathlib.Omega.{arith}
use Rattle.std.proofs.Math.Decide.{dec_le, dec_lt, ℕ_discrete}
use Rattle.words.specs.Definitions.{Ending, LeastPeriod, Leading, LastLead, NextLeading, Cubic, next_leading}
use Rattle.words.specs.Search.{largest, largest_eq, largest_one, largest_on, smallest, smallest_one}
use Rattle.words.specs.Mirror.{mirror}
use Rattle.words.specs.Periods.{shorter, window, overlap, extend, retract}
use Rattle.words.specs.Computed.{leading?, leads_from?, cubic?, least_period, join_steps, later_places, gather_over, gathered, mended, updated}
use Rattle.words.proofs.Laws.{least_period_lem, leads_own, last_lead}
use Rattle.words.proofs.Lengths.{places_end, places_one, places_more}
use Rattle.words.proofs.Series.{period_fits, next_is}

-- The key: a leading ending of three periods or more, and the stretch with the same start that is one period shorter
module _ {w : ℕ → ℕ} {n len m k p : ℕ} (L : Leading w n len) (a : LeastPeriod w n len p) (s : m + p ≡ n) (t : k + p ≡ len) (l : 2 * p ≤ k) where
  pub before_least : LeastPeriod w m k p
  before_least = record {
    is = record { fits = omega (arith, a.is.fits); pos = a.is.pos; same = λ i j c. a.is.same i j (omega arith) };
    least = λ q h. elim (dec_le p q) [
      | yes y ↦ y
      | no y ↦ a.least q (window a.is h (omega arith) (omega arith) (omega arith))
    ];
  }

  pub before_leading : Leading w m k
  before_leading = record {
    is = retract L.is a.is s t;
    leads = λ j q f h b. elim (dec_lt k (2 * q)) [
      | yes y ↦ y
      | no y ↦
          let x = before_least.least q (shorter b (omega arith)) in
          let c = window b before_least.is (omega arith) (omega arith) (omega arith) in
          let d = overlap {r = j + p} c a.is (omega arith) (omega arith) (omega arith) in
          absurd (omega (arith, a.is.pos, L.leads (j + p) p (extend f d s refl (omega arith)) (omega arith) d))
    ];
  }

  -- between the two no ending starts there
  pub none_between : {i j : ℕ} → Ending w i j → i + k ≡ m + j → m < i → i < n → ⊥
  none_between {i} f e g h = omega (
    arith,
    a.least (n - i) (record {
      fits = a.is.fits;
      pos = omega arith;
      same = λ x y c. let r : ℕ = n + n - len - 1 - y in mirror f x r (omega (arith, a.is.fits)) ∙ mirror L.is r y (omega (arith, a.is.fits));
    }),
  )

-- Gathered values

module _ (op : ℕ → ℕ → ℕ) (r w : ℕ → ℕ) where
  pub gather_over_is : (i j len p : ℕ) → i + len ≡ j → 0 < len → LeastPeriod w j len p → gather_over op r w i j ≡ join_steps op r i p (later_places len p)
  unfolding gather_over
  gather_over_is i j len p e h a =
      let z : j - i ≡ len = omega arith in
      let y : least_period w j len ≡ p = smallest_one (least_period_lem {w = w} {n = j} len h (omega arith)) a in
      rw (z, y)

  pub gather_over_own : (i : ℕ) → gather_over op r w i i ≡ r i
  unfolding gather_over join_steps least_period smallest
  gather_over_own i = let z : i - i ≡ 0 = omega arith in rw z

  pub gathered_over : (n i j : ℕ) → LastLead w n i j → gathered op r w n i ≡ gather_over op r w i j
  unfolding gathered
  gathered_over n i j h = ap (gather_over op r w i) (largest_eq (leads_from? w i) h)

  -- document 01's sentence: j the largest, p its least period, d the next shorter leading length, the values from i by steps of p to j - d - p
  pub gathered_is : (n i j p d : ℕ) → LastLead w n i j → i < j → LeastPeriod w j (j - i) p → NextLeading w j (j - i) d
      → (c : ℕ) × (i + c * p + d + p ≡ j) × (gathered op r w n i ≡ join_steps op r i p c)
  gathered_is n i j p d h l a b =
      let L : Leading w j (j - i) = h.is.is in
      let some : 0 < j - i = omega arith in
      let e : d ≡ next_leading (j - i) p = largest_one b (next_is L a some) in
      let c : ℕ = later_places (j - i) p in
      let s : i + c * p + d + p ≡ j = omega (arith, places_end (j - i) p a.is.pos (period_fits L a some)) in
      (c, s, gathered_over n i j h ∙ gather_over_is i j (j - i) p (omega arith) some a)

  -- the last place has its own value
  pub gathered_own : (n : ℕ) → gathered op r w n n ≡ r n
  gathered_own n = gathered_over n n n (record { below = omega arith; is = leads_own w n; most = λ j h l. omega arith }) ∙ gather_over_own n

  mended_own : (n old : ℕ) → mended op r n (n - n) (least_period w n (n - n)) old ≡ r n
  unfolding mended cubic? least_period smallest
  mended_own n old = let z : n - n ≡ 0 = omega arith in rw z (ap r (omega arith))

  -- unchanged where no leading ending starts
  pub gathered_kept : (m i : ℕ) → i ≤ m → (Leading w (suc m) (suc m - i) → ⊥) → gathered op r w (suc m) i ≡ gathered op r w m i
  gathered_kept m i h f =
      let j : ℕ = largest (leads_from? w i) (suc m) in
      let a : LastLead w m i j = last_lead w m i h in
      let b : LastLead w (suc m) i j = largest_on (omega arith) (λ x y c g. f (let z : x ≡ suc m = omega arith in rw z at g.is)) a in
      gathered_over (suc m) i j b ∙ sym (gathered_over m i j a)

  module _ (m i len p : ℕ) (e : i + len ≡ suc m) (some : 0 < len) (L : Leading w (suc m) len) (a : LeastPeriod w (suc m) len p) where
    leads_here : LastLead w (suc m) i (suc m)
    leads_here =
        let z : suc m - i ≡ len = omega arith in
        record { below = omega arith; is = record { from = omega arith; is = rw z L }; most = λ j h l. omega arith }

    pub gathered_series : gathered op r w (suc m) i ≡ join_steps op r i p (later_places len p)
    gathered_series = gathered_over (suc m) i (suc m) leads_here ∙ gather_over_is i (suc m) len p e some a

    -- the own value where three periods do not fit
    gathered_short : len < 3 * p → gathered op r w (suc m) i ≡ r i
    unfolding join_steps
    gathered_short h = gathered_series ∙ ap (join_steps op r i p) (places_one len p a.is.pos (period_fits L a some) h)

    -- the old value joined with that of place n - d - p where they do
    gathered_long : 3 * p ≤ len → gathered op r w (suc m) i ≡ op (gathered op r w m i) (r (suc m - next_leading len p - p))
    unfolding join_steps
    gathered_long h =
        let k : ℕ = len - p in
        let j : ℕ = suc m - p in
        let pos : 0 < p = a.is.pos in
        let s : j + p ≡ suc m = omega arith in
        let t : k + p ≡ len = omega arith in
        let l : 2 * p ≤ k = omega arith in
        let c : later_places len p ≡ suc (later_places k p) = places_more len p k pos t l in
        let old : gathered op r w m i ≡ join_steps op r i p (later_places k p) =
        gathered_over m i j (was j k (omega arith) s t l)
        ∙ gather_over_is i j k p (omega arith) (omega arith) (before_least L a s t l) in
        let place : i + suc (later_places k p) * p ≡ suc m - next_leading len p - p =
        omega (arith, places_end len p pos (omega arith), ap (λ x. x * p) c) in
        gathered_series ∙ ap (join_steps op r i p) c ∙ rw (old, place)
      where
        was : (j k : ℕ) → i + k ≡ j → j + p ≡ suc m → k + p ≡ len → 2 * p ≤ k → LastLead w m i j
        was j k x s t l =
            let z : j - i ≡ k = omega arith in
            record {
              below = omega (arith, a.is.pos);
              is = record { from = omega arith; is = rw z (before_leading L a s t l) };
              most = λ y g b. elim (dec_le y j) [
                | yes q ↦ q
                | no q ↦ absurd (none_between L a s t l g.is.is (omega (arith, g.from)) (omega arith) b)
              ];
            }

    -- at a place where a leading ending starts
    pub gathered_mended : gathered op r w (suc m) i ≡ mended op r (suc m) len p (gathered op r w m i)
    unfolding mended
    gathered_mended = go (cubic? len p) refl
      where
        go : (d : Dec (Cubic len p)) → cubic? len p ≡ d → gathered op r w (suc m) i ≡ mended op r (suc m) len p (gathered op r w m i)
        go (yes h) q = rw (q, mended) (gathered_long (omega arith) ∙ ap (op (gathered op r w m i)) (ap r (omega arith)))
        go (no h) q = rw (q, mended) (gathered_short (omega arith) ∙ ap r (omega arith))

  -- PROPOSITION 3: every place of the prefix with one pick more, visited or not
  pub proposition_3 : (m i : ℕ) → i ≤ suc m → gathered op r w (suc m) i ≡ updated op r w (suc m) i (gathered op r w m i)
  unfolding updated
  proposition_3 m i h = go (leading? w (suc m) (suc m - i)) refl (ℕ_discrete i (suc m))
    where
      go : (d : Dec (Leading w (suc m) (suc m - i))) → leading? w (suc m) (suc m - i) ≡ d → Dec (i ≡ suc m)
          → gathered op r w (suc m) i ≡ updated op r w (suc m) i (gathered op r w m i)
      go (no f) q (yes e) = absurd (f (rw e (leads_own w (suc m)).is))
      go (no f) q (no e) = rw (q, updated) (gathered_kept m i (omega arith) f)
      go (yes L) q (no e) = rw (q, updated)
          (gathered_mended m i (suc m - i) (least_period w (suc m) (suc m - i)) (omega arith) (omega arith) L (least_period_lem {w = w} {n = suc m} (suc m - i) (omega arith) (omega arith)))
      go (yes L) q (yes e) = rw (q, updated, e) (gathered_own (suc m) ∙ sym (mended_own (suc m) (gathered op r w m (suc m))))
