-- Mirrored stretches by their centre and their last pick: the bridge to `words`.
use Rattle.std.specs.Prelude.{◌≡◌, ℕ, ◌+◌, ◌*◌, ◌-◌, ◌/◌, ◌≤◌, ◌<◌}
use Rattle.std.proofs.Common.{sym, ◌∙◌, arith}
use Rattle.std.proofs.Math.Decide.{dec_le}
use Rattle.words.specs.Definitions.{length_at, LeastPeriod, Ending, LongestEnding, NextEnding, Mirrored}
use Rattle.words.specs.Search.{largest_one}
use Rattle.words.specs.Mirror.{mirror, ending}
use Rattle.words.specs.Prefixes.{Agree}
use Rattle.words.proofs.Prefixes.{agree_back}
use Rattle.words.specs.Periods.{next_period}
use Rattle.words.specs.Computed.{longest_centre, radius_at}
use Rattle.words.proofs.Laws.{longest_is, radius_at_lem}
use Rattle.models.specs.Linked.{Fore}
use Rattle.models.specs.Centres.{EndingAt, Widest, LongestEndingAt, NextEndingAt}

-- as the list of ending centres has it
pub fore_next : {w N P : ℕ → ℕ} {n hi c : ℕ} → Fore N P (EndingAt w n) hi c → NextEndingAt w n c (N c)
fore_next f = record { more = f.more; is = f.to.is; least = f.least }

module _ {w : ℕ → ℕ} where
  -- The bridge: an ending of length len has the centre 2n + 1 - len

  pub ending_at : {n c len : ℕ} → c + len ≡ 2 * n + 1 → Ending w n len → EndingAt w n c
  ending_at s h = record { low = omega (arith, h.fits); high = omega arith; same = λ i j x. mirror h i j (omega arith) }

  pub at_ending : {n c len : ℕ} → c + len ≡ 2 * n + 1 → EndingAt w n c → Ending w n len
  at_ending s h = ending (omega (arith, h.low)) (λ i j x. h.same i j (omega arith))

  pub widest_one : {n c e k : ℕ} → Widest w n c e → Widest w n c k → e ≡ k
  widest_one f g = omega (arith, f.most _ g.fits g.is, g.most _ f.fits f.is)

  -- What `words` computes, by centres

  pub longest_ending : {n s : ℕ} → LongestEndingAt w n s → LongestEnding w n (length_at n s)
  longest_ending {n} {s} h =
      let low : n < s = h.is.low in
      let high : s ≤ 2 * n + 1 = h.is.high in
      record {
        below = omega arith;
        is = at_ending (omega arith) h.is;
        most = λ k e l. elim (dec_le k (length_at n s)) [
          | yes y ↦ y
          | no y ↦ absurd (h.first (2 * n + 1 - k) (omega arith) (ending_at (omega (arith, e.fits)) e))
        ];
      }

  pub longest_centre_at : {n s : ℕ} → LongestEndingAt w n s → longest_centre w n ≡ s
  unfolding longest_centre
  longest_centre_at {n} h = omega (arith, h.is.low, h.is.high, largest_one (longest_is w n) (longest_ending h))

  module _ {n c d : ℕ} (e : EndingAt w n c) (h : NextEndingAt w n c d) where
    pub next_ending_at : NextEnding w n (length_at n c) (length_at n d)
    next_ending_at = record {
      below = omega (arith, h.more, h.is.high);
      is = at_ending (omega (arith, h.is.high)) h.is;
      most = λ k f l. omega (arith, h.least (2 * n + 1 - k) (ending_at (omega (arith, f.fits)) f) (omega arith));
    }

    -- "p ← len(x) - len(nextPal(x))"
    pub next_least : LeastPeriod w n (length_at n c) (d - c)
    next_least =
        let z : length_at n c - length_at n d ≡ d - c = omega (arith, h.more, h.is.high) in
        rw z at (next_period (at_ending (omega (arith, e.high)) e) next_ending_at)

  pub radius_widest : {n c e : ℕ} → Widest w n c e → radius_at w n c ≡ e - c / 2
  radius_widest {n} {c} {e} h =
      let low : e < c = h.is.low in
      let high : c ≤ 2 * e + 1 = h.is.high in
      let fits : e ≤ n = h.fits in
      let r = radius_at_lem w n c (omega arith) (omega arith) in
      let len : ℕ = r.0 in
      let m : Mirrored w n c len = r.1.is in
      let wide : length_at e c ≤ len = r.1.most (length_at e c)
      (record { end = e; within = fits; is = at_ending (omega arith) h.is; at = omega arith }) (omega arith) in
      let narrow : m.end ≤ e = h.most m.end m.within (ending_at (omega (arith, m.at, m.is.fits)) m.is) in
      r.2 ∙ omega (arith, m.at, m.is.fits)

-- What is said of the first n letters depends on these letters only

module _ {w v : ℕ → ℕ} {n : ℕ} (f : Agree w v n) where
  pub at_as : {e c : ℕ} → e ≤ n → EndingAt w e c → EndingAt v e c
  at_as l h = record { low = h.low; high = h.high; same = λ i j x. sym (f i (omega arith)) ∙ h.same i j x ∙ f j (omega arith) }

module _ {w v : ℕ → ℕ} {n : ℕ} (f : Agree w v n) where
  pub widest_as : {c e : ℕ} → Widest w n c e → Widest v n c e
  widest_as h = record { is = at_as f h.fits h.is; fits = h.fits; most = λ k l m. h.most k l (at_as (agree_back f) l m) }

  pub longest_at_as : {s : ℕ} → LongestEndingAt w n s → LongestEndingAt v n s
  longest_at_as h = record { is = at_as f (omega arith) h.is; first = λ c l e. h.first c l (at_as (agree_back f) (omega arith) e) }
