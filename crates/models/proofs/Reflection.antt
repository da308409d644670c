-- Stretches within an ending, reflected at its centre, and stretches after one letter more (the paper, Section 3).
use Rattle.std.specs.Prelude.{◌≡◌, ℕ, suc, ◌+◌, ◌*◌, ◌-◌, min, ◌≤◌, ◌<◌}
use Rattle.std.proofs.Common.{sym, ap, ◌∙◌, arith}
use Rattle.std.proofs.Math.Decide.{dec_le, dec_lt}
use Rattle.words.specs.Prefixes.{Agree}
use Rattle.models.specs.Centres.{EndingAt, Widest}
use Rattle.models.proofs.Centres.{widest_as}
use Rattle.models.specs.Reflection.{StartsAt, Lost}

module _ {w : ℕ → ℕ} where
  -- a narrower stretch with the same centre
  pub narrower : {e k c : ℕ} → EndingAt w e c → k ≤ e → c ≤ 2 * k + 1 → EndingAt w k c
  narrower h l m = record { low = omega (arith, h.low); high = m; same = λ i j p. h.same i j (omega arith) }

  -- in an ending with centre s letter i is letter s - 2 - i
  image : {n s : ℕ} → EndingAt w n s → (i j : ℕ) → (s ≤ i + n + 1) × (i < n) × (s ≤ j + n + 1) × (j < n) → w (s - 2 - i) ≡ w (s - 2 - j) → w i ≡ w j
  image {s = s} a i j x e = a.same i (s - 2 - i) (omega (arith, a.low)) ∙ e ∙ a.same (s - 2 - j) j (omega (arith, a.low))

  -- n closes an ending with centre s; the stretch at c up to k has its image at c' up to k', where both sums are right
  module _ {n s k c k' c' : ℕ} (a : EndingAt w n s) (l : s ≤ c) (m : k ≤ n) (p : c + c' ≡ s + s) (q : k + s ≡ k' + c) where
    pub reflect : EndingAt w k c → EndingAt w k' c'
    reflect h = record {
      low = omega (arith, h.low, a.low);
      high = omega (arith, h.high);
      same = λ i j x. image a i j (omega (arith, h.low, a.low)) (h.same (s - 2 - i) (s - 2 - j) (omega (arith, h.low, a.low)));
    }

    pub reflect_back : c ≤ 2 * k + 1 → EndingAt w k' c' → EndingAt w k c
    reflect_back b h = record {
      low = omega (arith, h.low, a.low);
      high = b;
      same = λ i j x. image a i j (omega (arith, h.low, a.low)) (h.same (s - 2 - i) (s - 2 - j) (omega (arith, h.low, a.low)));
    }

  -- the widest stretch at c from the one at the reflected centre, cut at the end of the text: "rad(x) = min{r[refl(x, s)], |text| - ⌊x⌋}"
  pub widest_reflect : {n s c c' e e' : ℕ} → EndingAt w n s → s ≤ c → c ≤ 2 * n + 1 → c + c' ≡ s + s → e ≡ min (e' + c - s) n → Widest w n c' e'
      → Widest w n c e
  widest_reflect {n} {s} {c} {c'} {e} {e'} a l m p q h = record {
    is = reflect_back {k' = e + s - c} a l (omega arith) p
        (omega (arith, h.is.low, h.is.high, a.low, a.high))
        (omega (arith, h.is.high, h.is.low, a.low))
        (narrower h.is (omega (arith, h.is.low, h.is.high, a.low)) (omega (arith, h.is.low, h.is.high, a.low)));
    fits = omega arith;
    most = λ k x y. omega (
      arith,
      y.low,
      y.high,
      a.low,
      h.most (k + s - c) (omega (arith, y.low, a.low)) (reflect {k' = k + s - c} a l x p (omega (arith, y.low, y.high, a.low)) y),
    );
  }

  -- and back, for a stretch that does not close the text
  pub widest_back : {n s c c' e e' : ℕ} → EndingAt w n s → s ≤ c → c + c' ≡ s + s → e + s ≡ e' + c → e < n → Widest w n c e → Widest w n c' e'
  widest_back {n} {s} {c} {c'} {e} {e'} a l p q b h = record {
    is = reflect a l (omega arith) p q h.is;
    fits = omega arith;
    most = λ k x y. elim (dec_le k e') [
      | yes z ↦ z
      | no z ↦ absurd (omega (
        arith,
        h.most (e + 1) (omega arith)
            (reflect_back {k' = e' + 1} a l (omega arith) p (omega arith) (omega (arith, h.is.high))
            (narrower y (omega arith) (omega (arith, h.is.high)))),
      ))
    ];
  }

  -- One letter more

  -- an ending goes on where the letter before it is the new one
  pub goes_on_lem : {n c i : ℕ} → EndingAt w n c → n + 2 + i ≡ c → w i ≡ w n → EndingAt w (suc n) c
  goes_on_lem {n} {c} {i} h p q = record {
    low = omega arith;
    high = omega (arith, h.high);
    same = λ x y z. elim (dec_lt x n) [
      | yes f ↦ elim (dec_lt y n) [
        | yes g ↦ h.same x y (omega arith)
        | no g ↦ ap w (omega arith) ∙ q ∙ ap w (omega arith)
      ]
      | no f ↦ elim (dec_lt y n) [
        | yes g ↦ ap w (omega arith) ∙ sym q ∙ ap w (omega arith)
        | no g ↦ ap w (omega arith)
      ]
    ];
  }

  pub went_on : {n c : ℕ} (i : ℕ) → n + 2 + i ≡ c → c ≤ 2 * n + 1 → EndingAt w (suc n) c → w i ≡ w n
  went_on {n} {c} i p b h = h.same i n (omega (arith, h.low, h.high))

  -- the widest stretch at a centre is the same with one letter more, where no ending of the longer text has that centre
  pub stays : {n c e : ℕ} → Widest w n c e → (EndingAt w (suc n) c → ⊥) → Widest w (suc n) c e
  stays {n} {c} {e} h f = record {
    is = h.is;
    fits = omega (arith, h.fits);
    most = λ k x y. elim (dec_le k n) [ yes z ↦ h.most k z y | no z ↦ absurd (f (let q : k ≡ suc n = omega arith in rw q at y)) ];
  }

  pub stayed : {n c e : ℕ} → Widest w (suc n) c e → (EndingAt w (suc n) c → ⊥) → Widest w n c e
  stayed {n} {c} {e} h f = record {
    is = h.is;
    fits = elim (dec_le e n) [ yes y ↦ y | no y ↦ absurd (f (let q : e ≡ suc n = omega (arith, h.fits) in rw q at h.is)) ];
    most = λ k l m. h.most k (omega arith) m;
  }

  -- the endings of one pick and of none
  pub single_at : (n : ℕ) → EndingAt w (suc n) (2 * n + 2)
  single_at n = record { low = omega arith; high = omega arith; same = λ i j x. ap w (omega arith) }

  pub empty_at : (n : ℕ) → EndingAt w n (2 * n + 1)
  empty_at n = record { low = omega arith; high = omega arith; same = λ i j x. absurd (omega arith) }

pub starts_as : {w v : ℕ → ℕ} {n i x : ℕ} → Agree w v n → StartsAt w n i x → StartsAt v n i x
starts_as f h = record { end = h.end; sum = h.sum; widest = widest_as f h.widest }

-- "Since text[t..|text|] is a palindrome, we have lend[t] = {refl(x, s) : x ∈ S}": i is t, s the longest ending's centre
module _ {w : ℕ → ℕ} {n s i : ℕ} (a : EndingAt w (suc n) s) (t : i + suc n ≡ s) {x c : ℕ} (p : c + x ≡ s + s) where
  pub starts_lost : x < s → StartsAt w (suc n) i x → Lost w n c
  starts_lost l h =
      let r : Widest w (suc n) c n = widest_reflect a (omega arith) (omega (arith, h.sum, h.widest.is.high, a.high)) p
      (omega (arith, h.sum, h.widest.is.low)) h.widest in
      record { was = r.is; over = λ y. omega (arith, r.most (suc n) (omega arith) y) }

  pub lost_starts : s < c → Lost w n c → StartsAt w (suc n) i x
  lost_starts l h =
      let r : Widest w (suc n) c n = record {
        is = h.was;
        fits = omega arith;
        most = λ k y z. elim (dec_le k n) [ yes q ↦ q | no q ↦ absurd (h.over (narrower z (omega arith) (omega (arith, h.was.high)))) ];
      } in
      record {
        end = n + s - c;
        sum = omega (arith, h.was.low, h.was.high, a.low, a.high);
        widest = widest_back a (omega arith) p (omega (arith, h.was.low, h.was.high, a.low)) (omega arith) r;
      }
