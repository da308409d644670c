-- The scan finds the longest ending, and keeps the radii and the lend lists right (the paper, Section 3, lines 2 to 7).
use Rattle.std.specs.Prelude.{◌≡◌, Bool, List, set}
use Rattle.std.proofs.Math.Path.{refl}
use Rattle.std.proofs.Common.{sym, ◌∙◌, length-set, get_or-set_same, get_or-set_other}
use Rattle.std.proofs.Math.Bool.{true, false}
use Prim.Native.Nat.{ℕ, zero, suc, ◌+◌, ◌*◌, ◌-◌, ◌/◌, ◌≤◌, ◌<◌}
use native.Mathlib.Omega.{arith}
use Rattle.std.proofs.Math.Decide.{ℕ_discrete}
use Rattle.cells.specs.Lanes.{place_entries}
use Rattle.words.specs.Definitions.{most_picks}
use Rattle.words.specs.Prefixes.{Agree}
use Rattle.words.proofs.Prefixes.{agree_back}
use Rattle.models.specs.Centres.{EndingAt, Widest}
use Rattle.models.proofs.Centres.{widest_one, widest_as, longest_at_as}
use Rattle.models.specs.Reflection.{StartsAt}
use Rattle.models.proofs.Reflection.{narrower, widest_reflect, goes_on_lem, went_on, stays, stayed, single_at, starts_as}
use Rattle.models.specs.Iterator.{start, reflected_radius, extends, scanned, scan}
use Rattle.models.specs.Stores.{at, Extends}
use Rattle.models.proofs.Stores.{extends_true, extends_false}
use Rattle.models.specs.Scanning.{LastWith, reach, Lends, Stretches, ScanAt, Found}

pub last_with_as : {P Q : ℕ → Type 0} {s v : ℕ} → ((x : ℕ) → x < s → P x → Q x) → ((x : ℕ) → x < s → Q x → P x) → LastWith P s v → LastWith Q s v
last_with_as {v = v} f g h = record { below = h.below; is = λ l. f v h.below (h.is l); most = λ x q l. h.most x (λ z. g x l (q z)) l }

-- the invariant depends on the first n letters only
module _ {w v : ℕ → ℕ} {n : ℕ} (f : Agree w v n) where
  pub stretches_as : {s : ℕ} {R H L : List ℕ} → Stretches w n s R H L → Stretches v n s R H L
  stretches_as h = record {
    sizes = h.sizes;
    radii = record { longest = longest_at_as f h.radii.longest; widest = λ c l m. widest_as f (h.radii.widest c l m) };
    lends = record {
      head = λ i l. last_with_as (λ x _. starts_as f) (λ x _. starts_as (agree_back f)) (h.lends.head i l);
      rest = λ x i l e. last_with_as (λ y _. starts_as f) (λ y _. starts_as (agree_back f)) (h.lends.rest x i l (starts_as (agree_back f) e));
    };
  }

-- below the longest ending's centre one letter more changes nothing
module _ {w : ℕ → ℕ} {n s : ℕ} {R H L : List ℕ} (h : Stretches w n s R H L) where
  over : (c : ℕ) → c < s → EndingAt w (suc n) c → ⊥
  over c l e = h.radii.longest.first c l (narrower e (omega arith) (omega (arith, h.radii.longest.is.high)))

  on : (i x : ℕ) → x < s → StartsAt w n i x → StartsAt w (suc n) i x
  on i x l f = record { end = f.end; sum = f.sum; widest = stays f.widest (over x l) }

  off : (i x : ℕ) → x < s → StartsAt w (suc n) i x → StartsAt w n i x
  off i x l f = record { end = f.end; sum = f.sum; widest = stayed f.widest (over x l) }

  pub scan_begin : ScanAt w n s s R H L
  scan_begin = record {
    sizes = h.sizes;
    old = h.radii.widest;
    over = over;
    widest = λ c l m. stays (h.radii.widest c l (omega arith)) (over c m);
    lends = record {
      head = λ i l. last_with_as (on i) (off i) (h.lends.head i l);
      rest = λ x i l f. last_with_as (λ y m. on i y (omega arith)) (λ y m. off i y (omega arith)) (h.lends.rest x i l (off i x l f));
    };
  }

-- the radius of every centre from the longest ending's on, by reflection: c' is the image of c
pub reflected_widest : {w : ℕ → ℕ} {n s : ℕ} (R : List ℕ) (c : ℕ) → EndingAt w n s → ((x : ℕ) → 0 < x → x ≤ s → Widest w n x (reach R x))
    → s ≤ c → c ≤ 2 * n + 1 → Widest w n c (c / 2 + reflected_radius R n s c)
reflected_widest {s = s} R c e f l m =
    let low = e.low in
    widest_reflect {c' = 2 * s - c} e l m (omega arith) (omega arith) (f (2 * s - c) (omega arith) (omega arith))

-- from is the longest ending's centre of the first n letters of w; the next letter is pick
module _ (w : ℕ → ℕ) (letters : List ℕ) (n pick from : ℕ) (small : n < most_picks)
    (known : (i : ℕ) → i < n → at letters i ≡ w i) (new : w n ≡ pick) (ends : EndingAt w n from) where
  module _ {c r : ℕ} (g : Widest w n c (c / 2 + r)) (l : c < 2 * n + 2) where
    extended : Extends letters n c r pick → EndingAt w (suc n) c
    extended m =
        let e : EndingAt w n c = rw m.closes at g.is in
        goes_on_lem e (omega (arith, m.closes, m.inside, g.is.low))
        (sym (known (start c r - 1) (omega (arith, m.closes, m.inside, g.is.low, g.is.high))) ∙ m.same ∙ sym new)

    not_extended : (Extends letters n c r pick → ⊥) → EndingAt w (suc n) c → ⊥
    not_extended f e =
        let o : EndingAt w n c = narrower e (omega arith) (omega arith) in
        let k : c / 2 + r ≡ n = omega (arith, g.most n (omega arith) o, g.fits) in
        f (record {
          closes = k;
          inside = omega (arith, e.low);
          same = known (start c r - 1) (omega (arith, e.low, e.high)) ∙ went_on (start c r - 1) (omega (arith, e.low, o.low)) (omega arith) e
              ∙ new;
        })

  -- going on keeps it
  module _ {c i : ℕ} (r : ℕ) {R H L : List ℕ} (h : ScanAt w n from c R H L) (g : Widest w (suc n) c (c / 2 + r)) (was : Widest w n c (c / 2 + r))
      (e : i ≡ start c r)
      (out : EndingAt w (suc n) c → ⊥) where
    c_small : c ≤ 2 * n + 1
    c_small = omega (arith, was.is.high, was.fits)

    here : at (set R c r) c ≡ r
    here = get_or-set_same R c r 0 (omega (arith, h.sizes.radius, c_small))

    starts : StartsAt w (suc n) i c
    starts = record { end = c / 2 + r; sum = omega (arith, g.is.low, g.is.high); widest = g }

    i_small : i < place_entries
    i_small = omega (arith, g.is.low, g.is.high, c_small)

    only : (j : ℕ) → StartsAt w (suc n) j c → j ≡ i
    only j x = omega (arith, x.sum, starts.sum, widest_one x.widest g)

    kept_lends : Lends w (suc n) (c + 1) (set H i c) (set L c (at H i))
    kept_lends = record {
      head = λ j x. elim (ℕ_discrete j i) [
        | yes z ↦ rw (z, get_or-set_same H i c 0 (omega (arith, h.sizes.heads, i_small)))
            (record { below = omega arith; is = λ _. starts; most = λ y p q. omega arith })
        | no z ↦ rw (get_or-set_other H i j c 0 z) (
            let o = h.lends.head j x in
            record {
              below = omega (arith, o.below);
              is = o.is;
              most = λ y p q. elim (ℕ_discrete y c) [
                | yes k ↦ absurd (z (only j (rw k at (p (omega (arith, starts.sum))))))
                | no k ↦ o.most y p (omega arith)
              ];
            })
      ];
      rest = λ x j y p. elim (ℕ_discrete x c) [
        | yes z ↦
            let k : j ≡ i = only j (rw z at p) in
            rw (z, k, get_or-set_same L c (at H i) 0 (omega (arith, h.sizes.lends, c_small))) (h.lends.head i i_small)
        | no z ↦ rw (get_or-set_other L c x (at H i) 0 z) (h.lends.rest x j (omega arith) p)
      ];
    }

    scan_kept : ScanAt w n from (c + 1) (set R c r) (set H i c) (set L c (at H i))
    scan_kept = record {
      sizes = record {
        radius = length-set R c r ∙ h.sizes.radius;
        heads = length-set H i c ∙ h.sizes.heads;
        lends = length-set L c (at H i) ∙ h.sizes.lends;
      };
      old = λ d x y. elim (ℕ_discrete d c) [
        | yes z ↦ rw (z, here) was
        | no z ↦ rw (get_or-set_other R c d r 0 z) (h.old d x y)
      ];
      over = λ d x. elim (ℕ_discrete d c) [
        | yes z ↦ rw z out
        | no z ↦ h.over d (omega arith)
      ];
      widest = λ d x y. elim (ℕ_discrete d c) [
        | yes z ↦ rw (z, here) g
        | no z ↦ rw (get_or-set_other R c d r 0 z) (h.widest d x (omega arith))
      ];
      lends = kept_lends;
    }

  -- the scan stops at c
  scan_stop : {c : ℕ} (r : ℕ) {R H L : List ℕ} → ScanAt w n from c R H L → EndingAt w (suc n) c → c ≤ 2 * n + 2 → c / 2 + r ≡ suc n
      → Found w n c (scanned c (set R c r) H L)
  scan_stop {c} r {R} {H} {L} h e b k = record {
    stretches = record {
      sizes = record { radius = length-set R c r ∙ h.sizes.radius; heads = h.sizes.heads; lends = h.sizes.lends };
      radii = record {
        longest = record { is = e; first = h.over };
        widest = λ x y z. elim (ℕ_discrete x c) [
          | yes q ↦ rw (q, get_or-set_same R c r 0 (omega (arith, h.sizes.radius)), k) (record { is = e; fits = omega arith; most = λ _ l _. l })
          | no q ↦ rw (get_or-set_other R c x r 0 q) (h.widest x y (omega arith))
        ];
      };
      lends = h.lends;
    };
    low = omega arith;
    high = b;
    was = λ q. narrower e (omega arith) (omega arith);
  }

  pub scan_right : (k : ℕ) {c : ℕ} {R H L : List ℕ} → ScanAt w n from c R H L → from ≤ c → c + k ≡ 2 * n + 2
      → Found w n c (scan letters n pick from k c R H L)
  unfolding scan
  scan_right zero {c} {R} {H} {L} h b e =
      let q : c ≡ 2 * n + 2 = omega arith in
      scan_stop 0 h (rw q (single_at n)) (omega arith) (omega arith)
  scan_right (suc k) {c} {R} {H} {L} h b e =
      let was : Widest w n c (c / 2 + reflected_radius R n from c) = reflected_widest R c ends h.old b (omega arith) in
      both (extends letters n c (reflected_radius R n from c) pick) refl was
      (λ out. scan_right k (scan_kept (reflected_radius R n from c) h (stays was out) was refl out) (omega arith) (omega arith))
    where
      both : (t : Bool) → extends letters n c (reflected_radius R n from c) pick ≡ t → Widest w n c (c / 2 + reflected_radius R n from c)
          → ((EndingAt w (suc n) c → ⊥)
          → Found w n (c + 1)
          (scan letters n pick from k (c + 1) (set R c (reflected_radius R n from c)) (set H (start c (reflected_radius R n from c)) c)
          (set L c (at H (start c (reflected_radius R n from c))))))
          → Found w n c (scan letters n pick from (suc k) c R H L)
      both true q was _ =
          let m = extends_true letters n c (reflected_radius R n from c) pick q in
          simp q (scan_stop (reflected_radius R n from c + 1) h (extended was (omega arith) m) (omega arith) (omega (arith, m.closes)))
      both false q was next =
          simp q (
          let f = next (not_extended was (omega arith) (extends_false letters n c (reflected_radius R n from c) pick q)) in
          record { stretches = f.stretches; low = omega (arith, f.low); high = f.high; was = f.was })
