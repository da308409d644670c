-- The walk visits the leading endings, longest first, and leaves every gathered value right (the paper, Proposition 3).
use Rattle.std.specs.Prelude.{◌≡◌, set}
use Rattle.std.proofs.Math.Path.{refl, sym, ap}
use Rattle.std.proofs.Common.{◌∙◌, get_or-set_same, get_or-set_other}
use mathlib.Core.List.{List, [], ◌∷◌}
use Prim.Native.Nat.{ℕ, zero, suc, ◌+◌, ◌-◌, ◌*◌, ◌≤◌, ◌<◌}
use native.Mathlib.Omega.{arith}
use Rattle.std.proofs.Math.Decide.{dec_le, dec_lt, ℕ_discrete}
use Rattle.std.proofs.Math.ListN.{length, length-set}
use Rattle.words.specs.Definitions.{most_picks, most_visits, centre, length_at, LongestEnding, LeastPeriod, Leading, Cubic, next_leading}
use Rattle.words.specs.Search.{passing, passing_with, passing_skip}
use Rattle.words.specs.Computed.{leading?, cubic?, gathered, mended, join_all}
use Rattle.words.proofs.Lengths.{next_third}
use Rattle.words.proofs.Series.{next_is}
use Rattle.words.proofs.FewVisits.{Shrinking, one, next, few, nineteen}
use Rattle.words.proofs.Proposition3.{gathered_kept, gathered_mended}
use Rattle.models.specs.Centres.{EndingAt, LongestEndingAt}
use Rattle.models.proofs.Centres.{fore_next, ending_at, longest_ending}
use Rattle.models.specs.Linked.{Linked}
use Rattle.models.specs.Engine.{period_of, longest_length, Walked, walked, walk}
use Rattle.models.proofs.Iterating.{period_right}
use Rattle.models.specs.Stores.{at}

-- The length of the longest ending

pub longest_length_lem : {w : ℕ → ℕ} {n s : ℕ} → LongestEndingAt w n s → LongestEnding w n (longest_length n s)
longest_length_lem {n = n} {s = s} h = let z : longest_length n s ≡ length_at n s = omega (arith, h.is.low) in rw z (longest_ending h)

-- The least periods, from the list of ending centres

-- the list tells each leading ending's least period
abbrev pub Tells : (ℕ → ℕ) → ℕ → List ℕ → Type 0
Tells w n N = (len : ℕ) → 0 < len → Leading w n len → LeastPeriod w n len (period_of N n len)

module _ {w : ℕ → ℕ} {n : ℕ} where
  pub tells : {P : ℕ → ℕ} {s : ℕ} (N : List ℕ) → Linked (at N) P (EndingAt w n) s (2 * n + 1) → LongestEndingAt w n s → Tells w n N
  unfolding period_of
  tells {P} {s} N list long len some l =
      let c : ℕ = centre n len in
      let fits : len ≤ n = l.is.fits in
      let e : EndingAt w n c = ending_at (omega arith) l.is in
      let low : s ≤ c = elim (dec_le s c) [ yes y ↦ y | no y ↦ absurd (long.first c (omega arith) e) ] in
      let z : length_at n c ≡ len = omega arith in
      rw z at (period_right N e (omega arith) (fore_next (list.fore c e low (omega arith))))

-- The walk on any contents

next_less : (len p : ℕ) → 0 < len → 0 < p → next_leading len p < len
next_less len p h l = omega arith

-- the period is from 1 to len, whatever the list says
period_range : (N : List ℕ) (n len : ℕ) → 0 < len → (0 < period_of N n len) × (period_of N n len ≤ len)
unfolding period_of
period_range N n len h = omega arith

pub walk_less : (N : List ℕ) (n len : ℕ) → 0 < len → next_leading len (period_of N n len) < len
walk_less N n len h = next_less len (period_of N n len) h (period_range N n len h).0

module _ (op : ℕ → ℕ → ℕ) (R N : List ℕ) (n : ℕ) where
  shrink : (k d x : ℕ) (G : List ℕ) (a : ℕ) → 3 * d < 2 * suc x → (0 < k → 0 < d → Shrinking (walk op R N n k d G a).lengths)
      → Shrinking (suc x ∷ (walk op R N n k d G a).lengths)
  unfolding walk
  shrink zero d x G a l f = one {a = suc x} (omega arith)
  shrink (suc k) zero x G a l f = one {a = suc x} (omega arith)
  shrink (suc k) (suc y) x G a l f = next l (f (omega arith) (omega arith))

  -- each length is less than two thirds of the one before
  shrinks : (k len : ℕ) (G : List ℕ) (a : ℕ) → 0 < k → 0 < len → Shrinking (walk op R N n k len G a).lengths
  unfolding walk
  shrinks zero len G a h l = absurd (omega arith)
  shrinks (suc k) zero G a h l = absurd (omega arith)
  shrinks (suc k) (suc x) G a h l =
      shrink k (next_leading (suc x) (period_of N n (suc x))) x _ _
      (let r = period_range N n (suc x) (omega arith) in next_third (suc x) (period_of N n (suc x)) r.0 r.1)
      (λ i j. shrinks k (next_leading (suc x) (period_of N n (suc x))) _ _ i j)

  -- Lemma 11, on whatever the list of centres says
  pub walk_nineteen : (k len : ℕ) (G : List ℕ) (a : ℕ) → len ≤ most_picks → length (walk op R N n k len G a).lengths ≤ most_visits
  unfolding walk
  walk_nineteen zero len G a h = omega arith
  walk_nineteen (suc k) zero G a h = omega arith
  walk_nineteen (suc k) (suc x) G a h = count _ (shrinks (suc k) (suc x) G a (omega arith) (omega arith))
    where
      count : (s : List ℕ) → Shrinking (suc x ∷ s) → length (suc x ∷ s) ≤ most_visits
      count s f = nineteen (suc (length s)) (suc x) h (let e : suc (length s) - 1 ≡ length s = omega arith in rw e (few (suc x) s f))

  pub walk_length : (k len : ℕ) (G : List ℕ) (a : ℕ) → length (walk op R N n k len G a).gathered ≡ length G
  unfolding walk
  walk_length zero len G a = refl
  walk_length (suc k) zero G a = refl
  walk_length (suc k) (suc x) G a = walk_length k _ _ _ ∙ length-set G (n - suc x) _

-- The walk on arrays that are right for the shorter prefix

module _ (op : ℕ → ℕ → ℕ) (r w : ℕ → ℕ) (m : ℕ) (R N : List ℕ) (rows : (i : ℕ) → i ≤ m → at R i ≡ r i) (tells : Tells w (suc m) N) where
  -- the walk is at length len: the places before that ending are as the longer prefix has them, the others as the shorter
  pub record WalkAt (len : ℕ) (G : List ℕ) : Type 0 where
    pub size : suc m < length G
    pub done : (i : ℕ) → i + len < suc m → at G i ≡ gathered op r w (suc m) i
    pub todo : (i : ℕ) → suc m ≤ i + len → i ≤ m → at G i ≡ gathered op r w m i

  -- the visited place gets its value; p is a variable here, since omega would open what stands for it
  module _ (len p : ℕ) (some : 0 < len) (L : Leading w (suc m) len) (a : LeastPeriod w (suc m) len p) where
    mended_rows : (old : ℕ) → mended op (at R) (suc m) len p old ≡ mended op r (suc m) len p old
    unfolding mended
    mended_rows old = go (cubic? len p) refl
      where
        go : (d : Dec (Cubic len p)) → cubic? len p ≡ d → mended op (at R) (suc m) len p old ≡ mended op r (suc m) len p old
        go (yes h) e = rw (e, mended) (ap (op old) (rows (suc m - next_leading len p - p) (omega (arith, a.is.pos))))
        go (no h) e = rw (e, mended) (rows (suc m - len) (omega arith))

    mends : (i old : ℕ) → i + len ≡ suc m → old ≡ gathered op r w m i → mended op (at R) (suc m) len p old ≡ gathered op r w (suc m) i
    mends i old e o = mended_rows old ∙ ap (mended op r (suc m) len p) o ∙ sym (gathered_mended op r w m i len p e some L a)

    walk_step : (G : List ℕ) (i v : ℕ) → i + len ≡ suc m → v ≡ gathered op r w (suc m) i → WalkAt len G → WalkAt (next_leading len p) (set G i v)
    walk_step G i v e new h =
        let less : next_leading len p < len = next_less len p some a.is.pos in
        record {
          size = rw (length-set G i v) h.size;
          done = λ x b. elim (ℕ_discrete x i) [
            | yes y ↦ rw y (get_or-set_same G i v 0 (omega (arith, h.size)) ∙ new)
            | no y ↦ get_or-set_other G i x v 0 y ∙ elim (dec_lt x i) [
              | yes z ↦ h.done x (omega arith)
              -- a place past this ending's start and before the next one's: no leading ending starts there
              | no z ↦ h.todo x (omega arith) (omega arith)
                  ∙ sym (gathered_kept op r w m x (omega arith) (λ c. omega (arith, (next_is L a some).most (suc m - x) c (omega arith))))
            ]
          ];
          todo = λ x b c. get_or-set_other G i x v 0 (λ y. omega arith) ∙ h.todo x (omega arith) c;
        }

    -- the lengths from len on are len and those from the next on
    lengths_step : (x : ℕ) → suc x ≡ len → passing (leading? w (suc m)) len ≡ len ∷ passing (leading? w (suc m)) (next_leading len p)
    lengths_step x e =
        rw (sym e) (passing_with (leading? w (suc m)) x (rw (sym e) at L))
        ∙ ap (λ s. len ∷ s)
        (passing_skip (leading? w (suc m)) (next_leading len p) x (omega (arith, next_less len p some a.is.pos))
        (λ y b c l. omega (arith, (next_is L a some).most y l (omega arith))))

  -- what the walk from len on leaves
  pub record WalkRight (len a : ℕ) (z : Walked) : Type 0 where
    pub all : (i : ℕ) → i ≤ m → at z.gathered i ≡ gathered op r w (suc m) i
    pub lengths : z.lengths ≡ passing (leading? w (suc m)) len
    pub union : z.union ≡ join_all op (λ x. gathered op r w (suc m) (suc m - x)) a z.lengths

  -- at length 0 all is done
  walk_stop : (G : List ℕ) (a : ℕ) → WalkAt 0 G → WalkRight 0 a (walked G a [])
  unfolding passing join_all
  walk_stop G a h = record { all = λ i l. h.done i (omega arith); lengths = refl; union = refl }

  pub walk_right : (k len : ℕ) (G : List ℕ) (a : ℕ) → len ≤ k → Leading w (suc m) len → WalkAt len G → WalkRight len a (walk op R N (suc m) k len G a)
  unfolding walk join_all
  walk_right zero zero G a h L at = walk_stop G a at
  walk_right zero (suc x) G a h L at = absurd (omega arith)
  walk_right (suc k) zero G a h L at = walk_stop G a at
  walk_right (suc k) (suc x) G a h L g =
      let some : 0 < suc x = omega arith in
      let p : ℕ = period_of N (suc m) (suc x) in
      let t : LeastPeriod w (suc m) (suc x) p = tells (suc x) some L in
      let fits : suc x ≤ suc m = L.is.fits in
      let i : ℕ = suc m - suc x in
      let v : ℕ = mended op (at R) (suc m) (suc x) p (at G i) in
      let new : v ≡ gathered op r w (suc m) i = mends (suc x) p some L t i (at G i) (omega arith) (g.todo i (omega arith) (omega arith)) in
      let rest = walk_right k (next_leading (suc x) p) (set G i v) (op a v) (fewer (walk_less N (suc m) (suc x) some) h) (next_is L t some).is
      (walk_step (suc x) p some L t G i v (omega arith) new g) in
      record {
        all = rest.all;
        lengths = ap (λ s. suc x ∷ s) rest.lengths ∙ sym (lengths_step (suc x) p some L t x refl);
        union = rest.union ∙ ap (λ y. join_all op (λ z. gathered op r w (suc m) (suc m - z)) (op a y)
            (walk op R N (suc m) k (next_leading (suc x) p) (set G i v) (op a v)).lengths) new;
      }
    where
      fewer : {d y : ℕ} → d < y → y ≤ suc k → d ≤ k
      fewer a b = omega arith
