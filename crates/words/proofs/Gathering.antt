-- The gathering law: joined, the gathered values of a pick's visits are the values at the starts of all its endings.
-- It holds of every operation that is associative, commutative and idempotent.
use Rattle.std.specs.Prelude.{◌≡◌, refl}
use Rattle.std.proofs.Common.{sym, ap, ◌∙◌, mul-le-mul_right}
use mathlib.Core.List.{List, [], ◌∷◌, Memᴰ}
use Prim.Native.Nat.{ℕ, zero, suc, ◌+◌, ◌-◌, ◌*◌, ◌≤◌, ◌<◌}
use native.Mathlib.Omega.{arith}
use Rattle.std.proofs.Math.Decide.{ℕ_discrete}
use Rattle.words.specs.Definitions.{Ending, LeastPeriod, Leading}
use Rattle.words.specs.Search.{passing, passing_is}
use Rattle.words.specs.Mirror.{ending?}
use Rattle.words.specs.Computed.{leading?, least_period, join_steps, later_places, gathered, join_all, visits}
use Rattle.words.proofs.Laws.{least_period_lem, longest_is}
use Rattle.words.proofs.Lengths.{places_end}
use Rattle.words.proofs.Series.{longest_leads, period_fits, series_ending, ending_series, Series, in_series}
use Rattle.words.proofs.Proposition3.{gathered_series}

-- an operation by which values can be gathered: union of words is one
pub record Semilattice (op : ℕ → ℕ → ℕ) : Type 0 where
  pub assoc : (a b c : ℕ) → op (op a b) c ≡ op a (op b c)
  pub comm : (a b : ℕ) → op a b ≡ op b a
  pub idem : (a : ℕ) → op a a ≡ a

module _ {op : ℕ → ℕ → ℕ} (J : Semilattice op) where
  -- b holds a
  abbrev pub Le : ℕ → ℕ → Type 0
  Le a b = op a b ≡ b

  le_self : (a : ℕ) → Le a a
  le_self a = J.idem a

  le_trans : (a b c : ℕ) → Le a b → Le b c → Le a c
  le_trans a b c p q = ap (op a) (sym q) ∙ sym (J.assoc a b c) ∙ ap (λ x. op x c) p ∙ q

  le_left : (a b : ℕ) → Le a (op a b)
  le_left a b = sym (J.assoc a a b) ∙ ap (λ x. op x b) (J.idem a)

  le_right : (a b : ℕ) → Le b (op a b)
  le_right a b = rw (J.comm a b) (le_left b a)

  le_both : (a b c : ℕ) → Le a c → Le b c → Le (op a b) c
  le_both a b c p q = J.assoc a b c ∙ ap (op a) q ∙ p

  le_antisym : (a b : ℕ) → Le a b → Le b a → a ≡ b
  le_antisym a b p q = sym q ∙ J.comm b a ∙ p

  steps_has : (r : ℕ → ℕ) (i p c x : ℕ) → x ≤ c → Le (r (i + x * p)) (join_steps op r i p c)
  unfolding join_steps
  steps_has r i p zero x h = let z : i + x * p ≡ i = go x h in rw z (le_self (r i))
    where
      go : (x : ℕ) → x ≤ 0 → i + x * p ≡ i
      go zero h = omega arith
      go (suc x) h = absurd (omega arith)
  steps_has r i p (suc c) x h = elim (ℕ_discrete x (suc c)) [
    | yes y ↦ rw y (le_right (join_steps op r i p c) (r (i + suc c * p)))
    | no y ↦ le_trans _ _ _ (steps_has r i p c x (omega arith)) (le_left (join_steps op r i p c) (r (i + suc c * p)))
  ]

  steps_within : (r : ℕ → ℕ) (i p z c : ℕ) → ((x : ℕ) → x ≤ c → Le (r (i + x * p)) z) → Le (join_steps op r i p c) z
  unfolding join_steps
  steps_within r i p z zero f = let e : i + 0 * p ≡ i = omega arith in rw e at (f 0 (omega arith))
  steps_within r i p z (suc c) f = le_both _ _ z (steps_within r i p z c (λ x h. f x (omega arith))) (f (suc c) (omega arith))

  all_from : (g : ℕ → ℕ) (a : ℕ) (s : List ℕ) → Le a (join_all op g a s)
  unfolding join_all
  all_from g a [] = le_self a
  all_from g a (y ∷ s) = le_trans _ _ _ (le_left a (g y)) (all_from g (op a (g y)) s)

  pub all_has : (g : ℕ → ℕ) (a : ℕ) (s : List ℕ) (x : ℕ) → Memᴰ x s → Le (g x) (join_all op g a s)
  unfolding join_all
  all_has g a [] x m = elim m [ ]
  all_has g a (y ∷ s) x (Memᴰ.head e) = rw e (le_trans _ _ _ (le_right a (g y)) (all_from g (op a (g y)) s))
  all_has g a (y ∷ s) x (Memᴰ.tail m) = all_has g (op a (g y)) s x m

  pub all_within : (g : ℕ → ℕ) (z a : ℕ) (s : List ℕ) → Le a z → ((x : ℕ) → Memᴰ x s → Le (g x) z) → Le (join_all op g a s) z
  unfolding join_all
  all_within g z a [] h f = h
  all_within g z a (y ∷ s) h f = all_within g z (op a (g y)) s (le_both a (g y) z h (f y (Memᴰ.head refl))) (λ x m. f x (Memᴰ.tail m))

  module _ (r w : ℕ → ℕ) (m e : ℕ) where
    -- what the visits gather, and what stands at the starts of all non-empty endings
    abbrev gathers : ℕ
    gathers = join_all op (λ len. gathered op r w (suc m) (suc m - len)) e (visits w (suc m))

    abbrev starts : ℕ
    starts = join_all op (λ len. r (suc m - len)) e (passing (ending? w (suc m)) (suc m))

    -- a leading ending gathers the values of its series
    gathered_at : (len p : ℕ) → 0 < len → Leading w (suc m) len → LeastPeriod w (suc m) len p
        → gathered op r w (suc m) (suc m - len) ≡ join_steps op r (suc m - len) p (later_places len p)
    gathered_at len p h l a = gathered_series op r w m (suc m - len) len p (omega (arith, l.is.fits)) h l a

    start_has : (k : ℕ) → 0 < k → Ending w (suc m) k → Le (r (suc m - k)) starts
    start_has k h f = all_has (λ len. r (suc m - len)) e _ k ((passing_is (ending? w (suc m)) (suc m)).all k h f.fits f)

    visit_has : (len : ℕ) → 0 < len → Leading w (suc m) len → Le (gathered op r w (suc m) (suc m - len)) gathers
    unfolding visits
    visit_has len h l =
        let v = (passing_is (leading? w (suc m)) (suc m)).all len h l.is.fits l in
        all_has (λ x. gathered op r w (suc m) (suc m - x)) e _ len v

    -- what a visit gathers stands at the starts of endings
    visit_within : (len : ℕ) → 0 < len → Leading w (suc m) len → Le (gathered op r w (suc m) (suc m - len)) starts
    visit_within len h l = rw (gathered_at len p h l a) (steps_within r (suc m - len) p starts (later_places len p) place)
      where
        p : ℕ
        p = least_period w (suc m) len

        a : LeastPeriod w (suc m) len p
        a = least_period_lem {w = w} {n = suc m} len h l.is.fits

        place : (x : ℕ) → x ≤ later_places len p → Le (r (suc m - len + x * p)) starts
        place x b =
            let k : ℕ = len - x * p in
            let s : k + x * p ≡ len = omega (arith, mul-le-mul_right p b, places_end len p a.is.pos (period_fits l a h)) in
            let f = series_ending l a h x k b s in
            let z : suc m - len + x * p ≡ suc m - k = omega (arith, l.is.fits) in
            rw z (start_has k (omega (arith, f.1)) f.0)

    -- and the start of every ending is gathered by a visit
    start_within : (k : ℕ) → 0 < k → Ending w (suc m) k → Le (r (suc m - k)) gathers
    start_within k h f =
        let top = longest_is w (suc m) in
        go (in_series (longest_leads top) f h (top.most k f (omega (arith, f.fits))))
      where
        go : Series w (suc m) k → Le (r (suc m - k)) gathers
        go z =
            let pos : 0 < z.len = omega (arith, z.longer) in
            let y = ending_series z.leading z.least pos k f z.past z.longer in
            let j : suc m - z.len + y.0 * z.p ≡ suc m - k = omega (arith, y.2, z.leading.is.fits) in
            le_trans _ _ _
            (rw j at (steps_has r (suc m - z.len) z.p (later_places z.len z.p) y.0 y.1))
            (rw (gathered_at z.len z.p pos z.leading z.least) at (visit_has z.len pos z.leading))

    -- THE GATHERING LAW: the values gathered at the visited places, joined, are the values at the starts of all non-empty endings, joined
    pub gathering : gathers ≡ starts
    unfolding visits
    gathering =
        let leading = (passing_is (leading? w (suc m)) (suc m)).only in
        let ending = (passing_is (ending? w (suc m)) (suc m)).only in
        le_antisym gathers starts
        (all_within _ starts e (visits w (suc m)) (all_from _ e _) (λ len v. visit_within len (leading len v).0 (leading len v).2))
        (all_within _ gathers e _ (all_from _ e _) (λ k v. start_within k (ending k v).0 (ending k v).2))
