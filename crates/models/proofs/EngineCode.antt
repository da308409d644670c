-- How the code of the engine goes through its model, in the same way.
use Rattle.std.specs.Prelude.{◌≡◌, List, ◌∷◌, set}
use Rattle.std.proofs.Math.Path.{refl, ap}
use Rattle.std.proofs.Common.{◌∙◌, mod-lt, mod-eq_of_lt}
use Prim.Native.Nat.{ℕ, zero, suc, ◌+◌, ◌-◌, ◌*◌, ◌%◌, ◌≤◌, ◌<◌}
use native.Mathlib.Omega.{arith}
use Rattle.std.proofs.Math.Decide.{dec_lt}
use Rattle.std.proofs.Math.Nat.{mod-eq-sub-mod}
use Rattle.std.proofs.Math.ListN.{get_or}
use Rattle.std.proofs.lemmas.List.Edits.{sets}
use Rattle.std.specs.Int.Bits.{bit_or}
use Rattle.cells.specs.declared.Places.{Places}
use Rattle.cells.specs.Lanes.{with_rows, with_gathered}
use Rattle.words.specs.Definitions.{centre, next_leading, Cubic}
use Rattle.words.specs.Computed.{cubic?, mended, raised}
use Rattle.models.specs.Iterator.{period_at}
use Rattle.models.specs.Engine.{period_of, longest_length, Walked, walked, walk, Seen, seen_as, seen, stepped_as, closed, stepped}
use Rattle.models.proofs.Walking.{walk_less}
use Rattle.models.specs.EngineCode.{seen_in}

-- The walk over the leading endings

-- the period: c is the ending's centre; it is small where len is
pub period_as : (N : List ℕ) (n len c p : ℕ) → c ≡ centre n len → p ≡ period_at N c len → 0 < len → (p ≡ period_of N n len) × ((0 < p) × (p ≤ len))
unfolding period_of
period_as N n len c p e f l = (rw (f, e), omega arith)

-- the next length, as the code takes its two ways: no division where three periods do not fit
pub next_short : (len p : ℕ) → 0 < p → p ≤ len → len < 3 * p → len - p ≡ next_leading len p
next_short len p a b l =
    let e : len % p ≡ (len - p) % p = mod-eq-sub-mod {n = len} {m = p} b in
    elim (dec_lt len (2 * p)) [
      | yes h ↦ omega (arith, e, mod-eq_of_lt {n = len - p} {m = p} (omega arith))
      | no h ↦ omega (arith, e, mod-eq-sub-mod {n = len - p} {m = p} (omega arith), mod-eq_of_lt {n = len - p - p} {m = p} (omega arith))
    ]

pub next_long : (len p : ℕ) → 0 < p → 3 * p ≤ len → p + len % p ≡ next_leading len p
next_long len p a l = omega (arith, mod-lt len {m = p} a)

-- the value gathered at the start i of the ending of length len, as the code takes its two ways; d is the next length
module _ (R G : List ℕ) (n len p i v : ℕ) (at : i ≡ n - len) where
  pub mended_short : len < 3 * p → v ≡ get_or R i 0 → v ≡ mended bit_or (λ x. get_or R x 0) n len p (get_or G (n - len) 0)
  unfolding mended
  mended_short h f = go (cubic? len p) refl
    where
      go : (d : Dec (Cubic len p)) → cubic? len p ≡ d → v ≡ mended bit_or (λ x. get_or R x 0) n len p (get_or G (n - len) 0)
      go (yes y) e = absurd (omega arith)
      go (no y) e = rw (e, mended) (f ∙ ap (λ x. get_or R x 0) at)

  pub mended_long : (d j a b : ℕ) → 3 * p ≤ len → d ≡ next_leading len p → j ≡ n - d - p → a ≡ get_or G i 0 → b ≡ get_or R j 0 → v ≡ bit_or a b
      → v ≡ mended bit_or (λ x. get_or R x 0) n len p (get_or G (n - len) 0)
  unfolding mended
  mended_long d j a b h e₁ e₂ e₃ e₄ e₅ = go (cubic? len p) refl
    where
      go : (q : Dec (Cubic len p)) → cubic? len p ≡ q → v ≡ mended bit_or (λ x. get_or R x 0) n len p (get_or G (n - len) 0)
      go (yes y) e = rw (e, mended) (rw (e₅, e₃, e₄, e₂, e₁, at))
      go (no y) e = absurd (y h)

-- a visit: p is the period, d the next length, x the value, i the place
pub visit_as : (N : List ℕ) (w w' : Places) (n len p d x i : ℕ) → p ≡ period_of N n len → d ≡ next_leading len p
    → x ≡ mended bit_or (λ j. get_or w.rows j 0) n len p (get_or w.gathered (n - len) 0) → i ≡ n - len
    → w' ≡ with_gathered w (set w.gathered i x)
    → (d ≡ next_leading len (period_of N n len))
    × ((x ≡ mended bit_or (λ j. get_or w.rows j 0) n len (period_of N n len) (get_or w.gathered (n - len) 0))
    × (w' ≡ with_gathered w (set w.gathered (n - len) x)))
visit_as N w w' n len p d x i e₁ e₂ e₃ e₄ e₅ = (
  e₂ ∙ ap (next_leading len) e₁,
  (e₃ ∙ ap (λ q. mended bit_or (λ j. get_or w.rows j 0) n len q (get_or w.gathered (n - len) 0)) e₁, e₅ ∙ ap (λ j. with_gathered w (set w.gathered j x)) e₄),
)

seen_as_lem : {w : Places} {vs vs' : List ℕ} {a c c' : ℕ} → vs ≡ vs' → c ≡ c' → seen_as w a vs c ≡ seen_as w a vs' c'
seen_as_lem r s = cc

-- one entry stored, and the rest of them
seen_next : (w : Places) (z : Walked) (vs : List ℕ) (x c : ℕ)
    → seen w z (set vs c x) (c + 1) ≡ seen w (walked z.gathered z.union (x ∷ z.lengths)) vs c
seen_next w z vs x c = let e : c + 1 ≡ suc c = omega arith in seen_as_lem (ap (λ y. sets (set vs c x) y z.lengths) e) (omega arith)

-- it is at len with count entries stored and a joined; x is the visited place's value
module _ (N : List ℕ) (n : ℕ) where
  pub walk_on_lem : (k len d x a a' count count' entry : ℕ) (w w' : Places) (vs vs' : List ℕ) → len ≤ k → 0 < len → d ≡ next_leading len (period_of N n len)
      → x ≡ mended bit_or (λ j. get_or w.rows j 0) n len (period_of N n len) (get_or w.gathered (n - len) 0) → w' ≡ with_gathered w (set w.gathered (n - len) x)
      → entry ≡ len → vs' ≡ set vs count entry → a' ≡ bit_or a x → count' ≡ count + 1
      → (j : ℕ) × (d ≤ j) × (seen_in N n j d a' w' vs' count' ≡ seen_in N n k len a w vs count)
  unfolding walk
  walk_on_lem zero len d x a a' count count' entry w w' vs vs' l h e₁ e₂ e₃ e₄ e₅ e₆ e₇ = absurd (omega arith)
  walk_on_lem (suc k) zero d x a a' count count' entry w w' vs vs' l h e₁ e₂ e₃ e₄ e₅ e₆ e₇ = absurd (omega arith)
  walk_on_lem (suc k) (suc y) d x a a' count count' entry w w' vs vs' l h e₁ e₂ e₃ e₄ e₅ e₆ e₇ = (
    k,
    rw e₁ (fewer (walk_less N n (suc y) h) l),
    rw (e₇, e₅, e₄, e₃) (seen_next w (walk bit_or w.rows N n k d (set w.gathered (n - suc y) x) a') vs (suc y) count ∙ rw (e₆, e₂, e₁)),
  )
    where
      fewer : {a b : ℕ} → a < b → b ≤ suc k → a ≤ k
      fewer a b = omega arith

  pub walk_end : (k len a count : ℕ) (w : Places) (vs : List ℕ) → len ≤ 0 → seen_in N n k len a w vs count ≡ seen_as w a vs count
  unfolding walk
  walk_end zero len a count w vs h = seen_as_lem refl (omega arith)
  walk_end (suc k) zero a count w vs h = seen_as_lem refl (omega arith)
  walk_end (suc k) (suc x) a count w vs h = absurd (omega arith)

-- the engine's step: len is the longest ending's length, x the new row word
pub stepped_as_lem : (K n s len x : ℕ) (w : Places) (R G N vs : List ℕ) (z : Seen) → len ≡ longest_length n s → z ≡ seen_in N n len len 0 w vs 0
    → x ≡ raised K z.union → R ≡ set z.placed.rows n x → G ≡ set z.placed.gathered n x
    → stepped_as (with_gathered (with_rows z.placed R) G) z.visits x z.count ≡ stepped K n s w N vs
unfolding stepped
stepped_as_lem K n s len x w R G N vs z e₁ e₂ e₃ e₄ e₅ =
    rw (e₅, e₄, e₃) (ap (closed K n) (e₂ ∙ ap (λ y. seen_in N n y y 0 w vs 0) e₁))
