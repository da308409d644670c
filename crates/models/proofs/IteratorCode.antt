-- How the code of the iterator goes through its model: a lemma for each way that a test or a step of a loop can go.
-- What the code computed are variables here, each tied by an equation.
use Rattle.std.specs.Prelude.{◌≡◌, refl, true, false, List, set, eqb}
use Rattle.std.proofs.Common.{ap, ◌∙◌, lt-ltb, le-ltb, eq-eqb}
use Rattle.std.proofs.Math.Option.{some, none}
use Prim.Native.Nat.{ℕ, zero, suc, ◌+◌, ◌-◌, ◌*◌, ◌/◌, min, ◌≤◌, ◌<◌}
use native.Mathlib.Omega.{arith}
use Rattle.std.proofs.Math.ListN.{get_or}
use Rattle.cells.specs.declared.Centres.{Centres}
use Rattle.cells.specs.declared.Places.{Places}
use Rattle.cells.specs.Lanes.{with_radius, with_lends, with_next, with_prev, with_heads}
use Rattle.words.specs.Definitions.{length_at}
use Rattle.words.specs.Computed.{next_shorter}
use Rattle.models.specs.Iterator.{start, reflection, reflected_radius, longest_of, is_ending, period_at, extends, scan, unlinks, appended}
use Rattle.models.specs.Lanes.{iterator_in, Moved, moved}
use Rattle.models.specs.Answers.{next_of}
use Rattle.models.specs.IteratorCode.{scan_in, link_in, unlink_in, unlinks_in}

-- The radius by reflection: z is the reflected centre, y what is left of the text

pub reflected_as : (R : List ℕ) (n s c z x x' y r : ℕ) → z ≡ reflection c s → x ≡ get_or R z 0 → x' ≡ x → y ≡ n - c / 2 → r ≡ min x' y
    → r ≡ reflected_radius R n s c
reflected_as R n s c z x x' y r e₁ e₂ e₃ e₄ e₅ = rw (e₅, e₄, e₃, e₂, e₁)

-- The next shorter ending: s is the stored centre in range

module _ (R N : List ℕ) (n stored s c : ℕ) where
  pub next_there : (p : ℕ) → s ≡ longest_of n stored → is_ending R n s c ≡ true → p ≡ period_at N c (length_at n c)
      → some (next_shorter (c + p) (length_at n c) p) ≡ next_of R N n (longest_of n stored) c
  next_there p e f g = rw (← e, f, g)

  pub next_missing : s ≡ longest_of n stored → is_ending R n s c ≡ false → none ≡ next_of R N n (longest_of n stored) c
  next_missing e f = rw (← e, f)

-- The test of the scan

module _ (letters : List ℕ) (n c r pick i : ℕ) (closes : c / 2 + r ≡ n) (at : i ≡ start c r) where
  pub extends_letter : (a : ℕ) → 0 < i → a ≡ get_or letters (i - 1) 0 → eqb a pick ≡ extends letters n c r pick
  extends_letter a l q = rw (q, at) (simp (eq-eqb _ _ closes, lt-ltb _ _ (rw at at l)))

  pub extends_edge : i ≤ 0 → false ≡ extends letters n c r pick
  extends_edge l = simp (eq-eqb _ _ closes, le-ltb _ _ (rw at at l))

-- The scan

module _ (letters : List ℕ) (n pick from c m r : ℕ) (v : Centres) (w : Places) (is : r ≡ reflected_radius v.radius n from c) where
  -- it stops at c
  pub scan_found : (k r' : ℕ) (v' : Centres) → m ≡ suc k → extends letters n c r pick ≡ true → r' ≡ r + 1 → v' ≡ with_radius v (set v.radius c r')
      → scan_in letters n pick from m c v w ≡ moved c v' w
  unfolding scan
  scan_found k r' v' e g q p = rw (e, p, q, is) (simp (rw is at g))

  -- it goes on; i is the place where the stretch starts, x the head of its lend list
  pub scan_on : (k c' r' i x head : ℕ) (v₁ v₂ : Centres) (w' : Places) → m ≡ suc k → extends letters n c r pick ≡ false → c' ≡ c + 1 → r' ≡ r
      → i ≡ start c r → x ≡ get_or w.heads i 0 → head ≡ c
      → v₁ ≡ with_radius v (set v.radius c r') → v₂ ≡ with_lends v₁ (set v₁.lends c x) → w' ≡ with_heads w (set w.heads i head)
      → scan_in letters n pick from k c' v₂ w' ≡ scan_in letters n pick from m c v w
  unfolding scan
  scan_on k c' r' i x head v₁ v₂ w' e g s q y z o p t u = rw (e, s, u, t, p, q, o, z, y, is) (simp (rw is at g))

-- no centre is left: it is at the last one
pub scan_end : (letters : List ℕ) (n pick from c m last : ℕ) (v : Centres) (w : Places) (v' : Centres) → m ≡ 0 → last ≡ c
    → v' ≡ with_radius v (set v.radius last 0) → scan_in letters n pick from m c v w ≡ moved last v' w
unfolding scan
scan_end letters n pick from c m last v w v' e q p = rw (e, p, q)

-- A link, and a centre taken out of the list

pub link_as : (v v₁ v₂ : Centres) (x y x' y' : ℕ) → y' ≡ y → x' ≡ x → v₁ ≡ with_next v (set v.next x y') → v₂ ≡ with_prev v₁ (set v₁.prev y x')
    → v₂ ≡ link_in v x y
link_as v v₁ v₂ x y x' y' e₁ e₂ e₃ e₄ = rw (e₄, e₃, e₂, e₁)

pub unlink_as : (v v₁ v₂ : Centres) (c before after p q : ℕ) → before ≡ get_or v.prev c 0 → after ≡ get_or v.next c 0 → p ≡ before → q ≡ after
    → v₁ ≡ with_next v (set v.next p after) → v₂ ≡ with_prev v₁ (set v₁.prev q before)
    → v₂ ≡ unlink_in v c
unlink_as v v₁ v₂ c before after p q e₁ e₂ e₃ e₄ e₅ e₆ = rw (e₆, e₅, e₃, e₄, e₁, e₂)

-- The walk over a lend list: it is at x, and y is the next; z is the reflection of x, and v' the arrays without z

module _ (s k x y z : ℕ) (v v' : Centres) (bound : x ≤ k) (some : 0 < x) (image : z ≡ reflection x s) (out : v' ≡ unlink_in v z)
    (next : y ≡ get_or v'.lends x 0) where
  lent : y ≡ get_or v.lends x 0
  lent = rw out at next

  pub unlinks_on : y < x → (j : ℕ) × (y ≤ j) × (unlinks_in s j y v' ≡ unlinks_in s k x v)
  unfolding unlinks
  unlinks_on = go k x bound some image lent
    where
      go : (k x : ℕ) → x ≤ k → 0 < x → z ≡ reflection x s → y ≡ get_or v.lends x 0 → y < x
          → (j : ℕ) × (y ≤ j) × (unlinks_in s j y v' ≡ unlinks_in s k x v)
      go k zero b h e f g = absurd (omega arith)
      go zero (suc x) b h e f g = absurd (omega arith)
      go (suc k) (suc x) b h e f g = (k, omega arith, rw (out, e, f) (simp (lt-ltb _ _ (rw f at g))))

  -- a list that does not fall ends here
  pub unlinks_stop : x ≤ y → unlinks_in s k x v ≡ v'
  unfolding unlinks
  unlinks_stop = go k x bound some image lent
    where
      go : (k x : ℕ) → x ≤ k → 0 < x → z ≡ reflection x s → y ≡ get_or v.lends x 0 → x ≤ y → unlinks_in s k x v ≡ v'
      go k zero b h e f g = absurd (omega arith)
      go zero (suc x) b h e f g = absurd (omega arith)
      go (suc k) (suc x) b h e f g = rw (out, e) (simp (le-ltb _ _ (rw f at g)))

pub unlinks_end : (s k x : ℕ) (v : Centres) → x ≤ 0 → unlinks_in s k x v ≡ v
unfolding unlinks
unlinks_end s zero x v h = refl
unlinks_end s (suc k) zero v h = refl
unlinks_end s (suc k) (suc x) v h = absurd (omega arith)

-- The iterator's append: from is the stored centre in range, s the new one

pub appended_as : (n pick stored from s i x : ℕ) (letters letters' : List ℕ) (v v₁ v₂ v₃ v₄ : Centres) (w w' : Places)
    → from ≡ longest_of n stored
    → moved s v₁ w' ≡ scan_in letters n pick from (2 * n + 2 - from) from v w
    → letters' ≡ set letters n pick
    → v₂ ≡ link_in v₁ (2 * n + 1) (2 * n + 2)
    → v₃ ≡ link_in v₂ (2 * n + 2) (2 * n + 3)
    → i ≡ s - (n + 1)
    → x ≡ get_or w'.heads i 0
    → v₄ ≡ unlinks_in s x x v₃
    → (iterator_in letters' v₄ w' s ≡ appended (iterator_in letters v w stored) n pick) × (w' ≡ with_heads w w'.heads)
unfolding appended
appended_as n pick stored from s i x letters letters' v v₁ v₂ v₃ v₄ w w' a b c d e f g h =
    let again : ℕ → Moved = λ y. scan_in letters n pick y (2 * n + 2 - y) y v w in
    let q : moved s v₁ w' ≡ again (longest_of n stored) = b ∙ ap again a in
    let qs : s ≡ (again (longest_of n stored)).longest = ap (λ z. z.longest) q in
    let qv : v₁ ≡ (again (longest_of n stored)).centred = ap (λ z. z.centred) q in
    let qw : w' ≡ (again (longest_of n stored)).placed = ap (λ z. z.placed) q in
    (rw (h, g, f, e, d, c, qv, qw, qs) refl, rw qw refl)
