-- What the iterator computes: the paper's Section 3 on lists, total on any contents.
-- An array is the list of its numbers: outside of it 0 is read and nothing is stored. Centres are in half picks.
use Rattle.std.specs.Prelude.{Bool, false, cond, List, ℕ, zero, suc, ◌+◌, ◌-◌, ◌*◌, ◌/◌, min, max, get_or, set, ltb, leb, eqb}

-- x brought into 1 to top
abbrev pub within : ℕ → ℕ → ℕ
within top x = max 1 (min x top)

-- the arrays
pub record Iterator : Type 0 where
  -- by place: the pick that follows it
  pub letters : List ℕ
  -- by centre, up to the longest ending's: the radius of the longest mirrored stretch
  pub radius : List ℕ
  -- by place: the paper's lend, a list of centres whose head stands in heads and whose links, by centre, in lends
  pub heads : List ℕ
  pub lends : List ℕ
  -- by centre: the list of the ending centres, linked both ways
  pub next : List ℕ
  pub prev : List ℕ
  -- the centre of the longest ending; the paper's s
  pub longest : ℕ

abbrev pub iterator : List ℕ → List ℕ → List ℕ → List ℕ → List ℕ → List ℕ → ℕ → Iterator
iterator letters radius heads lends next prev longest =
    record { letters = letters; radius = radius; heads = heads; lends = lends; next = next; prev = prev; longest = longest }

-- Reading

-- the paper's refl(c, s)
abbrev pub reflection : ℕ → ℕ → ℕ
reflection c s = 2 * s - c

-- the radius at a centre c from s on, by reflection at s and cut at the end of the text
abbrev pub reflected_radius : List ℕ → ℕ → ℕ → ℕ → ℕ
reflected_radius R n s c = min (get_or R (reflection c s) 0) (n - c / 2)

-- the paper's rad
abbrev pub radius_of : List ℕ → ℕ → ℕ → ℕ → ℕ
radius_of R n s c = cond (leb c s) (get_or R c 0) (reflected_radius R n s c)

-- the paper's maxPal; a stored number that is no centre is brought into range
abbrev pub longest_of : ℕ → ℕ → ℕ
longest_of n s = within (2 * n + 1) s

-- the last centre of an ending that is not empty: the one-pick ending's
abbrev pub last_centre : ℕ → ℕ
last_centre n = 2 * n

-- does an ending that is not empty have the centre c?
abbrev pub is_ending : List ℕ → ℕ → ℕ → ℕ → Bool
is_ending R n s c = cond (leb s c) (cond (leb c (last_centre n)) (eqb (radius_of R n s c) (n - c / 2)) false) false

-- the least period of the ending of length len with the centre c, from the list of ending centres N: the next centre less its own, brought
-- into 1 to len
abbrev pub period_at : List ℕ → ℕ → ℕ → ℕ
period_at N c len = within len (get_or N c 0 - c)

-- Append

-- the place where a stretch of radius r at centre c starts: the picks before it
abbrev pub start : ℕ → ℕ → ℕ
start c r = (c + 1) / 2 - (r + 1)

-- line 4: the stretch closes the text, and the letter before it is the new one
abbrev pub extends : List ℕ → ℕ → ℕ → ℕ → ℕ → Bool
extends letters n c r pick = cond (eqb (c / 2 + r) n) (cond (ltb 0 (start c r)) (eqb (get_or letters (start c r - 1) 0) pick) false) false

pub record Scanned : Type 0 where
  pub longest : ℕ
  pub radius : List ℕ
  pub heads : List ℕ
  pub lends : List ℕ

abbrev pub scanned : ℕ → List ℕ → List ℕ → List ℕ → Scanned
scanned s R H L = record { longest = s; radius = R; heads = H; lends = L }

-- lines 2 to 7, the loop of Manacher's kind: k centres from c on, c the first that is not done; from is the paper's s₀
module _ (letters : List ℕ) (n pick from : ℕ) where
  unfoldable pub scan : ℕ → ℕ → List ℕ → List ℕ → List ℕ → Scanned
  scan zero c R H L = scanned c (set R c 0) H L
  scan (suc k) c R H L =
      let r : ℕ = reflected_radius R n from c in
      cond (extends letters n c r pick)
      (scanned c (set R c (r + 1)) H L)
      (scan k (c + 1) (set R c r) (set H (start c r) c) (set L c (get_or H (start c r) 0)))

pub record Links : Type 0 where
  pub next : List ℕ
  pub prev : List ℕ

abbrev pub links : List ℕ → List ℕ → Links
links N P = record { next = N; prev = P }

-- y after x
abbrev pub link : Links → ℕ → ℕ → Links
link l x y = links (set l.next x y) (set l.prev y x)

-- the paper's unlink
abbrev pub unlink : Links → ℕ → Links
unlink l c = links (set l.next (get_or l.prev c 0) (get_or l.next c 0)) (set l.prev (get_or l.next c 0) (get_or l.prev c 0))

-- the centre that a centre x of the lend list stands for
abbrev pub lost_centre : ℕ → ℕ → ℕ
lost_centre x s = reflection x s

-- lines 10 and 11: x and those after it in its lend list, each reflected at s, go out of the list; k bounds them, and they fall
module _ (L : List ℕ) (s : ℕ) where
  unfoldable pub unlinks : ℕ → ℕ → Links → Links
  unlinks zero x l = l
  unlinks (suc k) zero l = l
  unlinks (suc k) (suc x) l =
      cond (ltb (get_or L (suc x) 0) (suc x))
      (unlinks k (get_or L (suc x) 0) (unlink l (lost_centre (suc x) s)))
      (unlink l (lost_centre (suc x) s))

-- n letters were there
abbrev pub scan_of : Iterator → ℕ → ℕ → Scanned
scan_of t n pick = let s : ℕ = longest_of n t.longest in scan t.letters n pick s (2 * n + 2 - s) s t.radius t.heads t.lends

-- line 9: the endings of one pick and of none
abbrev pub lengthened : Links → ℕ → Links
lengthened l n = link (link l (2 * n + 1) (2 * n + 2)) (2 * n + 2) (2 * n + 3)

-- the place after the first pick of the longest ending of n + 1 letters, whose centre is s: the paper's ⌈s⌉ - rad(s)
abbrev pub lost_place : ℕ → ℕ → ℕ
lost_place n s = s - (n + 1)

-- the head of the lend list there
abbrev pub lost_head : List ℕ → ℕ → ℕ → ℕ
lost_head H n s = get_or H (lost_place n s) 0

unfoldable pub appended : Iterator → ℕ → ℕ → Iterator
appended t n pick =
    let g : Scanned = scan_of t n pick in
    let x : ℕ = lost_head g.heads n g.longest in
    let l : Links = unlinks g.lends g.longest x x (lengthened (links t.next t.prev) n) in
    iterator (set t.letters n pick) g.radius g.heads g.lends l.next l.prev g.longest
