-- The walk over a lend list takes those centres out of the list of endings that the new letter ended (the paper, Section 3, lines 9 to 11).
use Rattle.std.specs.Prelude.{◌≡◌, List, length, set}
use Rattle.std.proofs.Common.{◌∙◌, arith, length-set, lt-ltb, get_or-set_same, get_or-set_other}
use Prim.Native.Nat.{ℕ, zero, suc, ◌+◌, ◌*◌, ◌-◌, ◌/◌, ◌≤◌, ◌<◌}
use Rattle.std.proofs.Math.Decide.{dec_lt, ℕ_discrete}
use Rattle.cells.specs.Lanes.{centre_entries}
use Rattle.words.specs.Definitions.{most_picks}
use Rattle.models.specs.Centres.{EndingAt}
use Rattle.models.specs.Reflection.{StartsAt, Lost}
use Rattle.models.proofs.Reflection.{starts_lost, lost_starts, narrower, single_at, empty_at}
use Rattle.models.specs.Linked.{Linked, Fore, Aft}
use Rattle.models.proofs.Linked.{linked_as, linked_more, linked_less}
use Rattle.models.specs.Iterator.{reflected_radius, Links, lost_centre, unlink, unlinks, lengthened}
use Rattle.models.specs.Stores.{at}
use Rattle.models.specs.Scanning.{LastWith, Radii, Stretches}
use Rattle.models.proofs.Scanning.{reflected_widest}
use Rattle.models.specs.Unlinking.{Chain, Old, Left}

-- it can be told from the radii which centres are endings'
pub ending_at? : {w : ℕ → ℕ} {n s : ℕ} {R : List ℕ} → Radii w n s R → (c : ℕ) → s ≤ c → c ≤ 2 * n + 1 → Dec (EndingAt w n c)
ending_at? {w} {n} {s} {R} h c l m =
    let x = reflected_widest R c h.longest.is h.widest l m in
    elim (ℕ_discrete (c / 2 + reflected_radius R n s c) n) [
      | yes y ↦ yes (rw y at x.is)
      | no y ↦ no (λ z. y (omega (arith, x.most n (omega arith) z, x.fits)))
    ]

-- line 9
pub lengthens : {w : ℕ → ℕ} {n s : ℕ} {l : Links} → n < most_picks → Chain (EndingAt w n) s (2 * n + 1) l
    → Chain (Old w n) s (2 * n + 3) (lengthened l n)
lengthens {w} {n} {s} {l} small h =
    let N : List ℕ = l.next in
    let P : List ℕ = l.prev in
    let N₁ : List ℕ = set N (2 * n + 1) (2 * n + 2) in
    let P₁ : List ℕ = set P (2 * n + 2) (2 * n + 1) in
    let a : length N₁ ≡ centre_entries = length-set N (2 * n + 1) (2 * n + 2) ∙ h.next in
    let b : length P₁ ≡ centre_entries = length-set P (2 * n + 2) (2 * n + 1) ∙ h.prev in
    record {
      next = length-set N₁ (2 * n + 2) (2 * n + 3) ∙ a;
      prev = length-set P₁ (2 * n + 3) (2 * n + 2) ∙ b;
      list = linked_more {N = at N₁} {P = at P₁} (2 * n + 3) (omega arith)
          (λ c q. elim (ℕ_discrete c (2 * n + 2)) [ yes x ↦ omega arith | no x ↦ omega (arith, (q x).high) ])
          (get_or-set_same N₁ (2 * n + 2) (2 * n + 3) 0 (omega (arith, a)))
          (get_or-set_same P₁ (2 * n + 3) (2 * n + 2) 0 (omega (arith, b)))
          (λ c q. get_or-set_other N₁ (2 * n + 2) c (2 * n + 3) 0 q)
          (λ c q. get_or-set_other P₁ (2 * n + 3) c (2 * n + 2) 0 q)
          (linked_more {N = at N} {P = at P} (2 * n + 2) (omega arith) (λ c q. omega (arith, q.high))
          (get_or-set_same N (2 * n + 1) (2 * n + 2) 0 (omega (arith, h.next)))
          (get_or-set_same P (2 * n + 2) (2 * n + 1) 0 (omega (arith, h.prev)))
          (λ c q. get_or-set_other N (2 * n + 1) c (2 * n + 2) 0 q)
          (λ c q. get_or-set_other P (2 * n + 2) c (2 * n + 1) 0 q)
          h.list);
    }

module _ {w : ℕ → ℕ} {n : ℕ} where
  old_high : {c : ℕ} → Old w n c → c ≤ 2 * n + 3
  old_high {c} b = elim (ℕ_discrete c (2 * n + 3)) [
    | yes x ↦ omega arith
    | no x ↦ elim (ℕ_discrete c (2 * n + 2)) [ yes y ↦ omega arith | no y ↦ omega (arith, (b x y).high) ]
  ]

  old_lost : {c : ℕ} → Old w n c → (EndingAt w (suc n) c → ⊥) → Lost w n c
  old_lost {c} b f =
      let e : 2 * suc n + 1 ≡ 2 * n + 3 = omega arith in
      record { was = b (λ x. f (rw x (rw e at (empty_at {w = w} (suc n))))) (λ x. f (rw x (single_at n))); over = f }

-- t is the place after the first pick of the longest ending, whose centre is s
module _ {w : ℕ → ℕ} {n s : ℕ} {R H L : List ℕ} (h : Stretches w (suc n) s R H L) (small : n < most_picks) (top : s ≤ 2 * n + 2) (t : ℕ)
    (p : t + suc n ≡ s) where
  ends : EndingAt w (suc n) s
  ends = h.radii.longest.is

  -- nothing is lost between two neighbours of the lend list, z and v
  between : {c z v : ℕ} → LastWith (StartsAt w (suc n) t) z v → z ≤ s → s < c → s + s < c + z → c + v < s + s → Old w n c → EndingAt w (suc n) c
  between {c} {z} {v} l a b d e q = elim (ending_at? h.radii c (omega arith) (omega (arith, old_high q))) [
    | yes x ↦ x
    | no x ↦ absurd (omega (arith, l.most (s + s - c) (λ _. lost_starts ends p (omega arith) b (old_lost q x)) (omega arith)))
  ]

  pub left_begin : {N P : ℕ → ℕ} {v : ℕ} → LastWith (StartsAt w (suc n) t) s v → Linked N P (Old w n) s (2 * n + 3)
      → Linked N P (Left w n s v) s (2 * n + 3)
  left_begin l k = linked_as
      (λ c b q. (q, λ m. elim (ℕ_discrete c s) [ yes x ↦ rw x ends | no x ↦ between l (omega arith) (omega arith) (omega arith) m q ]))
      (λ c b q. q.0) k

  left_end : {N P : ℕ → ℕ} → Linked N P (Left w n s 0) s (2 * n + 3) → Linked N P (EndingAt w (suc n)) s (2 * n + 3)
  left_end k = linked_as
      (λ c b q. q.1 (omega (arith, old_high q.0, ends.low)))
      (λ c b q. (λ x y. narrower q (omega arith) (omega (arith, q.high)), λ _. q)) k

  -- the centre that x stands for goes out, and y is the next in the lend list
  left_step : (l : Links) {x y : ℕ} → StartsAt w (suc n) t x → x < s → LastWith (StartsAt w (suc n) t) x y
      → Chain (Left w n s x) s (2 * n + 3) l → Chain (Left w n s y) s (2 * n + 3) (unlink l (lost_centre x s))
  left_step l {x} {y} f b g k =
      let N : List ℕ = l.next in
      let P : List ℕ = l.prev in
      let c : ℕ = lost_centre x s in
      let q : c + x ≡ s + s = omega arith in
      let o : Lost w n c = starts_lost ends p q b f in
      let u : Left w n s x c = (λ _ _. o.was, λ m. absurd (omega arith)) in
      let v : Fore (at N) (at P) (Left w n s x) (2 * n + 3) c = k.list.fore c u (omega arith) (omega (arith, o.was.high)) in
      let z : Aft (at N) (at P) (Left w n s x) s c = k.list.aft c u (omega arith) (omega (arith, o.was.high)) in
      record {
        next = length-set N (at P c) (at N c) ∙ k.next;
        prev = length-set P (at N c) (at P c) ∙ k.prev;
        list = linked_as
            (λ d m r. (
              r.0.0,
              λ i. elim (dec_lt (d + x) (s + s)) [
                | yes j ↦ r.0.1 j
                | no j ↦
                    let apart : d ≡ c → ⊥ = r.1 in
                    between g (omega arith) (omega arith) (elim (ℕ_discrete d c) [ yes e ↦ absurd (apart e) | no e ↦ omega arith ]) i r.0.0
              ],
            ))
            (λ d m r. ((r.0, λ i. r.1 (omega (arith, g.below))), λ e. o.over (rw e at (r.1 (omega (arith, g.below))))))
            (linked_less c u (omega arith) (omega (arith, o.was.high))
            (get_or-set_same N (at P c) (at N c) 0 (omega (arith, z.less, o.was.high, k.next)))
            (get_or-set_same P (at N c) (at P c) 0 (omega (arith, v.within, k.prev)))
            (λ d e. get_or-set_other N (at P c) d (at N c) 0 e)
            (λ d e. get_or-set_other P (at N c) d (at P c) 0 e)
            k.list);
      }

  pub unlinks_right : (k x : ℕ) (l : Links) → x ≤ k → x < s → (0 < x → StartsAt w (suc n) t x) → Chain (Left w n s x) s (2 * n + 3) l
      → Chain (EndingAt w (suc n)) s (2 * n + 3) (unlinks L s k x l)
  unfolding unlinks
  unlinks_right zero zero l a m f q = record { next = q.next; prev = q.prev; list = left_end q.list }
  unlinks_right zero (suc x) l a m f q = absurd (omega arith)
  unlinks_right (suc k) zero l a m f q = record { next = q.next; prev = q.prev; list = left_end q.list }
  unlinks_right (suc k) (suc x) l a m f q =
      let g : LastWith (StartsAt w (suc n) t) (suc x) (at L (suc x)) = h.lends.rest (suc x) t m (f (omega arith)) in
      simp (lt-ltb _ _ g.below)
      (unlinks_right k (at L (suc x)) (unlink l (lost_centre (suc x) s)) (omega (arith, g.below)) (omega (arith, g.below)) g.is
      (left_step l (f (omega arith)) m g q))
