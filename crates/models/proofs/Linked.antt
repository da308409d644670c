-- A list of numbers linked both ways: another predicate, one more at the end, one taken out.
use Rattle.std.specs.Prelude.{◌≡◌, refl, ℕ, ◌≤◌, ◌<◌}
use Rattle.std.proofs.Common.{sym, ap, ◌∙◌, arith}
use Rattle.std.proofs.Math.Decide.{dec_le, dec_lt, ℕ_discrete}
use Rattle.models.specs.Linked.{Neighbour, Fore, Aft, Linked}

-- the same list, said by another property
pub linked_as : {N P : ℕ → ℕ} {Q S : ℕ → Type 0} {lo hi : ℕ} → ((c : ℕ) → lo ≤ c → Q c → S c) → ((c : ℕ) → lo ≤ c → S c → Q c)
    → Linked N P Q lo hi → Linked N P S lo hi
linked_as {lo = lo} f g h = record {
  first = f lo (omega arith) h.first;
  last = f _ h.order h.last;
  order = h.order;
  fore = λ c q l m. let x = h.fore c (g c l q) l m in record {
    to = record { is = f _ (omega (arith, x.more)) x.to.is; back = x.to.back };
    more = x.more;
    within = x.within;
    least = λ d r k. x.least d (g d (omega arith) r) k;
  };
  aft = λ c q l m. let x = h.aft c (g c (omega arith) q) l m in record {
    to = record { is = f _ x.within x.to.is; back = x.to.back };
    less = x.less;
    within = x.within;
  };
}

-- the list from a later number on
pub linked_from : {N P : ℕ → ℕ} {Q : ℕ → Type 0} {lo hi : ℕ} (k : ℕ) → Q k → lo ≤ k → k ≤ hi → Linked N P Q lo hi → Linked N P Q k hi
linked_from {N} {P} {lo = lo} k q l m h = record {
  first = q;
  last = h.last;
  order = m;
  fore = λ c r a b. h.fore c r (omega arith) b;
  aft = λ c r a b.
      let x = h.aft c r (omega arith) b in
      let y = h.fore (P c) x.to.is x.within (omega (arith, x.less)) in
      record {
        to = x.to;
        less = x.less;
        within = elim (dec_le k (P c)) [ yes z ↦ z | no z ↦ absurd (omega (arith, y.least k q (omega arith), x.to.back)) ];
      };
}

-- F and G are changed at one number each, and k comes into the list: neighbours that this does not touch stay
module _ {F G F' G' : ℕ → ℕ} {Q : ℕ → Type 0} {c : ℕ} (h : Neighbour F G Q c) (t : F' c ≡ F c) where
  neighbour_more : (k : ℕ) → G' (F c) ≡ G (F c) → Neighbour F' G' (λ d. (d ≡ k → ⊥) → Q d) c
  neighbour_more k u = record { is = rw t (λ _. h.is); back = rw t (u ∙ h.back) }

  -- or k goes out of it, which is neither c nor beside c
  neighbour_less : (k : ℕ) → G (F k) ≡ k → (c ≡ k → ⊥) → (c ≡ G k → ⊥) → ((d : ℕ) → (d ≡ F k → ⊥) → G' d ≡ G d)
      → Neighbour F' G' (λ d. Q d × (d ≡ k → ⊥)) c
  neighbour_less k e a b u =
      let apart : F c ≡ k → ⊥ = λ j. b (sym h.back ∙ ap G j) in
      let other : F c ≡ F k → ⊥ = λ j. a (sym h.back ∙ ap G j ∙ e) in
      record { is = rw t ((h.is, apart)); back = rw t (u (F c) other ∙ h.back) }

-- one number more at the end
pub linked_more : {N P N' P' : ℕ → ℕ} {Q : ℕ → Type 0} {lo hi : ℕ} (k : ℕ) → hi < k → ((c : ℕ) → Q c → c ≤ hi)
    → N' hi ≡ k → P' k ≡ hi → ((c : ℕ) → (c ≡ hi → ⊥) → N' c ≡ N c) → ((c : ℕ) → (c ≡ k → ⊥) → P' c ≡ P c)
    → Linked N P Q lo hi → Linked N' P' (λ c. (c ≡ k → ⊥) → Q c) lo k
linked_more {N} {P} {N'} {P'} {Q} {lo} {hi} k l b e f g i h = record {
  first = λ _. h.first;
  last = λ z. absurd (z refl);
  order = omega (arith, h.order);
  fore = λ c q u v.
      let r : Q c = q (λ z. omega arith) in
      elim (ℕ_discrete c hi) [
        | yes z ↦ record {
          to = record { is = rw (z, e) (λ y. absurd (y refl)); back = rw (z, e, f) };
          more = rw (z, e) l;
          within = rw (z, e) (omega arith);
          least = λ d s y. rw (z, e) (elim (ℕ_discrete d k) [ yes x ↦ omega arith | no x ↦ omega (arith, b d (s x)) ]);
        }
        | no z ↦
            let x = h.fore c r u (omega (arith, b c r)) in
            let t : N' c ≡ N c = g c z in
            record {
              to = neighbour_more x.to t k (i (N c) (λ o. omega (arith, x.within)));
              more = rw t x.more;
              within = rw t (omega (arith, x.within));
              least = λ d s y. rw t (elim (ℕ_discrete d k) [ yes o ↦ omega (arith, x.within) | no o ↦ x.least d (s o) y ]);
            }
      ];
  aft = λ c q u v. elim (ℕ_discrete c k) [
    | yes z ↦ record {
      to = record { is = rw (z, f) (λ _. h.last); back = rw (z, f) e };
      less = rw (z, f) l;
      within = rw (z, f) h.order;
    }
    | no z ↦
        let x = h.aft c (q z) u (b c (q z)) in
        let t : P' c ≡ P c = i c z in
        record {
          to = neighbour_more x.to t k (g (P c) (λ o. omega (arith, x.less, b c (q z))));
          less = rw t x.less;
          within = rw t x.within;
        }
  ];
}

-- one number taken out of the middle
pub linked_less : {N P N' P' : ℕ → ℕ} {Q : ℕ → Type 0} {lo hi : ℕ} (k : ℕ) → Q k → lo < k → k < hi
    → N' (P k) ≡ N k → P' (N k) ≡ P k → ((c : ℕ) → (c ≡ P k → ⊥) → N' c ≡ N c) → ((c : ℕ) → (c ≡ N k → ⊥) → P' c ≡ P c)
    → Linked N P Q lo hi → Linked N' P' (λ c. Q c × (c ≡ k → ⊥)) lo hi
linked_less {N} {P} {N'} {P'} {Q} {lo} {hi} k q l m e f g i h =
    let x : Fore N P Q hi k = h.fore k q (omega arith) m in
    let y : Aft N P Q lo k = h.aft k q l (omega arith) in
    let z : Fore N P Q hi (P k) = h.fore (P k) y.to.is y.within (omega (arith, y.less)) in
    record {
      first = (h.first, λ o. omega arith);
      last = (h.last, λ o. omega arith);
      order = h.order;
      fore = λ c r u v. elim (ℕ_discrete c (P k)) [
        | yes o ↦ record {
          to = record { is = rw (o, e) ((x.to.is, λ t. omega (arith, x.more))); back = rw (o, e, f) };
          more = rw (o, e) (omega (arith, x.more, y.less));
          within = rw (o, e) x.within;
          least = λ d s t. rw (o, e) (x.least d s.0 (elim (dec_lt k d) [
            | yes a ↦ a
            | no a ↦ absurd (s.1 (omega (arith, z.least d s.0 (omega arith), y.to.back)))
          ]));
        }
        | no o ↦
            let a = h.fore c r.0 u v in
            let t : N' c ≡ N c = g c o in
            record {
              to = neighbour_less a.to t k x.to.back r.1 o i;
              more = rw t a.more;
              within = rw t a.within;
              least = λ d s j. rw t (a.least d s.0 j);
            }
      ];
      aft = λ c r u v. elim (ℕ_discrete c (N k)) [
        | yes o ↦ record {
          to = record { is = rw (o, f) ((y.to.is, λ t. omega (arith, y.less))); back = rw (o, f, e) };
          less = rw (o, f) (omega (arith, x.more, y.less));
          within = rw (o, f) y.within;
        }
        | no o ↦
            let a = h.aft c r.0 u v in
            let t : P' c ≡ P c = i c o in
            record { to = neighbour_less a.to t k y.to.back r.1 o g; less = rw t a.less; within = rw t a.within }
      ];
    }
