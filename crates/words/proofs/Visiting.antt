-- The visits one after the other: each leads to the next by Lemma 10, and the last one to the empty ending.
use Rattle.std.specs.Prelude.{◌≡◌, refl, ◌⊎◌, ℕ, ◌≤◌, ◌<◌}
use Rattle.std.proofs.Common.{inl, inr, arith}
use mathlib.Core.List.Memᴰ
use mathlib.Core.List.{List, [], ◌∷◌, ◌++◌, Memᴰ}
use Rattle.std.proofs.Math.Decide.{dec_lt}
use Rattle.words.specs.Definitions.{LeastPeriod, Leading, NextLeading, next_leading, Falling, above, Follows, first, later, Visits}
use Rattle.words.specs.Search.{largest_one}
use Rattle.words.proofs.Laws.{empty_leads}
use Rattle.words.proofs.Series.{next_is}

-- b is the largest entry below a, or 0 where there is none
record NextEntry (s : List ℕ) (a b : ℕ) : Type 0 where
  from : Memᴰ a s
  to : (b ≡ 0) ⊎ Memᴰ b s
  less : 0 < a → b < a
  most : (j : ℕ) → Memᴰ j s → j < a → j ≤ b

alone : {a b x : ℕ} → Follows a b (x ∷ []) → ⊥
alone (later h) = elim h [ ]

-- so it is in a falling list where b comes right after a, 0 after the last entry
next_entry : {a b : ℕ} (s : List ℕ) → Falling s → Follows a b (s ++ 0 ∷ []) → NextEntry s a b
next_entry [] f h = absurd (alone h)
next_entry (x ∷ []) f (later h) = absurd (alone h)
next_entry (x ∷ []) f first = record {
  from = Memᴰ.head refl;
  to = inl refl;
  less = λ h. h;
  most = λ j m l. elim (Memᴰ.cases_cons m) [ inl e ↦ omega arith | inr n ↦ elim n [ ] ];
}
next_entry (x ∷ y ∷ s) (above g (above k f)) first = record {
  from = Memᴰ.head refl;
  to = inr (Memᴰ.tail (Memᴰ.head refl));
  less = λ h. g y (Memᴰ.head refl);
  most = λ j m l. elim (Memᴰ.cases_cons m) [
    | inl e ↦ omega arith
    | inr n ↦ elim (Memᴰ.cases_cons n) [ inl e ↦ omega arith | inr o ↦ omega (arith, k j o) ]
  ];
}
next_entry (x ∷ y ∷ s) (above g f) (later h) =
    let r = next_entry (y ∷ s) f h in
    record {
      from = Memᴰ.tail r.from;
      to = elim r.to [ inl e ↦ inl e | inr m ↦ inr (Memᴰ.tail m) ];
      less = r.less;
      most = λ j m l. elim (Memᴰ.cases_cons m) [ inl e ↦ omega (arith, g _ r.from) | inr n ↦ r.most j n l ];
    }

module _ {w : ℕ → ℕ} {n a b : ℕ} {vs : List ℕ} (v : Visits w n vs) (f : Follows a b (vs ++ 0 ∷ [])) where
  entry : NextEntry vs a b
  entry = next_entry vs v.falling f

  pub visit_leads : (0 < a) × Leading w n a
  visit_leads = (v.each a).0 entry.from

  -- b is the next shorter leading length, of the visits' or 0
  next_visit : NextLeading w n a b
  next_visit = record {
    below = entry.less visit_leads.0;
    is = elim entry.to [ inl e ↦ rw e (empty_leads w n) | inr m ↦ ((v.each b).0 m).1 ];
    most = λ j l h. elim (dec_lt 0 j) [ yes y ↦ entry.most j ((v.each j).1 (y, l)) h | no y ↦ omega arith ];
  }

  -- "min(p + (len mod p), len - p)"
  pub visit_next : (p : ℕ) → LeastPeriod w n a p → b ≡ next_leading a p
  visit_next p h = largest_one next_visit (next_is visit_leads.1 h visit_leads.0)
