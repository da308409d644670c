-- Splits: the last section cut off, the law of the split named, and splits as palindromes joined.
use Rattle.std.specs.Prelude.{◌≡◌, ◌≢◌, length, take, drop}
use Rattle.std.proofs.Math.Path.{refl}
use Rattle.std.proofs.Common.{sym, ap, ◌∙◌, arith, length-append, take_at, drop_at}
use mathlib.Core.List.{List, [], ◌∷◌, ◌++◌, List-discrete}
use Rattle.std.proofs.Math.Option.{Option, some, none}
use Prim.Native.Nat.{ℕ, zero, suc, ◌+◌, ◌-◌, ◌≤◌, ◌<◌}
use Rattle.std.proofs.Math.Decide.{dec_le, dec_lt, ℕ_discrete}
use Rattle.words.proofs.Cases.{clash}
use Rattle.words.specs.Definitions.{stretch, prefix, Section, Joined, nothing, another, Ending, Sections, done, next, Split, lengths_back, Smaller, here, further, Before, Named}
use Rattle.words.specs.Mirror.{stretch_length, stretch_join, ending?, section_ending, ending_section}
use Rattle.words.specs.Computed.{cut_last, split_of, splits}

-- A section more at the end, and the last one cut off

pub no_sections : {w : ℕ → ℕ} {n a : ℕ} → Sections w n a [] → n ≡ a
no_sections done = refl

pub sections_after : {w : ℕ → ℕ} {m n a : ℕ} {s : List ℕ} → Sections w m a s → Section w m n → Sections w n a (s ++ n ∷ [])
sections_after done l = next l done
sections_after (next f h) l = next f (sections_after h l)

back_after : {w : ℕ → ℕ} {m a : ℕ} {s : List ℕ} (n : ℕ) → Sections w m a s → lengths_back a (s ++ n ∷ []) ≡ (n - m) ∷ lengths_back a s
back_after n done = refl
back_after n (next {a = a} {e = e} f h) = ap (λ l. l ++ (e - a) ∷ []) (back_after n h)

-- sections with these ends but the last, which ends with n, and the last one
pub record Cut (w : ℕ → ℕ) (n a k : ℕ) (t : List ℕ) : Type 0 where
  pub at : ℕ
  pub rest : List ℕ
  pub is : t ≡ rest ++ n ∷ []
  pub before : Sections w at a rest
  pub count : length rest ≡ k
  pub last : Section w at n

cut_sections : {w : ℕ → ℕ} {n a e : ℕ} (t : List ℕ) → Section w a e → Sections w n e t → Cut w n a (length t) (e ∷ t)
cut_sections {a = a} [] f done = record { at = a; rest = []; is = refl; before = done; count = refl; last = f }
cut_sections {e = e} (b ∷ t) f (next g h) =
    let r = cut_sections t g h in
    record { at = r.at; rest = e ∷ r.rest; is = ap (λ l. e ∷ l) r.is; before = next f r.before; count = ap suc r.count; last = r.last }

-- a split into k + 1 sections is a split of a shorter prefix into k, and a section
pub cut : {w : ℕ → ℕ} {n k : ℕ} {t : List ℕ} → Split w n (suc k) t → Cut w n 0 k t
cut {w} {n} {k} {t} h = go 0 t h.is h.count
  where
    go : (a : ℕ) (t : List ℕ) → Sections w n a t → length t ≡ suc k → Cut w n a k t
    go a [] s c = absurd (omega arith)
    go a (e ∷ t) (next f s) c = let z : length t ≡ k = omega arith in rw z at (cut_sections t f s)

pub split_before : {w : ℕ → ℕ} {n k : ℕ} {t : List ℕ} (c : Cut w n 0 k t) → Split w c.at k c.rest
split_before c = record { is = c.before; count = c.count }

pub uncut : {w : ℕ → ℕ} {a n k : ℕ} {s : List ℕ} → Split w a k s → Section w a n → Split w n (suc k) (s ++ n ∷ [])
uncut {n = n} {s = s} h l = record { is = sections_after h.is l; count = length-append s (n ∷ []) ∙ omega (arith, h.count) }

-- prefix 0 is no sections, and no other prefix is
pub no_picks : {w : ℕ → ℕ} → Split w 0 0 []
no_picks = record { is = done; count = refl }

pub split_none : {w : ℕ → ℕ} {n : ℕ} {t : List ℕ} → Split w n 0 t → (t ≡ []) × (n ≡ 0)
split_none {w} {n} {t} h = go t h.is h.count
  where
    go : (t : List ℕ) → Sections w n 0 t → length t ≡ 0 → (t ≡ []) × (n ≡ 0)
    go [] s c = (refl, no_sections s)
    go (e ∷ t) s c = absurd (omega arith)

-- The split named

-- what `split_of` gives: the split that is before every other, or none where there is none
pub data Splitting (w : ℕ → ℕ) (n k : ℕ) (o : Option (List ℕ)) : Type 0 where
  given : (ends : List ℕ) → o ≡ some ends → Named w n k ends → Splitting w n k o
  lacking : o ≡ none → ((ends : List ℕ) → Split w n k ends → ⊥) → Splitting w n k o

module _ (w : ℕ → ℕ) (n k : ℕ) (rest : ℕ → Option (List ℕ)) (law : (a : ℕ) → Splitting w a k (rest a)) where
  -- no split has a last section of more than m picks
  Top : ℕ → Type 0
  Top m = (t : List ℕ) (c : Cut w n 0 k t) → n ≤ c.at + m

  -- a last section of m + 1 picks is ruled out
  lower : (m : ℕ) → suc m ≤ n → Top (suc m) → ((s : List ℕ) → Section w (n - suc m) n → Split w (n - suc m) k s → ⊥) → Top m
  unfolding Top
  lower m l top f t c = elim (dec_le n (c.at + m)) [
    | yes x ↦ x
    | no x ↦
        let z : c.at ≡ n - suc m = omega (arith, top t c) in
        absurd (f c.rest (rw z at c.last) (rw z at (split_before c)))
  ]

  -- the longest last section whose rest splits, and the split named of the rest
  named_after : (a : ℕ) (s : List ℕ) → Section w a n → Named w a k s → ((t : List ℕ) (c : Cut w n 0 k t) → a ≤ c.at) → Named w n (suc k) (s ++ n ∷ [])
  named_after a s l h top = record { is = uncut h.is l; first = λ t b e. other t e (cut b) }
    where
      other : (t : List ℕ) → t ≢ s ++ n ∷ [] → Cut w n 0 k t → Before (s ++ n ∷ []) t
      other t e c = rw (c.is, back_after n c.before, back_after n h.is.is) (elim (dec_lt a c.at) [
        | yes x ↦ here {a = n - c.at} {b = n - a} (omega (arith, l.some, c.last.some))
        | no x ↦
            let z : c.at ≡ a = omega (arith, top t c) in
            rw z (further (h.first c.rest (rw z at (split_before c)) (λ q. e (c.is ∙ ap (λ x. x ++ n ∷ []) q))))
      ])

  cut_law : (m : ℕ) → m ≤ n → Top m → Splitting w n (suc k) (cut_last w n rest m)
  unfolding cut_last Top
  cut_law zero l top = lacking refl (λ t h. let c = cut h in omega (arith, top t c, c.last.some))
  cut_law (suc m) l top = go (ending? w n (suc m)) refl (rest (n - suc m)) refl (law (n - suc m)) (cut_law m (omega arith))
    where
      go : (d : Dec (Ending w n (suc m))) → ending? w n (suc m) ≡ d
          → (o : Option (List ℕ)) → rest (n - suc m) ≡ o → Splitting w (n - suc m) k (rest (n - suc m))
          → (Top m → Splitting w n (suc k) (cut_last w n rest m)) → Splitting w n (suc k) (cut_last w n rest (suc m))
      go (no f) e o q r on = rw (e, cut_last) (on (lower m l top (λ s x y. f (section_ending (omega arith) x))))
      go (yes f) e none q (lacking p g) on = rw (e, q, cut_last) (on (lower m l top (λ s x y. g s y)))
      go (yes f) e none q (given s p h) on = clash cc
      go (yes f) e (some s) q (lacking p g) on = clash cc
      go (yes f) e (some s) q (given t p h) on =
          let z : t ≡ s = cc in
          let l : Section w (n - suc m) n = ending_section (omega arith) (omega arith) f in
          rw (e, q, cut_last) (given (s ++ n ∷ []) refl (named_after (n - suc m) s l (rw z at h) (λ t c. omega (arith, top t c))))

-- the law of the split named
pub split_law : (w : ℕ → ℕ) (k n : ℕ) → Splitting w n k (split_of w n k)
unfolding split_of cut_last Top
split_law w zero n = go (ℕ_discrete n 0) refl
  where
    go : (d : Dec (n ≡ 0)) → ℕ_discrete n 0 ≡ d → Splitting w n 0 (split_of w n 0)
    go (yes z) e = rw (e, split_of) (given [] refl (rw z (record { is = no_picks; first = λ t h f. absurd (f (split_none h).0) })))
    go (no f) e = rw (e, split_of) (lacking refl (λ t h. f (split_none h).1))
split_law w (suc k) n = cut_law w n k (λ a. split_of w a k) (λ a. split_law w k a) n (omega arith) (λ t c. omega arith)

-- two splits that are each before every other are one

not_both : {s t u v : List ℕ} → Smaller s t → Smaller u v → s ≡ v → t ≡ u → ⊥
not_both (here {a = a} {b = b} l) (here {a = c} {b = d} m) e f =
    let x : a ≡ d = cc in
    let y : b ≡ c = cc in
    omega arith
not_both (here {a = a} {b = b} l) (further {a = c} q) e f =
    let x : a ≡ c = cc in
    let y : b ≡ c = cc in
    omega arith
not_both (further {a = a} p) (here {a = c} {b = d} m) e f =
    let x : a ≡ d = cc in
    let y : a ≡ c = cc in
    omega arith
not_both (further {s = s} {t = t} p) (further {s = u} {t = v} q) e f =
    let x : s ≡ v = cc in
    let y : t ≡ u = cc in
    not_both p q x y

smaller_not : {s t : List ℕ} → Smaller s t → Smaller t s → ⊥
smaller_not p q = not_both p q refl refl

pub named_one : {w : ℕ → ℕ} {n k : ℕ} {s t : List ℕ} → Named w n k s → Named w n k t → s ≡ t
named_one {s = s} {t = t} p q = elim (List-discrete ℕ_discrete s t) [
  | yes e ↦ e
  | no f ↦ absurd (smaller_not (p.first t q.is (λ e. f (sym e))) (q.first s p.is f))
]

-- Splits and palindromes joined

pub append_parts : (a b u v : List ℕ) → length a ≡ length u → a ++ b ≡ u ++ v → (a ≡ u) × (b ≡ v)
append_parts a b u v l e = (
  sym (take_at a b (length a) refl) ∙ ap (λ s. take (length a) s) e ∙ take_at u v (length a) (sym l),
  sym (drop_at a b (length a) refl) ∙ ap (λ s. drop (length a) s) e ∙ drop_at u v (length a) (sym l),
)

pub joined_split : {w : ℕ → ℕ} {k : ℕ} {x : List ℕ} → Joined k x → (n : ℕ) → prefix w n ≡ x → (ends : List ℕ) × Split w n k ends
joined_split {w} nothing n e =
    let z : n ≡ 0 = sym (stretch_length w 0 n) ∙ ap length e in
    ([], rw z no_picks)
joined_split {w} (another {u = u} {v = v} j l p) n e =
    let a : ℕ = length u in
    let s : n ≡ a + length v = sym (stretch_length w 0 n) ∙ ap length e ∙ length-append u v in
    let f : prefix w a ++ stretch w (0 + a) (length v) ≡ u ++ v = sym (stretch_join w 0 a (length v)) ∙ ap (prefix w) (sym s) ∙ e in
    let q = append_parts (prefix w a) (stretch w (0 + a) (length v)) u v (stretch_length w 0 a) f in
    let r = joined_split {w = w} j a q.0 in
    let z : n - a ≡ length v = omega arith in
    let y : 0 + a ≡ a = omega arith in
    (r.0 ++ n ∷ [], uncut r.1 (record { some = omega arith; mirrored = rw (z, rw y at q.1) p }))

pub split_joined : {w : ℕ → ℕ} (k n : ℕ) {ends : List ℕ} → Split w n k ends → Joined k (prefix w n)
split_joined {w} zero n h = let z : n ≡ 0 = (split_none h).1 in rw z nothing
split_joined {w} (suc k) n h =
    let c = cut h in
    let a : ℕ = c.at in
    let x : n ≡ a + (n - a) = omega (arith, c.last.some) in
    let y : 0 + a ≡ a = omega arith in
    let e : prefix w n ≡ prefix w a ++ stretch w a (n - a) =
    ap (prefix w) x
    ∙ stretch_join w 0 a (n - a)
    ∙ ap (λ b. prefix w a ++ stretch w b (n - a)) y in
    let l : 0 < length (stretch w a (n - a)) = rw (stretch_length w a (n - a)) (omega (arith, c.last.some)) in
    rw e (another (split_joined k a (split_before c)) l c.last.mirrored)

-- 1 exactly where there is a split
module _ (w : ℕ → ℕ) (n k : ℕ) where
  pub splits_one : {ends : List ℕ} → Split w n k ends → splits w n k ≡ 1
  unfolding splits
  splits_one {ends} h = go (split_law w k n)
    where
      go : Splitting w n k (split_of w n k) → splits w n k ≡ 1
      go (given s e m) = rw (e, splits)
      go (lacking e f) = absurd (f ends h)

  pub splits_zero : ((ends : List ℕ) → Split w n k ends → ⊥) → splits w n k ≡ 0
  unfolding splits
  splits_zero f = go (split_law w k n)
    where
      go : Splitting w n k (split_of w n k) → splits w n k ≡ 0
      go (given s e m) = absurd (f s m.is)
      go (lacking e g) = rw (e, splits)

  pub splits_small : splits w n k ≤ 1
  splits_small = elim (split_law w k n) [ given s e m ↦ omega (arith, splits_one m.is) | lacking e f ↦ omega (arith, splits_zero f) ]
