-- How the code of the split goes through its model: the search for a start, from section to section, and the turn count.
use Rattle.std.specs.Prelude.{◌≡◌, Bool, List, [], ◌∷◌, ◌++◌, leb, eqb, length, drop, set}
use Rattle.std.proofs.Math.Path.{refl, sym, ap, subst}
use Rattle.std.proofs.Common.{◌∙◌, true≢false, add-one, length-append, drop_of_length-le, drop-cons, eq-eqb, ne_eqb}
use Rattle.std.proofs.Math.Bool.{true, false, cond}
use Rattle.std.proofs.lemmas.Bool.{false≢true}
use Rattle.std.proofs.Math.Option.{Option, some, none}
use Prim.Native.Nat.{ℕ, zero, suc, ◌+◌, ◌-◌, ◌/◌, ◌≤◌, ◌<◌}
use native.Mathlib.Omega.{arith}
use Rattle.std.proofs.Math.Decide.{ℕ_discrete}
use Rattle.std.proofs.lemmas.List.Edits.{sets}
use Rattle.words.proofs.Cases.{clash}
use Rattle.words.specs.Definitions.{lengths_back, turns_of, Rising, done, next, bit}
use Rattle.models.specs.Iterator.{radius_of}
use Rattle.models.specs.Stores.{at}
use Rattle.models.proofs.Stores.{sets_append}
use Rattle.models.specs.Splitting.{join_last, join_rest, starts_at, first_start, split_by}
use Rattle.models.specs.SplitCode.{EndsOf, Stores}

-- The search for a start

module _ (rows R : List ℕ) (n s k i : ℕ) where
  module _ (j word c half : ℕ) (b : Bool) (p : word ≡ at rows j) (q : b ≡ eqb (bit word k) 1) where
    pub starts_by : b ≡ true → c ≡ i + j + 1 → half ≡ radius_of R n s c → leb ((i - j) / 2) half ≡ starts_at rows R n s k i j
    starts_by t e r = let z : eqb (bit (at rows j) k) 1 ≡ true = ap (λ x. eqb (bit x k) 1) (sym p) ∙ sym q ∙ t in rw (z, r, e)

    pub starts_not : b ≡ false → false ≡ starts_at rows R n s k i j
    starts_not t = let z : eqb (bit (at rows j) k) 1 ≡ false = ap (λ x. eqb (bit x k) 1) (sym p) ∙ sym q ∙ t in rw z

  module _ (j : ℕ) (b : Bool) (e : b ≡ starts_at rows R n s k i j) where
    pub first_on : j < i → b ≡ false → first_start rows R n s k i (i - (j + 1)) (j + 1) ≡ first_start rows R n s k i (i - j) j
    unfolding first_start
    first_on l f =
        let z : i - j ≡ suc (i - (j + 1)) = omega arith in
        let t : starts_at rows R n s k i j ≡ false = sym e ∙ f in
        rw (z, first_start, t)

    pub first_here : j < i → b ≡ true → some j ≡ first_start rows R n s k i (i - j) j
    unfolding first_start
    first_here l f =
        let z : i - j ≡ suc (i - (j + 1)) = omega arith in
        let t : starts_at rows R n s k i j ≡ true = sym e ∙ f in
        rw (z, first_start, t)

  pub first_end : (j : ℕ) → i ≤ j → none ≡ first_start rows R n s k i (i - j) j
  unfolding first_start
  first_end j l = let z : i - j ≡ 0 = omega arith in rw (z, first_start)

  first_below : (m j x : ℕ) → first_start rows R n s k i m j ≡ some x → x < j + m
  unfolding first_start
  first_below zero j x e = clash cc
  first_below (suc m) j x e = go (starts_at rows R n s k i j) e (first_below m (j + 1) x)
    where
      go : (b : Bool) → cond b (some j) (first_start rows R n s k i m (j + 1)) ≡ some x
          → (first_start rows R n s k i m (j + 1) ≡ some x → x < j + 1 + m) → x < j + suc m
      go true q f = let z : x ≡ j = cc in omega arith
      go false q f = omega (arith, f q)

  -- a start lies before its section's end
  pub start_before : (x : ℕ) → some x ≡ first_start rows R n s k i i 0 → x < i
  start_before x e = omega (arith, first_below i 0 x (sym e))

-- Other row words, alike before place i: the search reads no others

module _ (rows others R : List ℕ) (n s : ℕ) where
  first_alike : (k i m j : ℕ) → ((x : ℕ) → x < j + m → at rows x ≡ at others x) → first_start rows R n s k i m j ≡ first_start others R n s k i m j
  unfolding first_start
  first_alike k i zero j f = refl
  first_alike k i (suc m) j f = rw (f j (omega arith), first_alike k i m (j + 1) (λ x l. f x (omega arith)))

  pub split_alike : (k i : ℕ) → ((x : ℕ) → x < i → at rows x ≡ at others x) → split_by rows R n s k i ≡ split_by others R n s k i
  unfolding split_by join_rest
  split_alike zero i f = refl
  split_alike (suc k) i f =
      ap (join_rest (split_by rows R n s k) i) (first_alike k i i 0 (λ x l. f x (omega arith))) ∙ go (first_start others R n s k i i 0) refl (split_alike k)
    where
      go : (o : Option ℕ) → first_start others R n s k i i 0 ≡ o
          → ((j : ℕ) → ((x : ℕ) → x < j → at rows x ≡ at others x) → split_by rows R n s k j ≡ split_by others R n s k j)
          → join_rest (split_by rows R n s k) i o ≡ join_rest (split_by others R n s k) i o
      go none e g = refl
      go (some j) e g = ap (join_last i) (g j (λ x l. f x (omega (arith, start_before others R n s k i j (sym e)))))

rising_after : {i j a : ℕ} {ends : List ℕ} → Rising j a ends → j < i → Rising i a (ends ++ i ∷ [])
rising_after done l = next l done
rising_after (next m h) l = next m (rising_after h l)

ends_joined : (k i j : ℕ) (o : Option (List ℕ)) (ends : List ℕ) → j < i → ((es : List ℕ) → o ≡ some es → EndsOf j k es) → join_last i o ≡ some ends
    → EndsOf i (suc k) ends
unfolding join_last
ends_joined k i j none ends l f e = clash cc
ends_joined k i j (some es) ends l f e =
    let h = f es refl in
    let z : es ++ i ∷ [] ≡ ends = cc in
    rw (← z) (length-append es (i ∷ []) ∙ omega (arith, h.0), rising_after h.1 l)

pub split_ends : (rows R : List ℕ) (n s k i : ℕ) (ends : List ℕ) → split_by rows R n s k i ≡ some ends → EndsOf i k ends
unfolding split_by join_rest
split_ends rows R n s zero i ends e = go (ℕ_discrete i 0)
  where
    go : Dec (i ≡ 0) → EndsOf i 0 ends
    go (yes z) = let q : ends ≡ [] = cc (simp (eq-eqb i 0 z) at e) in rw (q, z) (refl, done)
    go (no f) = clash (cc (simp (ne_eqb i 0 f) at e))
split_ends rows R n s (suc k) i ends e = go (first_start rows R n s k i i 0) refl e (split_ends rows R n s k)
  where
    go : (o : Option ℕ) → first_start rows R n s k i i 0 ≡ o → join_rest (split_by rows R n s k) i o ≡ some ends
        → ((j : ℕ) (es : List ℕ) → split_by rows R n s k j ≡ some es → EndsOf j k es) → EndsOf i (suc k) ends
    go none z q f = clash cc
    go (some j) z q f = ends_joined k i j (split_by rows R n s k j) ends (start_before rows R n s k i j (sym z)) (f j) q

stores_no_section : (b : Bool) (before : List ℕ) → Stores (cond b (some []) none) before b before
stores_no_section true before = record { tells = refl; list = refl }
stores_no_section false before = record { tells = refl; list = refl }

-- the section that ends with i, after the k ends of the rest
stores_last : (k i x : ℕ) (o : Option (List ℕ)) (before between after : List ℕ) → ((es : List ℕ) → o ≡ some es → length es ≡ k)
    → Stores o before true between → x ≡ i → after ≡ set between k x → Stores (join_last i o) before true after
unfolding join_last
stores_last k i x none before between after f h q e = absurd (true≢false h.tells)
stores_last k i x (some es) before between after f h q e =
    let c : 0 + length es ≡ k = omega (arith, f es refl) in
    record { tells = refl; list = rw (e, h.list, q) (sym (sets_append before 0 es (i ∷ []) ∙ ap (λ y. set (sets before 0 es) y i) c)) }

stores_lacking : (i : ℕ) (o : Option (List ℕ)) (before after : List ℕ) → Stores o before false after → Stores (join_last i o) before false after
unfolding join_last
stores_lacking i none before after h = record { tells = refl; list = h.list }
stores_lacking i (some es) before after h = absurd (false≢true h.tells)

module _ (rows R : List ℕ) (n s i : ℕ) (before : List ℕ) where
  -- no section is left
  pub stores_none : (k : ℕ) → k ≡ 0 → Stores (split_by rows R n s k i) before (eqb i 0) before
  unfolding split_by
  stores_none k z = rw z (stores_no_section (eqb i 0) before)

  module _ (k : ℕ) (some_left : 0 < k) where
    less : k ≡ suc (k - 1)
    less = omega arith

    -- there is no start
    pub stores_missing : none ≡ first_start rows R n s (k - 1) i i 0 → Stores (split_by rows R n s k i) before false before
    unfolding split_by join_rest
    stores_missing e = subst (λ m. Stores (split_by rows R n s m i) before false before) (sym less) (rw (split_by, sym e) (record { tells = refl; list = refl }))

    -- the section starts at j
    module _ (j : ℕ) (e : some j ≡ first_start rows R n s (k - 1) i i 0) where
      joined : split_by rows R n s k i ≡ join_last i (split_by rows R n s (k - 1) j)
      unfolding split_by join_rest
      joined = ap (λ m. split_by rows R n s m i) less ∙ ap (join_rest (split_by rows R n s (k - 1)) i) (sym e)

      pub stores_less : (b : Bool) (after : List ℕ) → Stores (split_by rows R n s (k - 1) j) before b after → b ≡ false
          → Stores (split_by rows R n s k i) before false after
      stores_less b after h t = rw joined (stores_lacking i (split_by rows R n s (k - 1) j) before after (rw t at h))

      pub stores_more : (b : Bool) (x : ℕ) (between after : List ℕ) → Stores (split_by rows R n s (k - 1) j) before b between → b ≡ true
          → x ≡ i → after ≡ set between (k - 1) x → Stores (split_by rows R n s k i) before true after
      stores_more b x between after h t q f =
          rw joined (stores_last (k - 1) i x (split_by rows R n s (k - 1) j) before between after (λ es e. (split_ends rows R n s (k - 1) j es e).0) (rw t at h) q f)

-- The turn count: the sections from number j on are left

turns_join : (s t : List ℕ) → turns_of (s ++ t) ≡ turns_of s + turns_of t
turns_join [] t = omega arith
turns_join (len ∷ s) t = omega (arith, turns_join s t)

pub turns_more : (a e len j turns more : ℕ) (ends : List ℕ) → j < length ends → e ≡ at ends j → len ≡ e - a → more ≡ turns_of (len ∷ [])
    → turns + more + turns_of (lengths_back e (drop (j + 1) ends)) ≡ turns + turns_of (lengths_back a (drop j ends))
turns_more a e len j turns more ends h q f g =
    let rest = lengths_back e (drop (suc j) ends) in
    let z : lengths_back a (drop j ends) ≡ rest ++ len ∷ [] = rw (f, q, drop-cons ends j 0 h) in
    rw (add-one j, z) (omega (arith, g, turns_join rest (len ∷ [])))

pub turns_end : (a j : ℕ) (ends : List ℕ) → length ends ≤ j → turns_of (lengths_back a (drop j ends)) ≡ 0
turns_end a j ends h = rw (drop_of_length-le ends h)
