-- A record that passes unfolds to a draft of its sections, and the record of those is the record read.
use Rattle.std.specs.Prelude.{◌≡◌, ℕ, suc, ◌+◌, ◌-◌, ◌/◌, ◌≤◌, ◌<◌, get_or}
use Rattle.std.proofs.Math.Path.{refl, sym, ap}
use Rattle.std.proofs.Common.{ap₂, subst, ◌∙◌, take_all}
use mathlib.Core.List.{List, [], ◌∷◌, ◌++◌, append_assoc, append-nil, reverse, reverse-append, reverse-reverse}
use native.Mathlib.Omega.{arith}
use Rattle.std.proofs.Math.ListN.{length, take, drop, length-append, length-take, length-drop, length-reverse, take-append-drop, get_or-append}
use Rattle.std.proofs.Math.Seq.{take_at}
use Rattle.words.specs.Definitions.{word, stretch, prefix, Palindrome, Sections, done, next, Split}
use Rattle.words.specs.Mirror.{stretch_length, stretch_join, prefix_take, palindrome_mirror}
use Rattle.words.proofs.Splits.{append_parts, split_joined}
use Rattle.layout.specs.Record.{Folded, laid_out, folded_of, record_of}
use Rattle.layout.specs.Layout.{Every, none as every-none, more as every_more, Letter, Fits, total, Passes}
use Rattle.layout.specs.Unfolding.{unfolded, picks_of, ends_of, Unfolds}
use Rattle.layout.proofs.Entries.{every_append, every_reverse, every_take}

-- Lists and stretches

reverse_short : (l : List ℕ) → length l ≤ 1 → reverse l ≡ l
reverse_short [] h = refl
reverse_short (x ∷ []) h = refl
reverse_short (x ∷ y ∷ l) h = absurd (omega arith)

pub stretch_take : (w : ℕ → ℕ) (a h len : ℕ) → h ≤ len → take h (stretch w a len) ≡ stretch w a h
stretch_take w a h len l =
    let z : len ≡ h + (len - h) = omega arith in
    ap (λ k. take h (stretch w a k)) z
    ∙ ap (take h) (stretch_join w a h (len - h))
    ∙ take_at (stretch w a h) (stretch w (a + h) (len - h)) h (stretch_length w a h)

-- the whole list as a word's prefix
prefix_whole : (u : List ℕ) (n : ℕ) → length u ≡ n → prefix (word u) n ≡ u
prefix_whole u n e = prefix_take u n (omega arith) ∙ take_all n u (omega arith)

-- Unfolded sections

module _ (f : Folded) (h : Fits f) where
  unfolded_length : length (unfolded f) ≡ f.len
  unfolding unfolded
  unfolded_length =
      let t = take (f.len / 2) f.half in
      omega (arith, length-append f.half (reverse t), length-reverse t, length-take (f.len / 2) f.half, h.halved)

  unfolded_mirrored : Palindrome (unfolded f)
  unfolding unfolded
  unfolded_mirrored =
      let t = take (f.len / 2) f.half in
      let m = drop (f.len / 2) f.half in
      let e : t ++ m ≡ f.half = take-append-drop (f.len / 2) f.half in
      let s : reverse m ≡ m = reverse_short m (omega (arith, length-drop (f.len / 2) f.half, h.halved)) in
      sym (reverse-append f.half (reverse t)
      ∙ ap (λ l. l ++ reverse f.half) (reverse-reverse t)
      ∙ ap (λ l. t ++ reverse l) (sym e)
      ∙ ap (λ l. t ++ l) (reverse-append t m ∙ ap (λ l. l ++ reverse t) s)
      ∙ sym (append_assoc t m (reverse t))
      ∙ ap (λ l. l ++ reverse t) e)

  -- its picks by the letters of its half
  pub unfolded_low : (k : ℕ) → k < length f.half → get_or (unfolded f) k 0 ≡ get_or f.half k 0
  unfolding unfolded
  unfolded_low k l = get_or-append f.half (reverse (take (f.len / 2) f.half)) 0 k l

  pub unfolded_high : (j k : ℕ) → k < length f.half → j + k + 1 ≡ f.len → get_or (unfolded f) j 0 ≡ get_or f.half k 0
  unfolded_high j k l e =
      let whole = prefix_whole (unfolded f) f.len unfolded_length in
      palindrome_mirror (word (unfolded f)) 0 f.len (subst Palindrome (sym whole) unfolded_mirrored) j k (omega arith)
      ∙ unfolded_low k l

  unfolded_letters : Every Letter (unfolded f)
  unfolding unfolded
  unfolded_letters = every_append h.lettered (every_reverse (take (f.len / 2) f.half) (every_take (f.len / 2) h.lettered))

pub picks_length : (fs : List Folded) → Every Fits fs → length (picks_of fs) ≡ total fs
unfolding picks_of
picks_length [] h = refl
picks_length (f ∷ fs) (every_more k ks) = length-append (unfolded f) (picks_of fs) ∙ omega (arith, unfolded_length f k, picks_length fs ks)

pub picks_snoc : (fs : List Folded) (f : Folded) → picks_of (fs ++ f ∷ []) ≡ picks_of fs ++ unfolded f
unfolding picks_of
picks_snoc [] f = append-nil (unfolded f)
picks_snoc (g ∷ fs) f = rw (picks_snoc fs f) (simp append_assoc)

picks_letters : (fs : List Folded) → Every Fits fs → Every Letter (picks_of fs)
unfolding picks_of
picks_letters [] h = every-none
picks_letters (f ∷ fs) (every_more k ks) = every_append (unfolded_letters f k) (picks_letters fs ks)

-- A word that has these picks after the first a has the sections

module _ (w : ℕ → ℕ) where
  parts : (a : ℕ) (f : Folded) (fs : List Folded) → Fits f → Every Fits fs → stretch w a (total (f ∷ fs)) ≡ picks_of (f ∷ fs)
      → (stretch w a f.len ≡ unfolded f) × (stretch w (a + f.len) (total fs) ≡ picks_of fs)
  unfolding picks_of
  parts a f fs k ks e =
      append_parts (stretch w a f.len) (stretch w (a + f.len) (total fs)) (unfolded f) (picks_of fs)
      (stretch_length w a f.len ∙ sym (unfolded_length f k)) (sym (stretch_join w a f.len (total fs)) ∙ e)

  sections_of_lem : (a n : ℕ) (fs : List Folded) → Every Fits fs → stretch w a (total fs) ≡ picks_of fs → a + total fs ≡ n
      → Sections w n a (ends_of a fs)
  sections_of_lem a n [] h e s = let z : n ≡ a = omega arith in rw z done
  sections_of_lem a n (f ∷ fs) (every_more k ks) e s =
      let q = parts a f fs k ks e in
      let z : a + f.len - a ≡ f.len = omega arith in
      next {a = a} {e = a + f.len} (record { some = omega (arith, k.ranged.low); mirrored = rw (z, q.0) (unfolded_mirrored f k) })
      (sections_of_lem (a + f.len) n fs ks q.1 (omega arith))

  refold : (a : ℕ) (fs : List Folded) → Every Fits fs → stretch w a (total fs) ≡ picks_of fs → folded_of w a (ends_of a fs) ≡ fs
  unfolding unfolded
  refold a [] h e = refl
  refold a (f ∷ fs) (every_more k ks) e =
      let q = parts a f fs k ks e in
      let z : a + f.len - a ≡ f.len = omega arith in
      let half : stretch w a ((f.len + 1) / 2) ≡ f.half =
      sym (stretch_take w a ((f.len + 1) / 2) f.len (omega (arith, k.ranged.low)))
      ∙ ap (take ((f.len + 1) / 2)) q.0
      ∙ take_at f.half (reverse (take (f.len / 2) f.half)) ((f.len + 1) / 2) k.halved in
      rw z (ap₂ (λ h t. record { len = f.len; half = h } ∷ t) half (refold (a + f.len) fs ks q.1))

-- Records that pass

ends_count : (a : ℕ) (fs : List Folded) → length (ends_of a fs) ≡ length fs
ends_count a [] = refl
ends_count a (f ∷ fs) = ap suc (ends_count (a + f.len) fs)

pub unfold_law : {bytes : List ℕ} {picks : ℕ} {fs : List Folded} → Passes bytes picks fs → Unfolds bytes picks fs (picks_of fs)
unfolding record_of
unfold_law {bytes} {picks} {fs} h =
    let u = picks_of fs in
    let fit = h.laid.fitting in
    let n : length u ≡ picks = picks_length fs fit ∙ h.adds in
    let e : stretch (word u) 0 (total fs) ≡ u = prefix_whole u (total fs) (picks_length fs fit) in
    let s : Split (word u) picks (length fs) (ends_of 0 fs) =
    record { is = sections_of_lem (word u) 0 picks fs fit e (omega (arith, h.adds)); count = ends_count 0 fs } in
    record {
      many = n;
      lettered = picks_letters fs fit;
      split = s;
      joined = rw (prefix_whole u picks n) at (split_joined (length fs) picks s);
      refolds = ap (laid_out picks) (refold (word u) 0 fs fit e) ∙ sym h.laid.written;
    }
