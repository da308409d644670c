-- What the board writes of a draft is a record that passes, and unfolds to it; and every record that passes is such a one.
use Rattle.std.specs.Prelude.{◌≡◌, refl, ◌↔◌, ℕ, zero, suc, ◌+◌, ◌-◌, ◌/◌, ◌≤◌, ◌<◌, drop}
use Rattle.std.proofs.Math.Path.{sym, ap, ap₂}
use Rattle.std.proofs.Common.{◌∙◌, arith, length-drop, take-append-drop, drop_at}
use mathlib.Core.List.{List, [], ◌∷◌, ◌++◌, reverse, reverse-append}
use Rattle.std.proofs.Math.ListN.{length, take}
use Rattle.std.proofs.lemmas.List.{length-reverse}
use Rattle.std.proofs.Math.Seq.{take-take}
use Rattle.words.specs.Definitions.{From, most_picks, most_sections, word, stretch, prefix, Palindrome, Section, Sections, done, next, Split}
use Rattle.words.specs.Mirror.{stretch_length, stretch_join}
use Rattle.layout.specs.Record.{Folded, folded_of, record_of}
use Rattle.layout.specs.Layout.{Every, none as every-none, more as every_more, Letter, Fits, total, Passes}
use Rattle.layout.specs.Unfolding.{unfolded, picks_of, ends_of}
use Rattle.layout.proofs.Entries.{every_at}
use Rattle.layout.proofs.UnfoldLaws.{stretch_take, unfold_law}

-- the writer's sections are as many as the ends
pub folded_count : (w : ℕ → ℕ) (a : ℕ) (ends : List ℕ) → length (folded_of w a ends) ≡ length ends
folded_count w a [] = refl
folded_count w a (e ∷ ends) = ap suc (folded_count w e ends)

-- One section folded

-- the first half of a mirrored list, unfolded
fold_mirror : (u : List ℕ) (h r : ℕ) → Palindrome u → h + r ≡ length u → r ≤ h → take h u ++ reverse (take r u) ≡ u
fold_mirror u h r p e l =
    let back : drop h u ≡ reverse (take r u) =
    ap (drop h) (p ∙ ap reverse (sym (take-append-drop r u)) ∙ reverse-append (take r u) (drop r u))
    ∙ drop_at (reverse (drop r u)) (reverse (take r u)) h (length-reverse (drop r u) ∙ length-drop r u ∙ omega arith) in
    ap (λ t. take h u ++ t) (sym back) ∙ take-append-drop h u

pub every_stretch : (w : ℕ → ℕ) (a len : ℕ) → ((j : ℕ) → a ≤ j → j < a + len → Letter (w j)) → Every Letter (stretch w a len)
every_stretch w a zero f = every-none
every_stretch w a (suc len) f =
    every_more (f a (omega arith) (omega arith)) (every_stretch w (suc a) len (λ j l m. f j (omega arith) (omega arith)))

abbrev folded : (ℕ → ℕ) → (a e : ℕ) → Folded
folded w a e = record { len = e - a; half = stretch w a ((e - a + 1) / 2) }

module _ (w : ℕ → ℕ) (a e : ℕ) where
  folded_fits : a < e → e ≤ most_picks → ((j : ℕ) → j < e → Letter (w j)) → Fits (folded w a e)
  folded_fits l b f = record {
    ranged = record { low = omega arith; high = omega arith };
    halved = stretch_length w a ((e - a + 1) / 2);
    lettered = every_stretch w a ((e - a + 1) / 2) (λ j x y. f j (omega arith));
  }

  folded_back : Section w a e → unfolded (folded w a e) ≡ stretch w a (e - a)
  unfolding unfolded
  folded_back s =
      let len = e - a in
      let h = (len + 1) / 2 in
      let half : stretch w a h ≡ take h (stretch w a len) = sym (stretch_take w a h len (omega (arith, s.some))) in
      let short : take (len / 2) (stretch w a h) ≡ take (len / 2) (stretch w a len) =
      ap (take (len / 2)) half ∙ take-take (len / 2) h (stretch w a len) (omega arith) in
      ap₂ (λ x y. x ++ reverse y) half short
      ∙ fold_mirror (stretch w a len) h (len / 2) s.mirrored (rw (stretch_length w a len) (omega arith)) (omega arith)

-- All of them: w are the letters, x is what the sections are of

record Written (w : ℕ → ℕ) (n a : ℕ) (ends : List ℕ) : Type 0 where
  low : a ≤ n
  fitting : Every Fits (folded_of w a ends)
  adds : a + total (folded_of w a ends) ≡ n

written : {w x : ℕ → ℕ} {n a : ℕ} {ends : List ℕ} → n ≤ most_picks → ((j : ℕ) → j < n → Letter (w j)) → Sections x n a ends
    → Written w n a ends
written b f done = record { low = omega arith; fitting = every-none; adds = omega arith }
written {w} b f (next {a = a} {e = e} s rest) =
    let r = written {w = w} b f rest in
    let top : e ≤ _ = r.low in
    record {
      low = omega (arith, s.some);
      fitting = every_more (folded_fits w a e s.some (omega arith) (λ j l. f j (omega arith))) r.fitting;
      adds = omega (arith, r.adds, s.some);
    }

back : {w : ℕ → ℕ} {n a : ℕ} {ends : List ℕ} → Sections w n a ends → (a ≤ n) × (picks_of (folded_of w a ends) ≡ stretch w a (n - a))
unfolding picks_of
back {n = n} done = let z : n - n ≡ 0 = omega arith in (omega arith, rw z refl)
back {w} {n} (next {a = a} {e = e} s rest) =
    let r = back rest in
    let x : a + (e - a) ≡ e = omega (arith, s.some) in
    let y : e - a + (n - e) ≡ n - a = omega (arith, s.some, r.0) in (
      omega (arith, s.some, r.0),
      ap₂ ◌++◌ (folded_back w a e s) r.1
          ∙ ap (λ k. stretch w a (e - a) ++ stretch w k (n - e)) (sym x)
          ∙ sym (stretch_join w a (e - a) (n - e))
          ∙ ap (stretch w a) y,
    )

-- The laws of a record written

-- it passes, whatever the split is of
pub written_law : {w x : ℕ → ℕ} {i k : ℕ} {ends : List ℕ} → From 1 most_picks i → From 1 most_sections k → ((j : ℕ) → j < i → Letter (w j))
    → Split x i k ends → Passes (record_of w i ends) i (folded_of w 0 ends)
unfolding record_of
written_law {w} {x} {i} {k} {ends} l m f s =
    let r = written {w = w} l.high f s.is in
    let c : length (folded_of w 0 ends) ≡ k = folded_count w 0 ends ∙ s.count in
    record {
      laid = record { ranged = l; counted = rw c m; fitting = r.fitting; written = refl };
      adds = omega (arith, r.adds);
    }

-- where the split is of the letters, they come back
pub back_law : {w : ℕ → ℕ} {i k : ℕ} {ends : List ℕ} → Split w i k ends → picks_of (folded_of w 0 ends) ≡ prefix w i
back_law {w} {i} s = let z : i - 0 ≡ i = omega arith in (back s.is).1 ∙ ap (stretch w 0) z

-- The records that pass are those written

-- bytes that the writer's definition gives for a draft of letters and any split of it
pub record FromDraft (bytes : List ℕ) : Type 0 where
  pub draft : List ℕ
  pub ends : List ℕ
  pub picks : From 1 most_picks (length draft)
  pub sections : From 1 most_sections (length ends)
  pub lettered : Every Letter draft
  pub split : Split (word draft) (length draft) (length ends) ends
  pub written : bytes ≡ record_of (word draft) (length draft) ends

pub record Passing (bytes : List ℕ) : Type 0 where
  pub picks : ℕ
  pub sections : List Folded
  pub passes : Passes bytes picks sections

pub passing_law : (bytes : List ℕ) → Passing bytes ↔ FromDraft bytes
passing_law bytes = (
  λ a.
      let u = unfold_law a.passes in
      let s = a.passes.laid in
      let n : length (ends_of 0 a.sections) ≡ length a.sections = u.split.count in
      record {
        draft = picks_of a.sections;
        ends = ends_of 0 a.sections;
        picks = rw u.many s.ranged;
        sections = rw n s.counted;
        lettered = u.lettered;
        split = rw (u.many, n) u.split;
        written = rw u.many (sym u.refolds);
      },
  λ d.
      let r = written_law {w = word d.draft} d.picks d.sections (every_at d.lettered) d.split in
      record { picks = length d.draft; sections = folded_of (word d.draft) 0 d.ends; passes = rw d.written r },
)
