-- What every writer of bytes does, and its laws: one writer after another, and a run of bytes whose last is stored first.
use Rattle.std.specs.Prelude.{◌≡◌, List, [], ◌∷◌, ◌++◌, ℕ, suc, ◌+◌, ◌-◌, ◌^◌, length, set}
use Rattle.std.proofs.Common.{sym, ap, ◌∙◌, add-zero, arith, length-append}
use Rattle.std.proofs.lemmas.List.Edits.{sets}
use Rattle.std.proofs.lemmas.List.{set_comm}
use Rattle.std.proofs.Math.Seq.{length-sets}
use Rattle.models.proofs.Stores.{sets_append}

-- What a writer does: it stores bytes in a list from a place on, and gives the place after them.
pub record Writes (list : List ℕ) (place : ℕ) (bytes after : List ℕ) (next : ℕ) : Type 0 where
  pub stored : after ≡ sets list place bytes
  pub reached : next ≡ place + length bytes

-- the last place that a number of 64 bits can name
abbrev pub far : ℕ
far = 2 ^ 64 - 1

-- one writer after another
pub both : {l m o : List ℕ} {a b c : ℕ} (xs ys : List ℕ) → Writes l a xs m b → Writes m b ys o c → Writes l a (xs ++ ys) o c
both {l} {m} {o} {a} {b} {c} xs ys p q = record {
  stored = q.stored ∙ rw (p.stored, p.reached) (sym (sets_append l a xs ys));
  reached = omega (arith, p.reached, q.reached, length-append xs ys);
}

-- a writer keeps the list's length
pub writes_length : {l m : List ℕ} {a b : ℕ} (xs : List ℕ) → Writes l a xs m b → length m ≡ length l
writes_length {l} {a = a} xs h = ap length h.stored ∙ length-sets l a xs

-- a run of stores, the last one first
pub sets_last : (l : List ℕ) (a : ℕ) (xs : List ℕ) (d : ℕ) → sets (set l (a + length xs) d) a xs ≡ sets l a (xs ++ d ∷ [])
sets_last l a [] d = ap (λ k. set l k d) (add-zero a)
sets_last l a (x ∷ xs) d =
    ap (λ k. sets k (suc a) xs) (set_comm l (a + suc (length xs)) a d x (omega arith))
    ∙ ap (λ k. sets (set (set l a x) k d) (suc a) xs) (omega arith)
    ∙ sets_last (set l a x) (suc a) xs d
