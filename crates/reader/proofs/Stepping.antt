-- A reader's steps yield the record's sections in order, then none.
use mathlib.Core.Path.{◌≡◌, refl, ap, ◌∙◌}
use mathlib.Core.List.{List, [], ◌∷◌}
use Prim.Native.Nat.{ℕ, zero, suc, ◌+◌, ◌≤◌}
use native.Mathlib.Omega.{arith}
use lib.ListN.{length}
use Rattle.layout.specs.declared.Section.{Section}
use Rattle.std.specs.Prelude.{Option, Some, None}
use Rattle.layout.specs.declared.Found.{Found}
use Rattle.layout.specs.Yield.{nothing_at, yield_at, on_from, walk}
use Rattle.layout.proofs.YieldLaws.{yields_law, yields_none}
use Rattle.promises.proofs.ReadBack.{section_is}
use Rattle.reader.specs.declared.Reader.{Reader}
use Rattle.reader.proofs.Moving.{YieldsAt, none, one, yields}
use Rattle.reader.specs.Reader.{Steps, over, again, in_order, StepsHold}

-- Walks

-- no step finds one
walk_none : (bytes : List ℕ) (at steps : ℕ) → yield_at bytes at ≡ nothing_at at → walk bytes steps at ≡ []
unfolding walk
walk_none bytes at zero e = refl
walk_none bytes at (suc steps) e = ap (λ y. on_from y.yielded (walk bytes steps y.next)) e

-- more steps change nothing
walk_more : (bytes : List ℕ) (steps more at : ℕ) → steps ≤ more → in_order steps (walk bytes steps at) ≡ in_order steps (walk bytes more at)
unfolding walk
walk_more bytes zero more at h = refl
walk_more bytes (suc steps) zero at h = absurd (omega arith)
walk_more bytes (suc steps) (suc more) at h = go (yield_at bytes at).yielded _ _ (walk_more bytes steps more (yield_at bytes at).next (omega arith))
  where
    go : (x : Option Section) (l m : List Section) → in_order steps l ≡ in_order steps m → in_order (suc steps) (on_from x l) ≡ in_order (suc steps) (on_from x m)
    go (Some s) l m e = ap (λ t. Some s ∷ t) e
    go None l m e = refl

-- what steps yield is what a walk finds, then none
step_on : (bytes : List ℕ) (at steps : ℕ) (xs : List (Option Section)) (y : Found) → YieldsAt at (length bytes) y → yield_at bytes at ≡ y
    → xs ≡ in_order steps (walk bytes steps y.next) → y.yielded ∷ xs ≡ in_order (suc steps) (on_from y.yielded (walk bytes steps y.next))
step_on bytes at steps xs y none e h = ap (λ l. None ∷ l) (h ∙ ap (in_order steps) (walk_none bytes at steps e))
step_on bytes at steps xs y (one s next l m) e h = ap (λ l. Some s ∷ l) h

steps_walk : (r t : Reader) (xs : List (Option Section)) → Steps r xs t → xs ≡ in_order (length xs) (walk r.bytes.now (length xs) r.at)
unfolding walk
steps_walk r t [] over = refl
steps_walk r t (x ∷ xs) (again {s = s} p q) =
    let bytes : List ℕ = r.bytes.now in
    let y = section_is bytes r.at (record { yielded = x; next = s.at }) p.0 in
    let n : s.at ≡ (yield_at bytes r.at).next = ap (λ (z : Found). z.next) y in
    let h : xs ≡ in_order (length xs) (walk bytes (length xs) (yield_at bytes r.at).next) =
    steps_walk s t xs q
    ∙ ap (λ (z : Reader). in_order (length xs) (walk z.bytes.now (length xs) z.at)) p.1
    ∙ ap (λ k. in_order (length xs) (walk bytes (length xs) k)) n in
    ap (λ (z : Found). z.yielded ∷ xs) y ∙ step_on bytes r.at (length xs) xs (yield_at bytes r.at) (yields bytes r.at) refl h

pub steps_hold : StepsHold
steps_hold r t xs z h =
    let bytes : List ℕ = r.bytes.now in
    let begins : xs ≡ in_order (length xs) (walk bytes (length xs) 0) =
    steps_walk r t xs h ∙ ap (λ k. in_order (length xs) (walk bytes (length xs) k)) z in
    record {
      passes = λ picks fs p.
          begins ∙ walk_more bytes (length xs) (length xs + suc (length fs)) 0 (omega arith)
          ∙ ap (in_order (length xs)) ((yields_law p).order (length xs + suc (length fs)) (omega arith));
      none = λ f. begins ∙ ap (in_order (length xs)) (walk_none bytes 0 (length xs) (yields_none bytes f 0));
    }
