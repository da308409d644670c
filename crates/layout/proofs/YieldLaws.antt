-- A reader of a record that passes yields its sections in order, then none; of any other bytes none.
use Rattle.std.specs.Prelude.{◌≡◌, cond, ◌≢◌, eqb}
use Rattle.std.proofs.Math.Path.{refl, sym, ap}
use Rattle.std.proofs.Common.{ap₂, ◌∙◌, arith, eq-eqb, ne_eqb}
use mathlib.Core.List.{List, [], ◌∷◌, ◌++◌, append_assoc, append-nil}
use Prim.Native.Nat.{ℕ, zero, suc, ◌+◌, ◌/◌, ◌%◌, ◌≤◌, ◌<◌}
use Rattle.std.proofs.Math.Decide.{ℕ_discrete}
use Rattle.std.proofs.Math.ListN.{length, length-append}
use Rattle.text.specs.Definitions.{comma, line_end}
use Rattle.layout.specs.declared.Section.{Section}
use Rattle.layout.specs.declared.Found.{Found}
use Rattle.layout.specs.Record.{Folded, laid_out}
use Rattle.layout.specs.Layout.{total, opening, Passes}
use Rattle.layout.specs.Reading.{Reading, whole, breaks, reading}
use Rattle.layout.specs.Yield.{turn_of, section_after, nothing_at, found_at, bytes_in, among, behind_count, yielded, yield_at, on_from, walk}
use Rattle.layout.specs.Yield.{sections_in, place_after, Middle, on, between, Yields}
use Rattle.layout.proofs.Entries.{every_among}
use Rattle.layout.proofs.ReadingLaws.{laid_law}
use Rattle.layout.proofs.Places.{offset, offset_append, bytes_in_two, total_snoc, place_as, place_some}

-- The section at a place

among_here : (given first a : ℕ) (mid : List Folded) (f : Folded) (rest : List Folded)
    → among given first a (mid ++ f ∷ rest) (first + offset mid)
    ≡ found_at (section_after (a + total mid) f.len) (first + offset mid + bytes_in f)
unfolding among
among_here given first a [] f rest =
    let z : first + 0 ≡ first = omega arith in
    let y : a + 0 ≡ a = omega arith in
    rw (z, y) (simp (eq-eqb first first refl))
among_here given first a (g ∷ mid) f rest =
    let x : first + offset (g ∷ mid) ≡ first + bytes_in g + offset mid = omega arith in
    let y : a + total (g ∷ mid) ≡ a + g.len + total mid = omega arith in
    rw (x, y)
    (simp (ne_eqb (first + bytes_in g + offset mid) first (λ e. unfold bytes_in in omega arith))
    (among_here given (first + bytes_in g) (a + g.len) mid f rest))

among_none : (given first a : ℕ) (fs : List Folded) (at : ℕ)
    → ((mid : List Folded) (f : Folded) (rest : List Folded) → fs ≡ mid ++ f ∷ rest → at ≢ first + offset mid)
    → among given first a fs at ≡ nothing_at given
unfolding among
among_none given first a [] at h = refl
among_none given first a (f ∷ fs) at h =
    simp (ne_eqb at first (λ e. h [] f fs refl (omega arith)))
    (among_none given (first + bytes_in f) (a + f.len) fs at (λ mid g rest e q. h (f ∷ mid) g rest (ap (λ l. f ∷ l) e) (omega arith)))

-- where a section begins there, the place given does not count
among_first : (k l first a : ℕ) (fs : List Folded) → 1 ≤ length fs → among k first a fs first ≡ among l first a fs first
unfolding among
among_first k l first a [] h = absurd (omega arith)
among_first k l first a (f ∷ fs) h = simp (eq-eqb first first refl)

-- Its turn

turn_middle : (a len : ℕ) → 1 ≤ len → Middle a len (turn_of a len)
unfolding turn_of
turn_middle a len l = elim (ℕ_discrete (len % 2) 1) [
  | yes e ↦ simp (eq-eqb (len % 2) 1 e) (on (record { 0 = a + (len + 1) / 2 }) (omega arith))
  | no n ↦ simp (ne_eqb (len % 2) 1 n) (between (record { 0 = a + len / 2 }) (omega arith))
]

-- The sections of a record that passes

-- so many steps more, behind what the first one found
abbrev walk_on : (bytes : List ℕ) (steps : ℕ) → Found → List Section
walk_on bytes steps y = on_from y.yielded (walk bytes steps y.next)

module _ {bytes : List ℕ} {picks : ℕ} {fs : List Folded} (h : Passes bytes picks fs) where
  passing : (at : ℕ)
      → yield_at bytes at ≡ among at (behind_count picks (length fs)) 0 fs (cond (eqb at 0) (behind_count picks (length fs)) at)
  unfolding yield_at
  passing at = ap (λ r. yielded r at) ((laid_law bytes picks fs).0 h.laid) ∙ simp (eq-eqb (total fs) picks h.adds)

  passing_some : (at : ℕ) → at ≢ 0 → yield_at bytes at ≡ among at (behind_count picks (length fs)) 0 fs at
  passing_some at n = passing at ∙ simp (ne_eqb at 0 n)

  yields_each : (a : List Folded) (f : Folded) (rest : List Folded) → fs ≡ a ++ f ∷ rest
      → yield_at bytes (place_after picks fs a) ≡ found_at (section_after (total a) f.len) (place_after picks fs (a ++ f ∷ []))
  yields_each a f rest e =
      let n : place_after picks fs a ≡ behind_count picks (length fs) + offset a = place_as picks fs a in
      let m : place_after picks fs (a ++ f ∷ []) ≡ behind_count picks (length fs) + offset a + bytes_in f =
      place_as picks fs (a ++ f ∷ []) ∙ omega (arith, offset_append a (f ∷ [])) in
      passing_some (place_after picks fs a) (place_some picks fs a)
      ∙ ap₂ (λ l k. among (place_after picks fs a) (behind_count picks (length fs)) 0 l k) e n
      ∙ among_here (place_after picks fs a) (behind_count picks (length fs)) 0 a f rest
      ∙ ap₂ (λ x y. found_at (section_after x f.len) y) (omega arith) (sym m)

  yields_last : place_after picks fs fs ≡ length bytes
  unfolding laid_out place_after
  yields_last =
      let front = opening picks (length fs) fs in
      length-append front (comma ∷ []) ∙ sym (length-append front (line_end ∷ [])) ∙ ap length (sym h.laid.written)

  yields_begin : yield_at bytes 0 ≡ yield_at bytes (place_after picks fs [])
  yields_begin =
      let z : place_after picks fs [] ≡ behind_count picks (length fs) = place_as picks fs [] ∙ omega arith in
      let place = place_after picks fs [] in
      passing 0
      ∙ among_first 0 place (behind_count picks (length fs)) 0 fs h.laid.counted.low
      ∙ sym (passing_some place (place_some picks fs []) ∙ ap (among place (behind_count picks (length fs)) 0 fs) z)

  yields_others : (at : ℕ) → at ≢ 0
      → ((a : List Folded) (f : Folded) (rest : List Folded) → fs ≡ a ++ f ∷ rest → at ≢ place_after picks fs a)
      → yield_at bytes at ≡ nothing_at at
  yields_others at n g =
      passing_some at n
      ∙ among_none at (behind_count picks (length fs)) 0 fs at (λ a f rest e z. g a f rest e (z ∙ sym (place_as picks fs a)))

  -- behind the last section there is none
  yields_end : yield_at bytes (length bytes) ≡ nothing_at (length bytes)
  yields_end =
      let l = yields_last in
      yields_others (length bytes) (λ z. place_some picks fs fs (l ∙ z)) (λ a f rest e z.
      let o : offset fs ≡ offset a + offset (f ∷ rest) = ap offset e ∙ offset_append a (f ∷ rest) in
      let q : 2 ≤ bytes_in f = bytes_in_two f in
      omega (arith, l, z, place_as picks fs fs, place_as picks fs a))

  order_on : (a rest : List Folded) (steps : ℕ) → fs ≡ a ++ rest → length rest < steps
      → walk bytes steps (place_after picks fs a) ≡ sections_in (total a) rest
  unfolding walk
  order_on a rest zero e l = absurd (omega arith)
  order_on a [] (suc steps) e l =
      let z : place_after picks fs a ≡ length bytes = ap (place_after picks fs) (sym (append-nil a) ∙ sym e) ∙ yields_last in
      ap (λ k. walk_on bytes steps (yield_at bytes k)) z ∙ ap (walk_on bytes steps) yields_end
  order_on a (f ∷ rest) (suc steps) e l =
      ap (walk_on bytes steps) (yields_each a f rest e)
      ∙ ap (λ t. section_after (total a) f.len ∷ t)
      (order_on (a ++ f ∷ []) rest steps (e ∙ sym (append_assoc a (f ∷ []) rest)) (omega arith)
      ∙ ap (λ k. sections_in k rest) (total_snoc a f))

  order : (steps : ℕ) → length fs < steps → walk bytes steps 0 ≡ sections_in 0 fs
  unfolding walk
  order zero l = absurd (omega arith)
  order (suc steps) l = ap (walk_on bytes steps) yields_begin ∙ order_on [] fs (suc steps) refl l

  pub yields_law : Yields bytes picks fs
  yields_law = record {
    each = yields_each;
    middle = λ a f rest e. turn_middle (total a) f.len (every_among h.laid.fitting a f rest e).ranged.low;
    last = yields_last;
    begin = yields_begin;
    others = yields_others;
    order = order;
  }

-- Bytes that do not pass

pub yields_none : (bytes : List ℕ) → ((picks : ℕ) (fs : List Folded) → Passes bytes picks fs → ⊥) → (at : ℕ)
    → yield_at bytes at ≡ nothing_at at
unfolding yield_at
yields_none bytes h at = go (reading bytes) refl
  where
    go : (r : Reading) → reading bytes ≡ r → yielded (reading bytes) at ≡ nothing_at at
    go (breaks place) e = ap (λ r. yielded r at) e
    go (whole p fs) e =
        ap (λ r. yielded r at) e ∙ simp (ne_eqb (total fs) p (λ s. h p fs (record { laid = (laid_law bytes p fs).1 e; adds = s })))
