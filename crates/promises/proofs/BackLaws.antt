-- Going back: the state that it leaves holds what the book then has, and the code's way to it, which feeds the kept picks again in place.
use Rattle.std.specs.Prelude.{◌≡◌, get_or, drop, set, replicate}
use Rattle.std.proofs.Math.Path.{sym, ap, ap₂}
use Rattle.std.proofs.Common.{subst, ◌∙◌, arith, length-append, length-take, drop_of_length-le, take_all, take-take, drop-cons, take_at, drop_at, get_or-take, ext_get_or}
use mathlib.Core.List.{List, [], ◌∷◌, ◌++◌, map, append-nil, append_assoc}
use Prim.Native.Nat.{ℕ, suc, ◌+◌, ◌-◌, ◌≤◌, ◌<◌, min}
use Rattle.std.proofs.Math.Decide.{dec_le}
use Rattle.std.proofs.Math.ListN.{length, take}
use Rattle.std.proofs.lemmas.List.{length-replicate, replicate-append-replicate}
use Rattle.std.proofs.Math.Seq.{length-take-le, sets}
use Rattle.cells.specs.declared.Centres.{Centres}
use Rattle.cells.specs.declared.Places.{Places}
use Rattle.cells.specs.declared.Numbers.{Numbers}
use Rattle.words.specs.Definitions.{most_picks, most_sections}
use Rattle.models.proofs.Stores.{sets_front}
use Rattle.models.specs.Core.{Arrays, arrays_in, After, append, Appends}
use Rattle.models.proofs.Core.{append_arrays}
use Rattle.promises.specs.declared.Draft.{Draft}
use Rattle.promises.specs.Lifts.{lift_in, lifted_by}
use Rattle.promises.specs.Marks.{drop_longer, marks_in}
use Rattle.promises.proofs.MarkLaws.{read_entries, entries_drop}
use Rattle.promises.specs.Marks.{keep_to}
use Rattle.promises.specs.Book.{Book, book, cut_book}
use Rattle.promises.specs.State.{draft_in, empty_under, fresh, arrays_of, state_with, with_pick, with_picks, state_of_book, marks_of, picks_of, cut_to, append_all}
use Rattle.promises.specs.Holds.{Holds}
use Rattle.promises.proofs.WritingLaws.{held_fits, empty_holds, pick_holds}

-- picks one after another
picks_hold : {d : Draft} {b : Book} (picks : List ℕ) → Holds d b → length b.row + length picks ≤ most_picks
    → Holds (with_picks d picks) (book b.K b.lifts (b.row ++ picks) b.marks)
unfolding with_picks
picks_hold {d} {b} [] h l = subst (λ r. Holds d (book b.K b.lifts r b.marks)) (sym (append-nil b.row)) h
picks_hold {d} {b} (x ∷ picks) h l =
    subst (λ r. Holds (with_picks (with_pick d x) picks) (book b.K b.lifts r b.marks)) (append_assoc b.row (x ∷ []) picks)
    (picks_hold {d = with_pick d x} picks (pick_holds h x (omega arith)) (omega (arith, length-append b.row (x ∷ []))))

-- the state of a book holds what stands in it
book_holds : (b : Book) → 1 ≤ b.K → b.K ≤ most_sections → length b.row ≤ most_picks → Holds (state_of_book b) b
book_holds b x y l = picks_hold b.row (empty_holds b.K b.lifts b.marks x y) (omega arith)

module _ {d : Draft} {b : Book} (h : Holds d b) where
  pub held_marks : marks_of d ≡ b.marks
  held_marks = ap marks_in h.marks ∙ read_entries b.marks

  held_row : picks_of d ≡ b.row
  held_row = ext_get_or 0 (picks_of d) b.row (size ∙ h.picks) (λ i l.
      get_or-take d.numbers.n d.letters i 0 (omega (arith, size)) ∙ h.letters i (omega (arith, size, h.picks)))
    where
      size : length (picks_of d) ≡ d.numbers.n
      size = length-take-le d.numbers.n d.letters (omega (arith, h.picks, h.room, held_fits h))

  -- the state after going back is that of the book then
  pub cut_state : (m : ℕ) → cut_to d m ≡ state_of_book (cut_book b m)
  unfolding cut_to
  cut_state m =
      ap₂ (λ K lifts. with_picks (empty_under K lifts (drop_longer m (marks_of d))) (take m (picks_of d))) h.sections h.lifts
      ∙ ap₂ (λ marks row. with_picks (empty_under b.K b.lifts (drop_longer m marks)) (take m row)) held_marks held_row

  pub cut_holds : (m : ℕ) → Holds (cut_to d m) (cut_book b m)
  cut_holds m =
      subst (λ s. Holds s (cut_book b m)) (sym (cut_state m))
      (book_holds (cut_book b m) h.least h.most (omega (arith, length-take m b.row, held_fits h)))

-- The code's way

-- the first m of the first n
take_both : (m n : ℕ) (l : List ℕ) → take m (take n l) ≡ take (min m n) l
take_both m n l = elim (dec_le m n) [
  | yes p ↦ let e : min m n ≡ m = omega arith in take-take m n l p ∙ ap (λ k. take k l) (sym e)
  | no p ↦
      let e : min m n ≡ n = omega arith in
      take_all m (take n l) (omega (arith, length-take n l)) ∙ ap (λ k. take k l) (sym e)
]

zeros_behind : (size kept : ℕ) → kept ≤ size → drop {A = ℕ} kept (replicate size 0) ≡ replicate (size - kept) 0
zeros_behind size kept a =
    let z : kept + (size - kept) ≡ size = omega arith in
    ap (λ (t : List ℕ). drop kept t) (ap (λ k. replicate k 0) (sym z) ∙ sym (replicate-append-replicate kept (size - kept) 0))
    ∙ drop_at (replicate kept 0) (replicate (size - kept) 0) kept (length-replicate kept 0)

-- the first kept letters, and 0 behind them
pub cut_zeros : (kept : ℕ) (letters : List ℕ) → kept ≤ length letters
    → take kept letters ++ replicate (length letters - kept) 0 ≡ sets (replicate (length letters) 0) 0 (take kept letters)
cut_zeros kept letters a =
    let size : ℕ = length letters in
    let l : length (take kept letters) ≡ kept = length-take-le kept letters a in
    ap (λ t. take kept letters ++ t) (sym (zeros_behind size kept a) ∙ ap (λ k. drop k (replicate size 0)) (sym l))
    ∙ sym (sets_front (take kept letters) (replicate size 0) (omega (arith, l, length-replicate {A = ℕ} size 0)))

-- the pick after the first n of those that are kept: its code is given to the core
pub again_one : (K n kept code : ℕ) (lifts letters : List ℕ) {k : ℕ} {a : Arrays} {vs : List ℕ} {z : After} → n < kept → kept ≤ length letters
    → code ≡ lift_in lifts (get_or (take kept letters) n 0) → k ≡ K → Appends k n code a vs z
    → append_all K (n + 1) z.arrays (lifted_by lifts (drop (n + 1) (take kept letters))) ≡ append_all K n a (lifted_by lifts (drop n (take kept letters)))
unfolding append_all
again_one K n kept code lifts letters {k} {a} {vs} l m e f g =
    let next : n + 1 ≡ suc n = omega arith in
    let here = drop-cons (take kept letters) n 0 (omega (arith, length-take-le kept letters m)) in
    let same : lift_in lifts (get_or (take kept letters) n 0) ≡ code = sym e in
    rw (next, here, same, ← f, g.computes, append_arrays k n code a vs)

-- all of them
pub again_all : (K n kept : ℕ) (lifts letters : List ℕ) (a : Arrays) → kept ≤ n → append_all K n a (lifted_by lifts (drop n (take kept letters))) ≡ a
unfolding append_all
again_all K n kept lifts letters a l = rw (drop_of_length-le (take kept letters) {i = n} (omega (arith, length-take kept letters)))

-- picks one after another: their letters stored behind one another, their codes given to the core
picks_state : (d : Draft) (picks : List ℕ)
    → with_picks d picks
    ≡ state_with (d.numbers.n + length picks) d.numbers.k (sets d.letters d.numbers.n picks) d.lifts d.marks (append_all d.numbers.k d.numbers.n (arrays_of d) (lifted_by d.lifts picks))
unfolding with_picks append_all
picks_state d [] = let e : d.numbers.n ≡ d.numbers.n + 0 = omega arith in ap (λ n. state_with n d.numbers.k d.letters d.lifts d.marks (arrays_of d)) e
picks_state d (x ∷ picks) =
    let a : Arrays = (append d.numbers.k d.numbers.n (lift_in d.lifts x) (arrays_of d) []).arrays in
    let e : d.numbers.n + 1 + length picks ≡ d.numbers.n + suc (length picks) = omega arith in
    let f : d.numbers.n + 1 ≡ suc d.numbers.n = omega arith in
    picks_state (with_pick d x) picks
    ∙ ap₂ (λ n m. state_with n d.numbers.k (sets (set d.letters d.numbers.n x) m picks) d.lifts d.marks (append_all d.numbers.k m a (lifted_by d.lifts picks))) e f

state_alike : {n n' k k' : ℕ} {letters letters' : List ℕ} (lifts : List ℕ) {marks marks' : List ℕ} {a a' : Arrays} → n ≡ n' → k ≡ k' → letters ≡ letters'
    → marks ≡ marks' → a ≡ a' → state_with n k letters lifts marks a ≡ state_with n' k' letters' lifts marks' a'
state_alike lifts e f p q r = rw (e, f, p, q, r)

-- of any state d, where the mark's entry is not 0: so many picks are kept, and fed again to the arrays of no letter, codes₀, v₀ and w₀
module _ (d : Draft) (entry kept : ℕ) (some : entry ≡ 0 → ⊥) (size : length d.letters ≡ most_picks) (fits : d.numbers.n ≤ most_picks)
    (is : kept ≡ min (entry - 1) d.numbers.n) where
  kept_fits : kept ≤ length d.letters
  kept_fits = omega (arith, is, size, fits)

  -- the letters that are cut have the kept ones in front
  cut_front : (letters : List ℕ) → letters ≡ sets (replicate (length d.letters) 0) 0 (take kept d.letters)
      → take kept letters ≡ take kept d.letters
  cut_front letters p =
      let l : length (take kept d.letters) ≡ kept = length-take-le kept d.letters kept_fits in
      ap (take kept) (p ∙ sets_front (take kept d.letters) _ (omega (arith, l, kept_fits, length-replicate {A = ℕ} (length d.letters) 0)))
      ∙ take_at (take kept d.letters) _ kept l

  pub back_state : (numbers : Numbers) (letters codes marks : List ℕ) (v : Centres) (w : Places) (codes₀ : List ℕ) (v₀ : Centres) (w₀ : Places)
      → marks ≡ map (keep_to entry) d.marks → letters ≡ sets (replicate (length d.letters) 0) 0 (take kept d.letters)
      → codes₀ ≡ replicate most_picks 0 → v₀ ≡ (fresh 0).centres → w₀ ≡ (fresh 0).places → numbers.n ≡ kept → numbers.k ≡ d.numbers.k
      → arrays_in codes v w numbers.longest.0 ≡ append_all d.numbers.k 0 (arrays_in codes₀ v₀ w₀ 1) (lifted_by d.lifts (take kept letters))
      → draft_in numbers letters codes d.lifts marks v w ≡ cut_to d (entry - 1)
  unfolding cut_to
  back_state numbers letters codes marks v w codes₀ v₀ w₀ m p c a b f g r =
      let picks : List ℕ = take kept d.letters in
      let top : entry ≡ suc (entry - 1) = omega (arith, some) in
      let l : length picks ≡ kept = length-take-le kept d.letters kept_fits in
      let same : take (entry - 1) (picks_of d) ≡ picks = take_both (entry - 1) d.numbers.n d.letters ∙ ap (λ k. take k d.letters) (sym is) in
      state_alike d.lifts (omega (arith, f, l)) g (p ∙ ap (λ n. sets (replicate n 0) 0 picks) size)
      (m ∙ ap (λ t. map (keep_to t) d.marks) top ∙ entries_drop (entry - 1) d.marks)
      (r ∙ rw (cut_front letters p, c, a, b))
      ∙ sym (picks_state (empty_under d.numbers.k d.lifts (drop_longer (entry - 1) (marks_of d))) picks)
      ∙ ap (with_picks (empty_under d.numbers.k d.lifts (drop_longer (entry - 1) (marks_of d)))) (sym same)
