-- What is found, from the book and in the stored arrays: which line refuses it, or what it says.
use mathlib.Core.Path.{◌≡◌, refl, sym, ap, ap₂}
use mathlib.Core.Bool.{Bool, true, false, cond, ◌||◌}
use mathlib.Core.Logic.{inl, inr}
use mathlib.Core.List.{List, [], ◌∷◌, Memᴰ}
use mathlib.Core.Option.{Option, some, none}
use Prim.Native.Nat.{ℕ, suc, ◌+◌, ◌*◌, ◌-◌, ◌≤◌}
use native.Mathlib.Omega.{arith}
use native.Mathlib.Decide.{dec_lt}
use lib.Dec.{leb, ltb}
use lib.ListN.{length}
use borrow.Author.Tests.{ltb-true, ltb-false, le-leb, lt-leb}
use Rattle.words.proofs.Cases.{clash}
use Rattle.words.specs.Definitions.{word}
use Rattle.words.specs.Search.{smallest_one}
use Rattle.words.specs.Periods.{next_period}
use Rattle.words.specs.Computed.{NextShorter, shorter_after, next_after, radius_at, split_of}
use Rattle.words.specs.Computed.{mask as mask_of}
use Rattle.words.proofs.Laws.{row_bit, row_past, mask_bit, least_period_lem, next_ending_lem, NextAfter, there, nowhere, next_law, radius_at_lem}
use Rattle.words.proofs.Splits.{Splitting, given, lacking, split_law, named_one}
use Rattle.promises.specs.Answers.{gave, refused, Under, Reply, reply, filled}
use Rattle.layout.specs.Record.{record_of}
use Rattle.promises.specs.Marks.{Marks, most_marks, mark_at, is_mark, how_many, room_for}
use Rattle.promises.specs.Book.{Book, Call, mark, back, ask, lent, lifted, split, next, fold}
use Rattle.promises.specs.Replies.{or_no_split, or_no_ending, or_too_long, or_refused, or_no_mark, or_fifth_name, gives, split_reply, record_reply, refusal_to}
use Rattle.promises.proofs.LiftLaws.{lifted_length}
use Rattle.promises.specs.Listed.{Line, First, NoneMet, Outside, record_longer, no_split, no_ending, no_such_mark, fifth_name}
use Rattle.promises.specs.Says.{Yes, RadiusSays, Says}
use Rattle.promises.specs.Demands.{Accepted}
use Rattle.promises.proofs.Keeping.{gave_accepted}

-- A reply, and the lines that were met

-- refused under the first of them, or none is met and the reply is what document 01 says
pub data Outcome (b : Book) (call : Call) (ls : List Line) (r : Reply) : Type 0 where
  under : (number : ℕ) → First ls number → r ≡ reply (refusal_to call number) (lent call) → Outcome b call ls r
  fine : NoneMet ls → Accepted r.said → Says b call r → Outcome b call ls r

-- From the book

pub not_outside : (low high x : ℕ) → (Outside low high x → ⊥) → (low ≤ x) × (x ≤ high)
not_outside low high x f = elim (dec_lt x low) [
  | yes l ↦ absurd (f (inl l))
  | no l ↦ elim (dec_lt high x) [ yes m ↦ absurd (f (inr m)) | no m ↦ (omega arith, omega arith) ]
]

-- the mask's bits
pub mask_yes : (K : ℕ) (u : List ℕ) (i : ℕ) → Yes K u i (mask_of K (word u) i)
mask_yes K u i = record {
  exactly = λ k a b. let z : suc (k - 1) ≡ k = omega arith in rw (mask_bit K (word u) i (k - 1), z) (row_bit K (word u) i k b);
  past = λ k a. let z : suc (k - 1) ≡ k = omega arith in rw (mask_bit K (word u) i (k - 1), z) (row_past K (word u) i k a);
}

-- a split, or the want of one
pub splits_found : (b : Book) (i k : ℕ) (list : List ℕ)
    → Outcome b (ask (split i k list)) (no_split (lifted b) i k ∷ [])
    (split_reply (split_of (word (lifted b)) i k) list)
unfolding First NoneMet Says lent or_no_split
splits_found b i k list = go (split_of (word (lifted b)) i k) (split_law (word (lifted b)) k i)
  where
    go : (o : Option (List ℕ)) → Splitting (word (lifted b)) i k o
        → Outcome b (ask (split i k list)) (no_split (lifted b) i k ∷ []) (split_reply o list)
    go o (lacking p f) = rw p (under 9 (inl (f, refl)) refl)
    go o (given ends p n) = rw p (fine (λ f. f ends n.is, tt) (gave_accepted refl) (record { ends = ends; named = n; is = refl }))

-- the radius of the longest stretch at a centre
pub radius_found : (b : Book) (c : ℕ) → (Outside 1 (2 * length b.row + 1) c → ⊥) → RadiusSays (lifted b) c (gives (radius_at (word (lifted b)) (length (lifted b)) c ∷ []))
radius_found b c f =
    let l = not_outside 1 (2 * length b.row + 1) c f in
    let r = radius_at_lem (word (lifted b)) (length (lifted b)) c l.0 (omega (arith, l.1, lifted_length b.lifts b.row)) in
    record { len = r.0; longest = r.1; is = ap (λ x. reply (gave (x ∷ [])) []) r.2 }

-- the next shorter ending, or the want of one that has the centre
pub next_found : (b : Book) (c : ℕ)
    → Outcome b (ask (next c)) (no_ending (lifted b) c ∷ []) (reply (or_no_ending (next_after (word (lifted b)) (length (lifted b)) c)) [])
unfolding First NoneMet Says lent shorter_after
next_found b c = go (next_after w n c) (next_law w n c)
  where
    w : ℕ → ℕ
    w = word (lifted b)

    n : ℕ
    n = length (lifted b)

    go : (o : Option NextShorter) → NextAfter w n c o → Outcome b (ask (next c)) (no_ending (lifted b) c ∷ []) (reply (or_no_ending o) [])
    go o (there len q l e z) =
        let next = next_ending_lem w n len l in
        let least = least_period_lem {w = w} {n = n} len l e.fits in
        rw q (fine (λ g. g len (omega (arith, l)) e z, tt) (gave_accepted refl) (record {
          len = len;
          some = l;
          ending = e;
          at = z;
          shorter = _;
          next = next;
          p = _;
          period = least;
          less = omega (arith, next.below, smallest_one least (next_period e next));
          is = refl;
        }))
    go o (nowhere q f) = rw q (under 10 (inl (λ len x y z. f len (omega (arith, x)) y z, refl)) refl)

-- the record of the split named, where it fits the output
pub record_found : (b : Book) (i k : ℕ) (output : List ℕ)
    → Outcome b (ask (fold i k output)) (no_split (lifted b) i k ∷ record_longer b.row (lifted b) i k output ∷ [])
    (record_reply (word b.row) i (split_of (word (lifted b)) i k) output)
unfolding First NoneMet Says lent or_no_split or_too_long
record_found b i k output = go (split_of (word (lifted b)) i k) (split_law (word (lifted b)) k i)
  where
    w : ℕ → ℕ
    w = word b.row

    go : (o : Option (List ℕ)) → Splitting (word (lifted b)) i k o
        → Outcome b (ask (fold i k output)) (no_split (lifted b) i k ∷ record_longer b.row (lifted b) i k output ∷ [])
        (record_reply w i o output)
    go o (lacking p f) = rw p (under 9 (inl (f, refl)) refl)
    go o (given ends p n) = rw p (elim (dec_lt (length output) (length (record_of w i ends))) [
      | yes l ↦ rw (lt-leb _ _ l) (under 5 (inr (λ f. f ends n.is, inl ((ends, n, omega (arith, l)), refl))) refl)
      | no l ↦ rw (le-leb (length (record_of w i ends)) (length output) (omega arith))
          (fine (λ f. f ends n.is, (λ m. omega (arith, l, m.2, ap (λ x. length (record_of w i x)) (named_one n m.1)), tt)) (gave_accepted refl) (record { ends = ends; named = n; is = refl }))
    ])

-- what the marks say: t, with a line that is met exactly where they say no
marks_found : (b : Book) (call : Call) (l : Line) (t : Bool) → lent call ≡ [] → ((x : ℕ) → refusal_to call x ≡ refused x) → (t ≡ false → l.Met)
    → (t ≡ true → l.Met → ⊥) → ((r : Reply) → r ≡ reply (gave []) [] → Says b call r) → Outcome b call (l ∷ []) (reply (or_refused t l.number) [])
unfolding First NoneMet
marks_found b call l true e p f g s = fine (g refl, tt) (gave_accepted refl) (s _ refl)
marks_found b call l false e p f g s = under l.number (inl (f refl, refl)) (sym (ap₂ reply (p l.number) e))

pub no_mark : (o : Option ℕ) → is_mark o ≡ false → (m : ℕ) → o ≡ some m → ⊥
no_mark none e m q = clash cc
no_mark (some x) e m q = clash cc

pub a_mark : (o : Option ℕ) → is_mark o ≡ true → ((m : ℕ) → o ≡ some m → ⊥) → ⊥
a_mark none e f = clash cc
a_mark (some x) e f = f x refl

pub no_room : (marks : Marks) (name : ℕ) → room_for marks name ≡ false → (fifth_name marks name).Met
no_room marks name e = go (is_mark (mark_at marks name)) refl e
  where
    go : (t : Bool) → is_mark (mark_at marks name) ≡ t → (t || ltb (how_many marks) most_marks) ≡ false → (fifth_name marks name).Met
    go true q r = clash cc
    go false q r = (no_mark (mark_at marks name) q, ltb-false (how_many marks) most_marks r)

pub some_room : (marks : Marks) (name : ℕ) → room_for marks name ≡ true → (fifth_name marks name).Met → ⊥
some_room marks name e p = go (is_mark (mark_at marks name)) refl e
  where
    go : (t : Bool) → is_mark (mark_at marks name) ≡ t → (t || ltb (how_many marks) most_marks) ≡ true → ⊥
    go true q r = a_mark (mark_at marks name) q p.0
    go false q r = omega (arith, p.1, ltb-true (how_many marks) most_marks r)

pub mark_found : (b : Book) (name : ℕ) → Outcome b (mark name) (fifth_name b.marks name ∷ []) (reply (or_fifth_name b.marks name) [])
unfolding lent Says
mark_found b name =
    marks_found b (mark name) (fifth_name b.marks name) (room_for b.marks name) refl (λ r. refl) (no_room b.marks name) (some_room b.marks name) (λ r e. e)

pub back_found : (b : Book) (name : ℕ) → Outcome b (back name) (no_such_mark b.marks name ∷ []) (reply (or_no_mark b.marks name) [])
unfolding lent Says
back_found b name =
    let o : Option ℕ = mark_at b.marks name in
    marks_found b (back name) (no_such_mark b.marks name) (is_mark o) refl (λ r. refl) (no_mark o) (a_mark o) (λ r e. e)

-- In the stored arrays

-- a reply that refuses under these numbers only, with no place, and then keeps its list
abbrev pub OnlyUnder : (list numbers : List ℕ) → Reply → Type 0
OnlyUnder list numbers r = (number : ℕ) → Under r.said number → (r.said ≡ refused number) × (r.list ≡ list) × Memᴰ number numbers

pub gave_only : (l list after numbers : List ℕ) → OnlyUnder list numbers (reply (gave l) after)
gave_only l list after numbers number e = absurd (gave_accepted refl number e)

refused_only : (x : ℕ) (list numbers : List ℕ) → Memᴰ x numbers → OnlyUnder list numbers (reply (refused x) list)
refused_only x list numbers h number (inl e) = let z : x ≡ number = cc in (e, refl, rw (← z) h)
refused_only x list numbers h number (inr e) = clash (cc e.1)

pub no_split_only : (o : Option (List ℕ)) (list numbers : List ℕ) (f : List ℕ → Reply) → ((ends : List ℕ) → OnlyUnder list (9 ∷ numbers) (f ends))
    → OnlyUnder list (9 ∷ numbers) (or_no_split o list f)
unfolding or_no_split
no_split_only none list numbers f g = refused_only 9 list (9 ∷ numbers) (Memᴰ.head refl)
no_split_only (some ends) list numbers f g = g ends

pub no_ending_only : (o : Option NextShorter) → OnlyUnder [] (10 ∷ []) (reply (or_no_ending o) [])
no_ending_only none = refused_only 10 [] (10 ∷ []) (Memᴰ.head refl)
no_ending_only (some e) = gave_only _ [] [] (10 ∷ [])

pub marks_only : (t : Bool) (x : ℕ) → OnlyUnder [] (x ∷ []) (reply (or_refused t x) [])
marks_only true x = gave_only [] [] [] (x ∷ [])
marks_only false x = refused_only x [] (x ∷ []) (Memᴰ.head refl)

pub too_long_only : (bytes output : List ℕ) → OnlyUnder output (9 ∷ 5 ∷ []) (or_too_long bytes output)
unfolding or_too_long
too_long_only bytes output = go (leb (length bytes) (length output))
  where
    go : (b : Bool) → OnlyUnder output (9 ∷ 5 ∷ []) (cond b (reply (gave (length bytes ∷ [])) (filled bytes output)) (reply (refused 5) output))
    go true = gave_only (length bytes ∷ []) output (filled bytes output) (9 ∷ 5 ∷ [])
    go false = refused_only 5 output (9 ∷ 5 ∷ []) (Memᴰ.tail (Memᴰ.head refl))
