-- A reader yields a record's sections; and what the board wrote of a draft unfolds to one with the same lifts.
use mathlib.Core.Path.{◌≡◌, refl, sym, ap, ap₂, subst, ◌∙◌}
use mathlib.Core.List.{List, [], ◌∷◌, ◌++◌, map, map-append, reverse, reverse-append, reverse-cons}
use Prim.Native.Nat.{ℕ, zero, suc, ◌+◌, ◌-◌, ◌/◌, ◌≤◌, ◌<◌}
use native.Mathlib.Omega.{arith}
use native.Mathlib.Decide.{dec_lt}
use lib.ListN.{length, take, drop, get_or}
use lib.Seq.{take-append_seam}
use Rattle.std.specs.Prelude.{Option, Some, None}
use borrow.Author.Tests.{eq-eqb, le-leb}
use Rattle.words.specs.Definitions.{From, most_picks, most_sections}
use Rattle.words.specs.Definitions.{word, stretch, prefix, lengths_back, Sections, done, next, Named}
use Rattle.words.proofs.Cases.{clash}
use Rattle.cells.specs.declared.Place.{Place}
use Rattle.layout.specs.declared.Section.{Section}
use Rattle.layout.specs.declared.Turn.{Turn}
use Rattle.layout.specs.declared.Turn.TheVariants.{OnPick, Between}
use Rattle.layout.specs.Record.{Folded, folded_of, record_of}
use Rattle.layout.specs.Layout.{Every, none, more, Letter, total, Passes}
use Rattle.layout.specs.Unfolding.{unfolded, picks_of}
use Rattle.layout.specs.Yield.{section_after, yield_at, sections_in}
use Rattle.layout.proofs.Entries.{every_at}
use Rattle.layout.proofs.ReadingLaws.{laid_law}
use Rattle.layout.proofs.UnfoldLaws.{unfold_law}
use Rattle.layout.proofs.WrittenLaws.{folded_count, every_stretch, written_law, back_law}
use Rattle.layout.proofs.YieldLaws.{yields_law, yields_none}
use Rattle.promises.specs.Answers.{gave, Reply, reply, filled, turn_numbers, yielded_numbers}
use Rattle.promises.specs.Refusals.{unfold_refusal}
use Rattle.promises.specs.Lifts.{lift_in, lifted_by, Distinct}
use Rattle.promises.proofs.LiftLaws.{lifted_at}
use Rattle.promises.specs.Book.{Book, ask, fold, blank, lifted, book_of}
use Rattle.promises.specs.Replies.{unfolded_to, unfold_reply}
use Rattle.promises.specs.Listed.{NoneMet, listed, sought}
use Rattle.promises.specs.Says.{RecordSays, Says}
use Rattle.promises.specs.Promises.{Reads}
use Rattle.promises.proofs.BookLaws.{unless_zero}
use Rattle.promises.proofs.WritingLaws.{held_fits}
use Rattle.promises.specs.Runs.{started, calls, last}
use Rattle.promises.specs.Demands.{Answered}
use Rattle.promises.specs.ReadBack.{SectionIs, SectionsHold, ReadsBack, ReadBackHolds}
use Rattle.promises.proofs.Keeping.{gave_accepted, said_is, list_is, letters_of, whole}
use Rattle.promises.proofs.Finding.{not_outside}
use Rattle.promises.proofs.Answering.{answered}
use Rattle.promises.proofs.Demand3.{one}

-- From the four numbers to what is yielded

entry : {l m : List ℕ} (i : ℕ) → l ≡ m → get_or l i 0 ≡ get_or m i 0
entry i e = ap (λ l. get_or l i 0) e

same_place : {p q : Place} → p.0 ≡ q.0 → p ≡ q
same_place e = ap (λ x. record { 0 = x }) e

turn_one : (x y : Turn) (k l a b : ℕ) → turn_numbers k x a ≡ turn_numbers l y b → x ≡ y
turn_one (OnPick p) (OnPick q) k l a b e = ap OnPick (same_place (entry 2 e))
turn_one (OnPick p) (Between q) k l a b e = absurd (omega (arith, entry 0 e))
turn_one (Between p) (OnPick q) k l a b e = absurd (omega (arith, entry 0 e))
turn_one (Between p) (Between q) k l a b e = ap Between (same_place (entry 2 e))

turn_some : (x : Turn) (k a : ℕ) → 0 < get_or (turn_numbers k x a) 0 0
turn_some (OnPick p) k a = omega arith
turn_some (Between p) k a = omega arith

turn_others : (x : Turn) (k a : ℕ) → (get_or (turn_numbers k x a) 1 0 ≡ k) × (get_or (turn_numbers k x a) 3 0 ≡ a)
turn_others (OnPick p) k a = (refl, refl)
turn_others (Between p) k a = (refl, refl)

yielded_one : (x y : Option Section) (a b : ℕ) → yielded_numbers x a ≡ yielded_numbers y b → (x ≡ y) × (a ≡ b)
yielded_one (Some s) (Some t) a b e =
    let x = turn_others s.turn s.length a in
    let y = turn_others t.turn t.length b in (
      ap₂ (λ l u. Some (record { length = l; turn = u })) (sym x.0 ∙ entry 1 e ∙ y.0) (turn_one s.turn t.turn s.length t.length a b e),
      sym x.1 ∙ entry 3 e ∙ y.1,
    )
yielded_one (Some s) None a b e = absurd (omega (arith, turn_some s.turn s.length a, entry 0 e))
yielded_one None (Some t) a b e = absurd (omega (arith, turn_some t.turn t.length b, entry 0 e))
yielded_one None None a b e = (refl, entry 3 e)

pub section_is : SectionIs
section_is bytes at r e =
    let h = yielded_one r.yielded (yield_at bytes at).yielded r.next (yield_at bytes at).next e in
    ap₂ (λ y n. record { yielded = y; next = n }) h.0 h.1

pub sections : SectionsHold
sections bytes = record { passes = λ p fs h. yields_law h; none = λ h at. yields_none bytes h at }

-- The record of a split

-- the lengths of the sections that a reader yields are the split's
lengths_in : (w : ℕ → ℕ) (a c : ℕ) (ends : List ℕ)
    → map (λ (s : Section). s.length) (sections_in c (folded_of w a ends)) ≡ reverse (lengths_back a ends)
unfolding section_after
lengths_in w a c [] = refl
lengths_in w a c (e ∷ ends) =
    ap (λ l. (e - a) ∷ l) (lengths_in w e (c + (e - a)) ends) ∙ sym (reverse-append (lengths_back e ends) ((e - a) ∷ []))

-- a split into one section or more is of one pick or more
splits_some : {w : ℕ → ℕ} {n a : ℕ} {ends : List ℕ} → Sections w n a ends → (a ≤ n) × (0 < length ends → a < n)
splits_some done = (omega arith, λ l. absurd (omega arith))
splits_some (next s t) = let r = splits_some t in (omega (arith, s.some, r.0), λ _. omega (arith, s.some, r.0))

-- a record that passes is unfolded where the list is long enough
whole_read : (bytes list : List ℕ) (picks : ℕ) (fs : List Folded) → Passes bytes picks fs → picks ≤ length list
    → unfold_reply bytes list ≡ reply (gave (picks ∷ [])) (filled (picks_of fs) list)
unfolding unfold_reply
whole_read bytes list picks fs h l =
    ap (λ x. unfolded_to x list) ((laid_law bytes picks fs).0 h.laid)
    ∙ unless_zero (unfold_refusal (total fs) picks (length list)) list _
    (simp (eq-eqb (total fs) picks h.adds, le-leb picks (length list) l))

-- The lifts of what is unfolded

module _ (f : ℕ → ℕ) where
  map_take : (n : ℕ) (l : List ℕ) → map f (take n l) ≡ take n (map f l)
  map_take zero l = refl
  map_take (suc n) [] = refl
  map_take (suc n) (x ∷ l) = ap (λ t. f x ∷ t) (map_take n l)

  map_reverse : (l : List ℕ) → map f (reverse l) ≡ reverse (map f l)
  map_reverse [] = refl
  map_reverse (x ∷ l) =
      ap (map f) (reverse-cons x l) ∙ map-append f (reverse l) (x ∷ []) ∙ ap (λ t. t ++ f x ∷ []) (map_reverse l) ∙ sym (reverse-cons (f x) (map f l))

  map_unfolded : (len : ℕ) (half : List ℕ) → map f (unfolded (record { len = len; half = half })) ≡ unfolded (record { len = len; half = map f half })
  unfolding unfolded
  map_unfolded len half =
      map-append f half (reverse (take (len / 2) half))
      ∙ ap (λ t. map f half ++ t) (map_reverse (take (len / 2) half) ∙ ap reverse (map_take (len / 2) half))

module _ (lifts row : List ℕ) where
  lifted_stretch : (a len : ℕ) → a + len ≤ length row → stretch (word (lifted_by lifts row)) a len ≡ lifted_by lifts (stretch (word row) a len)
  lifted_stretch a zero l = refl
  lifted_stretch a (suc len) l = ap₂ (λ x t. x ∷ t) (lifted_at lifts row a (omega arith)) (lifted_stretch (suc a) len (omega arith))

  -- the sections of the letters, unfolded and lifted, are those of the lifts, unfolded
  lifted_picks : {x : ℕ → ℕ} {n a : ℕ} {ends : List ℕ} → n ≤ length row → Sections x n a ends
      → (a ≤ n) × (lifted_by lifts (picks_of (folded_of (word row) a ends)) ≡ picks_of (folded_of (word (lifted_by lifts row)) a ends))
  unfolding picks_of
  lifted_picks l done = (omega arith, refl)
  lifted_picks l (next {a = a} {e = e} {ends = ends} s t) =
      let r = lifted_picks l t in
      let h = (e - a + 1) / 2 in
      let half = lifted_stretch a h (omega (arith, s.some, r.0)) in (
        omega (arith, s.some, r.0),
        map-append (lift_in lifts) (unfolded (record { len = e - a; half = stretch (word row) a h })) (picks_of (folded_of (word row) e ends))
            ∙ ap₂ (λ x y. x ++ y)
            (map_unfolded (lift_in lifts) (e - a) (stretch (word row) a h) ∙ ap (λ t. unfolded (record { len = e - a; half = t })) (sym half)) r.1,
      )

-- where no two letters lift alike, the lifts of a row tell its letters
letters_same : (lifts : List ℕ) → Distinct lifts → (u v : List ℕ) → Every Letter u → Every Letter v → lifted_by lifts u ≡ lifted_by lifts v → u ≡ v
letters_same lifts f [] [] a b e = refl
letters_same lifts f [] (y ∷ v) a b e = clash cc
letters_same lifts f (x ∷ u) [] a b e = clash cc
letters_same lifts f (x ∷ u) (y ∷ v) (more p ps) (more q qs) e =
    let heads : lift_in lifts x ≡ lift_in lifts y = cc in
    let tails : lifted_by lifts u ≡ lifted_by lifts v = cc in
    ap₂ (λ a l. a ∷ l) (f x y p q heads) (letters_same lifts f u v ps qs tails)

reads_back : (lifts row : List ℕ) (i k : ℕ) (ends : List ℕ) → Every Letter row → length row ≤ most_picks → i ≤ length row → From 1 most_sections k
    → Named (word (lifted_by lifts row)) i k ends → ReadsBack lifts row i k (record_of (word row) i ends)
reads_back lifts row i k ends h n l m named =
    let s = named.is in
    let some : 0 < i = (splits_some s.is).1 (omega (arith, m.low, s.count)) in
    let r = written_law {w = word row} (record { low = some; high = omega arith }) m (λ j z. every_at h j (omega arith)) s in
    let fs = folded_of (word row) 0 ends in
    let c : length fs ≡ k = folded_count (word row) 0 ends ∙ s.count in
    let alike : lifted_by lifts (picks_of fs) ≡ prefix (word (lifted_by lifts row)) i = (lifted_picks lifts row l s.is).1 ∙ back_law s in
    record {
      ends = ends;
      named = named;
      picks = picks_of fs;
      unfolds = λ list a after x p. let q = p ∙ whole_read (record_of (word row) i ends) list i fs r x in (said_is q, list_is q);
      lettered = (unfold_law r).lettered;
      alike = alike;
      same = λ f. letters_same lifts f (picks_of fs) (prefix (word row) i) (unfold_law r).lettered
          (every_stretch (word row) 0 i (λ j x y. every_at h j (omega arith))) (alike ∙ lifted_stretch lifts row 0 i (omega arith));
      lengths = λ steps x.
          ap (map (λ (s : Section). s.length)) ((yields_law r).order steps (omega arith)) ∙ lengths_in (word row) 0 0 ends;
    }

-- What an accepted fold wrote

said_back : (b : Book) (i k : ℕ) (output : List ℕ) (q : Reply) (count : ℕ) → Every Letter b.row → length b.row ≤ most_picks
    → i ≤ length b.row → From 1 most_sections k → RecordSays b.row (lifted b) i k output q → q.said ≡ gave (count ∷ [])
    → ReadsBack b.lifts b.row i k (take count q.list)
said_back b i k output q count h l m n s e =
    let bytes = record_of (word b.row) i s.ends in
    let c : length bytes ≡ count = one (sym (ap (λ x. x.said) s.is) ∙ e) in
    let t : bytes ≡ take count q.list =
    sym (take-append_seam bytes (drop (length bytes) output))
    ∙ ap (λ x. take (length bytes) x.list) (sym s.is)
    ∙ ap (λ x. take x q.list) c in
    subst (ReadsBack b.lifts b.row i k) t (reads_back b.lifts b.row i k s.ends h l m n s.named)

pub read_back : ReadBackHolds
unfolding listed sought NoneMet Says
read_back d K r ms o = record { each = each }
  where
    inside : (n i : ℕ) → (n < i → ⊥) → i ≤ n
    inside n i f = elim (dec_lt n i) [ yes l ↦ absurd (f l) | no l ↦ omega arith ]

    each : (i k : ℕ) (output : List ℕ) (q : Reply) (count : ℕ) → Reads (last d (started K r ∷ ms)) (fold i k output) q
        → q.said ≡ gave (count ∷ []) → ReadsBack (book_of (calls (started K r ∷ ms))).lifts (book_of (calls (started K r ∷ ms))).row i k (take count q.list)
    each i k output q count p e =
        let cs = calls (started K r ∷ ms) in
        let b = book_of cs in
        let h = whole o in
        let a = subst (Answered b (ask (fold i k output))) (sym (p.meaning b h)) (answered b (ask (fold i k output))) in
        let fine = a.accepts.0 (gave_accepted e) in
        let c = not_outside 1 b.K k fine.1.0 in
        said_back b i k output q count (letters_of blank cs none) (held_fits h) (inside (length b.row) i fine.1.1.0)
        (record { low = c.0; high = omega (arith, c.1, h.most) }) (a.says fine) e
