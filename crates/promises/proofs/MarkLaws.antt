-- Marks as they are stored, and how many there are.
use Rattle.std.specs.Prelude.{◌≡◌, refl, Bool, true, false, cond, ◌||◌, ◌↔◌, List, [], ◌∷◌, ◌++◌, map, ℕ, zero, suc, ◌+◌, ◌-◌, ◌≤◌, ◌<◌, leb, ltb, nat_lt, length, take, drop, get_or, set, replicate}
use Rattle.std.proofs.Common.{sym, ap, ap₂, ◌∙◌, append-nil, arith, drop_of_length-le, length-take-le, take_all, take-suc, drop-cons, leb-true, leb-false, ltb-true, le-leb, lt-ltb}
use Rattle.std.proofs.lemmas.List.{map-append, length-map, set_at, get_or_at}
use Rattle.std.proofs.Math.Option.{Option, some, none, none-ne-some, some-injective}
use Rattle.std.proofs.Math.Decide.{dec_lt}
use Rattle.std.proofs.Math.Seq.{append_snoc}
use Rattle.std.proofs.lemmas.Bool.{lt-leb}
use Rattle.std.proofs.lemmas.List.Recursion.{is_count_by}
use Rattle.std.specs.List.{count_by}
use Rattle.words.proofs.Cases.{clash}
use Rattle.words.specs.Definitions.{first_letter}
use Rattle.promises.specs.Lifts.{table_size}
use Rattle.promises.specs.Marks.{Marks, most_marks, no_marks, mark_at, is_mark, how_many, room_for, set_mark, up_to, drop_longer, entry_of, entries, read_mark, marks_in, keep_to}

-- Stored and read

entry_read : (x : ℕ) → entry_of (read_mark x) ≡ x
entry_read zero = refl
entry_read (suc m) = refl

read_entry : (o : Option ℕ) → read_mark (entry_of o) ≡ o
read_entry none = refl
read_entry (some m) = refl

pub entries_read : (stored : List ℕ) → entries (marks_in stored) ≡ stored
entries_read [] = refl
entries_read (x ∷ stored) = ap₂ (λ y l. y ∷ l) (entry_read x) (entries_read stored)

pub read_entries : (marks : Marks) → marks_in (entries marks) ≡ marks
read_entries [] = refl
read_entries (o ∷ marks) = ap₂ (λ y l. y ∷ l) (read_entry o) (read_entries marks)

read_at : (stored : List ℕ) (i : ℕ) → get_or (marks_in stored) i none ≡ read_mark (get_or stored i 0)
read_at [] i = refl
read_at (x ∷ stored) zero = refl
read_at (x ∷ stored) (suc i) = read_at stored i

-- the entry of a name: 0, or the length that it marks and one more
pub mark_none : (stored : List ℕ) (i : ℕ) → get_or stored i 0 ≡ 0 → get_or (marks_in stored) i none ≡ none
mark_none stored i e = read_at stored i ∙ ap read_mark e

pub mark_some : (stored : List ℕ) (i m : ℕ) → get_or stored i 0 ≡ suc m → get_or (marks_in stored) i none ≡ some m
mark_some stored i m e = read_at stored i ∙ ap read_mark e

-- whether a name may be set, by its entry

pub room_mark : (stored : List ℕ) (name : ℕ) → 0 < get_or stored (name - first_letter) 0 → true ≡ room_for (marks_in stored) name
room_mark stored name l =
    let e = mark_some stored (name - first_letter) (get_or stored (name - first_letter) 0 - 1) (omega arith) in
    ap (λ o. is_mark o || ltb (how_many (marks_in stored)) most_marks) (sym e)

pub room_new : (stored : List ℕ) (name : ℕ) → get_or stored (name - first_letter) 0 ≤ 0
    → ltb (how_many (marks_in stored)) most_marks ≡ room_for (marks_in stored) name
room_new stored name l =
    let e = mark_none stored (name - first_letter) (omega arith) in
    ap (λ o. is_mark o || ltb (how_many (marks_in stored)) most_marks) (sym e)

pub entries_set : (stored : List ℕ) (i m : ℕ) → set stored i (suc m) ≡ entries (set (marks_in stored) i (some m))
entries_set [] i m = refl
entries_set (x ∷ stored) zero m = ap (λ l. suc m ∷ l) (sym (entries_read stored))
entries_set (x ∷ stored) (suc i) m = ap₂ (λ y l. y ∷ l) (sym (entry_read x)) (entries_set stored i m)

-- How many, as the library counts them

many_step : (x : ℕ) (stored : List ℕ) → how_many (marks_in (x ∷ stored)) ≡ cond (nat_lt 0 x) (1 + how_many (marks_in stored)) (how_many (marks_in stored))
many_step zero stored = refl
many_step (suc x) stored = rw (lt-ltb 0 (suc x) (omega arith)) (omega arith)

pub many_counted : (stored : List ℕ) → how_many (marks_in stored) ≡ count_by (λ x. nat_lt 0 x) stored
many_counted stored = is_count_by (λ l. how_many (marks_in l)) (λ x. nat_lt 0 x) refl many_step stored

-- Dropped

keep_read : (m x : ℕ) → keep_to (suc m) x ≡ entry_of (up_to m (read_mark x))
keep_read m zero = simp (le-leb 0 (suc m) (omega arith))
keep_read m (suc x) = elim (dec_lt m x) [
  | yes l ↦ simp (lt-leb x m l, lt-leb (suc x) (suc m) (omega arith))
  | no l ↦ simp (le-leb x m (omega arith), le-leb (suc x) (suc m) (omega arith))
]

pub entries_drop : (m : ℕ) (stored : List ℕ) → map (keep_to (suc m)) stored ≡ entries (drop_longer m (marks_in stored))
entries_drop m [] = refl
entries_drop m (x ∷ stored) = ap₂ (λ y l. y ∷ l) (keep_read m x) (entries_drop m stored)

-- entry by entry: the first j of them are done
abbrev pub kept_to : (top j : ℕ) (stored : List ℕ) → List ℕ
kept_to top j stored = map (keep_to top) (take j stored) ++ drop j stored

front_size : (top j : ℕ) (stored : List ℕ) → j ≤ length stored → length (map (keep_to top) (take j stored)) ≡ j
front_size top j stored l = length-map (take j stored) (keep_to top) ∙ length-take-le j stored l

pub kept_next : (top j : ℕ) (stored : List ℕ) → j < length stored → get_or (kept_to top j stored) j 0 ≡ get_or stored j 0
kept_next top j stored l =
    ap (λ t. get_or (map (keep_to top) (take j stored) ++ t) j 0) (drop-cons stored j 0 l)
    ∙ get_or_at (map (keep_to top) (take j stored)) (get_or stored j 0) (drop (suc j) stored) 0 j (front_size top j stored (omega arith))

pub kept_more : (top j x : ℕ) (stored : List ℕ) → j < length stored → x ≡ keep_to top (get_or stored j 0)
    → set (kept_to top j stored) j x ≡ kept_to top (suc j) stored
kept_more top j x stored l e =
    let front : List ℕ = map (keep_to top) (take j stored) in
    ap (λ t. set (front ++ t) j x) (drop-cons stored j 0 l)
    ∙ set_at front (get_or stored j 0) (drop (suc j) stored) x j (front_size top j stored (omega arith))
    ∙ ap (λ y. front ++ y ∷ drop (suc j) stored) e
    ∙ sym (append_snoc front (keep_to top (get_or stored j 0)) (drop (suc j) stored))
    ∙ ap (λ t. t ++ drop (suc j) stored)
    (sym (map-append (keep_to top) (take j stored) (get_or stored j 0 ∷ [])) ∙ ap (map (keep_to top)) (sym (take-suc stored j 0 l)))

pub kept_all : (top j : ℕ) (stored : List ℕ) → length stored ≤ j → kept_to top j stored ≡ map (keep_to top) stored
kept_all top j stored l =
    ap₂ (λ a b. map (keep_to top) a ++ b) (take_all j stored l) (drop_of_length-le stored {i = j} l) ∙ append-nil (map (keep_to top) stored)

-- In the book: "up to four", and none longer than the row

many_set : (marks : Marks) (i m : ℕ) → how_many (set marks i (some m)) ≤ suc (how_many marks)
many_set [] i m = omega arith
many_set (none ∷ marks) zero m = omega arith
many_set (some x ∷ marks) zero m = omega arith
many_set (none ∷ marks) (suc i) m = many_set marks i m
many_set (some x ∷ marks) (suc i) m = omega (arith, many_set marks i m)

-- a mark that is moved is one still
many_moved : (marks : Marks) (i m : ℕ) → is_mark (get_or marks i none) ≡ true → how_many (set marks i (some m)) ≡ how_many marks
many_moved [] i m e = refl
many_moved (none ∷ marks) zero m e = clash cc
many_moved (some x ∷ marks) zero m e = refl
many_moved (none ∷ marks) (suc i) m e = many_moved marks i m e
many_moved (some x ∷ marks) (suc i) m e = ap suc (many_moved marks i m e)

pub set_few : (marks : Marks) (name m : ℕ) → how_many marks ≤ most_marks → room_for marks name ≡ true → how_many (set_mark marks name m) ≤ most_marks
set_few marks name m l e = go (is_mark (mark_at marks name)) refl e
  where
    go : (t : Bool) → is_mark (mark_at marks name) ≡ t → (t || ltb (how_many marks) most_marks) ≡ true → how_many (set_mark marks name m) ≤ most_marks
    go true q r = omega (arith, many_moved marks (name - first_letter) m q)
    go false q r = omega (arith, many_set marks (name - first_letter) m, ltb-true (how_many marks) most_marks r)

pub drop_few : (m : ℕ) (marks : Marks) → how_many (drop_longer m marks) ≤ how_many marks
drop_few m [] = omega arith
drop_few m (none ∷ marks) = drop_few m marks
drop_few m (some x ∷ marks) = go (leb x m) (drop_few m marks)
  where
    go : (t : Bool) → how_many (drop_longer m marks) ≤ how_many marks → how_many (cond t (some x) none ∷ drop_longer m marks) ≤ suc (how_many marks)
    go true l = omega arith
    go false l = omega arith

-- each marks at most n
abbrev pub AtMost : (n : ℕ) → Marks → Type 0
AtMost n marks = (i m : ℕ) → get_or marks i none ≡ some m → m ≤ n

pub most_none : (n : ℕ) → AtMost n no_marks
most_none n i m e = absurd (never table_size i e)
  where
    never : (k i : ℕ) → get_or (replicate k none) i none ≡ some m → ⊥
    never zero i q = none-ne-some _ q
    never (suc k) zero q = none-ne-some _ q
    never (suc k) (suc i) q = never k i q

pub most_set : (n i : ℕ) (marks : Marks) → AtMost n marks → AtMost n (set marks i (some n))
most_set n i [] f j m e = absurd (none-ne-some _ e)
most_set n zero (o ∷ marks) f zero m e = omega (arith, some-injective _ _ e)
most_set n zero (o ∷ marks) f (suc j) m e = f (suc j) m e
most_set n (suc i) (o ∷ marks) f zero m e = f zero m e
most_set n (suc i) (o ∷ marks) f (suc j) m e = most_set n i marks (λ k. f (suc k)) j m e

pub most_drop : (n : ℕ) (marks : Marks) → AtMost n (drop_longer n marks)
most_drop n [] j m e = absurd (none-ne-some _ e)
most_drop n (none ∷ marks) zero m e = absurd (none-ne-some _ e)
most_drop n (some x ∷ marks) zero m e = go (leb x n) refl e
  where
    go : (t : Bool) → leb x n ≡ t → cond t (some x) none ≡ some m → m ≤ n
    go true q r = omega (arith, leb-true x n q, some-injective _ _ r)
    go false q r = absurd (none-ne-some _ r)
most_drop n (o ∷ marks) (suc j) m e = most_drop n marks j m e

-- which marks stay
pub kept_mark : (m : ℕ) (marks : Marks) (i y : ℕ) → (get_or (drop_longer m marks) i none ≡ some y) ↔ ((get_or marks i none ≡ some y) × (y ≤ m))
kept_mark m [] i y = (λ e. absurd (none-ne-some _ e), λ e. absurd (none-ne-some _ e.0))
kept_mark m (none ∷ marks) zero y = (λ e. absurd (none-ne-some _ e), λ e. absurd (none-ne-some _ e.0))
kept_mark m (some x ∷ marks) zero y = go (leb x m) refl
  where
    go : (t : Bool) → leb x m ≡ t → (cond t (some x) none ≡ some y) ↔ ((some x ≡ some y) × (y ≤ m))
    go true q = (λ e. (e, omega (arith, leb-true x m q, some-injective _ _ e)), λ e. e.0)
    go false q = (λ e. absurd (none-ne-some _ e), λ e. absurd (omega (arith, leb-false x m q, some-injective _ _ e.0, e.1)))
kept_mark m (o ∷ marks) (suc i) y = kept_mark m marks i y
