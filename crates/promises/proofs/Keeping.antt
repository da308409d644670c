-- One call, and then a whole run: the state holds what stands in the book, and each reply is the one that the book gives.
use mathlib.Core.Path.{◌≡◌, refl, sym, ap, subst, ◌∙◌}
use mathlib.Core.Logic.{inl, inr}
use mathlib.Core.Bool.{Bool, true, false, cond, ◌&&◌, and-eq-true_iff}
use mathlib.Core.List.{List, [], ◌∷◌, ◌++◌}
use Prim.Native.Nat.{ℕ}
use lib.Dec.{leb, ltb}
use lib.ListN.{length}
use borrow.Author.Tests.{le-leb}
use Rattle.words.proofs.Cases.{clash, true_false}
use Rattle.words.specs.Definitions.{most_picks, most_sections, most_visits, first_letter, last_letter}
use Rattle.words.specs.Ranges.{between, between_true}
use Rattle.layout.specs.Layout.{Every, none, Letter}
use Rattle.layout.proofs.Entries.{every_snoc, every_take}
use Rattle.promises.specs.declared.Draft.{Draft}
use Rattle.promises.specs.Answers.{Said, gave, reply, Changed, Fed}
use Rattle.promises.specs.Refusals.{start_refusal}
use Rattle.promises.specs.Marks.{mark_at, mark_length}
use Rattle.promises.specs.Book.{Book, started_book, fed_book, loaded_book, marked_book, back_book, Call, start, feed, load, mark, back, ask, blank, start_taken, feed_taken, load_taken, mark_taken, back_taken, write, write_all, book_of}
use Rattle.promises.specs.Replies.{reply_to}
use Rattle.promises.proofs.BookLaws.{Case, taken, left, start_cases}
use Rattle.promises.specs.Holds.{Holds}
use Rattle.promises.proofs.WritingLaws.{start_holds}
use Rattle.promises.specs.Promises.{StartPromise, FeedPromise, LoadPromise, MarkPromise, BackPromise}
use Rattle.promises.specs.Runs.{Made, started, fed, loaded, marked, returned, asked, call_of, calls, reply_of, Meets, leaves, Run, last}
use Rattle.promises.specs.Demands.{Opened, Accepted, FeedAmong}

-- Answers that are accepted

pub gave_accepted : {said : Said} {l : List ℕ} → said ≡ gave l → Accepted said
gave_accepted {said} {l} e number (inl q) = clash cc
gave_accepted {said} {l} e number (inr q) = clash (cc (sym e ∙ q.1))

-- the parts of an equation of replies
pub said_is : {s t : Said} {k l : List ℕ} → reply s k ≡ reply t l → s ≡ t
said_is e = ap (λ r. r.said) e

pub list_is : {s t : Said} {k l : List ℕ} → reply s k ≡ reply t l → k ≡ l
list_is e = ap (λ r. r.list) e

-- One call

module _ {d : Draft} {b : Book} (h : Holds d b) where
  pub keep : (m : Made) → Meets d m → Holds (leaves d m) (write b (call_of m))
  unfolding Meets leaves call_of write
  keep (started K r) p = go (start_cases K)
    where
      go : Case (start_taken K) (start_refusal K) → Holds r.state (cond (start_taken K) (started_book K) b)
      go (taken t z) = rw t (start_holds p z)
      go (left t z) = rw (t, p.refuses z) h
  keep (fed pick before r after) p = (p.meaning b h).holds
  keep (loaded lifts r) p = (p.meaning b h).holds
  keep (marked name r) p = (p.meaning b h).holds
  keep (returned name r) p = (p.meaning b h).holds
  keep (asked q r) p = h

  pub replied : (m : Made) → Meets d m → reply_of m ≡ reply_to b (call_of m)
  unfolding Meets reply_of call_of
  replied (started K r) p = p.says b
  replied (fed pick before r after) p = (p.meaning b h).replies
  replied (loaded lifts r) p = (p.meaning b h).replies
  replied (marked name r) p = (p.meaning b h).replies
  replied (returned name r) p = (p.meaning b h).replies
  replied (asked q r) p = p.meaning b h

-- The calls, one after the other

pub kept : {d : Draft} {b : Book} (ms : List Made) → Run d ms → Holds d b → Holds (last d ms) (write_all b (calls ms))
unfolding Run last write_all
kept [] t h = h
kept {d = d} (m ∷ ms) t h = kept {d = leaves d m} ms t.1 (keep h m t.0)

pub upto : (d : Draft) (xs ys : List Made) (m : Made) → Run d (xs ++ m ∷ ys) → Run d xs × Meets (last d xs) m
unfolding Run last
upto d [] ys m t = (tt, t.0)
upto d (x ∷ xs) ys m t = let r = upto (leaves d x) xs ys m t.1 in ((t.0, r.0), r.1)

-- runs join: the second on the state that the first left
pub run_join : (d : Draft) (xs ys : List Made) → Run d xs → Run (last d xs) ys → Run d (xs ++ ys)
unfolding Run last
run_join d [] ys t u = u
run_join d (x ∷ xs) ys t u = (t.0, run_join (leaves d x) xs ys t.1 u)

pub last_join : (d : Draft) (xs ys : List Made) → last d (xs ++ ys) ≡ last (last d xs) ys
unfolding last
last_join d [] ys = refl
last_join d (x ∷ xs) ys = last_join (leaves d x) xs ys

-- Every letter in the book is one

pub letters_of : (b : Book) (cs : List Call) → Every Letter b.row → Every Letter (write_all b cs).row
unfolding write_all write
letters_of b [] h = h
letters_of b (start K ∷ cs) h = letters_of (write b (start K)) cs (go (start_taken K))
  where
    go : (t : Bool) → Every Letter (cond t (started_book K) b).row
    go true = none
    go false = h
letters_of b (feed pick visits ∷ cs) h = letters_of (write b (feed pick visits)) cs (go (feed_taken b pick (length visits)) refl)
  where
    go : (t : Bool) → feed_taken b pick (length visits) ≡ t → Every Letter (cond t (fed_book b pick) b).row
    go true e = every_snoc h (between_true first_letter last_letter pick
        ((and-eq-true_iff (between first_letter last_letter pick) (leb most_visits (length visits) && ltb (length b.row) most_picks)).0 e).0)
    go false e = h
letters_of b (load lifts ∷ cs) h = letters_of (write b (load lifts)) cs (go (load_taken b lifts))
  where
    go : (t : Bool) → Every Letter (cond t (loaded_book b lifts) b).row
    go true = h
    go false = h
letters_of b (mark name ∷ cs) h = letters_of (write b (mark name)) cs (go (mark_taken b name))
  where
    go : (t : Bool) → Every Letter (cond t (marked_book b name) b).row
    go true = h
    go false = h
letters_of b (back name ∷ cs) h = letters_of (write b (back name)) cs (go (back_taken b name))
  where
    go : (t : Bool) → Every Letter (cond t (back_book b name) b).row
    go true = every_take (mark_length (mark_at b.marks name)) h
    go false = h
letters_of b (ask q ∷ cs) h = letters_of b cs h

-- A run that opens with an accepted start

module _ {d : Draft} {K : ℕ} {r : Changed} {ms : List Made} (o : Opened d K r ms) where
  pub promise : StartPromise d K r
  unfolding Run Meets
  promise = o.run.0

  -- it is taken, and accepted
  pub opens : (start_taken K ≡ true) × (start_refusal K ≡ 0)
  opens = go (start_cases K)
    where
      t : start_taken K ≡ true
      t = simp (le-leb 1 K o.least, le-leb K most_sections o.most)

      go : Case (start_taken K) (start_refusal K) → (start_taken K ≡ true) × (start_refusal K ≡ 0)
      go (taken e z) = (e, z)
      go (left e z) = absurd (true_false t e)

  -- whatever was stored, and whatever stood in the book
  pub opened : (b : Book) → Holds r.state (write b (start K))
  unfolding write
  opened b = rw opens.0 (start_holds promise opens.1)

  -- the book and the state after the last call
  pub whole : Holds (last d (started K r ∷ ms)) (book_of (calls (started K r ∷ ms)))
  unfolding Run last leaves write_all call_of
  whole = kept ms o.run.1 (opened blank)

  pub start_met : (xs ys : List Made) {k : ℕ} {x : Changed} → started K r ∷ ms ≡ xs ++ started k x ∷ ys → StartPromise (last d xs) k x
  unfolding Meets
  start_met xs ys {k} {x} e = (upto d xs ys (started k x) (rw e at o.run)).1

-- and before each call among them

module _ {d : Draft} {K : ℕ} {r : Changed} {ms : List Made} (o : Opened d K r ms) where
  opened_at : (m : Made) (xs : List Made) → m ≡ started K r → Run d (m ∷ xs) → Holds (last d (m ∷ xs)) (book_of (calls (m ∷ xs)))
  opened_at m xs e t =
      subst (λ y. Run d (y ∷ xs) → Holds (last d (y ∷ xs)) (book_of (calls (y ∷ xs)))) (sym e)
      (λ u. whole (record { least = o.least; most = o.most; run = u })) t

  replied_first : (m : Made) → m ≡ started K r → reply_of m ≡ reply_to blank (call_of m)
  unfolding reply_of call_of
  replied_first m e = rw e ((promise o).says blank)

  pub replied_at : (xs ys : List Made) (m : Made) → started K r ∷ ms ≡ xs ++ m ∷ ys → reply_of m ≡ reply_to (book_of (calls xs)) (call_of m)
  unfolding write_all
  replied_at [] ys m e = let z : m ≡ started K r = cc in replied_first m z
  replied_at (x ∷ xs) ys m e =
      let z : x ≡ started K r = cc in
      let t = upto d (x ∷ xs) ys m (rw e at o.run) in
      replied (opened_at x xs z t.0) m t.1

  holds_before : (xs ys : List Made) (m : Made) → (m ≡ started K r → ⊥) → started K r ∷ ms ≡ xs ++ m ∷ ys → Run d xs
      → Holds (last d xs) (book_of (calls xs))
  holds_before [] ys m f e t = let z : m ≡ started K r = cc in absurd (f z)
  holds_before (x ∷ xs) ys m f e t = let z : x ≡ started K r = cc in opened_at x xs z t

  -- a call that is not the first
  met_at : (xs ys : List Made) (m : Made) → (m ≡ started K r → ⊥) → started K r ∷ ms ≡ xs ++ m ∷ ys
      → Holds (last d xs) (book_of (calls xs)) × Meets (last d xs) m
  met_at xs ys m f e = let t = upto d xs ys m (rw e at o.run) in (holds_before xs ys m f e t.0, t.1)

  fed_not : {pick : ℕ} {before : List ℕ} {x : Fed} {after : List ℕ} → fed pick before x after ≡ started K r → ⊥
  fed_not {pick} {before} {x} {after} e = clash cc

  module _ (xs : List Made) {pick : ℕ} {before : List ℕ} {x : Fed} {after : List ℕ} (f : FeedAmong (started K r ∷ ms) xs pick before x after) where
    pub holds_at_feed : Holds (last d xs) (book_of (calls xs))
    holds_at_feed = (met_at xs f.rest (fed pick before x after) fed_not f.is).0

    pub feed_met : FeedPromise (last d xs) pick before x after
    unfolding Meets
    feed_met = (met_at xs f.rest (fed pick before x after) fed_not f.is).1

  loaded_not : {lifts : List ℕ} {x : Changed} → loaded lifts x ≡ started K r → ⊥
  loaded_not {lifts} {x} e = clash cc

  module _ (xs ys : List Made) (lifts : List ℕ) (x : Changed) (f : started K r ∷ ms ≡ xs ++ loaded lifts x ∷ ys) where
    pub holds_at_load : Holds (last d xs) (book_of (calls xs))
    holds_at_load = (met_at xs ys (loaded lifts x) loaded_not f).0

    pub load_met : LoadPromise (last d xs) lifts x
    unfolding Meets
    load_met = (met_at xs ys (loaded lifts x) loaded_not f).1

  marked_not : {name : ℕ} {x : Changed} → marked name x ≡ started K r → ⊥
  marked_not {name} {x} e = clash cc

  pub mark_met : (xs ys : List Made) (name : ℕ) (x : Changed) → started K r ∷ ms ≡ xs ++ marked name x ∷ ys
      → Holds (last d xs) (book_of (calls xs)) × MarkPromise (last d xs) name x
  unfolding Meets
  mark_met xs ys name x f = met_at xs ys (marked name x) marked_not f

  returned_not : {name : ℕ} {x : Changed} → returned name x ≡ started K r → ⊥
  returned_not {name} {x} e = clash cc

  pub back_met : (xs ys : List Made) (name : ℕ) (x : Changed) → started K r ∷ ms ≡ xs ++ returned name x ∷ ys
      → Holds (last d xs) (book_of (calls xs)) × BackPromise (last d xs) name x
  unfolding Meets
  back_met xs ys name x f = met_at xs ys (returned name x) returned_not f
