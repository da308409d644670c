-- Scripts one after another: what is proved of every run holds of what `drive` did.
use Rattle.std.proofs.Common.{◌≡◌, refl, sym, ap, ap₂, ◌∙◌, ℕ, List, [], ◌∷◌, ◌++◌, length, map}
use Rattle.std.proofs.lemmas.List.{map-append, length-map}
use Rattle.words.proofs.Cases.{clash}
use Rattle.promises.specs.declared.Draft.{Draft}
use Rattle.promises.specs.Answers.{Reply, Changed, filled}
use Rattle.promises.specs.Book.{Book, Call, start, blank, write_all, book_of}
use Rattle.promises.specs.State.{state_of_book}
use Rattle.promises.specs.Replies.{replies}
use Rattle.promises.specs.Runs.{Made, started, fed, loaded, marked, returned, asked, call_of, calls, reply_of, Run, last}
use Rattle.promises.proofs.Keeping.{run_join, last_join}
use Rattle.promises.proofs.Transcript.{replied_split, transcript}
use Rattle.promises.proofs.Stored.{state_of_book_lem}
use Rattle.drive.specs.Script.{fills_lists, fills_bytes, list_from}
use Rattle.drive.specs.Drives.{encoded, joined}
use Rattle.drive.specs.Session.{Driven, DrivenFrom, asked_by, asked_by_all, Session, over, again, SessionRuns, OfEverySession, together, Outcome, Outcomes, SessionHolds}

-- One run

pub session_runs : SessionRuns
unfolding Run last asked_by_all
session_runs d e [] [] over = record { run = tt; asks = refl; state = refl }
session_runs d e [] (_ ∷ _) t = elim t [ ]
session_runs d e (s ∷ ss) ms (again {ms = ys} h t) =
    let r = session_runs _ e ss ys t in
    record {
      run = run_join d h.made ys h.run (rw h.state at r.run);
      asks = map-append call_of h.made ys ∙ ap₂ (λ xs ys. xs ++ ys) h.asks r.asks;
      state = r.state ∙ ap (λ z. last z ys) h.state ∙ sym (last_join d h.made ys);
    }

-- the first call made is that start
pub record Starts (K : ℕ) (made : List Made) : Type 0 where
  pub r : Changed
  pub others : List Made
  pub is : made ≡ started K r ∷ others

starts : (K : ℕ) (rest : List Call) (made : List Made) → calls made ≡ start K ∷ rest → Starts K made
unfolding call_of
starts K rest [] e = clash cc
starts K rest (started J r ∷ ms) e = record { r = r; others = ms; is = ap (λ z. started z r ∷ ms) (cc e) }
starts K rest (fed pick before r after ∷ ms) e = clash cc
starts K rest (loaded lifts r ∷ ms) e = clash cc
starts K rest (marked name r ∷ ms) e = clash cc
starts K rest (returned name r ∷ ms) e = clash cc
starts K rest (asked q r ∷ ms) e = clash cc

pub of_every_session : OfEverySession
of_every_session P p d e ss ms t o =
    let h = session_runs d e ss ms t in
    let s = starts o.K o.rest ms (h.asks ∙ o.is) in
    rw s.is (p d o.K s.r s.others (record { least = o.least; most = o.most; run = rw (← s.is) h.run }))

-- What is written

-- what the calls left, from the calls and their replies
joined_together : (f : Call → Reply → List ℕ) (ms : List Made) → joined (λ m. f (call_of m) (reply_of m)) ms ≡ together f (calls ms) (map reply_of ms)
unfolding joined together
joined_together f [] = refl
joined_together f (m ∷ ms) = ap (λ z. f (call_of m) (reply_of m) ++ z) (joined_together f ms)

outcome : {d e : Draft} (b : Book) (s : Driven) (h : DrivenFrom d s e) → map reply_of h.made ≡ replies b (calls h.made) → Outcome b s
outcome b s h r = record {
  counts = h.counts ∙ sym (length-map h.made call_of) ∙ ap length h.asks;
  entries = h.entries ∙ ap (λ z. filled z s.left.lists) (left (λ c r. list_from fills_lists c r.list));
  output = h.output ∙ ap (λ z. filled z s.left.bytes) (left (λ c r. list_from fills_bytes c r.list));
  told = h.told ∙ ap (λ z. filled z s.answers) (left (λ c r. encoded r.said));
}
  where
    left : (f : Call → Reply → List ℕ) → joined (λ m. f (call_of m) (reply_of m)) h.made ≡ together f (asked_by s) (replies b (asked_by s))
    left f = joined_together f h.made ∙ ap₂ (together f) h.asks (r ∙ ap (replies b) h.asks)

outcomes : {d e : Draft} (b : Book) (ss : List Driven) (ms : List Made) → Session d ss e ms → map reply_of ms ≡ replies b (calls ms) → Outcomes b ss
unfolding Outcomes
outcomes b [] [] over r = tt
outcomes {d = d} {e = e} b [] (_ ∷ _) t r = elim t [ ]
outcomes b (s ∷ ss) ms (again {ms = ys} h t) r =
    let p = replied_split b h.made ys r in
    (outcome b s h p.0, outcomes (write_all b (asked_by s)) ss ys t (rw h.asks at p.1))

pub session_holds : SessionHolds
session_holds d e ss ms t o =
    let h = session_runs d e ss ms t in
    record {
      outcomes = outcomes blank ss ms t (of_every_session (λ d ms. map reply_of ms ≡ replies blank (calls ms)) transcript d e ss ms t o);
      state =
          h.state
          ∙ of_every_session (λ d ms. last d ms ≡ state_of_book (book_of (calls ms))) state_of_book_lem d e ss ms t o
          ∙ ap (λ cs. state_of_book (book_of cs)) h.asks;
    }
