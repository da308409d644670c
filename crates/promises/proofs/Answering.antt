-- The replies that the book gives are those of document 01: each call is refused under the first line that it meets, or says what it should.
use mathlib.Core.Path.{◌≡◌, refl, sym, ap, subst, ◌∙◌}
use mathlib.Core.Logic.{◌↔◌, ◌≢◌, inl, inr}
use mathlib.Core.List.{List, [], ◌∷◌}
use Prim.Native.Nat.{ℕ}
use native.Mathlib.Omega.{arith}
use lib.ListN.{length}
use Rattle.promises.specs.Answers.{refused, refused_at, Under, Reply}
use Rattle.promises.specs.Book.{Book, Call, start, feed, load, mark, back, ask, split, longest, mask, radius, next, fold, lift, lent}
use Rattle.promises.specs.Replies.{unless_said, refusal_to, found_for, reply_to}
use Rattle.promises.specs.Listed.{Line, First, NoneMet, listed, sought, lines}
use Rattle.promises.specs.Says.{Says}
use Rattle.promises.proofs.BookLaws.{said_zero, said_not, refusal_under}
use Rattle.promises.specs.Demands.{Accepted, NoneListed, PlaceOf, Late, Answered}
use Rattle.promises.proofs.Listing.{Tested, hit, clear, first_one, first_none, first_front, first_behind, none_both, Others, first_past}
use Rattle.promises.proofs.Finding.{Outcome, under, fine}
use Rattle.promises.proofs.Calls.{listed_tested, found_outcome}
use Rattle.promises.proofs.Placing.{under_one, refusal_at, zero_met}

-- 9, 10, 5, 18 and 17 each by itself, from the first line that is met

-- the one line of a list of one
alone : (l : Line) (x : ℕ) → First (l ∷ []) x → l.Met
unfolding First
alone l x (inl p) = p.0
alone l x (inr p) = absurd p.1

module _ (b : Book) (call : Call) (r : Reply) where
  -- r refuses by the first line that is met, and names no place
  abbrev ByFirst : Type 0
  ByFirst = (x : ℕ) → (r.said ≡ refused x) ↔ First (lines b call) x

  module _ (f : ByFirst) where
    -- behind the lines that need no picks
    behind : (x : ℕ) → Others (listed (length b.row) b.K call) x → (r.said ≡ refused x) ↔ (NoneListed b call × First (sought b call) x)
    behind x o = (
      λ e. first_past (listed (length b.row) b.K call) (sought b call) x o ((f x).0 e),
      λ p. (f x).1 (first_behind (listed (length b.row) b.K call) (sought b call) x p.0 p.1),
    )

    -- a call that seeks one line
    late_one : (l : Line) → sought b call ≡ l ∷ [] → Others (listed (length b.row) b.K call) l.number
        → Late r.said (NoneListed b call) (l ∷ [])
    unfolding First Late
    late_one l s o =
        let q = rw s at (behind l.number o) in
        ((λ e. ((q.0 e).0, alone l l.number (q.0 e).1), λ p. q.1 (p.0, inl (p.1, refl))), tt)

    -- and one that seeks two, which are not met at once
    late_two : (l m : Line) → sought b call ≡ l ∷ m ∷ [] → Others (listed (length b.row) b.K call) l.number
        → Others (listed (length b.row) b.K call) m.number → m.number ≢ l.number → (m.Met → l.Met → ⊥)
        → Late r.said (NoneListed b call) (l ∷ m ∷ [])
    unfolding First Late
    late_two l m s o p n apart =
        let q = rw s at (behind l.number o) in
        let t = rw s at (behind m.number p) in (
          (λ e. ((q.0 e).0, former (q.0 e).1), λ h. q.1 (h.0, inl (h.1, refl))),
          ((λ e. ((t.0 e).0, later (t.0 e).1), λ h. t.1 (h.0, inr (apart h.1, inl (h.1, refl)))), tt),
        )
      where
        former : First (l ∷ m ∷ []) l.number → l.Met
        former (inl h) = h.0
        former (inr h) = elim h.1 [ inl g ↦ absurd (n (sym g.1)) | inr g ↦ absurd g.1 ]

        later : First (l ∷ m ∷ []) m.number → m.Met
        later (inl h) = absurd (n h.1)
        later (inr h) = alone m m.number h.1

pub same_number : {x y : ℕ} → refused x ≡ refused y → x ≡ y
same_number e = cc

-- a call whose numbers name no place
plain_first : (b : Book) (call : Call) (r : Reply) → ((x : ℕ) → refusal_to call x ≡ refused x) → Outcome b call (lines b call) r → ByFirst b call r
plain_first b call r f (under y p e) x =
    let g : r.said ≡ refused y = ap (λ a. a.said) e ∙ f y in (
      λ z. let w : y ≡ x = same_number (sym g ∙ z) in rw w at p,
      λ z. g ∙ ap refused (first_one (lines b call) p z),
    )
plain_first b call r f (fine p ok s) x = (λ z. absurd (ok x (inl z)), λ z. absurd (first_none (lines b call) x z p))

late : (b : Book) (call : Call) (r : Reply) → Outcome b call (lines b call) r → Late r.said (NoneListed b call) (sought b call)
unfolding Others Late listed sought
late b (start k) r o = tt
late b (feed pick visits) r o = tt
late b (load lifts) r o = tt
late b (mark name) r o = late_one b (mark name) r (plain_first b (mark name) r (λ x. refl) o) _ refl (λ e. omega arith, (λ e. omega arith, tt))
late b (back name) r o = late_one b (back name) r (plain_first b (back name) r (λ x. refl) o) _ refl (λ e. omega arith, (λ e. omega arith, tt))
late b (ask (split i k ends)) r o = late_one b (ask (split i k ends)) r (plain_first b (ask (split i k ends)) r (λ x. refl) o) _ refl
    (λ e. omega arith, (λ e. omega arith, (λ e. omega arith, (λ e. omega arith, tt))))
late b (ask longest) r o = tt
late b (ask (mask i)) r o = tt
late b (ask (radius c)) r o = tt
late b (ask (next c)) r o = late_one b (ask (next c)) r (plain_first b (ask (next c)) r (λ x. refl) o) _ refl (λ e. omega arith, (λ e. omega arith, tt))
late b (ask (fold i k output)) r o = late_two b (ask (fold i k output)) r (plain_first b (ask (fold i k output)) r (λ x. refl) o) _ _ refl
    (λ e. omega arith, (λ e. omega arith, (λ e. omega arith, tt))) (λ e. omega arith, (λ e. omega arith, (λ e. omega arith, tt)))
    (λ e. omega arith) (λ m f. f m.0 m.1.is)
late b (ask (lift letter)) r o = tt

module _ (b : Book) (call : Call) (r : Reply) where
  outcome_answers : Outcome b call (lines b call) r → Answered b call r
  unfolding listed sought
  outcome_answers o = record {
    refuses = refuses o;
    places = places o;
    keeps = λ x e. keeps o x e;
    accepts = accepts o;
    says = λ p. says p o;
    late = late b call r o;
  }
    where
      refuses : Outcome b call (lines b call) r → (x : ℕ) → Under r.said x ↔ First (lines b call) x
      refuses (under y p e) x =
          let u : Under r.said y = subst (λ a. Under a.said y) (sym e) (refusal_under call y) in (
            λ q. let z : y ≡ x = under_one u q in rw z at p,
            λ q. subst (λ z. Under r.said z) (first_one (lines b call) p q) u,
          )
      refuses (fine p ok s) x = (λ q. absurd (ok x q), λ q. absurd (first_none (lines b call) x q p))

      places : Outcome b call (lines b call) r → (x place : ℕ)
          → (r.said ≡ refused_at x place) ↔ (First (lines b call) x × PlaceOf call x place)
      places (under y p e) x place =
          let a = refusal_at call y (λ lifts q z. zero_met (length b.row) b.K lifts (rw (q, z) at p)) x place in (
            λ q. let z = a.0 (sym (ap (λ a. a.said) e) ∙ q) in (subst (First (lines b call)) (sym z.0) p, z.1),
            λ q. ap (λ a. a.said) e ∙ a.1 (first_one (lines b call) q.0 p, q.1),
          )
      places (fine p ok s) x place = (λ q. absurd (ok x (inr (place, q))), λ q. absurd (first_none (lines b call) x q.0 p))

      keeps : Outcome b call (lines b call) r → (x : ℕ) → Under r.said x → r.list ≡ lent call
      keeps (under y p e) x q = ap (λ a. a.list) e
      keeps (fine p ok s) x q = absurd (ok x q)

      accepts : Outcome b call (lines b call) r → Accepted r.said ↔ NoneMet (lines b call)
      accepts (under y p e) = (
        λ f. absurd (f y (subst (λ a. Under a.said y) (sym e) (refusal_under call y))),
        λ q. absurd (first_none (lines b call) y p q),
      )
      accepts (fine p ok s) = (λ _. p, λ _. ok)

      says : NoneMet (lines b call) → Outcome b call (lines b call) r → Says b call r
      says q (under y p e) = absurd (first_none (lines b call) y p q)
      says q (fine p ok s) = s

-- every call, whatever stands in the book: what is found counts where the call's number is 0
pub answered : (b : Book) (call : Call) → Answered b call (reply_to b call)
unfolding reply_to
answered b call = outcome_answers b call _ (go _ (listed_tested (length b.row) b.K call))
  where
    ls : List Line
    ls = listed (length b.row) b.K call

    found : Reply
    found = found_for b call

    past : NoneMet ls → Outcome b call (sought b call) found → Outcome b call (lines b call) found
    past p (under x q e) = under x (first_behind ls (sought b call) x p q) e
    past p (fine q ok s) = fine (none_both ls (sought b call) p q) ok s

    go : (number : ℕ) → Tested ls number → Outcome b call (lines b call) (unless_said (refusal_to call) number (lent call) found)
    go number (hit p q) = under number (first_front ls (sought b call) number p) (said_not (refusal_to call) number (lent call) found q)
    go number (clear p q) = rw (said_zero (refusal_to call) number (lent call) found q) (past p (found_outcome b call p))
