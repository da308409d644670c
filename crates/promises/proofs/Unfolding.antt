-- What unfold replies is document 02's: 11 with its place, then 12, then 5, or the picks in the list.
use mathlib.Core.Path.{◌≡◌, refl, sym, ap, ap₂, subst, ◌∙◌}
use mathlib.Core.Logic.{inl, inr}
use mathlib.Core.List.{List, [], ◌∷◌}
use Prim.Native.Nat.{ℕ}
use native.Mathlib.Omega.{arith}
use native.Mathlib.Decide.{ℕ_discrete}
use lib.Dec.{leb, eqb}
use lib.ListN.{length}
use borrow.Author.Tests.{eqb-true, eqb-false, leb-true, leb-false}
use Rattle.words.proofs.Cases.{clash}
use Rattle.layout.specs.Record.{Folded}
use Rattle.layout.specs.Layout.{Laid, Layout, total, Passes, BreaksAt}
use Rattle.layout.specs.Unfolding.{picks_of}
use Rattle.layout.specs.Reading.{Reading, whole, breaks, reading}
use Rattle.layout.proofs.ReadingLaws.{laid_law, laid_one}
use Rattle.layout.proofs.BreakLaws.{break_law}
use Rattle.layout.proofs.UnfoldLaws.{unfold_law}
use Rattle.promises.specs.Answers.{gave, refused, refused_at, Under, Reply, reply, filled}
use Rattle.promises.specs.Refusals.{line5, unfold_refusal}
use Rattle.promises.specs.Replies.{unfolded_to, unfold_reply}
use Rattle.promises.specs.Listed.{Line, First, NoneMet, lengths_differ, list_shorter, unfold_lines}
use Rattle.promises.proofs.BookLaws.{unless_zero, unless_not}
use Rattle.promises.specs.ReadBack.{UnfoldRight, UnfoldHolds, PlacesHold}
use Rattle.promises.proofs.Keeping.{gave_accepted}
use Rattle.promises.proofs.Listing.{Tested, hit, clear, over, check, first_one, first_none}

-- Places

pub places : PlacesHold
places bytes = record { none = (λ l. no_place l.laid, λ f. go f (reading bytes) refl); one = one }
  where
    no_place : {picks : ℕ} {fs : List Folded} → Laid bytes picks fs → (place : ℕ) → BreaksAt bytes place → ⊥
    no_place {picks} {fs} l place b = clash (cc (sym ((laid_law bytes picks fs).0 l) ∙ (break_law bytes place).0 b))

    go : ((place : ℕ) → BreaksAt bytes place → ⊥) → (r : Reading) → reading bytes ≡ r → Layout bytes
    go f (whole p fs) e = record { picks = p; sections = fs; laid = (laid_law bytes p fs).1 e }
    go f (breaks place) e = absurd (f place ((break_law bytes place).1 e))

    one : (a b : ℕ) → BreaksAt bytes a → BreaksAt bytes b → a ≡ b
    one a b f g = let z : breaks a ≡ breaks b = sym ((break_law bytes a).0 f) ∙ (break_law bytes b).0 g in cc

-- The tests for 12 and 5

abbrev later_lines : (bytes list : List ℕ) → List Line
later_lines bytes list = lengths_differ bytes ∷ list_shorter bytes list ∷ []

unfold_tested : (bytes list : List ℕ) (picks : ℕ) (fs : List Folded) → Laid bytes picks fs
    → Tested (later_lines bytes list) (unfold_refusal (total fs) picks (length list))
unfolding unfold_refusal
unfold_tested bytes list picks fs laid =
    check (lengths_differ bytes) (list_shorter bytes list ∷ []) (eqb (total fs) picks) (line5 picks (length list) 0) (λ e. omega arith)
    (λ e. (picks, fs, laid, eqb-false (total fs) picks e))
    (λ e m. let z = laid_one laid m.2 in m.3 (sym (ap total z.1) ∙ eqb-true (total fs) picks e ∙ z.0))
    (λ _. check (list_shorter bytes list) [] (leb picks (length list)) 0 (λ e. omega arith)
    (λ e. (picks, fs, laid, leb-false picks (length list) e))
    (λ e m. omega (arith, leb-true picks (length list) e, m.3, (laid_one laid m.2).0))
    (λ _. over))

-- The reply, by what was read

data Answers (bytes list : List ℕ) : Reply → Type 0 where
  broken : {place : ℕ} → reading bytes ≡ breaks place → Answers bytes list (reply (refused_at 11 place) list)
  under : {picks x : ℕ} {fs : List Folded} → Laid bytes picks fs → First (later_lines bytes list) x
      → Answers bytes list (reply (refused x) list)
  given : {picks : ℕ} {fs : List Folded} → Laid bytes picks fs → NoneMet (later_lines bytes list)
      → Answers bytes list (reply (gave (picks ∷ [])) (filled (picks_of fs) list))

answers : (bytes list : List ℕ) → Answers bytes list (unfold_reply bytes list)
unfolding unfold_reply
answers bytes list = go (reading bytes) refl
  where
    go : (r : Reading) → reading bytes ≡ r → Answers bytes list (unfolded_to r list)
    go (breaks place) e = broken e
    go (whole picks fs) e = tested (unfold_tested bytes list picks fs laid)
      where
        laid : Laid bytes picks fs
        laid = (laid_law bytes picks fs).1 e

        tested : Tested (later_lines bytes list) (unfold_refusal (total fs) picks (length list))
            → Answers bytes list (unfolded_to (whole picks fs) list)
        tested (hit f z) = rw (unless_not _ list _ z) (under laid f)
        tested (clear f z) = rw (unless_zero _ list _ z) (given laid f)

-- Each of the three is right

module _ (bytes list : List ℕ) where
  right_broken : (place : ℕ) → BreaksAt bytes place → UnfoldRight bytes list (refused_at 11 place) list
  unfolding First NoneMet
  right_broken place b = record {
    refuses = λ x. (
      λ u. inl (no_layout, eleven u),
      λ f. inr (place, ap (λ y. refused_at y place) (first_one (unfold_lines bytes list) (inl (no_layout, refl)) f)),
    );
    places = λ x q. (λ z. (cc, rw (same z) at b), λ z. ap₂ refused_at (sym z.0) ((places bytes).one place q b z.1));
    keeps = λ x u. refl;
    accepts = (λ ok. absurd (ok 11 (inr (place, refl))), λ f. absurd (f.0 no_layout));
    gives = λ f. absurd (f.0 no_layout);
  }
    where
      no_layout : Layout bytes → ⊥
      no_layout l = (places bytes).none.0 l place b

      eleven : {x : ℕ} → Under (refused_at 11 place) x → x ≡ 11
      eleven {x} (inl u) = clash cc
      eleven {x} (inr u) = cc u.1

      same : {x q : ℕ} → refused_at 11 place ≡ refused_at x q → place ≡ q
      same {x} {q} z = cc

  module _ {picks : ℕ} {fs : List Folded} (laid : Laid bytes picks fs) where
    layout : Layout bytes
    layout = record { picks = picks; sections = fs; laid = laid }

    no_place : (place : ℕ) → BreaksAt bytes place → ⊥
    no_place = (places bytes).none.0 layout

    right_under : (y : ℕ) → First (later_lines bytes list) y → UnfoldRight bytes list (refused y) list
    unfolding First NoneMet
    right_under y f = record {
      refuses = λ x. (λ u. inr (λ n. n layout, rw (same u) at f), λ g. inl (ap refused (behind g)));
      places = λ x q. (λ z. clash cc, λ z. absurd (no_place q z.1));
      keeps = λ x u. refl;
      accepts = (λ ok. absurd (ok y (inl refl)), λ g. absurd (first_none (later_lines bytes list) y f g.1));
      gives = λ g. absurd (first_none (later_lines bytes list) y f g.1);
    }
      where
        same : {x : ℕ} → Under (refused y) x → y ≡ x
        same {x} (inl u) = cc
        same {x} (inr u) = clash (cc u.1)

        behind : {x : ℕ} → First (unfold_lines bytes list) x → y ≡ x
        behind (inl g) = absurd (g.0 layout)
        behind (inr g) = first_one (later_lines bytes list) f g.1

    passes : ((lengths_differ bytes).Met → ⊥) → Passes bytes picks fs
    passes g = elim (ℕ_discrete (total fs) picks) [ yes z ↦ record { laid = laid; adds = z } | no z ↦ absurd (g (picks, fs, laid, z)) ]

    right_given : NoneMet (later_lines bytes list) → UnfoldRight bytes list (gave (picks ∷ [])) (filled (picks_of fs) list)
    unfolding First NoneMet
    right_given f = record {
      refuses = λ x. (λ u. absurd (gave_accepted refl x u), λ g. absurd (first_none (unfold_lines bytes list) x g (λ n. n layout, f)));
      places = λ x q. (λ z. clash cc, λ z. absurd (no_place q z.1));
      keeps = λ x u. absurd (gave_accepted refl x u);
      accepts = (λ _. (λ n. n layout, f), λ _. gave_accepted refl);
      gives = λ _. record {
        picks = picks;
        sections = fs;
        passes = passes f.0;
        unfolds = unfold_law (passes f.0);
        says = refl;
        fills = refl;
      };
    }

pub unfold_holds : UnfoldHolds
unfold_holds bytes list r after p = subst (λ q. UnfoldRight bytes list q.said q.list) (sym p) (go (answers bytes list))
  where
    go : {q : Reply} → Answers bytes list q → UnfoldRight bytes list q.said q.list
    go (broken {place = place} e) = right_broken bytes list place ((break_law bytes place).1 e)
    go (under {x = x} l f) = right_under bytes list l x f
    go (given l f) = right_given bytes list l f
