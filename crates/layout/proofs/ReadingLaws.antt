-- How far bytes can be read, and that a whole record is read exactly where the bytes are one.
use Rattle.std.specs.Prelude.{◌≡◌, refl, ◌↔◌, List, [], ◌∷◌, ◌++◌, ℕ, zero, suc, ◌≤◌, ◌<◌, length, take}
use Rattle.std.proofs.Common.{sym, ap, ◌∙◌, arith}
use Rattle.std.proofs.Math.Option.{Option, some, none}
use Rattle.words.proofs.Cases.{clash}
use Rattle.layout.specs.Record.{Folded}
use Rattle.layout.specs.Layout.{Laid, Begins, Stops}
use Rattle.layout.specs.Reading.{State, in_picks, in_count, in_length, in_half, closed, start, and_then, step, run, one_past, reach}
use Rattle.layout.specs.Reading.{number_at, whole, breaks, reading_of, reading}
use Rattle.layout.proofs.Forward.{forward}
use Rattle.layout.proofs.Back.{back_closed}
use Rattle.layout.proofs.Finishing.{back_begins}

-- All of the bytes can be read

pub record Read (s : State) (bytes : List ℕ) : Type 0 where
  pub to : State
  pub goes : run s bytes ≡ some to

-- so can those in front
pub run_front : (s t : State) (front rest : List ℕ) → run s (front ++ rest) ≡ some t → Read s front
unfolding run
run_front s t [] rest e = record { to = s; goes = refl }
run_front s t (b ∷ front) rest e = go (step s b) refl (λ u. run_front u t front rest)
  where
    go : (o : Option State) → step s b ≡ o → ((u : State) → run u (front ++ rest) ≡ some t → Read u front) → Read s (b ∷ front)
    go none f on = clash cc
    go (some u) f on = let r = on u (rw f at e) in record { to = r.to; goes = rw f r.goes }

begins_read : {front : List ℕ} → Begins front → Read start front
begins_read {front} b = run_front start (closed b.layout.picks b.layout.sections) front b.rest (forward b.layout.laid)

pub reach_read : (s t : State) (bytes : List ℕ) → run s bytes ≡ some t → reach s bytes ≡ length bytes
unfolding run reach
reach_read s t [] e = refl
reach_read s t (b ∷ bytes) e = go (step s b) refl (λ u. reach_read u t bytes)
  where
    go : (o : Option State) → step s b ≡ o → ((u : State) → run u bytes ≡ some t → reach u bytes ≡ length bytes)
        → one_past (step s b) (λ u. reach u bytes) ≡ suc (length bytes)
    go none f on = clash cc
    go (some u) f on = rw f (ap suc (on u (rw f at e)))

-- How far they can be read: up to there, and one byte more cannot be

pub reach_within : (s : State) (bytes : List ℕ) → reach s bytes ≤ length bytes
unfolding reach
reach_within s [] = omega arith
reach_within s (b ∷ bytes) = go (step s b) refl (λ u. reach_within u bytes)
  where
    go : (o : Option State) → step s b ≡ o → ((u : State) → reach u bytes ≤ length bytes)
        → one_past (step s b) (λ u. reach u bytes) ≤ suc (length bytes)
    go none f on = rw f (omega arith)
    go (some u) f on = rw f (omega (arith, on u))

pub reach_front : (s : State) (bytes : List ℕ) → Read s (take (reach s bytes) bytes)
unfolding reach run
reach_front s [] = record { to = s; goes = refl }
reach_front s (b ∷ bytes) = go (step s b) refl (λ u. reach_front u bytes)
  where
    go : (o : Option State) → step s b ≡ o → ((u : State) → Read u (take (reach u bytes) bytes))
        → Read s (take (one_past (step s b) (λ u. reach u bytes)) (b ∷ bytes))
    go none f on = rw f (record { to = s; goes = refl })
    go (some u) f on = let r = on u in rw f (record { to = r.to; goes = rw f r.goes })

pub reach_stuck : (s : State) (bytes : List ℕ) → reach s bytes < length bytes → run s (take (suc (reach s bytes)) bytes) ≡ none
unfolding reach run
reach_stuck s [] h = absurd (omega arith)
reach_stuck s (b ∷ bytes) h = go (step s b) refl (λ u. reach_stuck u bytes) h
  where
    go : (o : Option State) → step s b ≡ o
        → ((u : State) → reach u bytes < length bytes → run u (take (suc (reach u bytes)) bytes) ≡ none)
        → one_past (step s b) (λ u. reach u bytes) < suc (length bytes)
        → and_then (step s b) (λ u. run u (take (one_past (step s b) (λ u. reach u bytes)) bytes)) ≡ none
    go none f on = rw f (λ h. refl)
    go (some u) f on = rw f (λ h. on u (omega arith))

-- and there is one such place
reach_only : (s : State) (bytes : List ℕ) (stop : ℕ) → stop ≤ length bytes → Read s (take stop bytes)
    → (stop < length bytes → run s (take (suc stop) bytes) ≡ none) → stop ≡ reach s bytes
unfolding reach run
reach_only s [] stop l r k = omega arith
reach_only s (b ∷ bytes) zero l r k = go (step s b) refl (k (omega arith))
  where
    go : (o : Option State) → step s b ≡ o → and_then (step s b) (λ u. some u) ≡ none → 0 ≡ one_past (step s b) (λ u. reach u bytes)
    go none f e = rw f
    go (some u) f e = clash (cc (rw f at e))
reach_only s (b ∷ bytes) (suc stop) l r k = go (step s b) refl (λ u. reach_only u bytes stop (omega arith))
  where
    go : (o : Option State) → step s b ≡ o
        → ((u : State) → Read u (take stop bytes) → (stop < length bytes → run u (take (suc stop) bytes) ≡ none) → stop ≡ reach u bytes)
        → suc stop ≡ one_past (step s b) (λ u. reach u bytes)
    go none f on = clash (cc (rw f at r.goes))
    go (some u) f on = rw f (ap suc (on u (record { to = r.to; goes = rw f at r.goes }) (λ h. rw f at (k (omega arith)))))

-- Whole records

pub laid_law : (bytes : List ℕ) (p : ℕ) (fs : List Folded) → Laid bytes p fs ↔ (reading bytes ≡ whole p fs)
unfolding reading reading_of
laid_law bytes p fs = (λ h. ap (reading_of (number_at bytes (reach start bytes))) (forward h), λ e. go (run start bytes) refl e)
  where
    go : (o : Option State) → run start bytes ≡ o → reading_of (number_at bytes (reach start bytes)) o ≡ whole p fs → Laid bytes p fs
    go (some (closed q gs)) f e = let z : run start bytes ≡ some (closed p fs) = cc in back_closed p fs bytes z
    go (some (in_picks v)) f e = clash cc
    go (some (in_count q v)) f e = clash cc
    go (some (in_length q c gs v)) f e = clash cc
    go (some (in_half q c gs len half)) f e = clash cc
    go none f e = clash cc

-- Any others

-- what was read is a whole record, or breaks off
data Ways (o : Option State) : Type 0 where
  shut : (p : ℕ) (fs : List Folded) → o ≡ some (closed p fs) → Ways o
  open' : ((place : ℕ) → reading_of place o ≡ breaks place) → ((p : ℕ) (fs : List Folded) → o ≡ some (closed p fs) → ⊥) → Ways o

way : (o : Option State) → Ways o
unfolding reading_of
way (some (closed q gs)) = shut q gs refl
way (some (in_picks v)) = open' (λ i. refl) (λ p fs e. clash cc)
way (some (in_count q v)) = open' (λ i. refl) (λ p fs e. clash cc)
way (some (in_length q c gs v)) = open' (λ i. refl) (λ p fs e. clash cc)
way (some (in_half q c gs len half)) = open' (λ i. refl) (λ p fs e. clash cc)
way none = open' (λ i. refl) (λ p fs e. clash cc)

-- the place of `Stops` is how far they can be read
pub stops_law : (bytes : List ℕ) (stop : ℕ) → Stops bytes stop
    ↔ ((reading bytes ≡ breaks (number_at bytes stop)) × (stop ≡ reach start bytes))
unfolding reading
stops_law bytes stop = (λ h. to h (way (run start bytes)), λ h. from h.0 h.1 (way (run start bytes)))
  where
    stuck : {front : List ℕ} → (Begins front → ⊥) → (o : Option State) → run start front ≡ o → run start front ≡ none
    stuck n none e = e
    stuck {front} n (some t) e = absurd (n (back_begins t front e))

    to : Stops bytes stop → Ways (run start bytes) → (reading bytes ≡ breaks (number_at bytes stop)) × (stop ≡ reach start bytes)
    to h (shut p fs e) = absurd (h.broken (record { picks = p; sections = fs; laid = back_closed p fs bytes e }))
    to h (open' f g) =
        let r = reach_only start bytes stop h.within (begins_read h.front)
        (λ l. stuck (h.stuck l) (run start (take (suc stop) bytes)) refl) in
        (f (number_at bytes (reach start bytes)) ∙ ap (λ i. breaks (number_at bytes i)) (sym r), r)

    from : reading bytes ≡ breaks (number_at bytes stop) → stop ≡ reach start bytes → Ways (run start bytes) → Stops bytes stop
    from e z (shut p fs f) = clash (cc (sym ((laid_law bytes p fs).0 (back_closed p fs bytes f)) ∙ e))
    from e z (open' f g) =
        let r = reach_front start bytes in
        rw z (record {
          broken = λ h. g h.picks h.sections (forward h.laid);
          within = reach_within start bytes;
          front = back_begins r.to (take (reach start bytes) bytes) r.goes;
          stuck = λ l b. let q = begins_read b in clash (cc (sym q.goes ∙ reach_stuck start bytes l));
        })

-- the place given is a number's first byte or how far they can be read
pub breaks_at : (bytes : List ℕ) (place : ℕ) → reading bytes ≡ breaks place → place ≡ number_at bytes (reach start bytes)
unfolding reading
breaks_at bytes place e = go (way (run start bytes))
  where
    go : Ways (run start bytes) → place ≡ number_at bytes (reach start bytes)
    go (shut p fs f) = clash (cc (sym ((laid_law bytes p fs).0 (back_closed p fs bytes f)) ∙ e))
    go (open' f g) =
        let z : breaks place ≡ breaks (number_at bytes (reach start bytes)) = sym e ∙ f (number_at bytes (reach start bytes)) in
        cc

pub laid_one : {bytes : List ℕ} {p q : ℕ} {fs gs : List Folded} → Laid bytes p fs → Laid bytes q gs → (p ≡ q) × (fs ≡ gs)
laid_one {bytes} {p} {q} {fs} {gs} f g =
    let z : whole p fs ≡ whole q gs = sym ((laid_law bytes p fs).0 f) ∙ (laid_law bytes q gs).0 g in
    (cc, cc)
