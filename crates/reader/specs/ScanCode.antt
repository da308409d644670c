-- The loops over a record's bytes: how they begin, what a turn does, how they end. What the code computed are variables here, each tied by
-- an equation.
use Rattle.std.specs.Prelude.{◌≡◌, refl, cond, List, [], ◌∷◌, ◌++◌, ℕ, suc, ◌+◌, ◌≤◌, ◌<◌, length, take, drop, get_or}
use Rattle.std.specs.Prelude.{Option as Optional, Some, None, Result, Ok, Err, ok_or, is_some}
use Rattle.std.proofs.Common.{sym, ap, ◌∙◌, arith, add-one, take-suc, take_all, length-take-le, take-append-drop, drop-cons}
use Rattle.std.proofs.Math.Option.{Option, some, none}
use Rattle.words.proofs.Cases.{clash}
use Rattle.layout.specs.Layout.{total}
use Rattle.layout.specs.Reading.{State, in_picks, in_count, in_length, in_half, closed, start, and_then, step, run, one_past, reach}
use Rattle.layout.proofs.Steps.{Steps, steps}
use Rattle.layout.proofs.Back.{bytes_to, Valid, back}
use Rattle.layout.proofs.ReadingLaws.{reach_read}
use Rattle.reader.specs.declared.step.Totals.{Totals}
use Rattle.reader.specs.declared.step.State.{State as Scan}
use Rattle.reader.specs.declared.step.State.TheVariants.{InPicks}
use Rattle.reader.specs.Numbers.{numbers, numbers_of, totals, stepped, stepped_on, stepped_law, Small, small}

-- what was read of the first i bytes
abbrev pub after : (bytes : List ℕ) (i : ℕ) → Option State
after bytes i = run start (take i bytes)

pub after_all : (bytes : List ℕ) (i : ℕ) → length bytes ≤ i → after bytes i ≡ run start bytes
after_all bytes i l = ap (run start) (take_all i bytes l)

-- One byte more

run_snoc : (s : State) (front : List ℕ) (b : ℕ) → run s (front ++ b ∷ []) ≡ and_then (run s front) (λ t. step t b)
unfolding run
run_snoc s [] b = go (step s b)
  where
    go : (o : Option State) → and_then o (λ t. some t) ≡ o
    go none = refl
    go (some t) = refl
run_snoc s (x ∷ front) b = go (step s x) (λ t. run_snoc t front b)
  where
    go : (o : Option State) → ((t : State) → run t (front ++ b ∷ []) ≡ and_then (run t front) (λ u. step u b))
        → and_then o (λ t. run t (front ++ b ∷ [])) ≡ and_then (and_then o (λ t. run t front)) (λ u. step u b)
    go none on = refl
    go (some t) on = on t

take_on : (bytes : List ℕ) (i : ℕ) → i < length bytes → take (i + 1) bytes ≡ take i bytes ++ get_or bytes i 0 ∷ []
take_on bytes i l = ap (λ k. take k bytes) (add-one i) ∙ take-suc bytes i 0 l

after_on : (bytes : List ℕ) (i : ℕ) → i < length bytes → after bytes (i + 1) ≡ and_then (after bytes i) (λ t. step t (get_or bytes i 0))
after_on bytes i l = ap (run start) (take_on bytes i l) ∙ run_snoc start (take i bytes) (get_or bytes i 0)

-- the byte b at i breaks the reading off, or leads from the state before it to the next
pub data Reads (i b : ℕ) : Option State → Option State → Type 0 where
  stuck : {o : Option State} → Reads i b o none
  goes : {s t : State} → Steps s b t → Valid s → i ≡ length (bytes_to s) → Reads i b (some s) (some t)

pub reads : (bytes : List ℕ) (i : ℕ) → i < length bytes → Reads i (get_or bytes i 0) (after bytes i) (after bytes (i + 1))
reads bytes i l = go (after bytes i) refl (after bytes (i + 1)) refl
  where
    b : ℕ
    b = get_or bytes i 0

    go : (o : Option State) → after bytes i ≡ o → (o' : Option State) → after bytes (i + 1) ≡ o'
        → Reads i b (after bytes i) (after bytes (i + 1))
    go o p none q = rw q stuck
    go none p (some t) q = clash (cc (sym q ∙ after_on bytes i l ∙ ap (λ x. and_then x (λ u. step u b)) p))
    go (some s) p (some t) q =
        let k = back s (take i bytes) p in
        let e : step s b ≡ some t = ap (λ x. and_then x (λ u. step u b)) (sym p) ∙ sym (after_on bytes i l) ∙ q in
        rw (p, q) (goes (steps s t b e) k.0 (sym (length-take-le i bytes (omega arith)) ∙ ap length (sym k.1)))

-- How far the reading comes

reach_stays : (s : State) (front : List ℕ) (b : ℕ) → run s (front ++ b ∷ []) ≡ none → reach s (front ++ b ∷ []) ≡ reach s front
unfolding run reach
reach_stays s [] b e = go (step s b) e
  where
    go : (o : Option State) → and_then o (λ t. some t) ≡ none → one_past o (λ t. 0) ≡ 0
    go none e = refl
    go (some t) e = clash cc
reach_stays s (x ∷ front) b e = go (step s x) (λ t. reach_stays t front b) e
  where
    go : (o : Option State) → ((t : State) → run t (front ++ b ∷ []) ≡ none → reach t (front ++ b ∷ []) ≡ reach t front)
        → and_then o (λ t. run t (front ++ b ∷ [])) ≡ none → one_past o (λ t. reach t (front ++ b ∷ [])) ≡ one_past o (λ t. reach t front)
    go none on e = refl
    go (some t) on e = ap suc (on t e)

pub reach_begins : (bytes : List ℕ) → reach start (take 0 bytes) ≡ 0
unfolding reach
reach_begins bytes = refl

-- The loops: s is the code's state before the byte at i

pub scan_begins : (bytes : List ℕ) → Some (InPicks 0) ≡ numbers_of (after bytes 0)
unfolding run
scan_begins bytes = refl

pub scan_small : (bytes : List ℕ) (i : ℕ) (s : Scan) → Some s ≡ numbers_of (after bytes i) → Small s
scan_small bytes i s e = go (after bytes i) refl
  where
    go : (o : Option State) → after bytes i ≡ o → Small s
    go none p = clash (cc (rw p at e))
    go (some t) p = let q : s ≡ numbers t = cc (rw p at e) in rw q (small (take i bytes) t p)

pub scan_step : (bytes : List ℕ) (i : ℕ) (s : Scan) (r : Optional Scan) → i < length bytes → Some s ≡ numbers_of (after bytes i)
    → r ≡ stepped s (get_or bytes i 0) → r ≡ numbers_of (after bytes (i + 1))
scan_step bytes i s r l e g =
    let b = get_or bytes i 0 in
    g ∙ ap (λ o. stepped_on o b) e ∙ sym (ap numbers_of (after_on bytes i l) ∙ stepped_law (after bytes i) b)

-- r is the state after the byte b at i; stop, how far the reading comes, stays where there is none
pub scan_turn : (bytes : List ℕ) (i b stop stop' : ℕ) (s : Scan) (r : Optional Scan) → i < length bytes → Some s ≡ numbers_of (after bytes i)
    → stop ≡ reach start (take i bytes) → b ≡ get_or bytes i 0 → r ≡ stepped s b → stop' ≡ cond (is_some r) (i + 1) stop
    → (r ≡ numbers_of (after bytes (i + 1))) × (stop' ≡ reach start (take (i + 1) bytes))
scan_turn bytes i b stop stop' s r l e f g h k = (so, go (after bytes (i + 1)) refl)
  where
    so : r ≡ numbers_of (after bytes (i + 1))
    so = scan_step bytes i s r l e (rw g at h)

    z : take (i + 1) bytes ≡ take i bytes ++ get_or bytes i 0 ∷ []
    z = take_on bytes i l

    go : (o : Option State) → after bytes (i + 1) ≡ o → stop' ≡ reach start (take (i + 1) bytes)
    go none p =
        k ∙ rw (so, p) (f ∙ sym (ap (reach start) z ∙ reach_stays start (take i bytes) (get_or bytes i 0) (ap (run start) (sym z) ∙ p)))
    go (some t) p = k ∙ rw (so, p) (sym (reach_read start t (take (i + 1) bytes) p ∙ length-take-le (i + 1) bytes (omega arith)))

-- the states of the reading behind two of the code: before the byte at i, and after it
pub record Turn (bytes : List ℕ) (i : ℕ) (s t : Scan) : Type 0 where
  pub before : State
  pub next : State
  pub read : after bytes i ≡ some before
  pub reads : after bytes (i + 1) ≡ some next
  pub from : s ≡ numbers before
  pub to : t ≡ numbers next
  pub steps : Steps before (get_or bytes i 0) next
  pub valid : Valid before
  pub place : i ≡ length (bytes_to before)

pub turn : (bytes : List ℕ) (i : ℕ) (s t : Scan) → i < length bytes → Some s ≡ numbers_of (after bytes i)
    → Some t ≡ numbers_of (after bytes (i + 1)) → Turn bytes i s t
turn bytes i s t l e f = go (after bytes i) refl (after bytes (i + 1)) refl
  where
    b : ℕ
    b = get_or bytes i 0

    go : (o : Option State) → after bytes i ≡ o → (o' : Option State) → after bytes (i + 1) ≡ o' → Turn bytes i s t
    go none p o' q = clash (cc (rw p at e))
    go (some u) p none q = clash (cc (rw q at f))
    go (some u) p (some v) q =
        let k = back u (take i bytes) p in
        let g : step u b ≡ some v = ap (λ x. and_then x (λ u. step u b)) (sym p) ∙ sym (after_on bytes i l) ∙ q in
        record {
          before = u;
          next = v;
          read = p;
          reads = q;
          from = cc (rw p at e);
          to = cc (rw q at f);
          steps = steps u v b g;
          valid = k.0;
          place = sym (length-take-le i bytes (omega arith)) ∙ ap length (sym k.1);
        }

-- Where the reading breaks off: it comes so far, and no more is read

run_breaks : (s : State) (front : List ℕ) (t : State) (b : ℕ) (rest : List ℕ) → run s front ≡ some t → step t b ≡ none
    → (run s (front ++ b ∷ rest) ≡ none) × (reach s (front ++ b ∷ rest) ≡ length front)
unfolding run reach
run_breaks s [] t b rest e f = let z : s ≡ t = cc in rw (z, f) (refl, refl)
run_breaks s (x ∷ front) t b rest e f = go (step s x) (λ u. run_breaks u front t b rest) e
  where
    go : (o : Option State) → ((u : State) → run u front ≡ some t → step t b ≡ none
        → (run u (front ++ b ∷ rest) ≡ none) × (reach u (front ++ b ∷ rest) ≡ length front))
        → and_then o (λ u. run u front) ≡ some t
        → (and_then o (λ u. run u (front ++ b ∷ rest)) ≡ none) × (one_past o (λ u. reach u (front ++ b ∷ rest)) ≡ suc (length front))
    go none on e = clash cc
    go (some u) on e = let k = on u e f in (k.0, ap suc k.1)

-- no more is read behind a byte that breaks the reading off
pub breaks_off : (bytes : List ℕ) (i : ℕ) (s : Scan) → i < length bytes → Some s ≡ numbers_of (after bytes i)
    → None ≡ stepped s (get_or bytes i 0) → (run start bytes ≡ none) × (reach start bytes ≡ i)
breaks_off bytes i s l e f = go (after bytes i) refl (after bytes (i + 1)) refl
  where
    b : ℕ
    b = get_or bytes i 0

    stuck : None ≡ numbers_of (after bytes (i + 1))
    stuck = scan_step bytes i s None l e f

    go : (o : Option State) → after bytes i ≡ o → (o' : Option State) → after bytes (i + 1) ≡ o'
        → (run start bytes ≡ none) × (reach start bytes ≡ i)
    go none p o' q = clash (cc (rw p at e))
    go (some u) p (some v) q = clash (cc (rw q at stuck))
    go (some u) p none q =
        let g : step u b ≡ none = ap (λ x. and_then x (λ u. step u b)) (sym p) ∙ sym (after_on bytes i l) ∙ q in
        let k = run_breaks start (take i bytes) u b (drop (suc i) bytes) p g in
        let z : bytes ≡ take i bytes ++ b ∷ drop (suc i) bytes = sym (take-append-drop i bytes) ∙ ap (λ r. take i bytes ++ r) (drop-cons bytes i 0 l) in
        (ap (run start) z ∙ k.0, ap (reach start) z ∙ k.1 ∙ length-take-le i bytes (omega arith))

-- How it ends: with a whole record, or after so many bytes

abbrev pub scanned : Option State → (reach : ℕ) → Result Totals ℕ
scanned none k = Err k
scanned (some (in_picks v)) k = Err k
scanned (some (in_count p v)) k = Err k
scanned (some (in_length p c fs v)) k = Err k
scanned (some (in_half p c fs len half)) k = Err k
scanned (some (closed p fs)) k = Ok (record { picks = p; sum = total fs })

pub scan_broken : (bytes : List ℕ) (i : ℕ) (s : Scan) → i < length bytes → Some s ≡ numbers_of (after bytes i)
    → None ≡ stepped s (get_or bytes i 0) → Err i ≡ scanned (run start bytes) (reach start bytes)
scan_broken bytes i s l e f = let k = breaks_off bytes i s l e f in rw (k.0, k.1)

ok_or_scanned : (s : State) (k : ℕ) → ok_or (totals (numbers s)) k ≡ scanned (some s) k
ok_or_scanned (in_picks v) k = refl
ok_or_scanned (in_count p v) k = refl
ok_or_scanned (in_length p c fs v) k = refl
ok_or_scanned (in_half p c fs len half) k = refl
ok_or_scanned (closed p fs) k = refl

-- at the end of the bytes r is the state of the reading, none where it has broken off, and stop how far it has come
pub scan_ends : (bytes : List ℕ) (i stop : ℕ) (r : Optional Scan) → length bytes ≤ i → r ≡ numbers_of (after bytes i)
    → stop ≡ reach start (take i bytes) → (r ≡ numbers_of (run start bytes)) × (stop ≡ reach start bytes)
scan_ends bytes i stop r l e f = (e ∙ ap numbers_of (after_all bytes i l), f ∙ ap (reach start) (take_all i bytes l))

-- and the code gives its totals, or how many bytes there are
pub scan_told : (bytes : List ℕ) (i : ℕ) (s : Scan) → length bytes ≤ i → Some s ≡ numbers_of (after bytes i)
    → ok_or (totals s) (length bytes) ≡ scanned (run start bytes) (reach start bytes)
scan_told bytes i s l e = go (run start bytes) refl (scan_ends bytes i _ (Some s) l e refl).0
  where
    go : (o : Option State) → run start bytes ≡ o → Some s ≡ numbers_of o → ok_or (totals s) (length bytes) ≡ scanned o (reach start bytes)
    go none f g = clash cc
    go (some t) f g =
        let z : s ≡ numbers t = cc in
        rw (z, reach_read start t bytes f) (ok_or_scanned t (length bytes))
