-- Where a number is due: the states in which one is read, and the bytes behind which they stand.
use Rattle.std.specs.Prelude.{◌≡◌, refl, Bool, true, false, List, [], ◌∷◌, ◌++◌, ℕ, suc, ◌+◌, ◌<◌, length, get_or}
use Rattle.std.proofs.Common.{sym, ap, ◌∙◌, append_assoc, arith, length-append, get_or-append-add}
use Rattle.std.proofs.Math.Option.{some}
use Rattle.words.specs.Definitions.{From, most_picks, most_sections}
use Rattle.words.proofs.Cases.{clash}
use Rattle.text.specs.Definitions.{comma, line_end, decimal}
use Rattle.layout.specs.Record.{Folded}
use Rattle.layout.specs.Layout.{Every, none as every-none, more as every_more, Letter, Digit, Fits}
use Rattle.layout.specs.Layout.{opening, NumberDue, of_picks, of_sections, of_length}
use Rattle.layout.specs.Reading.{State, in_picks, in_count, in_length, in_half, closed, start, in_number, step, run}
use Rattle.layout.proofs.Entries.{every_at}
use Rattle.layout.proofs.Steps.{by_section}
use Rattle.layout.proofs.Forward.{run_picks, run_count, run_opening}
use Rattle.layout.proofs.Back.{digits_to, bytes_to, Valid}

-- a number is due in the state, or is being read
unfoldable pub in_digits : State → Bool
in_digits (in_picks v) = true
in_digits (in_count p v) = true
in_digits (in_length p c fs v) = true
in_digits (in_half p c fs len half) = false
in_digits (closed p fs) = false

-- The states of a number that is due behind some bytes

pub record Due (front : List ℕ) (most : ℕ) : Type 0 where
  pub more : ℕ → State
  pub next : ℕ → State
  pub is : (v b : ℕ) → step (more v) b ≡ in_number most more (next v) v b
  pub reads : (v : ℕ) → in_digits (more v) ≡ true
  pub goes : run start front ≡ some (more 0)

due_length : (p c : ℕ) (fs : List Folded) → From 1 most_picks p → From 1 most_sections c → Every Fits fs → length fs < c
    → run start (opening p c fs ++ comma ∷ []) ≡ some (in_length p c fs 0)
unfolding opening run
due_length p c [] w x h l =
    let is : opening p c [] ++ comma ∷ [] ≡ decimal p ++ comma ∷ (decimal c ++ comma ∷ []) = simp append_assoc in
    ap (run start) is ∙ run_picks p (decimal c ++ comma ∷ []) w ∙ run_count p c [] x
due_length p c (f ∷ fs) w x (every_more k ks) l =
    run_opening p c (suc (length fs)) comma (λ gs. in_length p c gs 0) (omega arith)
    (λ gs g h e. by_section p c gs g h.halved (omega arith)) f fs w x k ks refl

pub due : {front : List ℕ} {most : ℕ} → NumberDue front most → Due front most
unfolding run step in_digits
due of_picks = record { more = in_picks; next = λ v. in_count v 0; is = λ v b. refl; reads = λ v. refl; goes = refl }
due (of_sections {p = p} w) = record {
  more = in_count p;
  next = λ v. in_length p v [] 0;
  is = λ v b. refl;
  reads = λ v. refl;
  goes = run_picks p [] w;
}
due (of_length {p = p} {c = c} {fs = fs} w x h l) = record {
  more = in_length p c fs;
  next = λ v. in_half p c fs v [];
  is = λ v b. refl;
  reads = λ v. refl;
  goes = due_length p c fs w x h l;
}

-- The bytes behind which the number of such a state is due, and its digits so far behind them

pub record Numbering (s : State) : Type 0 where
  pub front : List ℕ
  pub most : ℕ
  pub at : NumberDue front most
  pub v : ℕ
  pub is : bytes_to s ≡ front ++ digits_to v

pub numbering : (s : State) → Valid s → in_digits s ≡ true → Numbering s
unfolding bytes_to in_digits
numbering (in_picks v) h e = record { front = []; most = most_picks; at = of_picks; v = v; is = refl }
numbering (in_count p v) h e = record {
  front = decimal p ++ comma ∷ [];
  most = most_sections;
  at = of_sections h.0;
  v = v;
  is = sym (append_assoc (decimal p) (comma ∷ []) (digits_to v));
}
numbering (in_length p c fs v) h e = record {
  front = opening p c fs ++ comma ∷ [];
  most = most_picks;
  at = of_length h.0 h.1 h.2 h.3;
  v = v;
  is = sym (append_assoc (opening p c fs) (comma ∷ []) (digits_to v));
}
numbering (in_half p c fs len half) h e = clash cc
numbering (closed p fs) h e = clash cc

-- The bytes of any other state end with no digit

abbrev Plain : List ℕ → Type 0
Plain l = Every (λ b. Digit b → ⊥) l

plain_letters : {l : List ℕ} → Every Letter l → Plain l
plain_letters every-none = every-none
plain_letters (every_more {a = a} p ps) = every_more {a = a} (λ d. omega (arith, p.low, d.high)) (plain_letters ps)

plain_end : (x : List ℕ) (b : ℕ) (l : List ℕ) (i : ℕ) → (Digit b → ⊥) → Plain l → suc i ≡ length (x ++ b ∷ l)
    → Digit (get_or (x ++ b ∷ l) i 0) → ⊥
plain_end x b l i f h e d =
    let z : i ≡ length x + length l = omega (arith, length-append x (b ∷ l)) in
    every_at (every_more {a = b} f h) (length l) (omega arith) (rw (z, get_or-append-add x (b ∷ l) (length l) 0) at d)

pub other_end : (s : State) (i : ℕ) → Valid s → in_digits s ≡ false → suc i ≡ length (bytes_to s) → Digit (get_or (bytes_to s) i 0) → ⊥
unfolding bytes_to in_digits
other_end (in_picks v) i h e n d = clash cc
other_end (in_count p v) i h e n d = clash cc
other_end (in_length p c fs v) i h e n d = clash cc
other_end (in_half p c fs len half) i h e n d =
    let x = opening p c fs ++ comma ∷ decimal len in
    let z : opening p c fs ++ comma ∷ (decimal len ++ comma ∷ half) ≡ x ++ comma ∷ half = simp append_assoc in
    plain_end x comma half i (λ d. omega (arith, d.low)) (plain_letters h.5) (n ∙ ap length z) (rw z at d)
other_end (closed p fs) i h e n d =
    plain_end (opening p (length fs) fs) line_end [] i (λ d. omega (arith, d.low)) every-none n d
