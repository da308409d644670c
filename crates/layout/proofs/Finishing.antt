-- From every state that is reached a record can be finished: the bytes read so far begin one.
use Rattle.std.specs.Prelude.{◌≡◌, refl, List, [], ◌∷◌, ◌++◌, ℕ, zero, suc, ◌+◌, ◌-◌, ◌*◌, ◌/◌, ◌≤◌, ◌<◌, length}
use Rattle.std.proofs.Common.{ap, ◌∙◌, arith, length-append}
use Rattle.std.proofs.Math.Option.{some}
use Rattle.std.proofs.Math.Decide.{dec_lt}
use Rattle.words.specs.Definitions.{From, most_picks, most_sections, first_letter}
use Rattle.text.specs.Definitions.{comma, line_end, digit_zero}
use Rattle.layout.specs.Record.{Folded}
use Rattle.layout.specs.Layout.{Begins}
use Rattle.layout.specs.Reading.{State, in_picks, in_count, in_length, in_half, closed, start, onward, in_number, step, run}
use Rattle.layout.proofs.Steps.{by_digit, by_comma, by_letter, by_section, by_end, steps}
use Rattle.layout.proofs.Forward.{run_one, run_append}
use Rattle.layout.proofs.Back.{Valid, step_back, back, back_closed}

-- bytes enough to finish a record: digit 1 where a number is due, its comma, A for each letter that is due, and sections of one pick
abbrev bytes_left : State → ℕ
bytes_left (in_picks v) = 16 + (1 - v)
bytes_left (in_count p v) = 10 * v + 4 + 11 * (1 - v)
bytes_left (in_length p c fs v) = 10 * (c - length fs) + (v + 1) / 2 + 1 + 2 * (1 - v)
bytes_left (in_half p c fs len half) = 10 * (c - length fs) + ((len + 1) / 2 - length half)
bytes_left (closed p fs) = 0

-- a byte that can be read, after which fewer are left
record Nearer (s : State) : Type 0 where
  byte : ℕ
  to : State
  goes : step s byte ≡ some to
  less : bytes_left to < bytes_left s

module _ (most : ℕ) (pos : 1 ≤ most) (more next : ℕ → State) (is : (v b : ℕ) → step (more v) b ≡ in_number most more (next v) v b) where
  nearer_number : (v : ℕ) → (v ≡ 0 → bytes_left (more 1) < bytes_left (more v)) → (1 ≤ v → bytes_left (next v) < bytes_left (more v))
      → Nearer (more v)
  nearer_number v first ends = elim (dec_lt v 1) [
    | yes x ↦
        let one = digit_zero + 1 in
        let y : onward v one ≡ 1 = omega arith in
        let w : From 1 most (onward v one) = rw y (record { low = omega arith; high = pos }) in
        let d = by_digit most more (next v) v one (record { low = omega arith; high = omega arith }) w in
        record { byte = one; to = more 1; goes = is v one ∙ d ∙ ap (λ k. some (more k)) y; less = first (omega arith) }
    | no x ↦ record {
      byte = comma;
      to = next v;
      goes = is v comma ∙ by_comma most more (next v) v comma refl (omega arith);
      less = ends (omega arith);
    }
  ]

nearer_half : (p c : ℕ) (fs : List Folded) (f : Folded) → Valid (in_half p c fs f.len f.half)
    → Nearer (in_half p c fs f.len f.half)
nearer_half p c fs f h = elim (dec_lt (length f.half) ((f.len + 1) / 2)) [
  | yes x ↦ record {
    byte = first_letter;
    to = in_half p c fs f.len (f.half ++ first_letter ∷ []);
    goes = by_letter p c fs f first_letter x (record { low = omega arith; high = omega arith });
    less = omega (arith, length-append f.half (first_letter ∷ []));
  }
  | no x ↦ elim (dec_lt (suc (length fs)) c) [
    | yes y ↦ record {
      byte = comma;
      to = in_length p c (fs ++ f ∷ []) 0;
      goes = by_section p c fs f (omega (arith, h.6)) y;
      less = omega (arith, length-append fs (f ∷ []));
    }
    | no y ↦ record {
      byte = line_end;
      to = closed p (fs ++ f ∷ []);
      goes = by_end p c fs f (omega (arith, h.6)) (omega (arith, h.3));
      less = omega (arith, h.3);
    }
  ]
]

-- a record's end has been reached, or comes nearer
data Nears : State → Type 0 where
  over : {p : ℕ} {fs : List Folded} → Nears (closed p fs)
  on : {s : State} → Nearer s → Nears s

nears : (s : State) → Valid s → Nears s
unfolding step
nears (in_picks v) h =
    on (nearer_number most_picks (omega arith) in_picks (λ v. in_count v 0) (λ v b. refl) v (λ z. omega arith) (λ z. omega arith))
nears (in_count p v) h =
    on (nearer_number most_sections (omega arith) (in_count p) (λ v. in_length p v [] 0) (λ v b. refl) v
    (λ z. omega arith) (λ z. omega arith))
nears (in_length p c fs v) h =
    on (nearer_number most_picks (omega arith) (in_length p c fs) (λ v. in_half p c fs v []) (λ v b. refl) v
    (λ z. omega arith) (λ z. omega arith))
nears (in_half p c fs len half) h = on (nearer_half p c fs (record { len = len; half = half }) h)
nears (closed p fs) h = over

-- bytes that finish a record
record Finish (s : State) : Type 0 where
  rest : List ℕ
  picks : ℕ
  sections : List Folded
  goes : run s rest ≡ some (closed picks sections)

finish : (most : ℕ) (s : State) → Valid s → bytes_left s < most → Finish s
unfolding run
finish zero s h l = absurd (omega arith)
finish (suc most) s h l = go (nears s h) h l (finish most)
  where
    go : {s : State} → Nears s → Valid s → bytes_left s < suc most → ((t : State) → Valid t → bytes_left t < most → Finish t) → Finish s
    go (over {p = p} {fs = fs}) h l more = record { rest = []; picks = p; sections = fs; goes = refl }
    go (on {s = s} n) h l more =
        let r = more n.to (step_back (steps s n.to n.byte n.goes) h).0 (omega (arith, n.less)) in
        record {
          rest = n.byte ∷ r.rest;
          picks = r.picks;
          sections = r.sections;
          goes = run_one s n.to n.byte r.rest n.goes ∙ r.goes;
        }

-- the bytes that led to a state begin a record
pub back_begins : (s : State) (front : List ℕ) → run start front ≡ some s → Begins front
back_begins s front e =
    let r = finish (suc (bytes_left s)) s (back s front e).0 (omega arith) in
    let laid = back_closed r.picks r.sections (front ++ r.rest) (run_append start s front r.rest e ∙ r.goes) in
    record { rest = r.rest; layout = record { picks = r.picks; sections = r.sections; laid = laid } }
