-- How `follow` goes through a script: from call to call, and at its end.
use Rattle.std.specs.Prelude.{◌≡◌, refl, List, [], ◌∷◌, ◌++◌, ℕ, zero, suc, ◌+◌, ◌-◌, ◌*◌, ◌/◌, ◌≤◌, min, length, take, drop, Some, None}
use Rattle.std.proofs.Common.{sym, append_assoc, arith, zero-add, add-zero, length-drop, length-append, take-append-drop, drop-drop}
use Rattle.std.proofs.Math.Option.{Option, some, none}
use Rattle.std.proofs.Math.Decide.{dec_lt}
use Rattle.promises.specs.Answers.{Said, gave, refused, refused_at, filled}
use Rattle.promises.specs.declared.Draft.{Draft}
use Rattle.promises.specs.Book.{Call}
use Rattle.promises.specs.Runs.{Made, call_of, reply_of, Meets, leaves, Run, last}
use Rattle.drive.specs.Script.{Buffers, buffers, call_size, next_call, next_sizes, past, or_end, asked}
use Rattle.drive.specs.Drives.{answer_size, encoded, answers_of, entries_of, bytes_of, joined, Drives}
use Rattle.drive.specs.Parts.{LendsAt}
use Rattle.drive.specs.Advancing.{left_at, Inside, Goes, Advances, halts, goes, AdvancesAt}
use Rattle.drive.specs.declared.lending.Sizes.{Sizes}
use Rattle.drive.proofs.Requests.{script_ends}
use Rattle.drive.proofs.Parts.{lends_part, lends_rest, lends_front, lends_length}

-- The calls that a script asks for, one more and no more

asked_more : (script : List ℕ) (left : Buffers) (room : ℕ) (c : Call) → answer_size ≤ room → next_call script left ≡ some c
    → asked (room / answer_size) script left ≡ c ∷ asked ((room - answer_size) / answer_size) (drop call_size script) (past (next_sizes script) left)
unfolding asked or_end
asked_more script left room c l n =
    let r : room / answer_size ≡ suc ((room - answer_size) / answer_size) = omega arith in
    rw (r, n)

asked_done : (room : ℕ) (script : List ℕ) (left : Buffers) → next_call script left ≡ none → asked room script left ≡ []
unfolding asked or_end
asked_done zero script left n = refl
asked_done (suc room) script left n = rw n

asked_none : (room : ℕ) → room / answer_size ≡ 0 → (script : List ℕ) (left : Buffers) → asked (room / answer_size) script left ≡ []
unfolding asked
asked_none room e script left = rw e

-- One call more before the others

-- kept stands before what the others left of the rest
filled_more : (kept front list : List ℕ) (k : ℕ) → length kept ≡ k → kept ++ filled front (drop k list) ≡ filled (kept ++ front) list
filled_more kept front list k s =
    rw (append_assoc kept front, length-append kept front, s, drop-drop (length front) k list)

drives_more : {d e : Draft} (script : List ℕ) (left : Buffers) (answers : List ℕ) {count : ℕ} {ls bs ans : List ℕ} (c : Call) (m : Made)
    → next_call script left ≡ some c → answer_size ≤ length answers → Meets d m → call_of m ≡ c
    → length (entries_of m) ≡ (next_sizes script).entries → length (bytes_of m) ≡ (next_sizes script).output → length (answers_of m) ≡ answer_size
    → Drives (leaves d m) (drop call_size script) (past (next_sizes script) left) (drop answer_size answers) count e ls bs ans
    → Drives d script left answers (1 + count) e (entries_of m ++ ls) (bytes_of m ++ bs) (answers_of m ++ ans)
unfolding Run last joined
drives_more script left answers c m o l p q x y z h = record {
  made = m ∷ h.made;
  run = (p, h.run);
  asks = rw (q, h.asks, length-drop answer_size answers) (sym (asked_more script left (length answers) c l o));
  counts = omega (arith, h.counts);
  state = h.state;
  entries = rw h.entries (filled_more (entries_of m) (joined entries_of h.made) left.lists (next_sizes script).entries x);
  output = rw h.output (filled_more (bytes_of m) (joined bytes_of h.made) left.bytes (next_sizes script).output y);
  told = rw h.told (filled_more (answers_of m) (joined answers_of h.made) answers answer_size z);
}

drives_none : (d : Draft) (script : List ℕ) (left : Buffers) (answers : List ℕ) → asked (length answers / answer_size) script left ≡ []
    → Drives d script left answers 0 d left.lists left.bytes answers
unfolding Run last joined
drives_none d script left answers o = record {
  made = [];
  run = tt;
  asks = sym o;
  counts = refl;
  state = refl;
  entries = refl;
  output = refl;
  told = refl;
}

encoded_size : (said : Said) → length (encoded said) ≡ answer_size
encoded_size (gave values) = refl
encoded_size (refused number) = refl
encoded_size (refused_at number place) = refl

-- The loop

-- whoever drives the rest of the script from here has driven the whole
abbrev pub Onward : (d₀ : Draft) (script : List ℕ) (s₀ : Buffers) (answers₀ : List ℕ) (made : ℕ) (lent : Sizes) (d : Draft) (s : Buffers) (answers : List ℕ) → Type 0
Onward d₀ script s₀ answers₀ made lent d s answers =
    (count : ℕ) (e : Draft) (ls bs ans : List ℕ)
    → Drives d (drop (call_size * made) script) (left_at s lent) (drop (answer_size * made) answers) count e ls bs ans
    → Drives d₀ script s₀ answers₀ (made + count) e
    (take lent.entries s.lists ++ ls) (take lent.output s.bytes ++ bs) (take (answer_size * made) answers ++ ans)

-- what holds before each call
pub record Follows (d₀ : Draft) (script : List ℕ) (s₀ : Buffers) (answers₀ : List ℕ) (made : ℕ) (lent : Sizes) (d : Draft) (s : Buffers) (answers : List ℕ) : Type 0 where
  pub inside : Inside s lent
  pub onward : Onward d₀ script s₀ answers₀ made lent d s answers

pub follows_first : (d : Draft) (script : List ℕ) (s : Buffers) (answers : List ℕ)
    → Follows d script s answers 0 (record { entries = 0; output = 0; input = 0 }) d s answers
follows_first d script s answers = record {
  inside = record { entries = omega arith; output = omega arith; input = omega arith };
  onward = λ count e ls bs ans h. rw (zero-add count) h;
}

module _ {d₀ d : Draft} {script : List ℕ} {s₀ s : Buffers} {answers₀ answers : List ℕ} {made : ℕ} {lent : Sizes}
    (h : Follows d₀ script s₀ answers₀ made lent d s answers) where
  -- where no call is left, the script has been driven
  drives_all : asked (length (drop (answer_size * made) answers) / answer_size) (drop (call_size * made) script) (left_at s lent) ≡ []
      → Drives d₀ script s₀ answers₀ made d s.lists s.bytes answers
  drives_all o = rw (
    add-zero made,
    take-append-drop lent.entries s.lists,
    take-append-drop lent.output s.bytes,
    take-append-drop (answer_size * made) answers,
  ) at (h.onward 0 d _ _ (drop (answer_size * made) answers)
      (drives_none d (drop (call_size * made) script) (left_at s lent) (drop (answer_size * made) answers) o))

  -- because no call comes next; k entries are lent for an answer
  pub drives_halted : {d' : Draft} {answer' ls bs : List ℕ} (k : ℕ)
      → AdvancesAt (drop (call_size * made) script) s (take k (drop (answer_size * made) answers)) lent None d d' ls bs answer'
      → Drives d₀ script s₀ answers₀ made d' ls bs (take (answer_size * made) answers ++ (answer' ++ drop k (drop (answer_size * made) answers)))
  drives_halted {d'} {answer'} {ls} {bs} k f = go (next_call (drop (call_size * made) script) (left_at s lent)) refl f
    where
      go : (o : Option Call) → next_call (drop (call_size * made) script) (left_at s lent) ≡ o
          → Advances d (next_sizes (drop (call_size * made) script)) s (take k (drop (answer_size * made) answers)) lent d' ls bs answer' None o
          → Drives d₀ script s₀ answers₀ made d' ls bs (take (answer_size * made) answers ++ (answer' ++ drop k (drop (answer_size * made) answers)))
      go none n (halts f) = rw (
        f.state,
        f.entries,
        f.output,
        f.told,
        take-append-drop k (drop (answer_size * made) answers),
        take-append-drop (answer_size * made) answers,
      ) (drives_all (asked_done _ _ _ n))
      go (some c) n t = elim t [ ]

  -- or there are no bytes for one, or no room for its answer
  pub drives_end : (calls : ℕ) → calls ≡ min (length script / call_size) (length answers / answer_size) → calls ≤ made → made ≤ calls
      → Drives d₀ script s₀ answers₀ calls d s.lists s.bytes answers
  drives_end calls e l m =
      let q : calls ≡ made = omega arith in
      rw q (drives_all (elim (dec_lt made (length answers / answer_size)) [
        | yes r ↦ asked_done _ _ _ (script_ends (drop (call_size * made) script) (left_at s lent) (omega (arith, length-drop (call_size * made) script)))
        | no r ↦ asked_none (length (drop (answer_size * made) answers)) (omega (arith, length-drop (answer_size * made) answers)) (drop (call_size * made) script) (left_at s lent)
      ]))

  -- after a call what is left is driven from the next one on
  onward_goes : {c : Call} {d' : Draft} {end : Sizes} {answer' answers' ls bs : List ℕ}
      → next_call (drop (call_size * made) script) (left_at s lent) ≡ some c
      → (f : Goes d c (next_sizes (drop (call_size * made) script)) s lent end d' ls bs answer')
      → LendsAt answers (answer_size * made) answer_size (answers_of f.made) answers'
      → Onward d₀ script s₀ answers₀ (made + 1) end d' (buffers ls bs s.input) answers'
  onward_goes {c} o f a count z ls bs ans g =
      let w = next_sizes (drop (call_size * made) script) in
      let six : call_size * (made + 1) ≡ call_size * made + call_size = omega arith in
      let four : answer_size * (made + 1) ≡ answer_size * made + answer_size = omega arith in
      let lent_on = rw (f.on, six, four, lends_rest f.listed, lends_rest f.written, lends_rest a) at g in
      let rest = rw (
        ← (drop-drop call_size (call_size * made) script),
        ← (drop-drop w.input lent.input s.input),
        ← f.left,
      ) at lent_on in
      let more = drives_more (drop (call_size * made) script) (left_at s lent) (drop (answer_size * made) answers) c f.made o
      (omega (arith, length-drop (answer_size * made) answers, a.fits)) f.meets f.call f.listed.size f.written.size a.size rest in
      let whole = h.onward (1 + count) z (entries_of f.made ++ ls) (bytes_of f.made ++ bs) (answers_of f.made ++ ans) more in
      let sum : made + 1 + count ≡ made + (1 + count) = omega arith in
      rw (
        f.on,
        four,
        sum,
        lends_front f.listed,
        lends_front f.written,
        lends_front a,
        append_assoc (take lent.entries s.lists) (entries_of f.made) ls,
        append_assoc (take lent.output s.bytes) (bytes_of f.made) bs,
        append_assoc (take (answer_size * made) answers) (answers_of f.made) ans,
      ) whole

  pub follows_next : {d' : Draft} {end : Sizes} {answer' ls bs : List ℕ} (k : ℕ) → k ≡ answer_size → answer_size * made + answer_size ≤ length answers
      → AdvancesAt (drop (call_size * made) script) s (take k (drop (answer_size * made) answers)) lent (Some end) d d' ls bs answer'
      → Follows d₀ script s₀ answers₀ (made + 1) end d' (buffers ls bs s.input)
      (take (answer_size * made) answers ++ (answer' ++ drop k (drop (answer_size * made) answers)))
  follows_next {d'} {end} {answer'} {ls} {bs} k e l f = go (next_call (drop (call_size * made) script) (left_at s lent)) refl f
    where
      go : (o : Option Call) → next_call (drop (call_size * made) script) (left_at s lent) ≡ o
          → Advances d (next_sizes (drop (call_size * made) script)) s (take k (drop (answer_size * made) answers)) lent d' ls bs answer' (Some end) o
          → Follows d₀ script s₀ answers₀ (made + 1) end d' (buffers ls bs s.input)
          (take (answer_size * made) answers ++ (answer' ++ drop k (drop (answer_size * made) answers)))
      go none n t = elim t [ ]
      go (some c) n (goes f) = record {
        inside = rw f.on (record {
          entries = omega (arith, f.listed.fits, lends_length f.listed);
          output = omega (arith, f.written.fits, lends_length f.written);
          input = f.read;
        });
        onward = onward_goes n f (rw e (lends_part (answer_size * made) l (rw f.told (encoded_size (reply_of f.made).said)) f.told refl));
      }
