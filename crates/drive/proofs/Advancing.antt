-- One call of the loop of `drive`: the next call of the script on what is left to lend, or its end.
use Rattle.std.specs.Prelude.{◌≡◌, refl, get_or, Bool, true, false, cond, List, ◌++◌, ℕ, ◌+◌, ◌-◌, ◌≤◌, leb, length, take, drop, Some, None}
use Rattle.std.proofs.Common.{ap, ◌∙◌, arith, length-drop, length-take-le, leb-true, le-leb}
use Rattle.std.proofs.Math.Bool.{and-eq-true_iff}
use Rattle.std.proofs.Math.Option.{some, none}
use Rattle.std.proofs.Math.Decide.{dec_le}
use Rattle.std.proofs.lemmas.Bool.{lt-leb}
use Rattle.promises.specs.declared.Draft.{Draft}
use Rattle.drive.specs.Script.{Buffers, buffers, is_call, sizes_for, fits_in, call_on, call_for, parts, call_size, next_call}
use Rattle.drive.specs.Numbers.{op_number}
use Rattle.drive.specs.Lending.{sizes_in, onward, within}
use Rattle.drive.specs.Requests.{RequestOf}
use Rattle.drive.specs.Calling.{Answers, Lent}
use Rattle.drive.specs.Advancing.{left_at, Inside, Advances, halts, goes, AdvancesAt}
use Rattle.drive.specs.declared.lending.Sizes.{Sizes}
use Rattle.drive.specs.declared.request.Request.{Request}
use Rattle.drive.proofs.Parts.{lends_part}
use Rattle.drive.proofs.Requests.{no_call, op_known, request_next, request_sizes}

-- What is left is as much as is asked for exactly where the sum is there

fits_past : (lent more there : ℕ) → lent ≤ there → leb more (there - lent) ≡ leb (lent + more) there
fits_past lent more there h = elim (dec_le (lent + more) there) [
  | yes l ↦ rw (le-leb _ _ l) (le-leb _ _ (omega arith))
  | no l ↦ rw (lt-leb (lent + more) there (omega arith)) (lt-leb _ _ (omega arith))
]

fits_within : (op : ℕ) (s : Buffers) (lent z : Sizes) → is_call op ≡ true → Inside s lent → fits_in op z (left_at s lent) ≡ within (onward lent z) (sizes_in s)
fits_within op s lent z k i = simp (
  k,
  length-drop,
  fits_past lent.entries z.entries (length s.lists) i.entries,
  fits_past lent.output z.output (length s.bytes) i.output,
  fits_past lent.input z.input (length s.input) i.input,
)

some_more : (a b : ℕ) → a + b - a ≡ b
some_more a b = omega arith

-- The sum, where the code has found that it is there

sum_found : (b : Bool) (x y : Sizes) → Some y ≡ cond b (Some x) None → (b ≡ true) × (y ≡ x)
sum_found true x y e = (refl, cc)
sum_found false x y e = cc

sum_missed : (b : Bool) (x : Sizes) → None ≡ cond b (Some x) None → b ≡ false
sum_missed true x e = cc
sum_missed false x e = refl

-- No call is made

stops : {d : Draft} {z lent : Sizes} {s : Buffers} {answer : List ℕ} → Advances d z s answer lent d s.lists s.bytes answer None none
stops = halts (record { state = refl; entries = refl; output = refl; told = refl })

-- where none has the number
pub stops_unknown : (script : List ℕ) (s : Buffers) (answer : List ℕ) (lent : Sizes) (d : Draft) → is_call (get_or script 0 0) ≡ false
    → AdvancesAt script s answer lent None d d s.lists s.bytes answer
stops_unknown script s answer lent d e = rw (no_call script (left_at s lent) e) stops

-- or one of this request comes next
module _ {script : List ℕ} {q : Request} (s : Buffers) (lent : Sizes) {z : Sizes}
    (r : RequestOf script q) (six : call_size ≤ length script) (i : Inside s lent) (sized : z ≡ sizes_for (op_number q.op) q.x q.m) where
  next_is : next_call script (left_at s lent)
      ≡ cond (within (onward lent z) (sizes_in s)) (some (call_on (op_number q.op) q.b q.x q.m (parts z (left_at s lent)))) none
  unfolding call_for
  next_is = rw (
    request_next r six (left_at s lent),
    ← (fits_within (op_number q.op) s lent z (op_known q.op) i),
    sized,
  )

  -- and too little is left to lend
  pub stops_short : (answer : List ℕ) (d : Draft) → None ≡ cond (within (onward lent z) (sizes_in s)) (Some (onward lent z)) None
      → AdvancesAt script s answer lent None d d s.lists s.bytes answer
  stops_short answer d e = rw (next_is, sum_missed _ _ e) stops

  -- or enough is left: so much is lent
  module _ {end : Sizes} (e : Some end ≡ cond (within (onward lent z) (sizes_in s)) (Some (onward lent z)) None) where
    found : (within (onward lent z) (sizes_in s) ≡ true) × (end ≡ onward lent z)
    found = sum_found _ _ _ e

    room : Inside s (onward lent z)
    room =
        let a = (and-eq-true_iff (leb (lent.entries + z.entries) (length s.lists)) _).0 found.0 in
        let b = (and-eq-true_iff (leb (lent.output + z.output) (length s.bytes)) (leb (lent.input + z.input) (length s.input))).0 a.1 in
        record { entries = leb-true _ _ a.0; output = leb-true _ _ b.0; input = leb-true _ _ b.1 }

    -- so long is the part
    part_size : (list : List ℕ) (a k : ℕ) → a + k ≤ length list → length (take (a + k - a) (drop a list)) ≡ k
    part_size list a k h = rw (some_more a k) (length-take-le _ _ (omega (arith, length-drop a list)))

    pub lent_so : Lent q (take (end.entries - lent.entries) (drop lent.entries s.lists)) (take (end.output - lent.output) (drop lent.output s.bytes))
    lent_so = rw found.1 (record {
      entries = part_size s.lists lent.entries z.entries room.entries ∙ ap (λ (y : Sizes). y.entries) sized;
      bytes = part_size s.bytes lent.output z.output room.output ∙ ap (λ (y : Sizes). y.output) sized;
    })

    -- and the call is made
    pub goes_on : {d e : Draft} {told part piece answer answer' lists' bytes' : List ℕ}
        → length part ≡ length (take (end.entries - lent.entries) (drop lent.entries s.lists))
        → length piece ≡ length (take (end.output - lent.output) (drop lent.output s.bytes))
        → Answers d q (buffers
        (take (end.entries - lent.entries) (drop lent.entries s.lists))
        (take (end.output - lent.output) (drop lent.output s.bytes))
        (take (end.input - lent.input) (drop lent.input s.input))) told e part piece
        → lists' ≡ take lent.entries s.lists ++ (part ++ drop (end.entries - lent.entries) (drop lent.entries s.lists))
        → bytes' ≡ take lent.output s.bytes ++ (piece ++ drop (end.output - lent.output) (drop lent.output s.bytes))
        → answer' ≡ told
        → AdvancesAt script s answer lent (Some end) d e lists' bytes' answer'
    goes_on {d} {e} {told} {part} {piece} lp lq a ls bs t =
        let h = room in
        let n = rw (found.1, some_more lent.entries z.entries, some_more lent.output z.output, some_more lent.input z.input) at a in
        rw (next_is, found.0, found.1, ← (request_sizes r), ← sized) (goes (record {
          made = n.made;
          meets = n.meets;
          call = n.call;
          left = n.left;
          on = refl;
          listed = lends_part lent.entries h.entries ((rw found.1 at lp) ∙ part_size s.lists lent.entries z.entries h.entries) n.entries
              (rw (found.1, some_more lent.entries z.entries) at ls);
          written = lends_part lent.output h.output ((rw found.1 at lq) ∙ part_size s.bytes lent.output z.output h.output) n.bytes
              (rw (found.1, some_more lent.output z.output) at bs);
          read = h.input;
          told = t ∙ n.says;
        }))
