-- The next call as the code reads it: laws.
use Rattle.std.specs.Prelude.{◌≡◌, refl, Bool, true, false, cond, List, ℕ, zero, suc, ◌+◌, ◌≤◌, ◌<◌, length, get_or}
use Rattle.std.proofs.Common.{arith, le-leb, lt-ltb, le-ltb, ltb-true}
use Rattle.std.proofs.Math.Option.{Option, none}
use Rattle.std.proofs.Math.Decide.{dec_lt}
use Rattle.std.proofs.lemmas.Bool.{lt-leb}
use Rattle.promises.specs.Book.{Call}
use Rattle.drive.specs.Script.{Buffers, first_query, writing_count, query_count, is_call, sizes_for, call_for, call_size, next_call, next_sizes}
use Rattle.drive.specs.Numbers.{op_number}
use Rattle.drive.specs.declared.numbers.Op.{Op}
use Rattle.drive.specs.declared.numbers.Op.TheVariants.{Start, Feed, Load, Mark, Back, Split, LongestEnding, Mask, RadiusAt, NextShorter, Record, Lift}
use Rattle.drive.specs.declared.request.Request.{Request}
use Rattle.drive.specs.Requests.{RequestOf}

cond_same : (b : Bool) → ◌≡◌ {A = Option Call} (cond b none none) none
cond_same true = refl
cond_same false = refl

pub no_call : (script : List ℕ) (left : Buffers) → is_call (get_or script 0 0) ≡ false → next_call script left ≡ none
unfolding next_call call_for
no_call script left e = simp (e, cond_same)

pub script_ends : (script : List ℕ) (left : Buffers) → length script < call_size → next_call script left ≡ none
unfolding next_call
script_ends script left h = simp (lt-leb _ _ h)

pub op_known : (op : Op) → is_call (op_number op) ≡ true
op_known Start = refl
op_known Feed = refl
op_known Load = refl
op_known Mark = refl
op_known Back = refl
op_known Split = refl
op_known LongestEnding = refl
op_known Mask = refl
op_known RadiusAt = refl
op_known NextShorter = refl
op_known Record = refl
op_known Lift = refl

-- the call that a request is for comes next
pub request_next : {script : List ℕ} {q : Request} → RequestOf script q → call_size ≤ length script → (left : Buffers)
    → next_call script left ≡ call_for (op_number q.op) q.b q.x q.m left
unfolding next_call
request_next r h left = simp (le-leb _ _ h, r.op, r.b, r.x, r.m)

-- and is lent as much as its bytes say
pub request_sizes : {script : List ℕ} {q : Request} → RequestOf script q → sizes_for (op_number q.op) q.x q.m ≡ next_sizes script
request_sizes r = simp (r.op, r.x, r.m)

-- none of n numbers, from the first on
abbrev pub NoneOf : (first n op : ℕ) → Type 0
NoneOf first zero op = Unit
NoneOf first (suc n) op = NoneOf first n op × (op ≡ first + n → ⊥)

-- so behind them
pub behind : (first n op : ℕ) → first ≤ op → NoneOf first n op → first + n ≤ op
behind first zero op h f = omega arith
behind first (suc n) op h f = elim (dec_lt (first + n) op) [
  | yes l ↦ omega arith
  | no l ↦ absurd (f.1 (omega (arith, behind first n op h f.0)))
]

-- a call that is none of those that write is a query
pub query_known : (op : ℕ) → is_call op ≡ true → writing_count ≤ op → first_query ≤ op
query_known op k h = elim (dec_lt op first_query) [
  | yes l ↦ absurd (omega (arith, ltb-true op writing_count (simp (lt-ltb op first_query l) at k)))
  | no l ↦ omega arith
]

-- and behind the last query there is none
pub none_known : (op : ℕ) → is_call op ≡ true → first_query + query_count ≤ op → ⊥
none_known op k h = omega (arith, ltb-true op (first_query + query_count) (simp (le-ltb op first_query (omega arith)) at k))
