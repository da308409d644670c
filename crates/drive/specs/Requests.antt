-- The next call as the code reads it.
use Rattle.std.specs.Prelude.{◌≡◌, false, List, ℕ, get_or, Option, MatchOption}
use Rattle.drive.specs.Script.{is_call, pair}
use Rattle.drive.specs.Numbers.{op_number}
use Rattle.drive.specs.declared.request.Request.{Request}

-- the call of the first six bytes
pub record RequestOf (script : List ℕ) (q : Request) : Type 0 where
  pub op : op_number q.op ≡ get_or script 0 0
  pub b : q.b ≡ get_or script 1 0
  pub x : q.x ≡ pair script 2
  pub m : q.m ≡ pair script 4

-- if a call has the number
abbrev pub Requests : (script : List ℕ) → Option Request → Type 0
Requests script r = MatchOption r (is_call (get_or script 0 0) ≡ false) (λ q. RequestOf script q)
