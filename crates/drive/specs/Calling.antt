-- One call of a script: what the code promises of it.
use Rattle.std.specs.Prelude.{◌≡◌, List, ℕ, length}
use Rattle.promises.specs.declared.Draft.{Draft}
use Rattle.promises.specs.Book.{Call}
use Rattle.promises.specs.Runs.{Made, call_of, Meets, leaves}
use Rattle.drive.specs.Script.{Buffers, call_on, sizes_for}
use Rattle.drive.specs.Drives.{answers_of, entries_of, bytes_of}
use Rattle.drive.specs.Numbers.{op_number}
use Rattle.drive.specs.declared.request.Request.{Request}

-- c was made on d: told is its answer, e the state after it, list and output what it was lent, as it left them
pub record Makes (d : Draft) (c : Call) (told : List ℕ) (e : Draft) (list output : List ℕ) : Type 0 where
  pub made : Made
  pub meets : Meets d made
  pub call : call_of made ≡ c
  pub left : leaves d made ≡ e
  pub says : told ≡ answers_of made
  pub entries : list ≡ entries_of made
  pub bytes : output ≡ bytes_of made

-- a request is lent so much
pub record Lent (q : Request) (list output : List ℕ) : Type 0 where
  pub entries : length list ≡ (sizes_for (op_number q.op) q.x q.m).entries
  pub bytes : length output ≡ (sizes_for (op_number q.op) q.x q.m).output

-- the call of a request on what it is lent; list' and output' are as at exit
abbrev pub Answers : Draft → Request → (part : Buffers) → (told : List ℕ) → Draft → (list' output' : List ℕ) → Type 0
Answers d q part told e list' output' = Makes d (call_on (op_number q.op) q.b q.x q.m part) told e list' output'
