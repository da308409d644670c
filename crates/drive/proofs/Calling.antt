-- One call of a script, from what its promise says.
use Rattle.std.specs.Prelude.{◌≡◌, refl, List, [], ℕ, length, Result, Ok, Err}
use Rattle.std.specs.Result.{result_unwrap_or}
use Rattle.std.proofs.lemmas.List.{nil_from_length}
use Rattle.cells.specs.declared.Numbers.{Numbers}
use Rattle.promises.specs.declared.Draft.{Draft}
use Rattle.promises.specs.declared.refusal.Refusal.{Refusal}
use Rattle.promises.specs.Answers.{done_says}
use Rattle.promises.specs.Lent.{done, numbers_after}
use Rattle.promises.specs.Book.{Call}
use Rattle.promises.specs.Runs.{Made, call_of, Meets, leaves}
use Rattle.drive.specs.Drives.{answers_of, entries_of, bytes_of}
use Rattle.drive.specs.Calling.{Makes}

-- a call that was made
pub makes : {d : Draft} {told list output : List ℕ} (m : Made) → Meets d m → told ≡ answers_of m → list ≡ entries_of m → output ≡ bytes_of m
    → Makes d (call_of m) told (leaves d m) list output
makes m p s l o = record { made = m; meets = p; call = refl; left = refl; says = s; entries = l; bytes = o }

-- what is lent nothing leaves nothing
pub lent_none : {d e : Draft} {c : Call} {told list output : List ℕ} → Makes d c told e [] [] → length list ≡ 0 → length output ≡ 0
    → Makes d c told e list output
lent_none {list = list} {output = output} m l o = rw (nil_from_length list l, nil_from_length output o) m

-- the state's numbers are no part of what is said
pub done_said : (answer : Result Numbers Refusal) → done_says answer ≡ done_says (done answer)
done_said (Ok numbers) = refl
done_said (Err refusal) = refl

-- and as they are after it they are stored
pub numbers_kept : (held : Numbers) (answer : Result Numbers Refusal) → result_unwrap_or answer held ≡ numbers_after held answer
numbers_kept held (Ok numbers) = refl
numbers_kept held (Err refusal) = refl
