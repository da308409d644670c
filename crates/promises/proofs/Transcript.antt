-- The transcript: a run's replies are those that the book gives.
use mathlib.Core.Path.{◌≡◌, refl, ap₂}
use mathlib.Core.List.{List, [], ◌∷◌, ◌++◌, map}
use Rattle.promises.specs.declared.Draft.{Draft}
use Rattle.promises.specs.Book.{Book, blank, write, write_all}
use Rattle.promises.specs.Replies.{reply_to, replies}
use Rattle.promises.specs.Holds.{Holds}
use Rattle.promises.specs.Runs.{Made, call_of, calls, reply_of, Meets, Run, leaves}
use Rattle.promises.specs.Demands.{Transcript}
use Rattle.promises.proofs.Keeping.{keep, replied, opened}

replied_all : {d : Draft} {b : Book} (ms : List Made) → Run d ms → Holds d b → map reply_of ms ≡ replies b (calls ms)
unfolding Run replies
replied_all [] t h = refl
replied_all {d = d} (m ∷ ms) t h = ap₂ (λ x xs. x ∷ xs) (replied h m t.0) (replied_all {d = leaves d m} ms t.1 (keep h m t.0))

-- of calls behind others, from the book as those left it
pub replied_split : (b : Book) (xs ys : List Made) → map reply_of (xs ++ ys) ≡ replies b (calls (xs ++ ys))
    → (map reply_of xs ≡ replies b (calls xs)) × (map reply_of ys ≡ replies (write_all b (calls xs)) (calls ys))
unfolding replies write_all
replied_split b [] ys e = (refl, e)
replied_split b (x ∷ xs) ys e =
    let one : reply_of x ≡ reply_to b (call_of x) = cc in
    let rest : map reply_of (xs ++ ys) ≡ replies (write b (call_of x)) (calls (xs ++ ys)) = cc in
    let r = replied_split (write b (call_of x)) xs ys rest in
    (ap₂ (λ r rs. r ∷ rs) one r.0, r.1)

pub transcript : Transcript
unfolding Run replies Meets reply_of call_of leaves
transcript d K r ms o = ap₂ (λ x xs. x ∷ xs) (o.run.0.says blank) (replied_all ms o.run.1 (opened o blank))
