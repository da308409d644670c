-- Picks fed one after another: one more.
use Rattle.std.specs.Prelude.{◌≡◌, List, [], ◌∷◌, ◌++◌, ℕ, suc, ◌+◌, ◌<◌, length, get_or, set}
use Rattle.std.proofs.Common.{sym, ap, ◌∙◌, arith, length-append, take-suc}
use Rattle.std.proofs.lemmas.List.Edits.{sets}
use Rattle.models.proofs.Stores.{sets_append}
use Rattle.promises.specs.declared.Draft.{Draft}
use Rattle.promises.specs.declared.FeedAnswer.{FeedAnswer}
use Rattle.promises.specs.Promises.{FeedPromise}
use Rattle.promises.specs.Lent.{answered_as}
use Rattle.speed.specs.Feeds.{mask_of, more, Reaches}

-- one more
pub reaches_more : {d e f : Draft} {list : List ℕ} (picks masks : List ℕ) (i : ℕ) {masks' masks'' before after : List ℕ} {answer : FeedAnswer} (mask : ℕ)
    → i < length picks → Reaches d picks list masks i e before masks' → FeedPromise e (get_or picks i 0) before (answered_as answer f) after
    → mask ≡ mask_of answer → masks'' ≡ set masks' i mask → Reaches d picks list masks (i + 1) f after masks''
reaches_more picks masks i {answer = answer} mask l h p m s =
    let z : i + 1 ≡ suc i = omega arith in
    record {
      told = h.told ++ mask_of answer ∷ [];
      feeds = rw (z, take-suc picks i 0 l) (more h.feeds p);
      count = length-append h.told (mask_of answer ∷ []) ∙ omega (arith, h.count);
      stored = s ∙ rw (m, h.stored)
          (ap (λ k. set (sets masks 0 h.told) k (mask_of answer)) (omega (arith, h.count)) ∙ sym (sets_append masks 0 h.told (mask_of answer ∷ [])));
    }
