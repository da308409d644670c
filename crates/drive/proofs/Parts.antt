-- Parts of a list: what was passed, what is lent, and the rest: laws.
use Rattle.std.specs.Prelude.{◌≡◌, List, ◌++◌, ℕ, ◌+◌, ◌-◌, ◌≤◌, length, take, drop}
use Rattle.std.proofs.Common.{sym, ap, ◌∙◌, append_assoc, arith, length-drop, length-append, take_all, drop-drop, take_at, drop_at, length-take-le}
use Rattle.drive.specs.Parts.{LendsAt}

-- all that comes after the first a
pub part_whole : (list : List ℕ) (a : ℕ) → take (length list - a) (drop a list) ≡ drop a list
part_whole list a = take_all (length list - a) (drop a list) (simp length-drop (omega arith))

-- the k after the first a were lent
pub lends_part : {list part left after : List ℕ} (a : ℕ) {k : ℕ} → a + k ≤ length list → length part ≡ k → part ≡ left
    → after ≡ take a list ++ (part ++ drop k (drop a list)) → LendsAt list a k left after
lends_part {list} {part} {left} a {k} h s e f = record {
  fits = h;
  size = ap length (sym e) ∙ s;
  is = rw (f, e, drop-drop k a list) (sym (append_assoc (take a list) left (drop (a + k) list)));
}

module _ {list : List ℕ} {a k : ℕ} {left after : List ℕ} (l : LendsAt list a k left after) where
  front : length (take a list ++ left) ≡ a + k
  front = length-append (take a list) left ∙ omega (arith, length-take-le a list (omega (arith, l.fits)), l.size)

  pub lends_front : take (a + k) after ≡ take a list ++ left
  lends_front = rw l.is (take_at (take a list ++ left) (drop (a + k) list) (a + k) front)

  pub lends_rest : drop (a + k) after ≡ drop k (drop a list)
  lends_rest = rw (l.is, drop-drop k a list) (drop_at (take a list ++ left) (drop (a + k) list) (a + k) front)

  pub lends_length : length after ≡ length list
  lends_length = ap length l.is ∙ omega (arith, length-append (take a list ++ left) (drop (a + k) list), front, length-drop (a + k) list, l.fits)
