-- Numbers from one to another, as a test.
use Rattle.std.specs.Prelude.{◌≡◌, Bool, true, ◌&&◌, ℕ, leb}
use Rattle.std.proofs.Math.Bool.{and-eq-true_iff}
use Rattle.std.proofs.Common.{leb-true, le-leb}
use Rattle.words.specs.Definitions.{From}

abbrev pub between : (low high x : ℕ) → Bool
between low high x = leb low x && leb x high

pub between_true : (low high x : ℕ) → between low high x ≡ true → From low high x
between_true low high x e =
    let r = (and-eq-true_iff (leb low x) (leb x high)).0 e in record { low = leb-true low x r.0; high = leb-true x high r.1 }

pub true_between : {low high x : ℕ} → From low high x → between low high x ≡ true
true_between {low} {high} {x} f = simp (le-leb low x f.low, le-leb x high f.high)
