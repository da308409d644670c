-- Cases that cannot be.
use Rattle.std.specs.Prelude.{◌≡◌, Bool, true, false, ℕ}
use Rattle.std.proofs.Common.{sym, ◌∙◌, true≢false, arith}

-- two constructors taken for one another: `cc` brings it down to this
pub clash : {A : Type 0} → ◌≡◌ {A = ℕ} 0 1 → A
clash e = absurd (omega arith)

pub true_false : {t : Bool} → t ≡ true → t ≡ false → ⊥
true_false p q = true≢false (sym p ∙ q)
