-- Two words of which the first letters are the same.
use Rattle.std.specs.Prelude.{◌≡◌, ℕ, ◌<◌}

-- the first n letters of w and v are the same
abbrev pub Agree : (ℕ → ℕ) → (ℕ → ℕ) → ℕ → Type 0
Agree w v n = (i : ℕ) → i < n → w i ≡ v i
