-- Where a stretch starts, and which ones a new letter ends (the paper, Section 3).
use Rattle.std.specs.Prelude.{◌≡◌, ℕ, suc, ◌+◌}
use Rattle.models.specs.Centres.{EndingAt, Widest}

-- Where stretches start

-- the widest stretch at x starts after i picks
pub record StartsAt (w : ℕ → ℕ) (n i x : ℕ) : Type 0 where
  pub end : ℕ
  pub sum : end + i + 1 ≡ x
  pub widest : Widest w n x end

-- c was the centre of an ending before the last letter, and is none now
pub record Lost (w : ℕ → ℕ) (n c : ℕ) : Type 0 where
  pub was : EndingAt w n c
  pub over : EndingAt w (suc n) c → ⊥
