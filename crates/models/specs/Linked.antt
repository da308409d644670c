-- A list of numbers, rising from lo to hi, linked both ways: N leads on and P leads back. What is in it is said by Q.
use Rattle.std.specs.Prelude.{◌≡◌, ℕ, ◌≤◌, ◌<◌}

-- F leads from c to a number in the list, and G leads back
pub record Neighbour (F G : ℕ → ℕ) (Q : ℕ → Type 0) (c : ℕ) : Type 0 where
  pub is : Q (F c)
  pub back : G (F c) ≡ c

-- N c is the next number in the list
pub record Fore (N P : ℕ → ℕ) (Q : ℕ → Type 0) (hi c : ℕ) : Type 0 where
  pub to : Neighbour N P Q c
  pub more : c < N c
  pub within : N c ≤ hi
  pub least : (d : ℕ) → Q d → c < d → N c ≤ d

-- P c is a number before c in the list, and N leads from it to c
pub record Aft (N P : ℕ → ℕ) (Q : ℕ → Type 0) (lo c : ℕ) : Type 0 where
  pub to : Neighbour P N Q c
  pub less : P c < c
  pub within : lo ≤ P c

pub record Linked (N P : ℕ → ℕ) (Q : ℕ → Type 0) (lo hi : ℕ) : Type 0 where
  pub first : Q lo
  pub last : Q hi
  pub order : lo ≤ hi
  pub fore : (c : ℕ) → Q c → lo ≤ c → c < hi → Fore N P Q hi c
  pub aft : (c : ℕ) → Q c → lo < c → c ≤ hi → Aft N P Q lo c
