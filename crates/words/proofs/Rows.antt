-- The row word of a new pick, from the gathered words of the visited places.
use Rattle.std.specs.Prelude.{◌≡◌}
use Rattle.std.proofs.Math.Path.{sym, ap}
use Rattle.std.proofs.Common.{◌∙◌, arith, le_antisymm}
use mathlib.Core.List.{List, Memᴰ}
use Prim.Native.Nat.{ℕ, zero, suc, ◌-◌, max, ◌≤◌, ◌<◌}
use Rattle.std.specs.Int.Bits.{bit_or, or_self}
use Rattle.std.proofs.lemmas.Nat.{or_comm}
use Rattle.words.specs.Definitions.{Ending}
use Rattle.words.specs.Search.{passing, passing_is}
use Rattle.words.specs.Mirror.{ending?, section_ending, ending_section}
use Rattle.words.specs.Computed.{split_of, splits, row_word, gathered_word, join_all, raised, visits}
use Rattle.words.proofs.Splits.{Splitting, given, lacking, split_law, split_none, cut, split_before, uncut, splits_one, splits_zero, splits_small}
use Rattle.words.proofs.Gathering.{Semilattice, gathering, all_has, all_within}
use Rattle.words.proofs.Bits.{union_assoc, Bits, up, bits_as, joined_bits, joined_small, raised_bits}

union_semilattice : Semilattice bit_or
union_semilattice = record { assoc = union_assoc; comm = or_comm; idem = or_self }

max_semilattice : Semilattice max
max_semilattice = record { assoc = λ a b c. omega arith; comm = λ a b. omega arith; idem = λ a. omega arith }

-- prefix n with one of its non-empty endings cut off
module _ (w : ℕ → ℕ) (n k : ℕ) where
  -- where what stands before an ending splits into k, prefix n splits into k + 1
  cut_one : (len : ℕ) → 0 < len → Ending w n len → splits w (n - len) k ≤ splits w n (suc k)
  cut_one len p f = go (split_law w k (n - len))
    where
      go : Splitting w (n - len) k (split_of w (n - len) k) → splits w (n - len) k ≤ splits w n (suc k)
      go (lacking e g) = omega (arith, splits_zero w (n - len) k g)
      go (given s e h) =
          let one = splits_one w n (suc k) (uncut h.is (ending_section {a = n - len} (omega (arith, f.fits)) p f)) in
          omega (arith, splits_small w (n - len) k)

  -- 1 where what stands before some non-empty ending splits into k
  before : ℕ
  before = join_all max (λ len. splits w (n - len) k) 0 (passing (ending? w n) n)

  before_has : (len : ℕ) → 0 < len → Ending w n len → splits w (n - len) k ≤ before
  unfolding before
  before_has len p f = omega (arith, all_has max_semilattice (λ len. splits w (n - len) k) 0 _ len ((passing_is (ending? w n) n).all len p f.fits f))

  before_within : (z : ℕ) → ((len : ℕ) → 0 < len → Ending w n len → splits w (n - len) k ≤ z) → before ≤ z
  unfolding before
  before_within z f = omega (arith, all_within max_semilattice (λ len. splits w (n - len) k) z 0 _ (omega arith) one)
    where
      one : (len : ℕ) → Memᴰ len (passing (ending? w n) n) → max (splits w (n - len) k) z ≡ z
      one len v = let h = (passing_is (ending? w n) n).only len v in omega (arith, f len h.0 h.2)

  splits_up : splits w n (suc k) ≡ before
  splits_up = le_antisymm (above (split_law w (suc k) n)) (before_within (splits w n (suc k)) cut_one)
    where
      above : Splitting w n (suc k) (split_of w n (suc k)) → splits w n (suc k) ≤ before
      above (lacking e f) = omega (arith, splits_zero w n (suc k) f)
      above (given s e h) =
          let c = cut h.is in
          let len : ℕ = n - c.at in
          let z : n - len ≡ c.at = omega (arith, c.last.some) in
          let one : splits w (n - len) k ≡ 1 = rw z (splits_one w c.at k (split_before c)) in
          let b = before_has len (omega (arith, c.last.some)) (section_ending (omega (arith, c.last.some)) c.last) in
          omega (arith, splits_small w n (suc k))

module _ (w : ℕ → ℕ) (m : ℕ) where
  -- bit by bit, from 0 on
  splits_row : (k : ℕ) → splits w (suc m) k ≡ up (before w (suc m)) k
  splits_row zero = splits_zero w (suc m) 0 (λ ends h. omega (arith, (split_none h).1))
  splits_row (suc k) = splits_up w (suc m) k

  -- THE ROW LAW: "A new pick's row word is the union of the visited places' gathered words, each moved up one bit, bits above K dropped"
  pub row_law : (K : ℕ) → row_word K w (suc m) ≡ raised K (join_all bit_or (λ len. gathered_word K w (suc m) (suc m - len)) 0 (visits w (suc m)))
  unfolding row_word gathered_word before
  row_law K =
      let s : List ℕ = passing (ending? w (suc m)) (suc m) in
      let small : (len : ℕ) → Bits (splits w (suc m - len)) = λ len k. splits_small w (suc m - len) k in
      bits_as (suc K) (λ k h. splits_row k)
      ∙ sym (raised_bits (joined_small (λ len. splits w (suc m - len)) small (suc K) s) K)
      ∙ ap (raised K) (sym (gathering union_semilattice (row_word K w) w m 0 ∙ joined_bits (λ len. splits w (suc m - len)) small (suc K) s))
