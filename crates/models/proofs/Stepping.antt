-- The engine's invariant: one letter more keeps it, and the row word, the visits and their count are those of `words`.
use Rattle.std.specs.Prelude.{◌≡◌, List, ◌++◌}
use Rattle.std.proofs.Math.Path.{sym, ap}
use Rattle.std.proofs.Common.{subst, set, ◌∙◌, arith, get_or-set_same, get_or-set_other}
use Prim.Native.Nat.{ℕ, suc, ◌+◌, ◌-◌, ◌<◌}
use Rattle.std.proofs.Math.Decide.{ℕ_discrete}
use Rattle.std.proofs.Math.ListN.{length, drop, length-set}
use Rattle.std.proofs.Math.Seq.{sets-eq}
use Rattle.std.specs.Int.Bits.{bit_or}
use Rattle.cells.specs.declared.Places.{Places}
use Rattle.cells.specs.Lanes.{place_entries}
use Rattle.words.specs.Definitions.{most_picks, LongestEnding}
use Rattle.words.specs.Search.{passing_skip}
use Rattle.words.specs.Computed.{leading?, visits, row_word, gathered, gathered_word, join_all, raised}
use Rattle.words.proofs.Laws.{row_empty}
use Rattle.words.proofs.Series.{longest_leads}
use Rattle.words.proofs.Proposition3.{gathered_own, gathered_kept}
use Rattle.words.proofs.Rows.{row_law}
use Rattle.words.specs.Prefixes.{Agree}
use Rattle.words.proofs.Prefixes.{row_as, gathered_word_as}
use Rattle.models.specs.Centres.{LongestEndingAt}
use Rattle.models.specs.Engine.{longest_length, Walked, walk_all, stepped}
use Rattle.models.specs.Stores.{at}
use Rattle.models.proofs.Walking.{Tells, WalkAt, WalkRight}
use Rattle.models.proofs.Walking.{longest_length_lem, walk_right, walk_length}
use Rattle.models.specs.Stepping.{Gathers, Steps}

pub gathers_as : {K : ℕ} {w v : ℕ → ℕ} {n : ℕ} {R G : List ℕ} → Agree w v n → Gathers K w n R G → Gathers K v n R G
gathers_as {K} {n = n} f h = record {
  size_rows = h.size_rows;
  size_gathered = h.size_gathered;
  rows = λ i l. h.rows i l ∙ row_as f K i l;
  all = λ i l. h.all i l ∙ gathered_word_as f K n i l (omega arith);
}

-- no letter: the one place has the row word 1
pub gathers_none : (K : ℕ) (w : ℕ → ℕ) {R G : List ℕ} → length R ≡ place_entries → length G ≡ place_entries → at R 0 ≡ 1 → at G 0 ≡ 1 → Gathers K w 0 R G
unfolding gathered_word
gathers_none K w {R} p q r s = record {
  size_rows = p;
  size_gathered = q;
  rows = λ i l. subst (λ j. at R j ≡ row_word K w j) (omega arith) (r ∙ sym (row_empty K w));
  all = λ i l. let z : i ≡ 0 = omega arith in rw z (s ∙ sym (gathered_own bit_or (row_word K w) w 0 ∙ row_empty K w));
}

-- w has m + 1 letters or more; s is the centre of the longest ending of the first m + 1
module _ (K : ℕ) (w : ℕ → ℕ) (m s : ℕ) (v : Places) (N : List ℕ) (h : Gathers K w m v.rows v.gathered) (small : m < most_picks) (long : LongestEndingAt w (suc m) s)
    (t : Tells w (suc m) N) where
  len : ℕ
  len = longest_length (suc m) s

  longest : LongestEnding w (suc m) len
  unfolding len
  longest = longest_length_lem long

  z : Walked
  z = walk_all (suc m) s v.rows N v.gathered

  walk_begin : WalkAt bit_or (row_word K w) w m v.rows N h.rows t len v.gathered
  unfolding gathered_word
  walk_begin = record {
    size = omega (arith, h.size_gathered);
    done = λ i l. h.all i (omega arith)
        ∙ sym (gathered_kept bit_or (row_word K w) w m i (omega arith) (λ c. omega (arith, longest.most (suc m - i) c.is (omega arith))));
    todo = λ i l g. h.all i g;
  }

  walked_right : WalkRight bit_or (row_word K w) w m v.rows N h.rows t len 0 z
  unfolding z len walk_all
  walked_right = walk_right bit_or (row_word K w) w m v.rows N h.rows t len len v.gathered 0 (omega arith) (longest_leads longest) walk_begin

  lengths_right : z.lengths ≡ visits w (suc m)
  unfolding visits
  lengths_right = walked_right.lengths
      ∙ sym (passing_skip (leading? w (suc m)) len (suc m) (omega (arith, longest.below))
      (λ x a b c. omega (arith, longest.most x c.is (omega arith))))

  row_right : raised K z.union ≡ row_word K w (suc m)
  unfolding gathered_word
  row_right = ap (raised K) (walked_right.union ∙ ap (join_all bit_or (λ x. gathered bit_or (row_word K w) w (suc m) (suc m - x)) 0) lengths_right)
      ∙ sym (row_law w m K)

  -- every row word and every gathered word, visited or not, is that of the longer prefix
  pub steps : (before : List ℕ) → Steps K w (suc m) before (stepped K (suc m) s v N before)
  unfolding stepped gathered_word z walk_all len
  steps before =
      let x : ℕ = raised K z.union in
      let size : length z.gathered ≡ place_entries = walk_length bit_or v.rows N (suc m) len len v.gathered 0 ∙ h.size_gathered in
      record {
        gathers = record {
          size_rows = omega (arith, length-set v.rows (suc m) x, h.size_rows);
          size_gathered = omega (arith, length-set z.gathered (suc m) x, size);
          rows = λ i l. elim (ℕ_discrete i (suc m)) [
            | yes e ↦ subst (λ j. at (set v.rows (suc m) x) j ≡ row_word K w j) (sym e) (get_or-set_same v.rows (suc m) x 0 (omega (arith, h.size_rows)) ∙ row_right)
            | no e ↦ get_or-set_other v.rows (suc m) i x 0 e ∙ h.rows i (omega arith)
          ];
          all = λ i l. elim (ℕ_discrete i (suc m)) [
            | yes e ↦ rw e (get_or-set_same z.gathered (suc m) x 0 (omega (arith, size)) ∙ row_right ∙ sym (gathered_own bit_or (row_word K w) w (suc m)))
            | no e ↦ get_or-set_other z.gathered (suc m) i x 0 e ∙ walked_right.all i (omega arith)
          ];
        };
        row = row_right;
        count = omega (arith, ap length lengths_right);
        list = λ l. sets-eq z.lengths before 0 l ∙ ap (λ vs. vs ++ drop (0 + length z.lengths) before) lengths_right;
      }
