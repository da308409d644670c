-- That one pick more keeps what the arrays hold, and what the core promises of it.
use Rattle.std.specs.Prelude.{◌≡◌, refl, List, [], ◌∷◌, ◌++◌, length, drop, set, replicate}
use Rattle.std.proofs.Common.{sym, ap, subst, ◌∙◌, append-nil, append_assoc, arith, length-append, length-set, drop-set-lt}
use Prim.Native.Nat.{ℕ, suc, ◌+◌, ◌≤◌, ◌<◌}
use Rattle.std.proofs.lemmas.List.{length-replicate, get_or-replicate}
use Rattle.std.proofs.Math.ListN.{get_or-append}
use Rattle.std.proofs.lemmas.List.Edits.{sets}
use Rattle.std.proofs.Math.Seq.{length-sets, get_or-append_seam}
use Rattle.std.specs.Int.Bits.{bit_or}
use Rattle.cells.specs.declared.Centres.{Centres}
use Rattle.cells.specs.declared.Places.{Places}
use Rattle.cells.specs.Lanes.{centre_entries, place_entries, with_heads}
use Rattle.words.specs.Definitions.{most_picks, most_visits, word}
use Rattle.words.specs.Prefixes.{Agree}
use Rattle.models.proofs.Centres.{longest_centre_at}
use Rattle.models.specs.Iterator.{Iterator, appended}
use Rattle.models.specs.Engine.{longest_length, walk_all, Stepped, stepped}
use Rattle.models.specs.Lanes.{iterator_in}
use Rattle.models.specs.Stores.{at}
use Rattle.models.proofs.Walking.{tells, walk_nineteen}
use Rattle.models.specs.Iterating.{Iterates, Cleared}
use Rattle.models.proofs.Iterating.{keeps, rises, iterates_none}
use Rattle.models.specs.Stepping.{Steps}
use Rattle.models.proofs.Stepping.{gathers_as, gathers_none, steps}
use Rattle.models.specs.Core.{Arrays, arrays_in, places_in, Holds, After, after, joined, append, Means, Held, cleared, Appends}

-- the empty draft
pub holds_none : (K : ℕ) {a : Arrays} → Cleared a.iterator → length a.rows ≡ place_entries → length a.gathered ≡ place_entries
    → at a.rows 0 ≡ 1 → at a.gathered 0 ≡ 1 → Holds K [] a
holds_none K h p q r s = record { fits = omega arith; iterates = iterates_none (word []) h; gathers = gathers_none K (word []) p q r s }

-- nothing of the visit list is stored in the arrays
pub append_arrays : (K n pick : ℕ) (a : Arrays) (vs : List ℕ) → (append K n pick a vs).arrays ≡ (append K n pick a []).arrays
unfolding append
append_arrays K n pick a vs = refl

joined_as : (K n m pick : ℕ) (a : Arrays) (vs : List ℕ) (t : Iterator) (f : Stepped) → m ≡ n + 1 → t ≡ appended a.iterator n pick
    → f ≡ stepped K m t.longest (with_heads (places_in a) t.heads) t.next vs → joined t f ≡ append K n pick a vs
unfolding append
joined_as K n m pick a vs t f e g h = let z : m ≡ suc n = omega arith in rw (h, z, g)

-- the code's way to it: m is n + 1; v' and w' are the arrays after the iterator's append, which leaves the rows and the gathered words
pub append_as : (K n m pick stored s : ℕ) (letters letters' : List ℕ) (v v' : Centres) (w w' : Places) (vs : List ℕ) (f : Stepped) → m ≡ n + 1
    → iterator_in letters' v' w' s ≡ appended (iterator_in letters v w stored) n pick
    → w' ≡ with_heads w w'.heads
    → f ≡ stepped K m s w' v'.next vs
    → after (arrays_in letters' v' f.placed s) f.visits f.row f.count ≡ append K n pick (arrays_in letters v w stored) vs
unfolding append
append_as K n m pick stored s letters letters' v v' w w' vs f e g k h =
    let t : Iterator = iterator_in letters' v' w' s in
    ap (λ H. after (arrays_in letters' v' (with_heads f.placed H) s) f.visits f.row f.count)
    (ap (λ y. y.placed.heads) h)
    ∙ joined_as K n m pick (arrays_in letters v w stored) vs t f e g (h ∙ ap (λ y. stepped K m s y v'.next vs) k)

module _ (u : List ℕ) (pick : ℕ) where
  more_length : length (u ++ pick ∷ []) ≡ suc (length u)
  more_length = length-append u (pick ∷ []) ∙ omega arith

  more_agree : Agree (word u) (word (u ++ pick ∷ [])) (length u)
  more_agree i h = sym (get_or-append u (pick ∷ []) 0 i h)

pub means : (K pick : ℕ) (u : List ℕ) (a : Arrays) (vs : List ℕ) → Holds K u a → length u < most_picks
    → Means K (u ++ pick ∷ []) a vs (append K (length u) pick a vs)
unfolding append
means K pick u a vs h small =
    let w : ℕ → ℕ = word (u ++ pick ∷ []) in
    let n : ℕ = length u in
    let t : Iterator = appended a.iterator n pick in
    let i : Iterates w (suc n) t = keeps w n pick a.iterator h.iterates small (more_agree u pick) (get_or-append_seam u pick [] 0) in
    let long = i.stretches.radii.longest in
    let f : Steps K w (suc n) vs (stepped K (suc n) t.longest (with_heads (places_in a) t.heads) t.next vs) =
    steps K w n t.longest (with_heads (places_in a) t.heads) t.next (gathers_as (more_agree u pick) h.gathers) small long
    (tells t.next i.chain.list long) vs in
    let e : length (u ++ pick ∷ []) ≡ suc n = more_length u pick in
    record {
      holds = record { fits = omega (arith, e); iterates = rw e i; gathers = rw e f.gathers };
      row = rw e f.row;
      count = rw e f.count;
      list = λ l. rw e (f.list l);
      longest = rw e (sym (longest_centre_at long));
      rises = rises w n pick a.iterator h.iterates small (more_agree u pick) (get_or-append_seam u pick [] 0);
    }

pub held_none : (K : ℕ) → Holds K [] cleared
held_none K = holds_none K
    (record {
      size = length-replicate {A = ℕ} most_picks 0;
      radius = length-replicate {A = ℕ} centre_entries 0;
      heads = length-replicate {A = ℕ} place_entries 0;
      lends = length-replicate {A = ℕ} centre_entries 0;
      next = length-replicate {A = ℕ} centre_entries 0;
      prev = length-replicate {A = ℕ} centre_entries 0;
      longest = refl;
      none = get_or-replicate {A = ℕ} centre_entries 1 0 0 (omega arith);
      clear = λ i l. get_or-replicate {A = ℕ} place_entries i 0 0 l;
    })
    words words refl refl
  where
    words : length {A = ℕ} (set (replicate place_entries 0) 0 1) ≡ place_entries
    words = length-set {A = ℕ} (replicate place_entries 0) 0 1 ∙ length-replicate {A = ℕ} place_entries 0

held_more : (K x : ℕ) (u : List ℕ) → Held K u → length u < most_picks → Held K (u ++ x ∷ [])
held_more K x u h l = record { stored = (append K (length u) x h.stored []).arrays; holds = (means K x u h.stored [] h.holds l).holds }

held_on : (K : ℕ) (u v : List ℕ) → Held K u → length u + length v ≤ most_picks → Held K (u ++ v)
held_on K u [] h l = subst (Held K) (sym (append-nil u)) h
held_on K u (x ∷ v) h l =
    subst (Held K) (append_assoc u (x ∷ []) v) (held_on K (u ++ x ∷ []) v (held_more K x u h (omega arith)) (omega (arith, more_length u x)))

pub held : (K : ℕ) (u : List ℕ) → length u ≤ most_picks → Held K u
held K u l = held_on K [] u (record { stored = cleared; holds = held_none K }) (omega arith)

-- stores from entry c on leave the entries past the last of them
sets_later : (vs : List ℕ) (c : ℕ) (xs : List ℕ) → drop (c + length xs) (sets vs c xs) ≡ drop (c + length xs) vs
sets_later vs c [] = refl
sets_later vs c (x ∷ xs) =
    let e : c + suc (length xs) ≡ suc c + length xs = omega arith in
    rw e (sets_later (set vs c x) (suc c) xs ∙ drop-set-lt (suc c + length xs) vs c x (omega arith))

module _ (K n pick : ℕ) (a : Arrays) (vs : List ℕ) where
  lengths : List ℕ
  unfolding append
  lengths = let t : Iterator = appended a.iterator n pick in (walk_all (suc n) t.longest a.rows t.next a.gathered).lengths

  append_few : n < most_picks → (append K n pick a vs).count ≤ most_visits
  unfolding append
  append_few l =
      let t : Iterator = appended a.iterator n pick in
      let len : ℕ = longest_length (suc n) t.longest in
      omega (arith, walk_nineteen bit_or a.rows t.next (suc n) len len a.gathered 0 (omega arith))

  append_size : length (append K n pick a vs).visits ≡ length vs
  unfolding append lengths
  append_size = length-sets vs 0 lengths

  append_later : drop (append K n pick a vs).count (append K n pick a vs).visits ≡ drop (append K n pick a vs).count vs
  unfolding append lengths
  append_later = sets_later vs 0 lengths

pub append_promised : (K n pick : ℕ) (a : Arrays) (vs : List ℕ) (z : After) → n < most_picks → z ≡ append K n pick a vs → Appends K n pick a vs z
append_promised K n pick a vs z l e = rw e (record {
  meaning = λ u p h. held u p h;
  computes = refl;
  few = append_few K n pick a vs l;
  size = append_size K n pick a vs;
  later = append_later K n pick a vs;
})
  where
    held : (u : List ℕ) → length u ≡ n → Holds K u a → Means K (u ++ pick ∷ []) a vs (append K n pick a vs)
    held u p h = rw (sym p) (means K pick u a vs h (rw (sym p) at l))
