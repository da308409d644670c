-- The search for the section at a place finds what a reader yields there: what is known after each byte.
use Rattle.std.specs.Prelude.{◌≡◌, refl, cond, List, [], ◌∷◌, ◌++◌, ℕ, suc, ◌+◌, ◌≤◌, ◌<◌, eqb, length, get_or, Some, None}
use Rattle.std.proofs.Common.{sym, ap, ◌∙◌, arith, length-append, eq-eqb, ne_eqb}
use Rattle.std.proofs.Math.Option.{Option, some, none}
use Rattle.std.proofs.Math.Decide.{ℕ_discrete}
use Rattle.words.proofs.Cases.{clash}
use Rattle.text.specs.Definitions.{comma, decimal}
use Rattle.layout.specs.declared.Found.{Found}
use Rattle.layout.specs.Record.{Folded}
use Rattle.layout.specs.Layout.{total, opening}
use Rattle.layout.specs.Reading.{State, in_picks, in_count, in_length, in_half, closed, start, run, reach, number_at, reading_of, reading}
use Rattle.layout.specs.Yield.{section_after, nothing_at, found_at, bytes_in, among, behind_count, yielded, yield_at}
use Rattle.layout.proofs.Steps.{Steps, picks_digit, picks_end, count_digit, count_end, length_digit, length_end, letter, another, last}
use Rattle.layout.proofs.Back.{digits_to, digits_some, folded_bytes, bytes_to, Valid}
use Rattle.layout.proofs.Places.{offset, offset_append, bytes_in_two, opening_length}
use Rattle.reader.specs.declared.step.State.{State as Scan}
use Rattle.reader.specs.declared.section.Search.{Search}
use Rattle.reader.specs.Numbers.{numbers, numbers_of, stepped}
use Rattle.reader.specs.ScanCode.{after, after_all, breaks_off, Turn, turn}
use Rattle.reader.specs.SectionCode.{sought, noted, begun, searched, settled}

-- where the section sought begins
abbrev pub wanted_at : (at p c : ℕ) → ℕ
wanted_at at p c = cond (eqb at 0) (behind_count p c) at

-- what the sections read so far have at that place
abbrev pub found_in : (at p c : ℕ) → List Folded → Found
found_in at p c fs = among at (behind_count p c) 0 fs (wanted_at at p c)

-- the first byte of the section behind them
abbrev pub start_after : (p c : ℕ) → List Folded → ℕ
start_after p c fs = behind_count p c + offset fs

-- what is known of the section found and of `from`, the first byte of the section being read
abbrev pub Tracks : (at : ℕ) → Option State → (found : Found) (from : ℕ) → Type 0
Tracks at none found from = Unit {0}
Tracks at (some (in_picks v)) found from = found ≡ nothing_at at
Tracks at (some (in_count p v)) found from = found ≡ nothing_at at
Tracks at (some (in_length p c fs v)) found from = (found ≡ found_in at p c fs) × (from ≡ start_after p c fs)
Tracks at (some (in_half p c fs len half)) found from = (found ≡ found_in at p c fs) × (from ≡ start_after p c fs)
Tracks at (some (closed p fs)) found from = found ≡ found_in at p (length fs) fs

-- Where a section begins and ends

count_length : (i p v : ℕ) → 1 ≤ v → i ≡ length (decimal p ++ comma ∷ digits_to v) → i + 1 ≡ behind_count p v + 0
unfolding behind_count
count_length i p v l e = omega (arith, e, length-append (decimal p) (comma ∷ digits_to v), ap length (digits_some v l))

half_length : (i p c : ℕ) (fs : List Folded) (f : Folded) → i ≡ length (opening p c fs ++ folded_bytes f)
    → i + 1 ≡ start_after p c fs + bytes_in f
unfolding behind_count bytes_in folded_bytes
half_length i p c fs f e = omega (
  arith,
  e,
  length-append (opening p c fs) (comma ∷ decimal f.len ++ comma ∷ f.half),
  length-append (decimal f.len) (comma ∷ f.half),
  opening_length p c fs,
)

-- A section read whole

among_snoc : (given first a : ℕ) (fs : List Folded) (f : Folded) (at : ℕ)
    → among given first a (fs ++ f ∷ []) at
    ≡ cond (eqb at (first + offset fs)) (found_at (section_after (a + total fs) f.len) (first + offset fs + bytes_in f))
    (among given first a fs at)
unfolding among
among_snoc given first a [] f at =
    let x : first + 0 ≡ first = omega arith in
    let y : a + 0 ≡ a = omega arith in
    rw (x, y)
among_snoc given first a (g ∷ fs) f at =
    let x : first + offset (g ∷ fs) ≡ first + bytes_in g + offset fs = omega arith in
    let y : a + total (g ∷ fs) ≡ a + g.len + total fs = omega arith in
    elim (ℕ_discrete at first) [
      | yes e ↦ simp (eq-eqb at first e, ne_eqb at (first + offset (g ∷ fs)) (λ q. omega (arith, bytes_in_two g)))
      | no n ↦ rw (x, y) (simp (ne_eqb at first n) (among_snoc given (first + bytes_in g) (a + g.len) fs f at))
    ]

-- the section sought is the one that begins where it is wanted
sought_as : (at p c : ℕ) (fs : List Folded) → sought at (start_after p c fs) (length fs) ≡ eqb (wanted_at at p c) (start_after p c fs)
sought_as at p c fs = elim (ℕ_discrete at 0) [
  | yes e ↦ simp (eq-eqb at 0 e) (first fs)
  | no n ↦ simp (ne_eqb at 0 n)
]
  where
    first : (fs : List Folded) → eqb (length fs) 0 ≡ eqb (behind_count p c) (start_after p c fs)
    first [] = sym (eq-eqb (behind_count p c) (start_after p c []) (omega arith))
    first (f ∷ fs) =
        ne_eqb (suc (length fs)) 0 (λ z. omega arith)
        ∙ sym (ne_eqb (behind_count p c) (start_after p c (f ∷ fs)) (λ z. omega (arith, bytes_in_two f)))

module _ (at i p c from : ℕ) (fs : List Folded) (f : Folded) (found : Found)
    (h : (found ≡ found_in at p c fs) × (from ≡ start_after p c fs)) (e : i ≡ length (opening p c fs ++ folded_bytes f)) where
  found_on : cond (sought at from (length fs)) (found_at (section_after (total fs) f.len) (i + 1)) found ≡ found_in at p c (fs ++ f ∷ [])
  found_on =
      let z : 0 + total fs ≡ total fs = omega arith in
      rw (h.1, sought_as at p c fs, half_length i p c fs f e, h.0)
      (rw z at (sym (among_snoc at (behind_count p c) 0 fs f (wanted_at at p c))))

  from_on : i + 1 ≡ start_after p c (fs ++ f ∷ [])
  from_on = omega (arith, half_length i p c fs f e, offset_append fs (f ∷ []))

-- One byte

tracks_byte : (at b i : ℕ) (found : Found) (from : ℕ) {s t : State} → Steps s b t → Valid s → i ≡ length (bytes_to s)
    → Tracks at (some s) found from
    → Tracks at (some t) (noted found (numbers s) (numbers t) at from (i + 1)) (begun from (numbers s) (numbers t) (i + 1))
unfolding noted begun bytes_to among
tracks_byte at b i found from (picks_digit d w) x n h = h
tracks_byte at b i found from (picks_end l) x n h = h
tracks_byte at b i found from (count_digit d w) x n h = h
tracks_byte at b i found from (count_end {p = p} {v = v} l) x n h = (h, count_length i p v l n)
tracks_byte at b i found from (length_digit d w) x n h = h
tracks_byte at b i found from (length_end l) x n h = h
tracks_byte at b i found from (letter l k) x n h = h
tracks_byte at b i found from (another {p = p} {c = c} {len = len} {fs = fs} {half = half} l k) x n h =
    let f : Folded = record { len = len; half = half } in
    (found_on at i p c from fs f found h n, from_on at i p c from fs f found h n)
tracks_byte at b i found from (last {p = p} {c = c} {len = len} {fs = fs} {half = half} l k) x n h =
    let f : Folded = record { len = len; half = half } in
    let y : length (fs ++ f ∷ []) ≡ c = length-append fs (f ∷ []) ∙ omega (arith, x.3) in
    rw y (found_on at i p c from fs f found h n)

-- The loop: how it begins, a turn, and how it ends

-- of the search for the section at a place
abbrev pub Searches : (at : ℕ) → Option State → Search → Type 0
Searches at o q = (q.at ≡ at) × Tracks at o q.found q.from

pub tracks_begins : (bytes : List ℕ) (at from : ℕ) (found : Found) → found ≡ nothing_at at
    → Searches at (after bytes 0) (record { at = at; found = found; from = from })
unfolding run
tracks_begins bytes at from found e = (refl, e)

pub tracks_turn : (bytes : List ℕ) (i at : ℕ) (q r : Search) (s t : Scan) → i < length bytes
    → Some s ≡ numbers_of (after bytes i) → Some t ≡ numbers_of (after bytes (i + 1)) → Searches at (after bytes i) q
    → r ≡ searched q s t (i + 1) → Searches at (after bytes (i + 1)) r
tracks_turn bytes i at q r s t l e e' h f = go (turn bytes i s t l e e')
  where
    go : Turn bytes i s t → Searches at (after bytes (i + 1)) r
    go u =
        let b = get_or bytes i 0 in
        rw (f, u.reads, u.from, u.to) (
          h.0,
          rw h.0 (tracks_byte at b i q.found q.from u.steps u.valid u.place (rw u.read at h.1)),
        )

tracks_settled : (at place from : ℕ) (found : Found) (s : State) → Tracks at (some s) found from
    → settled (numbers s) found at ≡ yielded (reading_of place (some s)) at
unfolding settled yielded reading_of
tracks_settled at place from found (in_picks v) h = refl
tracks_settled at place from found (in_count p v) h = refl
tracks_settled at place from found (in_length p c fs v) h = refl
tracks_settled at place from found (in_half p c fs len half) h = refl
tracks_settled at place from found (closed p fs) h = ap (λ r. cond (eqb (total fs) p) r (nothing_at at)) h

-- where the bytes break off nothing is found
pub tracks_broken : (bytes : List ℕ) (i at : ℕ) (s : Scan) → i < length bytes → Some s ≡ numbers_of (after bytes i)
    → None ≡ stepped s (get_or bytes i 0) → nothing_at at ≡ yield_at bytes at
unfolding yield_at reading yielded reading_of
tracks_broken bytes i at s l e f = rw (breaks_off bytes i s l e f).0

pub tracks_ends : (bytes : List ℕ) (i at : ℕ) (q : Search) (s : Scan) → length bytes ≤ i → Some s ≡ numbers_of (after bytes i)
    → Searches at (after bytes i) q → settled s q.found q.at ≡ yield_at bytes at
unfolding yield_at reading
tracks_ends bytes i at q s l e h =
    let z = after_all bytes i l in rw h.0 (go (run start bytes) (rw z at e) (rw z at h.1))
  where
    place : ℕ
    place = number_at bytes (reach start bytes)

    go : (o : Option State) → Some s ≡ numbers_of o → Tracks at o q.found q.from → settled s q.found at ≡ yielded (reading_of place o) at
    go none f k = clash cc
    go (some t) f k = let x : s ≡ numbers t = cc in rw x (tracks_settled at place q.from q.found t k)
