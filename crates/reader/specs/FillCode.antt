-- How the code fills a lent list with a record's picks: a byte's stores, and the turns of its loop.
use Rattle.std.specs.Prelude.{◌≡◌, List, ℕ, ◌+◌, ◌≤◌, ◌<◌, length, get_or, Some, None}
use Rattle.std.proofs.Math.Option.{some}
use Rattle.layout.specs.Unfolding.{picks_of}
use Rattle.layout.specs.Reading.{State, start, run}
use Rattle.layout.proofs.Steps.{Steps, picks_digit, picks_end, count_digit, count_end, length_digit, length_end, letter, another, last}
use Rattle.layout.proofs.Back.{Valid, fits}
use Rattle.reader.specs.declared.step.State.{State as Scan}
use Rattle.reader.specs.Numbers.{numbers, numbers_of, stepped}
use Rattle.reader.specs.ScanCode.{after, after_all, breaks_off, Turn, turn}
use Rattle.reader.specs.Filling.{put, filled_none, filled_len, filled_letter, filled_more, Fills, fills_length}

-- One byte

fills_byte : (l₀ l : List ℕ) (b : ℕ) {s t : State} → Steps s b t → Valid s → Fills l₀ (some s) l
    → Fills l₀ (some t) (put l (numbers s) (numbers t) b)
unfolding put picks_of
fills_byte l₀ l b (picks_digit d w) x h = h
fills_byte l₀ l b (picks_end m) x h = h
fills_byte l₀ l b (count_digit d w) x h = h
fills_byte l₀ l b (count_end m) x h = h
fills_byte l₀ l b (length_digit d w) x h = h
fills_byte l₀ l b (length_end {v = v} m) x h = filled_len v h
fills_byte l₀ l b (letter m k) x h = filled_letter b h m
fills_byte l₀ l b (another {len = len} {fs = fs} {half = half} m k) x h =
    filled_more fs (record { len = len; half = half }) x.2 (fits x m) h
fills_byte l₀ l b (last {len = len} {fs = fs} {half = half} m k) x h =
    filled_more fs (record { len = len; half = half }) x.2 (fits x m) h

-- The loop: how it begins, a turn, and how it breaks off

pub fills_begins : (bytes l : List ℕ) → Fills l (after bytes 0) l
unfolding run
fills_begins bytes l = filled_none l

pub fills_turn : (bytes : List ℕ) (i : ℕ) (l₀ l l' : List ℕ) (s t : Scan) → i < length bytes → Some s ≡ numbers_of (after bytes i)
    → Some t ≡ numbers_of (after bytes (i + 1)) → Fills l₀ (after bytes i) l → l' ≡ put l s t (get_or bytes i 0)
    → Fills l₀ (after bytes (i + 1)) l'
fills_turn bytes i l₀ l l' s t m e f h g = go (turn bytes i s t m e f)
  where
    go : Turn bytes i s t → Fills l₀ (after bytes (i + 1)) l'
    go u = rw (g, u.reads, u.from, u.to) (fills_byte l₀ l (get_or bytes i 0) u.steps u.valid (rw u.read at h))

-- nothing is known but the length where the bytes break off
pub fills_broken : (bytes : List ℕ) (i : ℕ) (l₀ l : List ℕ) (s : Scan) → i < length bytes → Some s ≡ numbers_of (after bytes i)
    → None ≡ stepped s (get_or bytes i 0) → Fills l₀ (after bytes i) l → Fills l₀ (run start bytes) l
fills_broken bytes i l₀ l s m e f h = rw (breaks_off bytes i s m e f).0 (fills_length l₀ l (after bytes i) h)

pub fills_ends : (bytes : List ℕ) (i : ℕ) (l₀ l : List ℕ) → length bytes ≤ i → Fills l₀ (after bytes i) l → Fills l₀ (run start bytes) l
fills_ends bytes i l₀ l m h = rw (after_all bytes i m) at h
