-- The picks of an input, taken one by one, where the bytes of input and output are known.
use Rattle.std.specs.Prelude.{◌≡◌, Bool, true, false, ◌≢◌, Option, Some, None, List, [], ◌∷◌, ◌++◌, ℕ}
use Rattle.std.specs.Io.KnownBytes.{Consumes}
use Rattle.std.proofs.Common.{refl, subst}
use Rattle.std.proofs.KnownBytes.{Consumes-nil, Appends-nil, Consumes-trans, Appends-trans}
use Rattle.text.specs.Definitions.{line_end}
use Rattle.promises.specs.declared.Draft.{Draft}
use Rattle.draft.specs.Reading.{PickRead, a_pick, end_byte, no_byte, Reads}
use Rattle.draft.specs.Filling.{Takes, nothing, closed, last, then, Written, TakenOn}

-- nothing is read and written
pub none_taken : (d : Draft) (a w : Option (List ℕ)) → TakenOn d a a w w
none_taken d a w marks = record { read = []; lines = []; takes = nothing; consumed = Consumes-nil a; appended = Appends-nil w }

without_pick : {d : Draft} {o : Option ℕ} {bytes : List ℕ} → PickRead o bytes → o ≡ None → Takes d bytes []
without_pick (a_pick f) e = absurd cc
without_pick end_byte e = closed {input = []}
without_pick no_byte e = nothing

-- no pick is read
pub ends : (d : Draft) {o : Option ℕ} {a b : Option (List ℕ)} (w : Option (List ℕ)) → Reads (PickRead o) a b → o ≡ None → TakenOn d a b w w
ends d w r e marks = record { read = r.bytes; lines = []; takes = without_pick r.is e; consumed = r.consumed; appended = Appends-nil w }

read_as : {o : Option ℕ} {bytes : List ℕ} (pick : ℕ) → PickRead o bytes → o ≡ Some pick → (pick ≢ line_end) × (bytes ≡ pick ∷ [])
read_as pick (a_pick {byte = byte} f) e = let x : byte ≡ pick = cc in (subst (λ (n : ℕ). n ≢ line_end) x f, rw x refl)
read_as pick end_byte e = absurd cc
read_as pick no_byte e = absurd cc

module _ {d e : Draft} {o : Option ℕ} {a b w x : Option (List ℕ)} {over : Bool} (pick : ℕ) (r : Reads (PickRead o) a b) (q : o ≡ Some pick)
    (h : Written d pick over e w x) where
  one_read : Consumes a b (pick ∷ [])
  one_read = rw (read_as pick r.is q).1 at r.consumed

  -- a pick that is refused
  pub taken_last : over ≡ true → TakenOn d a b w x
  taken_last f marks = record {
    read = pick ∷ [];
    lines = h.line;
    takes = last {input = []} (read_as pick r.is q).0 (rw f at h.fills marks);
    consumed = one_read;
    appended = h.appended;
  }

  -- one that is taken, and those behind it
  pub taken_then : {c y : Option (List ℕ)} → over ≡ false → TakenOn e b c x y → TakenOn d a c w y
  taken_then {c} {y} f t marks = record {
    read = pick ∷ (t marks).read;
    lines = h.line ++ (t marks).lines;
    takes = then (read_as pick r.is q).0 (rw f at h.fills marks) (t marks).takes;
    consumed = Consumes-trans a b c (pick ∷ []) (t marks).read one_read (t marks).consumed;
    appended = Appends-trans w x y h.line (t marks).lines h.appended (t marks).appended;
  }
