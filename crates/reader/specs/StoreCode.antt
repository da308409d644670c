-- The ways of `noted` and of `put`.
use Rattle.std.specs.Prelude.{◌≡◌, Bool, true, false, List, ℕ, ◌+◌, ◌-◌, set}
use Rattle.std.proofs.Math.Path.{refl, sym}
use Rattle.std.proofs.Common.{◌∙◌}
use Rattle.layout.specs.declared.Section.{Section}
use Rattle.layout.specs.declared.Found.{Found}
use Rattle.layout.specs.Yield.{section_after, found_at}
use Rattle.reader.specs.declared.step.Sections.{Sections}
use Rattle.reader.specs.declared.step.Totals.{Totals}
use Rattle.reader.specs.declared.step.State.{State}
use Rattle.reader.specs.declared.step.State.TheVariants.{InPicks, InCount, InLength, InHalf, Closed}
use Rattle.reader.specs.SectionCode.{sought, noted}
use Rattle.reader.specs.Filling.{put}

-- from a half to these a section has been read whole
pub data Behind : State → Type 0 where
  length_behind : {q : Sections} {v : ℕ} → Behind (InLength q v)
  closed_behind : {t : Totals} → Behind (Closed t)

module _ (found : Found) (r : Sections) (len k at from next : ℕ) {g : Bool} (f : g ≡ sought at from r.whole) where
  pub noted_section : {t : State} (x : Section) → Behind t → g ≡ true → x ≡ section_after r.sum len
      → found_at x next ≡ noted found (InHalf r len k) t at from next
  unfolding noted
  noted_section x length_behind q h = simp (sym f ∙ q, h)
  noted_section x closed_behind q h = simp (sym f ∙ q, h)

  pub noted_other : {t : State} → Behind t → g ≡ false → found ≡ noted found (InHalf r len k) t at from next
  unfolding noted
  noted_other length_behind q = simp (sym f ∙ q)
  noted_other closed_behind q = simp (sym f ∙ q)

pub noted_within : (found : Found) (r q : Sections) (len m k j at from next : ℕ) → found ≡ noted found (InHalf r len k) (InHalf q m j) at from next
unfolding noted
noted_within found r q len m k j at from next = refl

module _ (l : List ℕ) (b : ℕ) where
  pub put_letter : (r q : Sections) (len m k j : ℕ) (l' l'' : List ℕ) (x y : ℕ) → l' ≡ set l (r.sum + k) b
      → x ≡ r.sum + len - 1 → y ≡ x - k → l'' ≡ set l' y b → l'' ≡ put l (InHalf r len k) (InHalf q m j) b
  unfolding put
  put_letter r q len m k j l' l'' x y e f g h = h ∙ rw (e, g, f)

  pub put_number : (q : Sections) (t : State) (p v : ℕ)
      → (l ≡ put l (InPicks v) t b) × ((l ≡ put l (InCount p v) t b) × (l ≡ put l (InLength q v) t b))
  unfolding put
  put_number q t p v = (refl, (refl, refl))

  pub put_behind : (r : Sections) (len k : ℕ) {t : State} → Behind t → l ≡ put l (InHalf r len k) t b
  unfolding put
  put_behind r len k length_behind = refl
  put_behind r len k closed_behind = refl
