use Rattle.std.proofs.Common.{ℕ, ◌+◌, ◌*◌, ◌≤◌, ◌<◌, List, drop}
use Rattle.words.specs.Definitions.{word}
use Rattle.text.specs.Writes.{Writes}
use Rattle.record.specs.Fields.{most_section_size, sections_bytes}
use Rattle.record.proofs.sections.write_sections.Given as goal

-- whoever writes the sections that are left has written all of them
abbrev pub invariant-loop-end : goal.invariant-loop-end
invariant-loop-end l =
    (l.a < 65536)
    × (l.next ≤ l.at + l.end-index * most_section_size)
    × ((after : List ℕ) (b : ℕ) → Writes l.output l.next (sections_bytes (word l.letters) l.a (drop l.end-index l.ends)) after b
    → Writes l.fn.output l.at (sections_bytes (word l.letters) 0 l.ends) after b)
