use Rattle.std.proofs.Common.{◌≡◌, ◌+◌, ◌*◌, ◌≤◌, drop}
use Rattle.record.specs.Fields.{most_section_size, sections_size}
use Rattle.record.proofs.sections.sections_size.Given as goal

abbrev pub invariant-loop-end : goal.invariant-loop-end
invariant-loop-end l =
    (l.size ≤ l.end-index * most_section_size)
    × (l.size + sections_size l.a (drop l.end-index l.ends) ≡ sections_size 0 l.ends)
