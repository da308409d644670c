use Rattle.std.proofs.Common.{◌≡◌, ◌+◌, ◌-◌}
use Rattle.std.proofs.lemmas.List.Edits.{sets}
use Rattle.words.specs.Definitions.{word, stretch}
use Rattle.text.proofs.bytes.write_part.Given as goal

abbrev pub invariant-loop-j : goal.invariant-loop-j
invariant-loop-j l =
    (sets l.output (l.at + l.j) (stretch (word l.source) (l.a + l.j) (l.count - l.j)) ≡ sets l.fn.output l.at (stretch (word l.source) l.a l.count))
