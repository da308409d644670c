use Rattle.reader.proofs.Moving.{next_goes}
use Rattle.reader.proofs.ReaderIterator.next.Goals as goal

pub returns-clause-goes : goal.returns-clause-goes
returns-clause-goes c = next_goes c.args.self.now c.section_at-found.result c.section_at-found.ensures
