use Rattle.logs.proofs.WrittenOnly.{only_written}
use Rattle.logs.proofs.reader.read.Goals as goal

pub returns-in-Ok-clause-only_written : goal.returns-in-Ok-clause-only_written
returns-in-Ok-clause-only_written g c = only_written _ _ _ _
