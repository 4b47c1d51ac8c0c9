use Rattle.std.proofs.Common.{sym}
use Rattle.std.proofs.lemmas.List.{set_past}
use Rattle.work.proofs.table.store.Goals as goal

pub returns-else-cell-table : goal.returns-else-cell-table
returns-else-cell-table c = sym (set_past c.args.table.now c.args.cell c.args.value c.if-cell-table.false)
