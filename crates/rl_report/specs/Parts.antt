-- What the printer asks of a report: names for tables. No public contract cites it.
use Rattle.std.specs.Prelude.{All}
use Rattle.rl_report.specs.declared.report.Report.{Report}
use Rattle.rl_report.specs.Forms.{AreNamed, IsEffect}

-- each table has a name
pub record CanPrint (r : Report) : Type 0 where
  pub middle : All IsEffect r.middle
  pub tables : AreNamed r.tables
  pub blocks : All (λ b. AreNamed b.rows) r.blocks
