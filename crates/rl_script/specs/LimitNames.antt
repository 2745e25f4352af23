-- How limits are named where they are printed.
use Rattle.std.specs.Prelude.{ℕ, List, codes}
use Rattle.rl_base.specs.declared.limit.LimitName.{LimitName}
use Rattle.rl_base.specs.declared.limit.LimitName.TheVariants as limits

-- the word of a limit of the language
abbrev pub limit_name : LimitName → List ℕ
limit_name limits.Nodes = codes "nodes"
limit_name limits.Workers = codes "workers"
limit_name limits.Tables = codes "tables"
limit_name limits.Records = codes "records"
limit_name limits.Requests = codes "requests"
limit_name limits.Ops = codes "ops"
limit_name limits.Events = codes "events"
limit_name limits.Elections = codes "elections"
limit_name limits.Slots = codes "slots"
limit_name limits.Bytes = codes "bytes"
limit_name limits.Asks = codes "asks"
