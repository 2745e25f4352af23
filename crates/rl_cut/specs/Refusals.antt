-- When a batch can be appended to the log of a stream.
use Rattle.std.specs.Prelude.{ℕ, List, if◌then◌else◌, Option, Some, None}
use Rattle.std.specs.Option.{option_and_then}
use Rattle.rl_base.specs.Order.{is_below}
use Rattle.rl_base.specs.declared.stamp.Stamp.{Stamp}
use Rattle.rl_txn.specs.declared.batch.Batch.{Batch}
use Rattle.rl_families.specs.Logs.{stamps_in_batch, stamps_along, first_stamp, last_stamp}
use Rattle.rl_families.specs.Streams.{log_at}
use Rattle.rl_cut.specs.declared.family.ExtendError.{ExtendError}
use Rattle.rl_cut.specs.declared.family.ExtendError.TheVariants.{Order}

-- a first stamp behind a last one has to be above it
abbrev pub order_refusal : (last first : Option Stamp) → Option ExtendError
order_refusal last first =
    option_and_then
    (λ l. option_and_then (λ f. if is_below l f then None else Some (Order l f)) first) last

-- a batch's first stamp has to be above the last of the log
abbrev pub extend_refusal : (family : List (List Batch)) → (stream : ℕ) → Batch → Option ExtendError
extend_refusal family stream batch =
    order_refusal (last_stamp (stamps_along (log_at family stream)))
    (first_stamp (stamps_in_batch batch))
