use Rattle.std.proofs.Common.{◌≡◌, [], ◌∷◌, ◌++◌, take}
use Rattle.std.specs.String.{string_bytes}
use Rattle.std.specs.List.{flat_map}
use Rattle.rl_text.specs.Printed.{line_of}
use Rattle.rl_report.specs.Printed.{stream_words}
use Rattle.rl_report.proofs.printed.push_streams.Given as goal

abbrev pub invariant-loop-stream : goal.invariant-loop-stream
invariant-loop-stream l = string_bytes l.out ≡ string_bytes l.fn.out ++ flat_map (λ x. line_of (stream_words x) ++ 10 ∷ []) (take l.stream-index l.streams)
