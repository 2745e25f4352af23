-- The sections of a script, and what can stand in them.
use Rattle.std.specs.Prelude.{Bool, true, false}
use Rattle.rl_script.specs.declared.draft.Section.{Section}
use Rattle.rl_script.specs.declared.draft.Section.TheVariants as section

-- whether settings can still be given
abbrev pub is_settings : Section → Bool
is_settings section.Settings = true
is_settings s = false

-- whether tables can still be declared
abbrev pub is_before_requests : Section → Bool
is_before_requests section.Settings = true
is_before_requests section.Tables = true
is_before_requests s = false

-- whether events can be said
abbrev pub is_events : Section → Bool
is_events section.Events = true
is_events s = false
